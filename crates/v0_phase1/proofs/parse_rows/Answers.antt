use mathlib.Core.Path.{refl, ◌∙◌}
use Prim.Native.Nat.{ℕ, ◌+◌, ◌-◌, ◌*◌, ◌≤◌}
use native.Mathlib.Omega.{arith}
use lib.ListN.{length, length-drop}
use borrow.Rule.Slice.PartMut.{same_len_mid}
use Rattle.rules.specs.Phases.{phase_one, scratch}
use Rattle.rules.specs.V0.{blocks_in}
use Rattle.v0_cells.proofs.CellLaws.{product}
use Rattle.v0_phase1.proofs.RowsLaws.{rows_begun, parts_on, rows_done, tail_lent}
use Rattle.v0_cells.proofs.RoomLaws.{row_within, directions_within}
use Rattle.v0_phase1.proofs.parse_rows.Goals as goal

pub loop-r-init : goal.loop-r-init
loop-r-init c = rows_begun _ _ _ _ _ _ _

pub overflow_mul-first : goal.overflow_mul-first
overflow_mul-first c = omega (arith, (let samples_room_here : (c.loop-r.r + 2) * c.args.size.width + c.args.size.width ≤ length c.loop-r.out = row_within _ c.args.size.height _ _ (omega arith) (c.loop-r.invariant.same_samples ∙ c.requires.0.frame.lent) in samples_room_here))

pub overflow_mul-start : goal.overflow_mul-start
overflow_mul-start c = omega (
  arith,
  (let dirs_room_here : (c.loop-r.r * c.blocks_in-blocks.result + c.blocks_in-blocks.result ≤ length c.loop-r.dirs) = rw c.blocks_in-blocks.ensures
      (directions_within _ c.args.size.height _ _ (omega arith)
      (omega (arith, c.loop-r.invariant.filled.same_dirs, c.requires.0.directions_lent))) in dirs_room_here),
)

pub offset_bounds-out-first : goal.offset_bounds-out-first
offset_bounds-out-first c = omega (arith, product (c.loop-r.r + 2) c.args.size.width (omega (arith, c.requires.0.frame.height)) (omega (arith, c.requires.0.frame.width)))

pub slice_bounds-parse_v0_residuals-count : goal.slice_bounds-parse_v0_residuals-count
slice_bounds-parse_v0_residuals-count c = omega (arith, (let samples_room_here : (c.loop-r.r + 2) * c.args.size.width + c.args.size.width ≤ length c.loop-r.out = row_within _ c.args.size.height _ _ (omega arith) (c.loop-r.invariant.same_samples ∙ c.requires.0.frame.lent) in samples_room_here))

pub slice_bounds-parse_v0_residuals-start : goal.slice_bounds-parse_v0_residuals-start
slice_bounds-parse_v0_residuals-start c = omega (arith, (let samples_room_here : (c.loop-r.r + 2) * c.args.size.width + c.args.size.width ≤ length c.loop-r.out = row_within _ c.args.size.height _ _ (omega arith) (c.loop-r.invariant.same_samples ∙ c.requires.0.frame.lent) in samples_room_here))

pub slice_bounds-parse_v0_residuals-count-in-loop-r : goal.slice_bounds-parse_v0_residuals-count-in-loop-r
slice_bounds-parse_v0_residuals-count-in-loop-r c = omega (
  arith,
  (let dirs_room_here : (c.loop-r.r * c.blocks_in-blocks.result + c.blocks_in-blocks.result ≤ length c.loop-r.dirs) = rw c.blocks_in-blocks.ensures
      (directions_within _ c.args.size.height _ _ (omega arith)
      (omega (arith, c.loop-r.invariant.filled.same_dirs, c.requires.0.directions_lent))) in dirs_room_here),
)

pub parse_v0_residuals-requires : goal.parse_v0_residuals-requires
parse_v0_residuals-requires c =
    let l = c.loop-r in
    let b = c.blocks_in-blocks in
    let w = c.args.size.width in
    record {
      width = c.requires.0.frame.width;
      samples_lent = rw (tail_lent ((l.r + 2) * w) l.out) (omega (arith, (let samples_room_here : (c.loop-r.r + 2) * c.args.size.width + c.args.size.width ≤ length c.loop-r.out = row_within _ c.args.size.height _ _ (omega arith) (c.loop-r.invariant.same_samples ∙ c.requires.0.frame.lent) in samples_room_here), length-drop ((l.r + 2) * w) l.out));
      directions_lent =
          rw (tail_lent (l.r * b.result) l.dirs) (omega (
            arith,
            (let dirs_room_here : (c.loop-r.r * c.blocks_in-blocks.result + c.blocks_in-blocks.result ≤ length c.loop-r.dirs) = rw c.blocks_in-blocks.ensures
                (directions_within _ c.args.size.height _ _ (omega arith)
                (omega (arith, c.loop-r.invariant.filled.same_dirs, c.requires.0.directions_lent))) in dirs_room_here),
            length-drop (l.r * b.result) l.dirs,
            b.ensures,
          ));
    }

pub loop-r-preserved : goal.loop-r-preserved
loop-r-preserved c =
    let l = c.loop-r in
    let z = c.args.size in
    let b = c.blocks_in-blocks in
    let n = blocks_in z.width in
    let first = (l.r + 2) * z.width in
    let p = c.parse_v0_residuals in
    let enough : n * (z.height - 2) ≤ length l.dirs = omega (arith, l.invariant.filled.same_dirs, c.requires.0.directions_lent) in
    rw b.ensures
    (parts_on _ _ _ _ _ _ _ (omega arith) enough _ _ _ _
    (same_len_mid {X = ℕ} first (length l.out - first) l.out p.new.out p.auto.out)
    (same_len_mid {X = ℕ} (l.r * n) (length l.dirs - l.r * n) l.dirs p.new.dirs (rw b.ensures at p.auto.dirs))
    p.ensures.residuals (rw b.ensures at p.ensures.directions) l.invariant)

pub returns : goal.returns
unfolding scratch phase_one
returns c = let both = rows_done _ _ _ _ _ (λ _ _. refl) _ _ _ _ _ (omega arith) c.loop-r.invariant in
    record { residuals = both.0; directions = both.1 }
