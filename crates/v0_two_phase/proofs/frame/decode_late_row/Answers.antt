-- The row's two parts lie within what is lent; its predictions go by the directions that its residuals came with.
use Prim.Native.Nat.{ℕ, ◌+◌, ◌-◌, ◌*◌, ◌≤◌}
use mathlib.Core.Path.{sym, subst}
use native.Mathlib.Omega.{arith}
use lib.ListN.{length, length-drop}
use borrow.Rule.Slice.PartMut.{same_len_mid}
use Rattle.v0_phase1.proofs.RowsLaws.{tail_lent}
use Rattle.v0_phase2.proofs.PredictionLaws.{row_kept}
use Rattle.v0_two_phase.proofs.LateRowLaws.{row_done}
use Rattle.v0_two_phase.proofs.frame.decode_late_row.Goals as goal

pub overflow_mul-start : goal.overflow_mul-start
overflow_mul-start c = omega (arith, (let dirs_room_here : c.args.r * c.blocks_in-blocks.result + c.blocks_in-blocks.result ≤ length c.args.scratch.now = subst (λ n. c.args.r * n + n ≤ length c.args.scratch.now) (sym c.blocks_in-blocks.ensures) c.requires.1 in dirs_room_here))

pub slice_bounds-parse_v0_residuals-count-2 : goal.slice_bounds-parse_v0_residuals-count-2
slice_bounds-parse_v0_residuals-count-2 c = omega (arith, (let dirs_room_here : c.args.r * c.blocks_in-blocks.result + c.blocks_in-blocks.result ≤ length c.args.scratch.now = subst (λ n. c.args.r * n + n ≤ length c.args.scratch.now) (sym c.blocks_in-blocks.ensures) c.requires.1 in dirs_room_here))

pub slice_bounds-parse_v0_residuals-start-2 : goal.slice_bounds-parse_v0_residuals-start-2
slice_bounds-parse_v0_residuals-start-2 c = omega (arith, (let dirs_room_here : c.args.r * c.blocks_in-blocks.result + c.blocks_in-blocks.result ≤ length c.args.scratch.now = subst (λ n. c.args.r * n + n ≤ length c.args.scratch.now) (sym c.blocks_in-blocks.ensures) c.requires.1 in dirs_room_here))

pub parse_v0_residuals-requires : goal.parse_v0_residuals-requires
parse_v0_residuals-requires c =
    let a = c.args in
    let l = c.requires.0 in
    record {
      width = l.width;
      samples_lent = rw (tail_lent ((a.r + 2) * a.w) a.out.now) (omega (arith, l.row_lent, length-drop ((a.r + 2) * a.w) a.out.now));
      directions_lent =
          rw (tail_lent (a.r * c.blocks_in-blocks.result) a.scratch.now)
          (omega (arith, (let dirs_room_here : c.args.r * c.blocks_in-blocks.result + c.blocks_in-blocks.result ≤ length c.args.scratch.now = subst (λ n. c.args.r * n + n ≤ length c.args.scratch.now) (sym c.blocks_in-blocks.ensures) c.requires.1 in dirs_room_here), c.blocks_in-blocks.ensures, length-drop (a.r * c.blocks_in-blocks.result) a.scratch.now));
    }

pub add_part-requires : goal.add_part-requires
add_part-requires c =
    let a = c.args in
    let first = (a.r + 2) * a.w in
    let start = a.r * c.blocks_in-blocks.result in (
      row_kept _ c.requires.0
          (same_len_mid {X = ℕ} first (length a.out.now - first) a.out.now c.parse_v0_residuals.new.out c.parse_v0_residuals.auto.out),
      (
        omega (
          arith,
          (let dirs_room_here : c.args.r * c.blocks_in-blocks.result + c.blocks_in-blocks.result ≤ length c.args.scratch.now = subst (λ n. c.args.r * n + n ≤ length c.args.scratch.now) (sym c.blocks_in-blocks.ensures) c.requires.1 in dirs_room_here),
          same_len_mid {X = ℕ} start (length a.scratch.now - start) a.scratch.now c.parse_v0_residuals.new.dirs c.parse_v0_residuals.auto.dirs,
        ),
        omega (arith, c.blocks_in-blocks.ensures),
      ),
    )

pub returns : goal.returns
returns c = let both =
    let e = c.parse_v0_residuals.ensures in
    row_done _ _ _ _ _ _ _ _ _ _ c.blocks_in-blocks.ensures c.requires.1 e.residuals e.directions c.add_part.ensures in
    record { samples = both.0; directions = both.1 }
