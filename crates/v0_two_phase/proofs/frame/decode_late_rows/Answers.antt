use mathlib.Core.Path.{refl, ◌∙◌}
use mathlib.Core.Logic.{inr}
use Prim.Native.Nat.{◌-◌, ◌*◌, ◌≤◌}
use native.Mathlib.Omega.{arith}
use lib.ListN.{length}
use Rattle.rules.specs.Phases.{scratch}
use Rattle.rules.specs.V0.{blocks_in}
use Rattle.v0_cells.proofs.RoomLaws.{row_within, directions_within}
use Rattle.v0_phase1.proofs.RowsLaws.{rows_begun, rows_on, rows_done}
use Rattle.v0_two_phase.proofs.RowByRow.{freeing_first, freeing_none, freeing_all}
use Rattle.v0_two_phase.proofs.frame.decode_late_rows.Goals as goal

pub loop-r-init : goal.loop-r-init
loop-r-init c = rows_begun _ _ _ _ _ _ _

pub decode_late_row-requires : goal.decode_late_row-requires
decode_late_row-requires c =
    let l = c.loop-r in
    let p = c.requires.0 in
    let h = c.args.size.height in (
      record {
        width = p.frame.width;
        rows_above = omega arith;
        row_below = omega (arith, p.frame.height);
        row_lent = row_within _ h l.r _ (omega arith) (l.invariant.same_samples ∙ p.frame.lent);
      },
      directions_within _ h l.r _ (omega arith) ((let enough_here : (blocks_in c.args.size.width * (c.args.size.height - 2) ≤ length c.loop-r.scratch) = omega (arith, c.loop-r.invariant.filled.same_dirs, c.requires.0.directions_lent) in enough_here)),
    )

pub exchange_samples-requires : goal.exchange_samples-requires
exchange_samples-requires c =
    let p = c.requires.0.frame in
    record {
      width = p.width;
      height = p.height;
      pairs = omega arith;
      pairs_in = omega arith;
      samples_lent = c.decode_late_row.auto.out ∙ c.loop-r.invariant.same_samples ∙ p.lent;
      map_lent = inr refl;
    }

pub loop-r-preserved : goal.loop-r-preserved
loop-r-preserved c =
    let e = c.decode_late_row.ensures in
    rows_on _ _ _ _ _ _ _ _ _ _ _ c.loop-r.r (omega arith) ((let enough_here : (blocks_in c.args.size.width * (c.args.size.height - 2) ≤ length c.loop-r.scratch) = omega (arith, c.loop-r.invariant.filled.same_dirs, c.requires.0.directions_lent) in enough_here)) (c.exchange_samples.auto.out ∙ c.decode_late_row.auto.out)
    c.decode_late_row.auto.scratch (freeing_first _ _ _ c.loop-r.r _ _ _ e.samples c.exchange_samples.ensures) e.directions c.loop-r.invariant

pub returns : goal.returns
unfolding scratch
returns c =
    let h = c.args.size.height in
    let d = rows_done _ _ _ h _ (freeing_none _ _ _) _ _ _ _ _ (omega arith) c.loop-r.invariant in
    record {
      samples = freeing_all _ _ _ h _ _ d.0;
      directions = d.1;
    }
