use native.Mathlib.Omega.{arith}
use borrow.Author.Rules.{rules}
use Rattle.v0_phase1.specs.RowLent.{RowLent}
use Rattle.v0_phase1.proofs.ResidualLaws.{parsing_begun, parsing_done}
use Rattle.v0_phase1.proofs.RunLaws.{ran_parsing}
use Rattle.v0_phase1.proofs.parse_v0_residuals.Goals as goal

pub loop-k-init : goal.loop-k-init
loop-k-init c = parsing_begun _ _ _ _ _ _ _ c.fresh-row.ensures

pub parse_some-run-requires : goal.parse_some-run-requires
parse_some-run-requires c = record {
  near = c.loop-k.invariant.near;
  row = (let lent_here : (RowLent c.args.width c.loop-k.out c.loop-k.dirs) = let l = c.requires in let i = c.loop-k.invariant in
      record { width = l.width; samples_lent = omega (arith, i.same_samples, l.samples_lent); directions_lent = omega (arith, i.same_dirs, l.directions_lent) } in lent_here);
  block_in = search rules;
}

pub loop-k-smaller : goal.loop-k-smaller
loop-k-smaller c = let on = c.parse_some-run.ensures.1 in omega arith

pub loop-k-preserved : goal.loop-k-preserved
loop-k-preserved c =
    ran_parsing c.blocks_in-blocks.ensures (omega (
      arith,
      ((let lent_here : (RowLent c.args.width c.loop-k.out c.loop-k.dirs) = let l = c.requires in let i = c.loop-k.invariant in
          record { width = l.width; samples_lent = omega (arith, i.same_samples, l.samples_lent); directions_lent = omega (arith, i.same_dirs, l.directions_lent) } in lent_here)).directions_lent,
    )) c.parse_some-run.ensures.0 c.loop-k.invariant

pub returns : goal.returns
returns c = let both = parsing_done _ _ _ _ _ _ _ _ _ _ _ (omega arith) c.blocks_in-blocks.ensures c.fresh-row.ensures c.loop-k.invariant in
    record { residuals = both.0; directions = both.1 }
