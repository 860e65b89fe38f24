-- The block after a run goes on from it.
use native.Mathlib.Omega.{arith}
use Rattle.v0_phase1.specs.Ran.{also}
use Rattle.v0_phase1.proofs.ResidualLaws.{near_enough}
use Rattle.v0_phase1.proofs.RunLaws.{ran_further, ran_lent, ran_within}
use Rattle.v0_phase1.proofs.parse_some.Goals as goal

pub parse_block-row-requires : goal.parse_block-row-requires
parse_block-row-requires c =
    let l = c.requires in let r = c.parse_run-run.ensures.ran in
    record {
      near = near_enough _ c.parse_run-run.result.k (omega (arith, l.row.width)) (ran_within l.near r);
      row = ran_lent l.row r;
      block_in = omega arith;
    }

pub returns-then-run-blocks_in : goal.returns-then-run-blocks_in
returns-then-run-blocks_in c =
    (also c.parse_run-run.ensures.ran (omega arith) c.parse_block-row.auto.out c.parse_block-row.ensures, omega (arith, ran_further c.parse_run-run.ensures.ran))

pub returns : goal.returns
returns c = (c.parse_run-run.ensures.ran, omega (arith, c.requires.block_in))
