-- Each sum is a put of its sample, whose source lies some steps after the first one's.
use Rattle.std.proofs.Common.{◌+◌, ◌*◌, ◌<◌, arith}
use Rattle.rules.specs.V0.{sample_kind}
use Rattle.v0_cells.proofs.FourLaws.{last_in, four_put}
use Rattle.v0_cells.proofs.inner.put_four.Goals as goal
use Rattle.v0_cells.proofs.inner.put_four.Goals.{After-source_step-step}

last : (c : After-source_step-step) → c.source-from.result + 3 * c.source_step-step.result < c.args.base + 16
last c =
    last_in c.args.w c.args.base c.requires.0.rows c.args.up _ _ _ (omega (arith, c.requires.0.rows, c.requires.0.wide)) c.requires.1.1
    c.source-from.ensures.0 c.source_step-step.ensures.0

pub put_sum-requires-2 : goal.put_sum-requires-2
put_sum-requires-2 c = let l = last (goal.at.put_sum-requires-2 c).After-source_step-step in (omega arith, omega arith)

pub put_sum-requires-3 : goal.put_sum-requires-3
put_sum-requires-3 c = let l = last (goal.at.put_sum-requires-3 c).After-source_step-step in (omega arith, omega arith)

pub put_sum-requires-4 : goal.put_sum-requires-4
put_sum-requires-4 c = let l = last (goal.at.put_sum-requires-4 c).After-source_step-step in (omega arith, omega arith)

pub returns : goal.returns
returns c =
    four_put sample_kind c.args.w c.args.base c.args.up _ _ _ _ _ _ _ _ _ _ _ _ c.requires.0.rows c.source-from.ensures.0 c.source_step-step.ensures.0
    c.put_sum.ensures c.put_sum-2.ensures c.put_sum-3.ensures c.put_sum-4.ensures
