-- Past the row's end, in the first block, and in the others.
use native.Mathlib.Omega.{arith}
use Rattle.write_frame.specs.Frames.{exchanged}
use Rattle.write_frame.proofs.ResidualLaws.{past_end, first_block, later_block}
use Rattle.write_frame.proofs.residuals.residual_at.Goals as goal

pub returns-then-size-col : goal.returns-then-size-col
returns-then-size-col c = let a = c.args in past_end a.size.width a.row a.col a.c (exchanged a.size a.samples.now) (omega arith)

pub returns-then-col-eq0 : goal.returns-then-col-eq0
returns-then-col-eq0 c = let a = c.args in first_block a.size.width a.row a.col a.c (exchanged a.size a.samples.now) _ _ (omega arith) (omega arith) c.sample-a.ensures c.less.ensures

pub returns : goal.returns
returns c = let a = c.args in later_block a.size.width a.row a.col a.c (exchanged a.size a.samples.now) _ _ _ (omega arith) c.requires.0.block (λ e. omega arith) c.sample-a.ensures c.sample-p.ensures c.less-2.ensures
