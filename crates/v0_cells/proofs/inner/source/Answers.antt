-- The two ways of the rule; two rows and two columns lie before the block.
use Rattle.std.proofs.Common.{arith}
use Rattle.v0_cells.proofs.InnerLaws.{up_fits, up_before, source_up, source_left}
use Rattle.v0_cells.proofs.inner.source.Goals as goal

pub overflow_mul-result : goal.overflow_mul-result
overflow_mul-result c = record { fits = omega (arith, up_fits c.args.w c.args.base c.args.c c.requires.0 c.requires.1.1.0 c.requires.1.1.1) }

pub overflow_sub-result : goal.overflow_sub-result
overflow_sub-result c = up_before c.args.w c.args.base c.args.c c.requires.0 c.requires.1.1.0 c.requires.1.1.1

pub returns-then-up : goal.returns-then-up
returns-then-up c = (search (source_up), omega arith)

pub returns : goal.returns
returns c = (search (source_left), omega arith)
