-- The sum is near 0, so that no step of it leaves 32 signed bits.
use Rattle.v0_parse.proofs.HeadLaws.{step_add, step_sub, step_is}
use Rattle.v0_parse.proofs.head.step.Goals as goal

pub overflow_add-result : goal.overflow_add-result
overflow_add-result c = step_add c.args.op c.args.length c.requires.0 c.requires.1 c.ranges.length

pub overflow_sub-result : goal.overflow_sub-result
overflow_sub-result c = step_sub c.args.op c.args.length c.requires.0 c.requires.1 c.ranges.length

pub returns : goal.returns
returns c = step_is c.args.op c.args.length c.requires.0 c.requires.1 c.ranges.length
