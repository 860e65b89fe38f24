-- One row up, and for an odd sample one more.
use Rattle.std.proofs.Common.{arith}
use Rattle.v0_phase2.proofs.rows_up.Goals as goal

pub overflow_add-result : goal.overflow_add-result
overflow_add-result c = omega arith

pub returns : goal.returns
returns c = omega arith
