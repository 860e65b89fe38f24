-- Each four bits stay in their byte.
use Rattle.std.proofs.Common.{arith}
use Rattle.v0_lanes.proofs.LengthLaws.{nibbles_are, nibbles_fit}
use Rattle.v0_lanes.proofs.lengths.nibbles.Goals as goal

pub overflow_add-result : goal.overflow_add-result
overflow_add-result c = let a = c.args in record { fits = omega (arith, nibbles_fit a.x a.s) }

pub overflow_add-result-2 : goal.overflow_add-result-2
overflow_add-result-2 c = let a = c.args in record { fits = omega (arith, nibbles_fit a.x a.s) }

pub overflow_add-result-3 : goal.overflow_add-result-3
overflow_add-result-3 c = let a = c.args in record { fits = omega (arith, nibbles_fit a.x a.s) }

pub overflow_cast-result : goal.overflow_cast-result
overflow_cast-result c = let a = c.args in record { fits = omega (arith, nibbles_fit a.x a.s) }

pub returns : goal.returns
returns c = nibbles_are c.args.x c.args.s
