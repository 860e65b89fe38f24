-- A quotient times its divisor is no more than what was divided.
use native.Mathlib.Nat.{lt_of_le_of_lt, div-mul-le_self}
use native.Mathlib.Omega.{arith}
use Rattle.read_fields.proofs.sign_part.Goals as goal

pub overflow_mul-result-2 : goal.overflow_mul-result-2
overflow_mul-result-2 c = record { fits = lt_of_le_of_lt (div-mul-le_self _ _) (omega arith) }

pub returns : goal.returns
returns c = rw c.power-top.ensures
