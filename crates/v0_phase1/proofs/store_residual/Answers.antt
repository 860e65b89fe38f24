-- Within the row the residual is stored; past its end nothing is.
use native.Mathlib.Omega.{arith}
use Rattle.v0_phase1.proofs.ResidualLaws.{stored_in, stored_past}
use Rattle.v0_phase1.proofs.store_residual.Goals as goal

pub returns-then-i-width : goal.returns-then-i-width
returns-then-i-width c = search (stored_in, arith)

pub returns-else-i-width : goal.returns-else-i-width
returns-else-i-width c = search (stored_past, arith)
