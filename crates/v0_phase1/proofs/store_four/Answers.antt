-- Every store lies before the last one, which lies within the row.
use native.Mathlib.Omega.{arith}
use lib.ListN.{length-set}
use Rattle.v0_phase1.proofs.store_four.Goals as goal

pub bounds-out-i-2 : goal.bounds-out-i-2
bounds-out-i-2 c = simp length-set (omega arith)

pub bounds-out-i-3 : goal.bounds-out-i-3
bounds-out-i-3 c = simp length-set (omega arith)
