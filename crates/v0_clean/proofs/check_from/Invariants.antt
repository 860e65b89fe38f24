-- What is left from a column on has the first fault from the point on; a row has at most 1,024 blocks, so that its lengths stay near 0.
use Prim.Native.Nat.{◌+◌, ◌-◌}
use Rattle.v0_clean.specs.Row.{fault_from, Decides}
use Rattle.v0_clean.proofs.check_from.Given as goal

abbrev pub invariant-loop-col : goal.invariant-loop-col
invariant-loop-col l =
    Decides l.src l.size l.row (fault_from l.src l.size l.row (record { col = l.initial.col; state = l.initial.state })) (record { col = l.col; state = l.state })

abbrev pub decreases-loop-col : goal.decreases-loop-col
decreases-loop-col l = l.size.width + 16 - l.col
