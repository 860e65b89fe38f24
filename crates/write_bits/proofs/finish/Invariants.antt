-- Zero bits up to a word's end, then words of zeros: the loop has not passed the unit's end.
use Prim.Native.Nat.{◌-◌, ◌*◌}
use Rattle.write_bits.proofs.Padding.{end_of, Padding}
use Rattle.write_bits.proofs.finish.Given as goal

abbrev pub invariant-loop-q : goal.invariant-loop-q
invariant-loop-q l = Padding l.unit l.initial.q l.initial.out l.out l.q

abbrev pub decreases-loop-q : goal.decreases-loop-q
decreases-loop-q l = end_of l.unit l.initial.q - 8 * l.q.pos
