-- The loop's invariant is `Reached`: what is left of the differences, by the state that stands before bit q, comes to what all come
-- to. Where the state stands in the stream, all windows lie within it.
use Rattle.v2_differences.proofs.FourLaws.{Reached}
use Rattle.v2_differences.proofs.by_windows.Given as goal

abbrev pub invariant-loop-j : goal.invariant-loop-j
invariant-loop-j l = Reached l.src l.positions.places l.lengths l.base l.bits.filler l.initial.q l.initial.values l.j l.q l.values
