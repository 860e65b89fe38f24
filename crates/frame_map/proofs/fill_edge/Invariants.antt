-- After k bytes, what is left to fill comes to what all sixteen come to.
use Rattle.frame_map.proofs.MapLaws.{Filling}
use Rattle.frame_map.proofs.fill_edge.Given as goal

abbrev pub invariant-loop-k : goal.invariant-loop-k
invariant-loop-k l = Filling l.place l.initial.map l.map l.k
