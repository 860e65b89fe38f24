-- As for a block at the map's end, with a byte that is there at each turn.
use Rattle.frame_map.proofs.MapLaws.{Filling}
use Rattle.frame_map.proofs.fill_whole.Given as goal

abbrev pub invariant-loop-i : goal.invariant-loop-i
invariant-loop-i l = Filling l.place l.initial.map l.map l.i
