-- What is left of the list, from the greatest of those before on, has the whole's greatest.
use mathlib.Core.Path.{◌≡◌}
use lib.ListN.{drop}
use Rattle.frame_map.specs.Greatest.{greatest_by}
use Rattle.frame_map.proofs.greatest.Given as goal

abbrev pub invariant-loop-x : goal.invariant-loop-x
invariant-loop-x g l = greatest_by g.T.Ord.cmp l.fn.least l.list ≡ greatest_by g.T.Ord.cmp l.most (drop l.x-index l.list)
