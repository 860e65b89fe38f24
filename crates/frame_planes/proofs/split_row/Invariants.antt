-- What is written so far is how the row's every second sample begins.
use lib.ListN.{drop}
use Rattle.frame_planes.specs.Planes.{evens}
use Rattle.frame_planes.proofs.Written.{Written}
use Rattle.frame_planes.proofs.split_row.Given as goal

abbrev pub invariant-loop-k : goal.invariant-loop-k
invariant-loop-k l = Written (evens (drop l.first l.row)) l.initial.to l.to l.k
