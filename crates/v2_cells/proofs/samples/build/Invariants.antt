-- After i turns the first i samples are the rule's.
use lib.IntN.{pos}
use lib.ListN.{get_or}
use Rattle.rules.specs.V2.{sample}
use Rattle.v2_cells.proofs.Fill.{Filled}
use Rattle.v2_cells.proofs.samples.build.Given as goal

abbrev pub invariant-loop-i : goal.invariant-loop-i
invariant-loop-i l = Filled (λ k. sample l.top (l.scale) (get_or l.d k (pos 0)) (get_or l.base k 0)) l.samples l.i
