-- After c turns the first c sums are made, each from one of the two columns before the block.
use Rattle.std.proofs.Common.{◌+◌, false, get_or}
use Rattle.rules.specs.V0.{sample_kind}
use Rattle.v0_cells.proofs.StagedLaws.{Made}
use Rattle.v0_phase2.proofs.add_left.Given as goal

abbrev pub invariant-loop-c : goal.invariant-loop-c
invariant-loop-c l = Made sample_kind l.w l.base false (λ i. get_or l.out (l.base + i) 0) l.out 0 l.values l.c
