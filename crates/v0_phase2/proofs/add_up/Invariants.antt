-- After c turns the first c sums are made, each from the row above or the one above that.
use Rattle.std.proofs.Common.{◌+◌, true, get_or}
use Rattle.rules.specs.V0.{sample_kind}
use Rattle.v0_cells.proofs.StagedLaws.{Made}
use Rattle.v0_phase2.proofs.add_up.Given as goal

abbrev pub invariant-loop-c : goal.invariant-loop-c
invariant-loop-c l = Made sample_kind l.w l.base true (λ i. get_or l.out (l.base + i) 0) l.out 0 l.values l.c
