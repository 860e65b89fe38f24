-- What is left from a pair on comes to all of them, in the samples and in the marks.
use Rattle.rules.specs.V0.{sample_kind}
use Rattle.rules.specs.Map.{v0_marks}
use Rattle.v0_cells.proofs.ExchangeLaws.{Pairs}
use Rattle.v0_cells.proofs.exchange.exchange_pairs.Given as goal

abbrev pub invariant-loop-pair : goal.invariant-loop-pair
invariant-loop-pair l = Pairs sample_kind l.w l.from l.to l.initial.out l.out l.pair × Pairs v0_marks l.w l.from l.to l.initial.map l.map l.pair
