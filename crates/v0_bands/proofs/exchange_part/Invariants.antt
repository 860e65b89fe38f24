-- What is left from a pair of rows on comes to all pairs of rows.
use Prim.Native.Nat.{◌+◌, ◌*◌}
use Rattle.v0_bands.proofs.ExchangeLaws.{Pairs}
use Rattle.v0_bands.proofs.exchange_part.Given as goal

abbrev pub invariant-loop-k : goal.invariant-loop-k
invariant-loop-k l = Pairs l.w l.row l.end l.from l.to l.initial.out l.out (l.row + 2 * l.k)
