-- The loop: the first k pairs of numbers have been written.
use Prim.Native.Nat.{◌*◌}
use Rattle.write_bits.proofs.Laws.{Going}
use Rattle.write_bits.proofs.put_numbers.Given as goal

abbrev pub invariant-loop-k : goal.invariant-loop-k
invariant-loop-k l = Going l.lengths l.d l.initial.out l.initial.q l.out l.q (2 * l.k)
