-- Two numbers of n bits fit 32 bits.
use native.Mathlib.Omega.{arith}
use lib.Pow.{pow_pos}
use Rattle.write_bits.proofs.Laws.{pair_fits}
use Rattle.write_bits.proofs.pair.Goals as goal

pub overflow_mul-result : goal.overflow_mul-result
overflow_mul-result c = let a = c.args in record { fits = rw (c.from.ensures, c.power.ensures) (omega (arith, pair_fits a.a 0 a.n (omega arith) (omega arith))) }

pub nonzero_rem-result : goal.nonzero_rem-result
nonzero_rem-result c = rw c.power-2.ensures (pow_pos c.args.n)

pub overflow_add-result : goal.overflow_add-result
overflow_add-result c = let a = c.args in record { fits = rw (c.from.ensures, c.power.ensures, c.from-2.ensures, c.power-2.ensures) (omega (arith, pair_fits a.a a.b a.n (omega arith) (omega arith))) }

pub overflow_cast-result : goal.overflow_cast-result
overflow_cast-result c = let a = c.args in record { fits = rw (c.from.ensures, c.power.ensures, c.from-2.ensures, c.power-2.ensures) (pair_fits a.a a.b a.n (omega arith) (omega arith)) }

pub returns : goal.returns
returns c = rw (c.from.ensures, c.power.ensures, c.from-2.ensures, c.power-2.ensures)
