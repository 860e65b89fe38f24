-- A word and n more bits fit 64 bits.
use native.Mathlib.Omega.{arith}
use lib.Pow.{pow_pos}
use Rattle.write_bits.proofs.Laws.{join_fits}
use Rattle.write_bits.proofs.join.Goals as goal

pub overflow_mul-result : goal.overflow_mul-result
overflow_mul-result c = record { fits = rw (c.from.ensures, c.power.ensures) (omega (arith, join_fits c.args.p.word 0 c.args.n (omega arith) (omega arith))) }

pub nonzero_rem-result : goal.nonzero_rem-result
nonzero_rem-result c = rw c.power-2.ensures (pow_pos c.args.n)

pub overflow_add-result : goal.overflow_add-result
overflow_add-result c = record { fits = rw (c.from.ensures, c.power.ensures, c.from-2.ensures, c.power-2.ensures) (join_fits c.args.p.word c.args.x c.args.n (omega arith) (omega arith)) }

pub returns : goal.returns
returns c = rw (c.from.ensures, c.power.ensures, c.from-2.ensures, c.power-2.ensures)
