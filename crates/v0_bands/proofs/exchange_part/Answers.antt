use native.Mathlib.Omega.{arith}
use Rattle.v0_bands.proofs.ExchangeLaws.{pairs_begun, pair_lent, pairs_on, pairs_done}
use Rattle.v0_bands.proofs.exchange_part.Goals as goal

pub loop-k-init : goal.loop-k-init
loop-k-init c = pairs_begun _ _ _ _ _ _ _ (omega arith) c.requires

pub overflow_mul-k : goal.overflow_mul-k
overflow_mul-k c = omega (arith, c.requires.rows_in)

pub overflow_add-row : goal.overflow_add-row
overflow_add-row c = omega (arith, c.requires.rows_in)

pub exchange_columns-requires : goal.exchange_columns-requires
exchange_columns-requires c = pair_lent _ _ _ _ _ _ _ _ (omega arith) c.requires c.loop-k.invariant

pub loop-k-preserved : goal.loop-k-preserved
loop-k-preserved c = pairs_on _ _ _ _ _ _ _ _ _ _ (omega arith) (omega arith) c.requires c.exchange_columns.ensures c.loop-k.invariant

pub returns : goal.returns
returns c = let p = c.requires.pairs in pairs_done _ _ _ _ _ _ _ _ (omega (arith, p.0, p.1, c.requires.rows)) c.loop-k.invariant
