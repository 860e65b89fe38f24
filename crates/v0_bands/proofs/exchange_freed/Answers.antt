-- The part is the one that the rule names: rows by the step's band and the one after it, columns by its block and the one after it.
use native.Mathlib.Omega.{arith}
use Rattle.v0_bands.proofs.ExchangeLaws.{blocks_some, band_in, block_in, row_lent, column_lent, part_lent, freed_is}
use Rattle.v0_bands.proofs.exchange_freed.Goals as goal

pub nonzero_div-band : goal.nonzero_div-band
nonzero_div-band c = blocks_some c.requires

pub nonzero_rem-block : goal.nonzero_rem-block
nonzero_rem-block c = blocks_some c.requires

pub freed_row-row-requires : goal.freed_row-row-requires
freed_row-row-requires c = row_lent c.requires _ (omega (arith, band_in c.requires))

pub overflow_add-band : goal.overflow_add-band
overflow_add-band c = omega (arith, band_in c.requires, (row_lent c.requires 0 (omega arith)).most_bands)

pub freed_row-end-requires : goal.freed_row-end-requires
freed_row-end-requires c = row_lent c.requires _ (omega (arith, band_in c.requires))

pub freed_column-from-requires : goal.freed_column-from-requires
freed_column-from-requires c = column_lent c.requires _ (omega (arith, block_in c.requires))

pub overflow_add-block : goal.overflow_add-block
overflow_add-block c = omega (arith, block_in c.requires)

pub freed_column-to-requires : goal.freed_column-to-requires
freed_column-to-requires c = column_lent c.requires _ (omega (arith, block_in c.requires))

pub exchange_part-requires : goal.exchange_part-requires
exchange_part-requires c = part_lent c.requires _ _ _ _ c.freed_row-row.ensures c.freed_row-end.ensures c.freed_column-from.ensures c.freed_column-to.ensures

pub returns : goal.returns
returns c = freed_is c.requires _ _ _ _ c.freed_row-row.ensures c.freed_row-end.ensures c.freed_column-from.ensures c.freed_column-to.ensures _ c.exchange_part.ensures
