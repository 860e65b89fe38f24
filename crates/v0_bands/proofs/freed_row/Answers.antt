-- Past the last band all rows that have a pair; else two rows above the band's first, or three, whichever begins a pair.
use native.Mathlib.Omega.{arith}
use Rattle.v0_bands.proofs.ExchangeLaws.{rows_fit, start_fits, row_last, row_first}
use Rattle.v0_bands.proofs.freed_row.Goals as goal

pub returns-then-band-cut : goal.returns-then-band-cut
returns-then-band-cut c = row_last _ _ (omega arith)

pub overflow_mul-result-2 : goal.overflow_mul-result-2
overflow_mul-result-2 c = omega (arith, rows_fit c.requires _ c.late_rows.ensures)

pub overflow_mul-result-3 : goal.overflow_mul-result-3
overflow_mul-result-3 c = omega (arith, start_fits c.requires _ c.late_rows.ensures)

pub returns : goal.returns
returns c = row_first _ _ _ c.late_rows.ensures (λ e. omega arith)
