-- The sum of two samples and 1 has 17 bits.
use Rattle.rules.specs.V2.{average}
use Rattle.v2_cells.proofs.cell.U16Cell.average.Goals as goal

pub returns : goal.returns
unfolding average
returns c = rw (c.from.ensures, c.from-2.ensures)
