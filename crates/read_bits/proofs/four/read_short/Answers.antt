-- The four cuts of the read.
use Rattle.read_bits.proofs.FourLaws.{four_short}
use Rattle.read_bits.proofs.four.read_short.Goals as goal

pub returns : goal.returns
returns c =
    rw (c.field.ensures, c.field-2.ensures, c.field-3.ensures, c.field-4.ensures, c.from-v.ensures)
    (four_short _ _ _ c.get_whole-g.result c.requires c.get_whole-g.ensures)
