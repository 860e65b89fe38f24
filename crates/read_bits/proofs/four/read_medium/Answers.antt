-- Two cuts of each read.
use Rattle.read_bits.proofs.FourLaws.{four_medium}
use Rattle.read_bits.proofs.four.read_medium.Goals as goal

pub returns : goal.returns
returns c =
    rw (c.field.ensures, c.field-2.ensures, c.field-3.ensures, c.field-4.ensures, c.from-v.ensures, c.from-w.ensures)
    (four_medium _ _ _ c.get_whole-g.result c.get_whole-h.result c.requires c.get_whole-g.ensures c.get_whole-h.ensures)
