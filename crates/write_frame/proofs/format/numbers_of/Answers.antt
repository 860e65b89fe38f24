-- By the format; in V2 the block ends within its row.
use Rattle.write_frame.proofs.CodingLaws.{numbers_v0, numbers_v2, inner_block}
use Rattle.write_frame.proofs.format.numbers_of.Goals as goal

pub differences_of-requires : goal.differences_of-requires
differences_of-requires c = (c.requires.0, inner_block c.requires.0 c.requires.1 c.in-V2.is)

pub returns-in-V0 : goal.returns-in-V0
returns-in-V0 c = let a = c.args in numbers_v0 a.format a.size.width a.size.height a.samples.now a.row a.col _ c.in-V0.is c.residuals_of.ensures

pub returns-in-V2 : goal.returns-in-V2
returns-in-V2 c = let a = c.args in numbers_v2 a.format a.size.width a.size.height a.samples.now a.row a.col _ c.in-V2.is c.differences_of.ensures
