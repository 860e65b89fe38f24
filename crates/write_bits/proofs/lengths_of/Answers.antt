-- Four times four numbers.
use Rattle.write_bits.proofs.Laws.{lengths_law}
use Rattle.write_bits.proofs.lengths_of.Goals as goal

pub length_of-requires : goal.length_of-requires
length_of-requires c = let p = c.requires.each in (p 0, p 1, p 2, p 3)

pub length_of-requires-2 : goal.length_of-requires-2
length_of-requires-2 c = let p = c.requires.each in (p 4, p 5, p 6, p 7)

pub length_of-requires-3 : goal.length_of-requires-3
length_of-requires-3 c = let p = c.requires.each in (p 8, p 9, p 10, p 11)

pub length_of-requires-4 : goal.length_of-requires-4
length_of-requires-4 c = let p = c.requires.each in (p 12, p 13, p 14, p 15)

pub returns : goal.returns
returns c = lengths_law c.args.d _ _ _ _ c.length_of.ensures c.length_of-2.ensures c.length_of-3.ensures c.length_of-4.ensures
