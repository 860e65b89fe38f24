-- One operation after another, each length near 0 as `read_length` asks.
use lib.IntN.{pos}
use lib.ListN.{get_or}
use mir.ValLaws.{to_z-of_z}
use mir.Syntax.{w32}
use borrow.Author.Rules.{rules}
use Rattle.v0_parse.proofs.HeadLaws.{lengths_made}
use Rattle.v0_parse.proofs.head.read_lengths.Goals as goal

pub read_length-a-requires : goal.read_length-a-requires
read_length-a-requires c = (c.requires.0.each 0, rw (to_z-of_z w32 (get_or c.args.lengths 0 (pos 0)) (search rules)) (c.requires.1.each 0))

pub read_length-b-requires : goal.read_length-b-requires
read_length-b-requires c = (c.requires.0.each 1, rw (to_z-of_z w32 (get_or c.args.lengths 1 (pos 0)) (search rules)) (c.requires.1.each 1))

pub read_length-c-requires : goal.read_length-c-requires
read_length-c-requires c = (c.requires.0.each 2, rw (to_z-of_z w32 (get_or c.args.lengths 2 (pos 0)) (search rules)) (c.requires.1.each 2))

pub read_length-d-requires : goal.read_length-d-requires
read_length-d-requires c = (c.requires.0.each 3, rw (to_z-of_z w32 (get_or c.args.lengths 3 (pos 0)) (search rules)) (c.requires.1.each 3))

pub returns : goal.returns
returns c =
    lengths_made _ c.args.ops c.args.lengths c.args.bits (search rules) (search rules) c.requires.1 c.read_length-a.result c.read_length-b.result
    c.read_length-c.result c.read_length-d.result c.read_length-a.ensures c.read_length-b.ensures c.read_length-c.ensures c.read_length-d.ensures
