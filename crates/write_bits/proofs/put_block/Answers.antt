-- The opening, and then the numbers, are a block.
use native.Mathlib.Omega.{arith}
use lib.Dec.{lit≤}
use Rattle.write_rules.proofs.PendingLaws.{wrote}
use Rattle.write_bits.proofs.Laws.{lengths_low, block_parts_length, after_opening, block_wrote}
use Rattle.write_bits.proofs.put_block.Goals as goal

pub opening-requires : goal.opening-requires
opening-requires c = lengths_low c.args.d _ c.lengths_of-lengths.ensures

pub put-q-requires : goal.put-q-requires
put-q-requires c =
    let a = c.args in
    (c.requires.0, lit≤ tt, omega (arith, c.requires.2, block_parts_length a.d _ c.lengths_of-lengths.ensures))

pub put_numbers-requires : goal.put_numbers-requires
put_numbers-requires c =
    let a = c.args in
    let e = c.lengths_of-lengths.ensures in
    let w = wrote c.put-q.ensures in
    (w.count_small, lengths_low a.d _ e, after_opening a.out.now _ a.p _ _ a.d _ e c.requires.2 w)

pub returns : goal.returns
returns c =
    let w = block_wrote c.args.d _ _ c.lengths_of-lengths.ensures c.opening.ensures (wrote c.put-q.ensures) (wrote c.put_numbers.ensures) in
    (w.state, w.stored)
