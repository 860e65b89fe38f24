use native.Mathlib.Omega.{arith}
use Rattle.write_frame.proofs.CodingLaws.{unit_is, width_is, coding_unit, block_short, block_lent}
use Rattle.write_frame.proofs.RowLaws.{block_most, count_begun, count_most, count_on, count_gone}
use Rattle.write_frame.proofs.measure.row_length.Goals as goal

pub loop-block-init : goal.loop-block-init
loop-block-init c = count_begun _ _

pub numbers_of-d-requires : goal.numbers_of-d-requires
numbers_of-d-requires c = block_lent c.requires.0 c.requires.1 (omega arith) c.loop-block.invariant.whole

pub block_length-bits-requires : goal.block_length-bits-requires
block_length-bits-requires c = block_short _ _ _ _ _ _ c.requires.0 c.requires.1 _ c.numbers_of-d.ensures

pub overflow_add-bits : goal.overflow_add-bits
overflow_add-bits c = record { fits = omega (arith, count_most c.loop-block.invariant (rw width_is c.requires.0.wide), block_most c.numbers_of-d.result _ c.block_length-bits.ensures) }

pub loop-block-preserved : goal.loop-block-preserved
loop-block-preserved c = let a = c.args in count_on c.loop-block.invariant _ _ _ (omega arith) c.numbers_of-d.ensures (omega (arith, width_is a.size a.samples.now a.format)) c.block_length-bits.ensures

pub in_units-requires : goal.in_units-requires
in_units-requires c = omega (arith, count_most c.loop-block.invariant (rw width_is c.requires.0.wide))

pub returns : goal.returns
returns c =
    let a = c.args in
    count_gone c.loop-block.invariant (coding_unit _ _ _) (omega (arith, width_is a.size a.samples.now a.format)) _
    (rw unit_is c.in_units.ensures)
