-- A byte of 128 to 143 has its length in its four low bits.
use Rattle.v0_lanes.proofs.LengthLaws.{low_packed, low_lengths}
use Rattle.v0_lanes.proofs.lengths.lengths_after.Goals as goal

pub invariant_of-result : goal.invariant_of-result
invariant_of-result c = record { packed = low_packed c.args.sums c.ranges.sums.fits }

pub returns : goal.returns
returns c = low_lengths c.args.sums c.ranges.sums.fits
