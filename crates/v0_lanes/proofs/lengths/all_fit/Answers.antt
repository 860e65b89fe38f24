-- The four high bits of each byte are those of 128.
use Rattle.v0_lanes.proofs.LengthLaws.{all_short_is}
use Rattle.v0_lanes.proofs.lengths.all_fit.Goals as goal

pub returns : goal.returns
returns c = all_short_is c.args.sums c.ranges.sums.fits
