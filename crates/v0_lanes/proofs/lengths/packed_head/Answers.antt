-- The table has what the operations do to all four bytes.
use Rattle.std.proofs.Common.{arith}
use Rattle.v0_lanes.proofs.LengthLaws.{sum_fits, size_fits, head_of_made}
use Rattle.v0_lanes.proofs.lengths.packed_head.Goals as goal

pub overflow_add-result-2 : goal.overflow_add-result-2
overflow_add-result-2 c = let f = sum_fits c.args.t.now c.args.v c.args.l.bytes _ c.args.l.packed c.requires c.nibbles-x.ensures in record { fits = omega (arith, f) }

pub overflow_add-result-3 : goal.overflow_add-result-3
overflow_add-result-3 c = record { fits = sum_fits c.args.t.now c.args.v c.args.l.bytes _ c.args.l.packed c.requires c.nibbles-x.ensures }

pub overflow_cast-result : goal.overflow_cast-result
overflow_cast-result c = let f = size_fits c.args.t.now c.args.v c.args.l.bytes _ c.args.l.packed c.requires c.nibbles-x.ensures in record { fits = omega (arith, f) }

pub returns : goal.returns
returns c = head_of_made c.args.t.now c.args.v c.args.l.bytes _ c.args.l.packed c.requires c.nibbles-x.ensures c.ranges.v.fits
