-- Each byte is a length below 16.
use Rattle.std.proofs.Common.{◌/◌, ◌%◌, arith, w32}
use mir.Facts.{to_z_pos}
use Rattle.v0_lanes.specs.Lengths.{lengths_of}
use Rattle.v0_lanes.proofs.lengths.unpacked.Goals as goal

pub returns : goal.returns
unfolding lengths_of
returns c =
    let l = c.args.l.bytes in
    rw (
      to_z_pos w32 {n = l % 256} (omega arith),
      to_z_pos w32 {n = l / 256 % 256} (omega arith),
      to_z_pos w32 {n = l / 65_536 % 256} (omega arith),
      to_z_pos w32 {n = l / 16_777_216} (omega (arith, c.args.l.packed.fourth)),
    )
