-- The header, and the rows from byte 16 on.
use native.Mathlib.Omega.{arith}
use lib.Dec.{lit≤}
use Rattle.write_frame.proofs.FrameLaws.{v2_length_is, v2_wrote, v2_start, header_kept}
use Rattle.write_frame.proofs.write.write_v2.Goals as goal

pub write_header-requires : goal.write_header-requires
write_header-requires c = let a = c.args in omega (arith, v2_length_is a.size.width a.size.height a.samples.now, c.requires.1)

pub write_rows-requires : goal.write_rows-requires
write_rows-requires c = let a = c.args in (c.requires.0, v2_start, lit≤ tt, omega (arith, v2_length_is a.size.width a.size.height a.samples.now, header_kept a.out.now _ c.write_header.ensures, c.requires.1))

pub returns : goal.returns
returns c =
    let a = c.args in v2_wrote a.size.width a.size.height a.samples.now a.out.now _ _ c.write_header.ensures c.write_rows.ensures.stream
