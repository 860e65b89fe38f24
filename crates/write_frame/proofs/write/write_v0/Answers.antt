-- The rows, from byte 0 on.
use mathlib.Core.Path.{sym, ap, ◌∙◌}
use native.Mathlib.Omega.{arith}
use lib.Dec.{lit≤}
use lib.ListN.{length}
use lib.Seq.{sets}
use Rattle.write_frame.proofs.FrameLaws.{v0_rows, v0_offsets, v0_start}
use Rattle.write_frame.proofs.write.write_v0.Goals as goal

pub write_rows-requires : goal.write_rows-requires
write_rows-requires c = let a = c.args in (c.requires.0, v0_start, lit≤ tt, omega (arith, ap length (v0_rows a.size.width a.size.height a.samples.now), c.requires.1))

pub returns : goal.returns
returns c = let a = c.args in let w = c.write_rows.ensures in record {
  stream = w.stream ∙ sym (ap (sets a.out.now 0) (v0_rows a.size.width a.size.height a.samples.now));
  offsets = w.offsets ∙ sym (ap (sets a.offsets.now 0) (v0_offsets a.size.width a.size.height a.samples.now));
}
