-- A V2 stream is its header, of 16 bytes, and its rows.
use mathlib.Core.Path.{sym, ap, ◌∙◌}
use Prim.Native.Nat.{◌+◌}
use native.Mathlib.Omega.{arith}
use Rattle.write_rules.proofs.Rows.{rows_most}
use Rattle.write_frame.specs.declared.format.Format.TheVariants.{V2}
use Rattle.write_frame.specs.Frames.{coding}
use Rattle.write_frame.proofs.CodingLaws.{width_is, coding_unit}
use Rattle.write_frame.proofs.FrameLaws.{v2_length_is}
use Rattle.write_frame.proofs.measure.v2_length.Goals as goal

pub overflow_add-result : goal.overflow_add-result
overflow_add-result c = let a = c.args in record { fits = omega (arith, c.rows_length.ensures, rows_most (coding V2 a.size a.samples.now) (coding_unit a.size a.samples.now V2) (rw (width_is a.size a.samples.now V2) c.requires.wide) a.size.height 0, c.requires.high) }

pub returns : goal.returns
returns c = let a = c.args in ap (λ n. 16 + n) c.rows_length.ensures ∙ sym (v2_length_is a.size.width a.size.height a.samples.now)
