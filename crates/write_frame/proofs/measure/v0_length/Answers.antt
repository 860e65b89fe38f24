-- A V0 stream is its rows.
use mathlib.Core.Path.{sym, ap, ◌∙◌}
use lib.ListN.{length}
use Rattle.write_frame.proofs.FrameLaws.{v0_rows}
use Rattle.write_frame.proofs.measure.v0_length.Goals as goal

pub returns : goal.returns
returns c = let a = c.args in c.rows_length.ensures ∙ sym (ap length (v0_rows a.size.width a.size.height a.samples.now))
