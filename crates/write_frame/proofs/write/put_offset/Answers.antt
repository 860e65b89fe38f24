-- Past the table's end nothing is stored.
use mathlib.Core.Path.{sym}
use native.Mathlib.Omega.{arith}
use Rattle.write_frame.proofs.FrameLaws.{set_past}
use Rattle.write_frame.proofs.write.put_offset.Goals as goal

pub returns-else-row-offsets : goal.returns-else-row-offsets
returns-else-row-offsets c = let a = c.args in sym (set_past a.offsets.now a.row a.at (omega arith))
