-- What the exports write as V0 is decoded back, of calls that have returned: a call of `razvolk_write_v0` or of `razvolk_export_v0` that is
-- done, and then a call of any exported V0 decoder that is done or lent enough, over any buffer, directly, in two phases, in bands or
-- for clean frames. It reads the stream and the offsets as the first left them, whole or cut anywhere past what was written, leaves the
-- samples that were written, and a map that is all 0. A call for clean frames that is lent enough takes it.
use mathlib.Core.Path.{◌≡◌}
use Rattle.samsung.proofs.Isolation.{checked, ended}
use Rattle.entry_frames.specs.Export.{write}
use Rattle.entry_frames.proofs.ExportedFrames as Exported
use Rattle.write_packed.proofs.Returned.{Wrote}
use Rattle.write_packed.proofs.ReadBack as Packed
use Rattle.entry_convert.proofs.Proposed.{Writes, writes}
use Rattle.razvolk.proofs.BlankedFrames.{Exporting, exports}

-- A call that writes V0: the writer's, or one of the archive export that is done, which writes the samples that it blanked.
pub data Writing : Type 0 where
  writing : Writes → Writing
  exporting : (c : Exporting) → (exports c).answered.answer.number ≡ 0 → Writing

unfoldable pub wrote : Writing → Wrote
wrote (writing w) = writes w
wrote (exporting c done) =
    record {
      call = write (exports c).export;
      answered = record { answer = (exports c).answered.answer; length = (exports c).answered.length };
      stream = (exports c).stream;
      offsets = (exports c).offsets;
      yields = Exported.writes (exports c) done;
    }

abbrev pub ReadBack : Type 0
ReadBack = Packed.ReadBack wrote ended checked

pub read_back : ReadBack
read_back = Packed.read_back wrote ended checked
