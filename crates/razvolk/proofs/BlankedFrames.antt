-- Nothing of an earlier frame is left in a blanked one, of exported calls that have returned.
--
-- Promised. Take every two lists of calls of the exports that write a sample buffer, all of which may stand in them (`Many`), whose last
-- calls are alike, are lent a map, and end with done or 5 to 8. Let each be followed by `razvolk_blank_with`, with one fill, or each by
-- `razvolk_blank`, lent the frame's samples and map bytes as its decoder left them, and both done. Then both answer the same, leave
-- the same N samples, and list the same runs: a blanked frame depends on stream, offsets, size and fill alone. The same of
-- `razvolk_export_v0`, and of the stream and the offsets that it writes.
-- Free. What came before; what the buffers first held; what lies past the frame in what is lent, and how long that is.
use Prim.Native.Nat.{◌<◌}
use mathlib.Core.Path.{◌≡◌, refl}
use lib.Dec.{lit<}
use Rattle.rules.proofs.Isolation.{Step, Samples}
use Rattle.rules.proofs.Isolation as Rules
use Rattle.samsung.proofs.Isolation.{Made, Entry, step, ended}
use Rattle.frame_blank.specs.Blanking.{stated, unstated}
use Rattle.frame_blank.specs.Calls.{call}
use Rattle.frame_blank.proofs.EachSample.{Clean, Fits, stated_clean, unstated_clean, stated_fits, unstated_fits}
use Rattle.frame_blank.proofs.Isolation.{Blanks, blank_step, blanked_isolation}
use Rattle.frame_blank.proofs.Isolation as Blanked
use Rattle.entry_frames.specs.Export.{export}
use Rattle.entry_frames.proofs.ExportedFrames.{Exports, exported_isolation}
use Rattle.entry_frames.proofs.ExportedFrames as Exported
use Rattle.entry_frames.proofs.Moves.{to_step, from_step}
use Rattle.write_packed.proofs.Returned.{step as packed_step}
use Rattle.entry_convert.proofs.Converted.{step as convert-step}
use Rattle.entry_convert.proofs.Proposed.{Checks, checks}
use Rattle.razvolk.proofs.ColourPlanes.{ToPlanes, FromPlanes, to, from}
use Rattle.razvolk.proofs.Converted.{Converts, converts}
use Rattle.razvolk.proofs.blanks.razvolk_blank_with.Kinds as with-kinds
use Rattle.razvolk.proofs.blanks.razvolk_blank_with.Reads as with-reads
use Rattle.razvolk.proofs.blanks.razvolk_blank.Kinds as plain-kinds
use Rattle.razvolk.proofs.blanks.razvolk_blank.Reads as plain-reads
use Rattle.razvolk.proofs.blanks.razvolk_export_v0.Kinds as export-kinds
use Rattle.razvolk.proofs.blanks.razvolk_export_v0.Reads as export-reads

-- ── Calls that blank ──

-- A call of an export that blanks: with a stated fill, which is a 16-bit number, or with none.
pub data Blanking : Type 0 where
  with_fill : (c : Made with-kinds.ps with-kinds.r with-reads.Learnt) → c.args.1.1.1.1.0 < 65_536 → Blanking
  no_fill : Made plain-kinds.ps plain-kinds.r plain-reads.Learnt → Blanking

-- What it was handed, answered and left.
unfoldable pub blanks : Blanking → Blanks
blanks (with_fill c small) =
    record {
      call = call (stated c.args.1.1.1.1.0) c.args.0.now c.args.1.0.now c.args.1.1.0 c.args.1.1.1.0 c.args.1.1.1.1.1.0.now;
      answered = c.result;
      samples = c.exit.0.now;
      runs = c.exit.1.1.1.1.1.0.now;
      yields = c.learnt;
    }
blanks (no_fill c) =
    record {
      call = call unstated c.args.0.now c.args.1.0.now c.args.1.1.0 c.args.1.1.1.0 c.args.1.1.1.1.0.now;
      answered = c.result;
      samples = c.exit.0.now;
      runs = c.exit.1.1.1.1.0.now;
      yields = c.learnt;
    }

pub clean : (b : Blanking) → Clean (blanks b).call.fill
unfolding blanks
clean (with_fill c small) = stated_clean c.args.1.1.1.1.0
clean (no_fill c) = unstated_clean

pub fits : (b : Blanking) → Fits (blanks b).call.fill
unfolding blanks
fits (with_fill c small) = stated_fits c.args.1.1.1.1.0 small
fits (no_fill c) = unstated_fits

-- A call of the export, and what it was handed, answered and left.
abbrev pub Exporting : Type 0
Exporting = Made export-kinds.ps export-kinds.r export-reads.Learnt

unfoldable pub exports : Exporting → Exports
exports c =
    record {
      export =
          export c.args.0.now c.args.1.0.now c.args.1.1.0 c.args.1.1.1.0 c.args.1.1.1.1.0.now
          c.args.1.1.1.1.1.0.now c.args.1.1.1.1.1.1.0.now;
      answered = c.result;
      samples = c.exit.0.now;
      runs = c.exit.1.1.1.1.0.now;
      stream = c.exit.1.1.1.1.1.0.now;
      offsets = c.exit.1.1.1.1.1.1.0.now;
      yields = c.learnt;
    }

pub export_fill : (c : Exporting) → (exports c).export.blank.fill ≡ stated 0
unfolding exports
export_fill c = refl

-- ── Lists of calls ──

-- A call of an export that writes a sample buffer: decoders, those that blank and export, V0 into V2, both ways between frame and planes,
-- and the check of what was packed, which decodes into its scratch. What is moved out of another buffer is 16-bit numbers.
pub data Many : Type 0 where
  decoding : Entry → Many
  blanking : Blanking → Many
  exporting : Exporting → Many
  converting : Converts → Many
  moving_to_planes : (c : ToPlanes) → Samples (to c).read → Many
  moving_back : (c : FromPlanes) → Samples (from c).read → Many
  checking : Checks → Many

unfoldable pub steps : Many → Step
steps (decoding c) = step c
steps (blanking b) = blank_step (blanks b).call (blanks b).samples (blanks b).yields.samples_left (fits b)
steps (exporting c) =
    blank_step (exports c).export.blank (exports c).samples (exports c).yields.samples_left (rw (export_fill c) (stated_fits 0 (lit< tt)))
steps (converting x) = convert-step (converts x)
steps (moving_to_planes c low) = to_step (to c) low
steps (moving_back c low) = from_step (from c) low
steps (checking c) = packed_step (checks c)

-- Promise P3, no earlier frame, for such lists.
abbrev pub Isolation : Type 0
Isolation = Rules.Isolation steps ended

pub isolation : Isolation
isolation = Rules.isolation steps ended

-- ── The claim ──

abbrev pub BlankedFrames : Type 0
BlankedFrames = Blanked.Isolation steps ended blanks

pub blanked_frames : BlankedFrames
blanked_frames = blanked_isolation steps ended blanks clean

-- The same for what is exported.
abbrev pub ExportedFrames : Type 0
ExportedFrames = Exported.Isolation steps ended exports

pub exported_frames : ExportedFrames
exported_frames = exported_isolation steps ended exports export_fill
