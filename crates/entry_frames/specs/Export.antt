-- A call of the archive export: a frame is blanked with fill 0, and what that leaves is written as V0.
use Rattle.std.specs.Prelude.{ℕ, cond, ◌≡◌, List, eqb}
use Rattle.frame_blank.specs.Blanking.{stated}
use Rattle.frame_blank.specs.Calls as Blank
use Rattle.write_rules.specs.Calls as Write
use Rattle.entry_frames.specs.declared.export.Exported.{Exported}

-- What is asked and lent: a frame to blank, and buffers for the stream and the offsets.
pub record Export : Type 0 where
  pub blank : Blank.Call
  pub stream : List ℕ
  pub offsets : List ℕ

abbrev pub export : List ℕ → List ℕ → ℕ → ℕ → List ℕ → List ℕ → List ℕ → Export
export samples map w h runs stream offsets =
    record { blank = Blank.call (stated 0) samples map w h runs; stream = stream; offsets = offsets }

-- The writer is called on the samples as blanking left them.
abbrev pub write : Export → Write.Call
write e =
    record { size = e.blank.size; samples = Blank.samples_after e.blank; stream = e.stream; offsets = e.offsets }

-- What blanking refuses is not written: then the one holds, and else the other.
unfoldable pub if_blanked : {A : Type 0} → Export → A → A → A
if_blanked e written refused = cond (eqb (Blank.refusal e.blank) 0) written refused

-- Refusals 1, 3, 4, 14 and 13 are blanking's, 9 and 10 the writer's. Both counts are as blanking made them.
unfoldable pub export_answer : Export → Exported
export_answer e =
    let b = Blank.blank_answer e.blank in
    let w = Write.write_answer (write e) in
    record { answer = if_blanked e w.answer b.answer; count = b.count; runs = b.runs; length = if_blanked e w.length 0 }

unfoldable pub stream_after : Export → List ℕ
stream_after e = if_blanked e (Write.stream_after (write e)) e.stream

unfoldable pub offsets_after : Export → List ℕ
offsets_after e = if_blanked e (Write.offsets_after (write e)) e.offsets

-- All that a call yields and leaves.
pub record Yields (e : Export) (r : Exported) (samples runs stream offsets : List ℕ) : Type 0 where
  pub answered : r ≡ export_answer e
  pub samples_left : samples ≡ Blank.samples_after e.blank
  pub runs_left : runs ≡ Blank.runs_after e.blank
  pub stream_left : stream ≡ stream_after e
  pub offsets_left : offsets ≡ offsets_after e
