-- Worked examples: calls that move a frame's samples into its colour planes and back, and calls of the export, as two lists.
-- `proofs/Examples.antt` proves the one claim, that in each the definitions give what is stated.
use Rattle.std.specs.Prelude.{ℕ, Bool, true, false, cond, List, [], ◌∷◌, ◌++◌, replicate}
use Rattle.rules.specs.declared.answer.Answer.{Answer}
use Rattle.rules.specs.Answer.{done, refused}
use Rattle.frame_planes.specs.Planes.{to_planes, from_planes}
use Rattle.frame_blank.specs.Calls as Blank
use Rattle.entry_frames.specs.declared.export.Exported.{Exported}
use Rattle.entry_frames.specs.Moved as Moved
use Rattle.entry_frames.specs.Export.{Export, export, export_answer, stream_after, offsets_after}

-- ── Colour planes ──

-- A way, a size, what is read and what is written as it was; the answer, and what is written as it is left.
pub record Move : Type 0 where
  pub back : Bool
  pub width : ℕ
  pub height : ℕ
  pub from : List ℕ
  pub to : List ℕ
  pub answer : Answer
  pub left : List ℕ

-- The same call, with what the definitions give.
abbrev pub moved : Move → Move
moved e =
    record {
      back = e.back;
      width = e.width;
      height = e.height;
      from = e.from;
      to = e.to;
      answer = Moved.answer e.width e.height e.from e.to;
      left = Moved.after (cond e.back from_planes to_planes) e.width e.height e.from e.to;
    }

abbrev move : Bool → ℕ → ℕ → List ℕ → List ℕ → Answer → List ℕ → Move
move back w h from to a left = record { back = back; width = w; height = h; from = from; to = to; answer = a; left = left }

-- A refusal leaves what would be written as it was.
abbrev kept : Bool → ℕ → ℕ → List ℕ → List ℕ → ℕ → Move
kept back w h from to number = move back w h from to (refused number) to

-- A frame of 3 by 2, numbered by rows and columns, and its planes.
abbrev frame : List ℕ
frame = 00 ∷ 01 ∷ 02 ∷ 10 ∷ 11 ∷ 12 ∷ []

abbrev planes : List ℕ
planes = 00 ∷ 02 ∷ 01 ∷ 10 ∷ 12 ∷ 11 ∷ []

unfoldable pub moves : List Move
moves =
    -- Both ways: what lies past N in what is read is not looked at, and what lies past N in the other stays.
    move false 3 2 (frame ++ (98 ∷ [])) (replicate 8 7) done (planes ++ (7 ∷ 7 ∷ []))
    ∷ move true 3 2 (planes ++ (98 ∷ [])) (replicate 8 7) done (frame ++ (7 ∷ 7 ∷ []))
    -- A frame of no samples.
    ∷ move false 0 2 (98 ∷ []) (7 ∷ []) done (7 ∷ [])
    ∷ move true 3 0 [] [] done []
    -- 3 if what is read is a sample short, if what is written is, and if both are.
    ∷ kept false 3 2 (replicate 5 98) (replicate 6 7) 3
    ∷ kept false 3 2 (replicate 6 98) (replicate 5 7) 3
    ∷ kept true 3 2 (replicate 5 98) (replicate 6 7) 3
    ∷ kept true 3 2 (replicate 6 98) (replicate 5 7) 3
    ∷ kept true 3 2 [] [] 3
    -- 1 before 3, for width and height; and where nothing would be moved.
    ∷ kept false 16_385 1 [] (7 ∷ []) 1
    ∷ kept true 1 16_385 [] (7 ∷ []) 1
    ∷ kept false 16_385 0 [] [] 1
    ∷ []

-- ── The export ──

-- A call, what it answers, and its four buffers afterwards.
pub record Example : Type 0 where
  pub asked : Export
  pub answer : Exported
  pub samples : List ℕ
  pub runs : List ℕ
  pub stream : List ℕ
  pub offsets : List ℕ

-- The same call, with what the definitions give.
abbrev pub exported : Example → Example
exported e =
    record {
      asked = e.asked;
      answer = export_answer e.asked;
      samples = Blank.samples_after e.asked.blank;
      runs = Blank.runs_after e.asked.blank;
      stream = stream_after e.asked;
      offsets = offsets_after e.asked;
    }

-- Blanking refuses: nothing is changed, set, listed or written.
abbrev unchanged : Export → ℕ → Example
unchanged e number =
    record {
      asked = e;
      answer = record { answer = refused number; count = 0; runs = 0; length = 0 };
      samples = e.blank.samples;
      runs = e.blank.runs;
      stream = e.stream;
      offsets = e.offsets;
    }

-- The writer refuses: the frame is blanked and its runs are listed, and nothing is written.
abbrev blanked : Export → ℕ → ℕ → ℕ → List ℕ → List ℕ → Example
blanked e number count runs samples list =
    record {
      asked = e;
      answer = record { answer = refused number; count = count; runs = runs; length = 0 };
      samples = samples;
      runs = list;
      stream = e.stream;
      offsets = e.offsets;
    }

-- 3 by 2, with a sample past N. The marked samples are too bright to be written, and the unmarked ones aren't. Then the same with an
-- unmarked sample that is too bright.
abbrev samples : List ℕ
samples = 20_000 ∷ 65_535 ∷ 127 ∷ 128 ∷ 16_384 ∷ 16_000 ∷ 65_535 ∷ []

abbrev bright : List ℕ
bright = 20_000 ∷ 65_535 ∷ 127 ∷ 128 ∷ 16_384 ∷ 16_384 ∷ 65_535 ∷ []

-- Two marked samples that make one run and one that makes another; a byte past N is not looked at.
abbrev marks : List ℕ
marks = 2 ∷ 1 ∷ 0 ∷ 0 ∷ 3 ∷ 0 ∷ 9 ∷ []

-- What blanking leaves, and the runs, of which the list has two numbers more.
abbrev black : ℕ → List ℕ
black last = 0 ∷ 0 ∷ 127 ∷ 128 ∷ 0 ∷ last ∷ 65_535 ∷ []

abbrev listed : List ℕ
listed = 0 ∷ 0 ∷ 2 ∷ 1 ∷ 1 ∷ 1 ∷ 7 ∷ 7 ∷ []

abbrev list : List ℕ
list = replicate 8 7

-- The blanked frame as V0: 24 bytes, and two rows.
abbrev coded : List ℕ
coded = 64 ∷ 0 ∷ 192 ∷ 127 ∷ 0 ∷ 0 ∷ 128 ∷ 127 ∷ 127 ∷ 64 ∷ 248 ∷ 127 ∷ 0 ∷ 0 ∷ 124 ∷ 128 ∷ 0 ∷ 4 ∷ 0 ∷ 0 ∷ 0 ∷ 0 ∷ 0 ∷ 0 ∷ []

unfoldable pub examples : List Example
examples =
    -- Done: what lies past N, past the runs, past the stream and past the last offset stays.
    record {
      asked = export samples marks 3 2 list (replicate 26 9) (8 ∷ 8 ∷ 8 ∷ []);
      answer = record { answer = done; count = 3; runs = 2; length = 24 };
      samples = black 16_000;
      runs = listed;
      stream = coded ++ (9 ∷ 9 ∷ []);
      offsets = 0 ∷ 8 ∷ 8 ∷ [];
    }
    -- A frame of no samples.
    ∷ record {
      asked = export (98 ∷ []) (9 ∷ []) 0 2 (7 ∷ []) (9 ∷ []) (8 ∷ 8 ∷ 8 ∷ []);
      answer = record { answer = done; count = 0; runs = 0; length = 0 };
      samples = 98 ∷ [];
      runs = 7 ∷ [];
      stream = 9 ∷ [];
      offsets = 0 ∷ 0 ∷ 8 ∷ [];
    }
    -- 10: the stream is a byte short, or an offset is missing. 9 comes before it.
    ∷ blanked (export samples marks 3 2 list (replicate 23 9) (8 ∷ 8 ∷ [])) 10 3 2 (black 16_000) listed
    ∷ blanked (export samples marks 3 2 list (replicate 24 9) (8 ∷ [])) 10 3 2 (black 16_000) listed
    ∷ blanked (export bright marks 3 2 list (replicate 23 9) []) 9 3 2 (black 16_384) listed
    -- 13, a number short, before 9; 14 before 13; 4 before 14; 3 before 4; 1 before 3. Each before what comes after these, too.
    ∷ unchanged (export bright marks 3 2 (replicate 5 7) (replicate 23 9) []) 13
    ∷ unchanged (export bright (2 ∷ 1 ∷ 0 ∷ 0 ∷ 3 ∷ 4 ∷ []) 3 2 (replicate 5 7) (replicate 23 9) []) 14
    ∷ unchanged (export bright (4 ∷ 4 ∷ 4 ∷ 4 ∷ 4 ∷ []) 3 2 [] (replicate 23 9) []) 4
    ∷ unchanged (export (replicate 5 65_535) (replicate 5 4) 3 2 [] (replicate 23 9) []) 3
    ∷ unchanged (export (replicate 5 65_535) (replicate 5 4) 16_385 2 [] (replicate 23 9) []) 1
    ∷ unchanged (export [] [] 0 16_385 [] [] []) 1
    ∷ []
