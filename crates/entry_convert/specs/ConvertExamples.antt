-- Worked examples of V0 into V2: decoded frames of 32 by 1 with their marks and a buffer, and what is answered and left; the numbers
-- before decoding; and whole calls. `proofs/ConvertExamples.antt` proves that in each the definitions give what is stated.
use Rattle.std.specs.Prelude.{ℕ, List, [], ◌∷◌, ◌++◌, length, replicate}
use Rattle.write_rules.specs.declared.Written.{Written}
use Rattle.write_rules.specs.Calls.{refused, written}
use Rattle.entry_convert.specs.Convert.{Call, call, early, late_answer, late_stream, call_answer, call_samples, call_map, call_stream}

pub record Example : Type 0 where
  pub samples : List ℕ
  pub marks : List ℕ
  pub buffer : List ℕ
  pub answer : Written
  pub stream : List ℕ

-- The same, with what the definitions give.
abbrev pub defined : Example → Example
defined e =
    record {
      samples = e.samples;
      marks = e.marks;
      buffer = e.buffer;
      answer = late_answer 32 1 e.samples e.marks (length e.buffer);
      stream = late_stream 32 1 e.samples e.marks e.buffer;
    }

-- 48 bytes: the header, and a row of two blocks, of which the second has lengths 0.
abbrev flat : List ℕ
flat = 1 ∷ 16_383 ∷ replicate 30 3

abbrev coded : List ℕ
coded =
    0 ∷ 13 ∷ 0 ∷ 0 ∷ 0 ∷ 0 ∷ 0 ∷ 0 ∷ 0 ∷ 7 ∷ 0 ∷ 0 ∷ 0 ∷ 0 ∷ 0 ∷ 0
    ∷ 150 ∷ 249 ∷ 153 ∷ 127 ∷ 255 ∷ 191 ∷ 109 ∷ 219 ∷ 12 ∷ 0 ∷ 6 ∷ 0 ∷ 191 ∷ 109 ∷ 27 ∷ 0
    ∷ 0 ∷ 0 ∷ 0 ∷ 192 ∷ replicate 12 0

abbrev clean : List ℕ
clean = replicate 32 0

-- A refusal leaves the buffer as it was.
abbrev kept : List ℕ → List ℕ → List ℕ → ℕ → Example
kept samples marks buffer number = record { samples = samples; marks = marks; buffer = buffer; answer = refused number; stream = buffer }

-- Done, also where the stream just fits; 16 of an old and of a missing sample, before 9; 9, before 10; and 10.
unfoldable pub examples : List Example
examples =
    record { samples = flat; marks = clean; buffer = replicate 50 9; answer = written 48; stream = coded ++ (9 ∷ 9 ∷ []) }
    ∷ record { samples = flat; marks = clean; buffer = replicate 48 9; answer = written 48; stream = coded }
    ∷ kept flat (replicate 31 0 ++ (1 ∷ [])) (replicate 50 9) 16
    ∷ kept (replicate 32 16_384) (replicate 31 0 ++ (2 ∷ [])) [] 16
    ∷ kept (replicate 31 5 ++ (16_384 ∷ [])) clean [] 9
    ∷ kept flat clean (replicate 47 9) 10
    ∷ []

-- ── Before decoding ──

-- The number of a call of a size, with so many offsets, samples and map bytes lent.
abbrev pub early_of : ℕ → ℕ → ℕ → ℕ → ℕ → ℕ
early_of w h offsets samples marks = early (call [] (replicate offsets 0) w h (replicate samples 0) (replicate marks 0) [])

-- None; 15 alone; and each of 1 to 4 where all that come after it hold, too: 4, 3 for want of samples and of offsets, 2, 1.
unfoldable pub early_numbers : List ℕ
early_numbers =
    early_of 32 1 1 32 32 ∷ early_of 33 1 1 33 33 ∷ early_of 33 1 1 33 32 ∷ early_of 33 1 1 32 32 ∷ early_of 33 1 0 33 32 ∷ early_of 31 1 0 0 0
    ∷ early_of 16_385 0 0 0 0 ∷ []

-- ── Whole calls ──

-- A call, its answer, and its three buffers afterwards.
pub record Whole : Type 0 where
  pub asked : Call
  pub answer : Written
  pub samples : List ℕ
  pub map : List ℕ
  pub stream : List ℕ

-- The same call, with what the definitions give.
abbrev pub called : Whole → Whole
called e =
    record {
      asked = e.asked;
      answer = call_answer e.asked;
      samples = call_samples e.asked;
      map = call_map e.asked;
      stream = call_stream e.asked;
    }

-- Of 32 by 1, with two samples, two map bytes and a buffer lent: the V0 frame is decoded.
abbrev of_source : List ℕ → List ℕ → Call
of_source source buffer = call source (0 ∷ []) 32 1 (replicate 34 20_000) (replicate 34 8) buffer

-- What is refused after decoding: the samples have the frame, the map its marks, and the buffer is as it was.
abbrev decoded : List ℕ → List ℕ → ℕ → List ℕ → List ℕ → Whole
decoded source buffer number frame marks =
    record {
      asked = of_source source buffer;
      answer = refused number;
      samples = frame ++ (20_000 ∷ 20_000 ∷ []);
      map = marks ++ (8 ∷ 8 ∷ []);
      stream = buffer;
    }

-- What is refused before it changes nothing.
abbrev unchanged : ℕ → ℕ → ℕ → ℕ → ℕ → ℕ → Whole
unchanged w h offsets samples marks number =
    let c = call [] (replicate offsets 0) w h (replicate samples 20_000) (replicate marks 8) (9 ∷ []) in
    record { asked = c; answer = refused number; samples = c.samples; map = c.map; stream = c.stream }

-- `flat` as V0; the same with its last sample above 16,383.
abbrev flat_v0 : List ℕ
flat_v0 =
    64 ∷ 124 ∷ 196 ∷ 127 ∷ 193 ∷ 193 ∷ 193 ∷ 193 ∷ 191 ∷ 193 ∷ 193 ∷ 193 ∷ 254 ∷ 7 ∷ 255 ∷ 127
    ∷ 28 ∷ 28 ∷ 252 ∷ 15 ∷ 252 ∷ 27 ∷ 28 ∷ 28 ∷ 0 ∷ 0 ∷ 0 ∷ 0 ∷ []

abbrev bright_v0 : List ℕ
bright_v0 =
    66 ∷ 68 ∷ 196 ∷ 127 ∷ 194 ∷ 194 ∷ 194 ∷ 194 ∷ 194 ∷ 194 ∷ 194 ∷ 194 ∷ 194 ∷ 194 ∷ 194 ∷ 194
    ∷ 191 ∷ 194 ∷ 194 ∷ 194 ∷ 0 ∷ 192 ∷ 3 ∷ 192 ∷ 0 ∷ 0 ∷ 0 ∷ 0 ∷ 0 ∷ 0 ∷ 236 ∷ 255 ∷ []

-- Two blocks that look up, so that all samples stay; and one word, with which the second block breaks off.
abbrev upward : List ℕ
upward = 64 ∷ 0 ∷ 128 ∷ 255 ∷ 0 ∷ 0 ∷ 0 ∷ 0 ∷ []

abbrev cut : List ℕ
cut = 0 ∷ 0 ∷ 128 ∷ 127 ∷ []

unfoldable pub wholes : List Whole
wholes =
    -- Done: what lies past N, and past the stream, stays.
    record {
      asked = of_source flat_v0 (replicate 50 9);
      answer = written 48;
      samples = flat ++ (20_000 ∷ 20_000 ∷ []);
      map = clean ++ (8 ∷ 8 ∷ []);
      stream = coded ++ (9 ∷ 9 ∷ []);
    }
    -- 10: the buffer is a byte short. 9 before 10. 16 before 9, of old samples; and of missing words, before 10.
    ∷ decoded flat_v0 (replicate 47 9) 10 flat clean
    ∷ decoded bright_v0 (replicate 47 9) 9 (replicate 31 5 ++ (16_384 ∷ [])) clean
    ∷ decoded upward (replicate 47 9) 16 (replicate 32 20_000) (replicate 32 1)
    ∷ decoded cut [] 16 (replicate 25 128 ++ (127 ∷ 128 ∷ 127 ∷ 128 ∷ 127 ∷ 128 ∷ 127 ∷ [])) (replicate 16 0 ++ replicate 16 2)
    -- 15, 4, 3 of samples and of offsets, 2 and 1, each before what comes after it, though the frame would have marks.
    ∷ unchanged 33 1 1 34 33 15
    ∷ unchanged 33 1 1 33 32 4
    ∷ unchanged 33 1 1 32 32 3
    ∷ unchanged 33 1 0 33 32 3
    ∷ unchanged 31 1 0 0 0 2
    ∷ unchanged 16_385 0 0 0 0 1
    ∷ []
