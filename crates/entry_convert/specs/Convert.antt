-- A call that turns V0 into V2: the direct decoder's call with its map, and then the V2 stream of what it left.
use Rattle.std.specs.Prelude.{ℕ, ◌*◌, ◌%◌, ◌≤◌, Bool, cond, ◌≡◌, List, ◌++◌, ltb, eqb, length, take, drop}
use Rattle.std.proofs.Math.Option.{some, none}
use Rattle.rules.specs.Limits.{most_side}
use Rattle.rules.specs.declared.answer.Size.{Size}
use Rattle.rules.specs.Frame.{cells}
use Rattle.rules.specs.Answer.{direct, v2, Ask, ask, Buffers, buffers, lengths, too_large, too_small, short_samples, short_map, first_of, samples_after, map_after}
use Rattle.write_rules.specs.declared.Written.{Written}
use Rattle.write_rules.specs.Calls.{any_above, too_bright, refused, written}
use Rattle.write_rules.specs.V2Writer.{stream_for}
use Rattle.entry_frames.specs.Moved.{size}

-- ── What is asked and lent ──

-- What the direct decoder is asked and lent, with a map, and a buffer for the V2 stream.
pub record Call : Type 0 where
  pub asked : Ask
  pub samples : List ℕ
  pub map : List ℕ
  pub stream : List ℕ

abbrev pub call : List ℕ → List ℕ → ℕ → ℕ → List ℕ → List ℕ → List ℕ → Call
call source offsets w h samples map stream = record { asked = ask direct source offsets w h; samples = samples; map = map; stream = stream }

-- The buffers that the decoder finds.
abbrev pub found : Call → Buffers
found c = buffers c.samples (some c.map) none

-- What it leaves.
abbrev pub decoded_samples : Call → List ℕ
decoded_samples c = samples_after c.asked (lengths (found c)) c.samples

abbrev pub decoded_map : Call → List ℕ
decoded_map c = map_after c.asked (lengths (found c)) c.map

-- The frame, and its marks.
abbrev pub frame_of : Call → List ℕ
frame_of c = take (cells c.asked.size) (decoded_samples c)

abbrev pub marks_of : Call → List ℕ
marks_of c = take (cells c.asked.size) (decoded_map c)

-- ── Refusals ──

-- Before decoding: 1 to 4, with 2 as V2 has it, and 15: the width is not a multiple of 16. The first that holds, or 0.
unfoldable pub early : Call → ℕ
early c =
    let z = c.asked.size in
    let k
    = first_of (too_large z) (too_small v2 z) (short_samples c.asked (lengths (found c))) (short_map (some (length c.map)) z) in
    cond (eqb k 0) (cond (eqb (z.width % 16) 0) 0 15) k

-- 16: a map byte is not 0.
abbrev pub any_marked : List ℕ → Bool
any_marked m = any_above 0 m

-- After it, of a frame f with marks m and a buffer of n bytes: 16, 9, and 10: the stream does not fit the buffer.
unfoldable pub late : Size → List ℕ → List ℕ → ℕ → ℕ
late z f m n = cond (any_marked m) 16 (cond (too_bright f) 9 (cond (ltb n (length (stream_for z f))) 10 0))

-- ── What writing answers and leaves ──

-- A frame that has passed 1 and 15.
pub record Frame (w h : ℕ) (f : List ℕ) : Type 0 where
  pub wide : w ≤ most_side
  pub high : h ≤ most_side
  pub blocks : w % 16 ≡ 0
  pub whole : length f ≡ w * h

unfoldable pub late_answer : ℕ → ℕ → List ℕ → List ℕ → ℕ → Written
late_answer w h f m n =
    let k = late (size w h) f m n in
    cond (eqb k 0) (written (length (stream_for (size w h) f))) (refused k)

-- What lies past the stream is unchanged; a refusal changes nothing.
unfoldable pub late_stream : ℕ → ℕ → List ℕ → List ℕ → List ℕ → List ℕ
late_stream w h f m buffer =
    let new = stream_for (size w h) f in
    cond (eqb (late (size w h) f m (length buffer)) 0) (new ++ drop (length new) buffer) buffer

-- ── What a call answers and leaves ──

-- The tests before decoding change nothing; after them the samples keep the decoded frame, and the map its marks.
unfoldable pub if_decoded : {A : Type 0} → Call → A → A → A
if_decoded c new old = cond (eqb (early c) 0) new old

abbrev pub call_answer : Call → Written
call_answer c =
    if_decoded c (late_answer c.asked.size.width c.asked.size.height (frame_of c) (marks_of c) (length c.stream))
    (refused (early c))

abbrev pub call_samples : Call → List ℕ
call_samples c = if_decoded c (decoded_samples c) c.samples

abbrev pub call_map : Call → List ℕ
call_map c = if_decoded c (decoded_map c) c.map

abbrev pub call_stream : Call → List ℕ
call_stream c =
    if_decoded c (late_stream c.asked.size.width c.asked.size.height (frame_of c) (marks_of c) c.stream) c.stream

-- All that a call yields and leaves.
pub record Yields (c : Call) (r : Written) (samples map stream : List ℕ) : Type 0 where
  pub answered : r ≡ call_answer c
  pub samples_left : samples ≡ call_samples c
  pub map_left : map ≡ call_map c
  pub stream_left : stream ≡ call_stream c
