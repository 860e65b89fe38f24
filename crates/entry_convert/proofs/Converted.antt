-- What a call of the converter that is done leaves: a V2 stream that is accepted, whatever lies past it, and decoded over any
-- buffer gives the frame that the V0 decoder left, with no word missing and no map byte other than 0. It may be read whole, or cut
-- anywhere past what was written. The same for calls that have returned; among others on one sample buffer such a call leaves 16-bit
-- samples.
use Prim.Native.Nat.{ℕ, ◌-◌, ◌*◌, ◌%◌, ◌^◌, ◌<◌, ◌≤◌}
use mathlib.Core.Bool.{Bool, true, false, cond}
use mathlib.Core.Path.{◌≡◌, refl, sym, ap, ◌∙◌}
use mathlib.Core.List.{List, [], ◌++◌}
use mathlib.Core.Option
use mathlib.Core.Option.{none, some}
use native.Mathlib.Omega.{arith}
use lib.Dec.{ltb, eqb}
use lib.ListN.{length, get_or, take, drop}
use lib.Seq.{length-take-le}
use borrow.Author.Tests.{ltb-false, eqb-true, eqb-false}
use Rattle.rules.specs.Frame.{cells}
use Rattle.rules.specs.Answer.{Ask, ask, Lent, buffers, lengths, v2, done, refusal, stream_answer, answer, frame_samples, frame_marks, marks, samples_after, map_after, unless_refused}
use Rattle.rules.proofs.Cells.{All}
use Rattle.rules.proofs.Isolation.{Returned, Samples, Step, left_below}
use Rattle.rules.proofs.Refusals.{samples_enough, v2_size_least}
use Rattle.rules.proofs.Tests.{by-test}
use Rattle.write_rules.specs.declared.Written.{Written}
use Rattle.write_rules.specs.Calls.{too_bright}
use Rattle.write_rules.specs.V2Writer.{stream_for}
use Rattle.write_rules.proofs.CallLaws.{not_bright, take_past, over_stream}
use Rattle.write_rules.proofs.V2RoundTrip.{Holds, written_holds, stream_below}
use Rattle.entry_frames.specs.Moved.{size}
use Rattle.entry_convert.specs.Convert.{Call, call, found, decoded_samples, decoded_map, frame_of, marks_of, early, any_marked, late, late_answer, late_stream, if_decoded, Yields}
use Rattle.entry_convert.proofs.ConvertLaws.{Lent as Early, early_passed, frame_whole}

module _ (source offsets : List ℕ) (w h : ℕ) (samples map stream : List ℕ) where
  abbrev c : Call
  c = call source offsets w h samples map stream

  -- ── What a call that answers 0 has passed ──

  pub record Passed : Type 0 where
    pub early_none : early c ≡ 0
    pub late_none : late (size w h) (frame_of c) (marks_of c) (length stream) ≡ 0

  pub passed : (r : Written) (s m t : List ℕ) → Yields c r s m t → r.answer.number ≡ 0 → Passed
  unfolding if_decoded late_answer
  passed r s m t y zero =
      let k = late (size w h) (frame_of c) (marks_of c) (length stream) in
      let q = sym (ap (λ x. x.answer.number) y.answered) ∙ zero in
      by-test (eqb (early c) 0)
      (λ e. record { early_none = eqb-true (early c) 0 e; late_none = by-test (eqb k 0) (λ f. eqb-true k 0 f) (λ f. rw (e, f) at q) })
      (λ e. absurd (eqb-false (early c) 0 e (rw e at q)))

  -- The tests after decoding.
  late_tests : (t16 t9 t10 : Bool) → cond {A = ℕ} t16 16 (cond t9 9 (cond t10 10 0)) ≡ 0 → (t9 ≡ false) × (t10 ≡ false)
  late_tests true t9 t10 e = absurd (let q : 16 ≡ 0 = e in omega arith)
  late_tests false true t10 e = absurd (let q : 9 ≡ 0 = e in omega arith)
  late_tests false false true e = absurd (let q : 10 ≡ 0 = e in omega arith)
  late_tests false false false e = (refl, refl)

  -- ── The round trip ──

  module _ (below : All (λ b. b < 256) stream) (fewer : length stream < 2 ^ 64) (p : Passed) (n : ℕ) (long : length (stream_for (size w h) (frame_of c)) ≤ n) where
    -- The first n bytes that the stream's buffer then holds.
    abbrev pub left : List ℕ
    left = take n (late_stream w h (frame_of c) (marks_of c) stream)

    pub converted_holds : Holds left (size w h) (frame_of c)
    unfolding late late_stream
    converted_holds =
        let s = stream_for (size w h) (frame_of c) in
        let t = late_tests (any_marked (marks_of c)) (too_bright (frame_of c)) (ltb (length stream) (length s)) p.late_none in
        let room = ltb-false (length stream) (length s) t.1 in
        let e : Early c × (w % 16 ≡ 0) = early_passed refl p.early_none in
        rw p.late_none
        (rw (take_past s (drop (length s) stream) n long)
        (written_holds (size w h) (frame_of c) e.1 (frame_whole e.0) (not_bright (frame_of c) t.0) (take (n - length s) (drop (length s) stream))
        (over_stream s stream (n - length s) (stream_below (size w h) (frame_of c)) below room fewer)))

    -- Asked for as V2, and lent enough.
    abbrev pub again : Ask
    again = ask v2 left [] w h

    module _ (l : Lent) (lends : refusal again l ≡ 0) where
      pub answered_done : answer again l ≡ done
      unfolding answer stream_answer
      answered_done = rw lends converted_holds.accepted

      pub samples_back : (buffer : List ℕ) → length buffer ≡ l.samples → samples_after again l buffer ≡ frame_of c ++ drop (cells (size w h)) buffer
      unfolding samples_after unless_refused frame_samples
      samples_back buffer e =
          let room : cells (size w h) ≤ length buffer = rw e (samples_enough again l lends) in
          rw lends (ap (λ f. f ++ drop (cells (size w h)) buffer) (converted_holds.samples_back (take (cells (size w h)) buffer) (length-take-le (cells (size w h)) buffer room)))

      -- The map then holds the marks, and they are all 0.
      pub no_marks_back : (m : List ℕ) → (map_after again l m ≡ marks again ++ drop (cells (size w h)) m) × ((i : ℕ) → i < cells (size w h) → get_or (marks again) i 0 ≡ 0)
      unfolding map_after unless_refused frame_marks
      no_marks_back m = (rw lends, converted_holds.no_marks (omega (arith, (v2_size_least again l lends refl).0)))

-- ── Calls that have returned ──

-- What a call was handed, answered and left.
pub record Conversion : Type 0 where
  pub source : List ℕ
  pub offsets : List ℕ
  pub width : ℕ
  pub height : ℕ
  pub samples : List ℕ
  pub map : List ℕ
  pub stream : List ℕ
  pub answered : Written
  pub samples_left : List ℕ
  pub map_left : List ℕ
  pub stream_left : List ℕ
  pub yields : Yields (call source offsets width height samples map stream) answered samples_left map_left stream_left

-- One that is done, on a buffer of bytes, and as much of the stream that it left as it wrote: n bytes.
pub record Kept (x : Conversion) (n : ℕ) : Type 0 where
  pub done : x.answered.answer.number ≡ 0
  pub bytes : All (λ b. b < 256) x.stream
  pub fewer : length x.stream < 2 ^ 64
  pub stream : x.answered.length ≤ n

-- What a V2 decoder is asked that reads so much of it.
abbrev pub read_again : Conversion → ℕ → Ask
read_again x n = ask v2 (take n x.stream_left) [] x.width x.height

-- A decoder's call gives back the samples that the call left, and marks none.
pub record Back (x : Conversion) (r : Returned) : Type 0 where
  pub answered : r.answered ≡ done
  pub samples : r.left.samples ≡ take (x.width * x.height) x.samples_left ++ drop (x.width * x.height) r.found.samples
  pub map : (m : List ℕ) → r.found.map ≡ some m → r.left.map ≡ some (marks r.ask ++ drop (x.width * x.height) m)
  pub unmarked : (i : ℕ) → i < x.width * x.height → get_or (marks r.ask) i 0 ≡ 0

-- The claim: for calls of the converter, and for V2 decoders' that are lent enough, each told by what it was.
abbrev pub ReadBack : {X D : Type 0} → (X → Conversion) → (D → Returned) → Type 0
ReadBack {X} {D} converts returned =
    (x : X) (n : ℕ) → Kept (converts x) n → (r : D) → (returned r).ask ≡ read_again (converts x) n
    → refusal (returned r).ask (lengths (returned r).found) ≡ 0 → Back (converts x) (returned r)

module _ (x : Conversion) (n : ℕ) (k : Kept x n) where
  abbrev handed : Call
  handed = call x.source x.offsets x.width x.height x.samples x.map x.stream

  ok : Passed x.source x.offsets x.width x.height x.samples x.map x.stream
  ok = passed x.source x.offsets x.width x.height x.samples x.map x.stream _ _ _ _ x.yields k.done

  length_is : x.answered.length ≡ length (stream_for (size x.width x.height) (frame_of handed))
  unfolding if_decoded late_answer
  length_is = ap (λ a. a.length) x.yields.answered ∙ rw (ok.early_none, ok.late_none)

  read : length (stream_for (size x.width x.height) (frame_of handed)) ≤ n
  read = omega (arith, length_is, k.stream)

  samples_are : take (x.width * x.height) x.samples_left ≡ frame_of handed
  unfolding if_decoded
  samples_are = ap (take (x.width * x.height)) (x.yields.samples_left ∙ rw ok.early_none)

  stream_is : x.stream_left ≡ late_stream x.width x.height (frame_of handed) (marks_of handed) x.stream
  unfolding if_decoded
  stream_is = x.yields.stream_left ∙ rw ok.early_none

  pub back : (r : Returned) → r.ask ≡ read_again x n → refusal r.ask (lengths r.found) ≡ 0 → Back x r
  back r same lends =
      let asked : Ask = again x.source x.offsets x.width x.height x.samples x.map x.stream k.bytes k.fewer ok n read in
      let l = lengths r.found in
      let is : r.ask ≡ asked = same ∙ ap (λ s. ask v2 (take n s) [] x.width x.height) stream_is in
      let lent : refusal asked l ≡ 0 = rw is at lends in
      let f = x.width * x.height in
      record {
        answered = r.yields.answered ∙ rw is (answered_done x.source x.offsets x.width x.height x.samples x.map x.stream k.bytes k.fewer ok n read l lent);
        samples =
            r.yields.samples
            ∙ rw is (samples_back x.source x.offsets x.width x.height x.samples x.map x.stream k.bytes k.fewer ok n read l lent r.found.samples refl)
            ∙ ap (λ g. g ++ drop f r.found.samples) (sym samples_are);
        map = λ m q.
            r.yields.map ∙ ap (Option.map (map_after r.ask l)) q
            ∙ ap some (rw is (no_marks_back x.source x.offsets x.width x.height x.samples x.map x.stream k.bytes k.fewer ok n read l lent m).0);
        unmarked = rw is (no_marks_back x.source x.offsets x.width x.height x.samples x.map x.stream k.bytes k.fewer ok n read l lent r.found.samples).1;
      }

pub read_back : {X D : Type 0} (converts : X → Conversion) (returned : D → Returned) → ReadBack converts returned
read_back converts returned x n k r = back (converts x) n k (returned r)

-- ── Among other calls on one sample buffer ──

-- What it does to the samples: nothing, or what the direct decoder does.
unfoldable pub step : Conversion → Step
unfolding if_decoded
step x = record { found = x.samples; left = x.samples_left; below = λ b. rw x.yields.samples_left (kept b) }
  where
    c : Call
    c = call x.source x.offsets x.width x.height x.samples x.map x.stream

    plain : Returned
    plain =
        record {
          ask = c.asked;
          found = found c;
          answered = _;
          left = buffers (decoded_samples c) (some (decoded_map c)) none;
          yields = record { answered = refl; samples = refl; map = refl; scratch = refl };
        }

    kept : Samples x.samples → Samples (cond (eqb (early c) 0) (decoded_samples c) x.samples)
    kept b = by-test (eqb (early c) 0) (λ e. rw e (left_below plain b)) (λ e. rw e b)
