-- A call of the V0 writer: what it answers, and what it leaves in the buffers that are lent to it.
use Rattle.std.specs.Prelude.{ℕ, Bool, false, ◌||◌, cond, ◌≡◌, List, [], ◌∷◌, ◌++◌, length, take, drop, ltb, eqb}
use Rattle.rules.specs.declared.answer.Size.{Size}
use Rattle.rules.specs.Limits.{most_sample}
use Rattle.rules.specs.Frame.{cells}
use Rattle.rules.specs.Answer.{done, refused as early, too_large}
use Rattle.write_rules.specs.declared.Written.{Written}
use Rattle.write_rules.specs.Writer.{stream_for, offsets_for}

-- ── What is asked and lent ──

-- A size, samples, of which the first N are read, and buffers for the stream and the offsets.
pub record Call : Type 0 where
  pub size : Size
  pub samples : List ℕ
  pub stream : List ℕ
  pub offsets : List ℕ

abbrev pub call : List ℕ → ℕ → ℕ → List ℕ → List ℕ → Call
call samples w h stream offsets = record { size = record { width = w; height = h }; samples = samples; stream = stream; offsets = offsets }

-- The frame, and what it becomes.
abbrev pub frame_of : Call → List ℕ
frame_of c = take (cells c.size) c.samples

abbrev pub stream_of : Call → List ℕ
stream_of c = stream_for c.size (frame_of c)

abbrev pub offsets_of : Call → List ℕ
offsets_of c = offsets_for c.size (frame_of c)

-- ── Refusals ──

-- Whether a number of a list is above a bound.
unfoldable pub any_above : ℕ → List ℕ → Bool
any_above most [] = false
any_above most (a ∷ f) = ltb most a || any_above most f

-- 9: a sample is above the greatest that is written.
abbrev pub too_bright : List ℕ → Bool
too_bright f = any_above most_sample f

-- 10: the stream or the offsets do not fit their buffer.
unfoldable pub short_output : Call → Bool
short_output c = ltb (length c.stream) (length (stream_of c)) || ltb (length c.offsets) c.size.height

-- 1, 3 of the samples alone, 9, 10: the first that holds, or 0.
unfoldable pub write_refusal : Call → ℕ
write_refusal c =
    cond (too_large c.size) 1
    (cond (ltb (length c.samples) (cells c.size)) 3
    (cond (too_bright (frame_of c)) 9
    (cond (short_output c) 10 0)))

-- ── What a call answers ──

-- A refusal has row 0 and length 0.
abbrev pub refused : ℕ → Written
refused number = record { answer = early number; length = 0 }

-- Done comes with the stream's length in bytes.
abbrev pub written : ℕ → Written
written n = record { answer = done; length = n }

unfoldable pub write_answer : Call → Written
write_answer c = cond (eqb (write_refusal c) 0) (written (length (stream_of c))) (refused (write_refusal c))

-- ── What a call leaves ──

-- A buffer with a list at its start: what lies past it is unchanged. A refusal changes nothing.
unfoldable pub unless_refused : Call → List ℕ → List ℕ → List ℕ
unless_refused c new buffer = cond (eqb (write_refusal c) 0) (new ++ drop (length new) buffer) buffer

unfoldable pub stream_after : Call → List ℕ
stream_after c = unless_refused c (stream_of c) c.stream

unfoldable pub offsets_after : Call → List ℕ
offsets_after c = unless_refused c (offsets_of c) c.offsets

-- All that a call yields and leaves.
pub record Yields (c : Call) (r : Written) (s o : List ℕ) : Type 0 where
  pub answered : r ≡ write_answer c
  pub stream_left : s ≡ stream_after c
  pub offsets_left : o ≡ offsets_after c
