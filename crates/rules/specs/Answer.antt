-- Answers (docs/RULES.md, "Answers"): what a call answers, and what it leaves in samples, map and scratch. The three decoders'
-- contracts cite these definitions, for every input.
use Rattle.std.specs.Prelude.{ℕ, ◌-◌, ◌*◌, Bool, false, ◌||◌, cond, ◌≡◌, List, [], ◌++◌, length, drop, take, ltb, eqb}
use Rattle.std.proofs.Math.Option
use Rattle.std.proofs.Math.Option.{Option, none, some, get_or}
use Rattle.rules.specs.declared.answer.Answer.{Answer}
use Rattle.rules.specs.declared.answer.Size.{Size}
use Rattle.rules.specs.Limits.{most_side}
use Rattle.rules.specs.Frame.{cells}
use Rattle.rules.specs.V0 as V0
use Rattle.rules.specs.Phases as Phases
use Rattle.rules.specs.V2 as V2
use Rattle.rules.specs.Map as Map

-- ── A call ──

-- Done is number 0, row 0; with it goes how many words were missing.
abbrev pub done_with : ℕ → Answer
done_with n = record { number = 0; row = 0; filler = n }

abbrev pub done : Answer
done = done_with 0

-- A refusal that comes before a word is read has row 0, and no word was missing.
abbrev pub refused : ℕ → Answer
refused n = record { number = n; row = 0; filler = 0 }

-- The three decoders.
pub data Decoder : Type 0 where
  direct : Decoder
  two_phase : Decoder
  v2 : Decoder

-- What a call asks for. V2 has no offsets.
pub record Ask : Type 0 where
  pub decoder : Decoder
  pub stream : List ℕ
  pub offsets : List ℕ
  pub size : Size

abbrev pub ask : Decoder → List ℕ → List ℕ → ℕ → ℕ → Ask
ask d s offsets w h = record { decoder = d; stream = s; offsets = offsets; size = record { width = w; height = h } }

-- The lengths of what a call is lent: samples, a map or none, and scratch.
pub record Lent : Type 0 where
  pub samples : ℕ
  pub map : Option ℕ
  pub scratch : ℕ

abbrev pub lent : ℕ → Option ℕ → ℕ → Lent
lent samples map scratch = record { samples = samples; map = map; scratch = scratch }

-- ── Refusals 1 to 4 ──

-- 1: width or height above the limit.
unfoldable pub too_large : Size → Bool
too_large z = ltb most_side z.width || ltb most_side z.height

-- 2: in V2 height below 1 or width below 32.
unfoldable pub too_small : Decoder → Size → Bool
too_small direct z = false
too_small two_phase z = false
too_small v2 z = ltb z.height 1 || ltb z.width 32

-- 3: fewer than N samples lent, or in V0 fewer offsets than height.
unfoldable pub short_offsets : Decoder → List ℕ → Size → Bool
short_offsets direct offsets z = ltb (length offsets) z.height
short_offsets two_phase offsets z = ltb (length offsets) z.height
short_offsets v2 offsets z = false

unfoldable pub short_samples : Ask → Lent → Bool
short_samples a l = ltb l.samples (cells a.size) || short_offsets a.decoder a.offsets a.size

-- 4: a map shorter than N bytes, or two-phase scratch shorter than one byte for each block of rows 2 on.
unfoldable pub short_map : Option ℕ → Size → Bool
short_map none z = false
short_map (some n) z = ltb n (cells z)

abbrev pub scratch_bytes : Size → ℕ
scratch_bytes z = V0.blocks_in z.width * (z.height - 2)

unfoldable pub short_scratch : Decoder → ℕ → Size → Bool
short_scratch direct n z = false
short_scratch two_phase n z = ltb n (scratch_bytes z)
short_scratch v2 n z = false

-- They are tested in number order: the first that holds, or 0.
unfoldable pub first_of : Bool → Bool → Bool → Bool → ℕ
first_of t1 t2 t3 t4 = cond t1 1 (cond t2 2 (cond t3 3 (cond t4 4 0)))

unfoldable pub refusal : Ask → Lent → ℕ
refusal a l =
    first_of (too_large a.size) (too_small a.decoder a.size) (short_samples a l)
    (short_map l.map a.size || short_scratch a.decoder l.scratch a.size)

-- ── What a call answers ──

-- What the stream answers once 1 to 4 are passed: V0 is always done, and its direct decoder alone counts missing words; V2 may
-- meet 5 to 8.
unfoldable pub stream_answer : Decoder → List ℕ → List ℕ → Size → Answer
stream_answer direct s offsets z = done_with (V0.frame_filler s offsets z)
stream_answer two_phase s offsets z = done
stream_answer v2 s offsets z = (V2.read_frame s z).answer

unfoldable pub answer : Ask → Lent → Answer
answer a l =
    cond (eqb (refusal a l) 0) (stream_answer a.decoder a.stream a.offsets a.size) (refused (refusal a l))

-- ── What a call leaves ──

-- The frame's samples, decoded over the old ones.
unfoldable pub frame_samples : Decoder → List ℕ → List ℕ → Size → List ℕ → List ℕ
frame_samples direct s offsets z f = V0.decoded s offsets z f
frame_samples two_phase s offsets z f = Phases.two_phase s offsets z f
frame_samples v2 s offsets z f = V2.decoded s z f

-- The frame's map by the rules, whether one is lent or not; the two-phase decoder is lent none, and its samples are the direct one's.
unfoldable pub frame_marks : Decoder → List ℕ → List ℕ → Size → List ℕ
frame_marks direct s offsets z = Map.v0_map s offsets z
frame_marks two_phase s offsets z = Map.v0_map s offsets z
frame_marks v2 s offsets z = Map.v2_map s z

abbrev pub marks : Ask → List ℕ
marks a = frame_marks a.decoder a.stream a.offsets a.size

-- The frame's direction bytes: the two-phase decoder alone has scratch.
unfoldable pub frame_scratch : Decoder → List ℕ → List ℕ → Size → List ℕ
frame_scratch direct s offsets z = []
frame_scratch two_phase s offsets z = Phases.scratch s offsets z
frame_scratch v2 s offsets z = []

-- Refusals 1 to 4 leave a buffer as it was.
unfoldable pub unless_refused : Ask → Lent → List ℕ → List ℕ → List ℕ
unless_refused a l new old = cond (eqb (refusal a l) 0) new old

-- The samples; those from N on never change. Under 5 to 7 the blocks before the one at fault are written, under 8 its row too.
unfoldable pub samples_after : Ask → Lent → List ℕ → List ℕ
samples_after a l buffer =
    let n = cells a.size in
    let new = frame_samples a.decoder a.stream a.offsets a.size (take n buffer) in
    unless_refused a l (new ++ drop n buffer) buffer

-- The map, where one is lent: its first N bytes describe the samples as left, the others never change.
unfoldable pub map_after : Ask → Lent → List ℕ → List ℕ
map_after a l buffer = unless_refused a l (marks a ++ drop (cells a.size) buffer) buffer

-- The scratch: a direction byte for each block of rows 2 on; its further bytes never change.
unfoldable pub scratch_after : Ask → Lent → List ℕ → List ℕ
scratch_after a l buffer =
    let new = frame_scratch a.decoder a.stream a.offsets a.size in
    unless_refused a l (new ++ drop (length new) buffer) buffer

-- ── A call that has returned ──

-- The buffers of a call, as it finds or leaves them: samples, and map and scratch where they are lent.
pub record Buffers : Type 0 where
  pub samples : List ℕ
  pub map : Option (List ℕ)
  pub scratch : Option (List ℕ)

abbrev pub buffers : List ℕ → Option (List ℕ) → Option (List ℕ) → Buffers
buffers samples map scratch = record { samples = samples; map = map; scratch = scratch }

-- Their lengths. Scratch that is not lent has none.
abbrev pub lengths : Buffers → Lent
lengths b = lent (length b.samples) (Option.map length b.map) (length (get_or b.scratch []))

-- The outcome of a call that asks a: over the buffers that it found it answers r and leaves others, all by the rules. It is what the
-- contract of a decoder's entry says.
pub record Yields (a : Ask) (found : Buffers) (r : Answer) (left : Buffers) : Type 0 where
  pub answered : r ≡ answer a (lengths found)
  pub samples : left.samples ≡ samples_after a (lengths found) found.samples
  pub map : left.map ≡ Option.map (map_after a (lengths found)) found.map
  pub scratch : left.scratch ≡ Option.map (scratch_after a (lengths found)) found.scratch
