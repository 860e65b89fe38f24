-- No earlier frame reaches a sample that is marked 0.
--
-- A worker decodes frame after frame into one sample buffer. Take every two lists of calls, of any decoders, refused ones among
-- them, each list on one buffer: a call is lent the buffer, or the part of it that starts at its first sample, as the call before
-- left it, and nobody else writes it. What the buffers first held is free, and so is what maps and scratch hold at entry. If the
-- last calls of the two lists are alike (in decoder, stream, offsets, size and the lengths of what they are lent) and both end
-- with done or 5 to 8, then their answers are equal, with the count of missing words; the maps' first N bytes are the rules', whole,
-- which stream, offsets and size alone set; by the first part of its byte a sample is marked 0 or 1: every one of the first N
-- samples that is marked 0 is equal; and in V0 a sample marked 1 is the sample that the call
-- found at one position plus an amount, modulo 65,536, both set by stream, offsets and size alone.
-- Nothing is said of samples marked 1 in V2, of what lies past N, or of calls that end with 1 to 4: those change nothing.
use Prim.Native.Nat.{ℕ, ◌+◌, ◌%◌, ◌<◌, ◌≤◌}
use mathlib.Core.Path.{◌≡◌, refl, sym, ap, ◌∙◌, subst}
use mathlib.Core.Logic.{◌⊎◌, inl, inr}
use mathlib.Core.List.{List, ◌++◌}
use mathlib.Core.Option
use mathlib.Core.Option.{Option, none, some, some-injective, some-ne-none}
use native.Mathlib.Omega.{arith}
use lib.ListN.{length, get_or, take, drop, get_or-append}
use lib.Dec.{eqb}
use lib.Seq.{length-take-le, get_or-take, take_at, drop_at}
use borrow.Author.Tests.{eqb-true}
use Rattle.rules.specs.declared.answer.Answer.{Answer}
use Rattle.rules.specs.declared.answer.Size.{Size}
use Rattle.rules.specs.Frame.{cells}
use Rattle.rules.specs.Map.{old_part, stream, origins, position, amount}
use Rattle.rules.specs.Answer.{Decoder, direct, two_phase, v2, Ask, Buffers, lengths, Yields, answer, refusal, marks, frame_samples, frame_marks, stream_answer, samples_after, map_after, unless_refused}
use Rattle.rules.proofs.Cells.{All, all_append, all_take, all_drop}
use Rattle.rules.proofs.Refusals.{passed, answer_passed, samples_enough}
use Rattle.rules.proofs.V0Cells as V0Cells
use Rattle.rules.proofs.V2Cells as V2Cells
use Rattle.rules.proofs.Origins.{position_below, marked_value, unmarked_same}
use Rattle.rules.proofs.V2Fixed.{v2_unmarked_same}
use Rattle.rules.proofs.TwoPhase.{two_phase_direct, two_phase_below}
use Rattle.rules.proofs.Tests.{by-test}

-- ── The statement ──

-- A call that has returned: what it asked, its buffers as it found them, what it answered, and its buffers as it left them, by the
-- rules.
pub record Returned : Type 0 where
  pub ask : Ask
  pub found : Buffers
  pub answered : Answer
  pub left : Buffers
  pub yields : Yields ask found answered left

-- Samples are 16-bit numbers.
abbrev pub Samples : List ℕ → Type 0
Samples b = All (λ v. v < 65_536) b

-- What a call that writes a sample buffer, a decoder's or another, finds there and leaves there: 16-bit samples, if it found such.
pub record Step : Type 0 where
  pub found : List ℕ
  pub left : List ℕ
  pub below : Samples found → Samples left

-- Calls one after another on a buffer, which they take from what it first held to what it holds now.
pub data Calls {C : Type 0} (step : C → Step) (first : List ℕ) : List ℕ → Type 0 where
  start : Calls step first first
  call : {now : List ℕ} → Calls step first now → (c : C) (rest : List ℕ) → now ≡ (step c).found ++ rest
      → Calls step first ((step c).left ++ rest)

-- Two calls that are alike in all but what their buffers hold. Where only one is lent a map, the decoder is the same.
pub record Alike (c d : Returned) : Type 0 where
  pub ask : c.ask ≡ d.ask
  pub samples : (lengths c.found).samples ≡ (lengths d.found).samples
  pub scratch : (lengths c.found).scratch ≡ (lengths d.found).scratch
  pub map : (m n : List ℕ) → c.found.map ≡ some m → d.found.map ≡ some n → length m ≡ length n

-- Done, or 5 to 8.
abbrev pub Ran : Answer → Type 0
Ran a = (a.number ≡ 0) ⊎ ((5 ≤ a.number) × (a.number ≤ 8))

pub data IsV0 : Decoder → Type 0 where
  is_direct : IsV0 direct
  is_two_phase : IsV0 two_phase

-- The mark, the position and the amount of sample i of a frame.
abbrev pub mark_of : Ask → ℕ → ℕ
mark_of a i = old_part (get_or (marks a) i 0)

abbrev pub position_of : Ask → ℕ → ℕ
position_of a i = position (get_or (origins a.stream a.offsets a.size) i (stream 0))

abbrev pub amount_of : Ask → ℕ → ℕ
amount_of a i = amount (get_or (origins a.stream a.offsets a.size) i (stream 0))

-- What one call says of the frame's samples, by its marks.
pub record Marked (c : Returned) : Type 0 where
  pub bytes : (m : List ℕ) → c.left.map ≡ some m → take (cells c.ask.size) m ≡ marks c.ask
  pub old : IsV0 c.ask.decoder → (i : ℕ) → i < cells c.ask.size → mark_of c.ask i ≡ 1
      → (position_of c.ask i < cells c.ask.size)
      × (get_or c.left.samples i 0 ≡ (get_or c.found.samples (position_of c.ask i) 0 + amount_of c.ask i) % 65_536)

-- What two alike calls have in common.
pub record Same (c d : Returned) : Type 0 where
  pub answers : c.answered ≡ d.answered
  pub marks_c : Marked c
  pub marks_d : Marked d
  pub marks : marks c.ask ≡ marks d.ask
  pub samples : (i : ℕ) → i < cells c.ask.size → mark_of c.ask i ≡ 0
      → get_or c.left.samples i 0 ≡ get_or d.left.samples i 0

-- The claim: of every two lists of calls, told by their steps, whose last calls c and d are decoders' and have returned.
abbrev pub Isolation : {C D : Type 0} → (C → Step) → (D → Returned) → Type 0
Isolation {C} {D} step returned =
    (b b' x y : List ℕ) → Samples b → Samples b' → Calls step b x → Calls step b' y
    → (c d : D) (rest rest' : List ℕ) → x ≡ (returned c).found.samples ++ rest → y ≡ (returned d).found.samples ++ rest'
    → Alike (returned c) (returned d) → Ran (returned c).answered → Ran (returned d).answered → Same (returned c) (returned d)

-- ── What a decoder's frame keeps and rests on ──

module _ (s offsets : List ℕ) (z : Size) where
  frame_length : (k : Decoder) (f : List ℕ) → length (frame_samples k s offsets z f) ≡ length f
  unfolding frame_samples
  frame_length direct f = V0Cells.decoded_length s offsets z f
  frame_length two_phase f = V0Cells.two_phase_length s offsets z f
  frame_length v2 f = V2Cells.decoded_length s z f

  marks_length : (k : Decoder) → length (frame_marks k s offsets z) ≡ cells z
  unfolding frame_marks
  marks_length direct = V0Cells.v0_map_length s offsets z
  marks_length two_phase = V0Cells.v0_map_length s offsets z
  marks_length v2 = V2Cells.v2_map_length s z

  frame_below : (k : Decoder) (f : List ℕ) → length f ≡ cells z → Samples f → Samples (frame_samples k s offsets z f)
  unfolding frame_samples
  frame_below direct f e b = V0Cells.decoded_below s offsets z b
  frame_below two_phase f e b = two_phase_below s offsets z e b
  frame_below v2 f e b = V2Cells.decoded_below s z b

  -- A sample marked 0 is the same over every two old frames.
  frame_same : (k : Decoder) (f g : List ℕ) → length f ≡ cells z → length g ≡ cells z → Samples f → Samples g → (i : ℕ)
      → old_part (get_or (frame_marks k s offsets z) i 0) ≡ 0 → get_or (frame_samples k s offsets z f) i 0 ≡ get_or (frame_samples k s offsets z g) i 0
  unfolding frame_samples frame_marks
  frame_same direct f g e e' b b' i m = unmarked_same s offsets z f e b i g e' b' m
  frame_same two_phase f g e e' b b' i m =
      rw (two_phase_direct s offsets z f e, two_phase_direct s offsets z g e')
      (unmarked_same s offsets z f e b i g e' b' m)
  frame_same v2 f g e e' b b' i m = v2_unmarked_same s z f g e e' i m

  -- In V0 a sample marked 1 is the old value at its position plus its amount.
  abbrev Old : ℕ → List ℕ → ℕ → Type 0
  Old v f i =
      (position (get_or (origins s offsets z) i (stream 0)) < cells z)
      × (v ≡ (get_or f (position (get_or (origins s offsets z) i (stream 0))) 0 + amount (get_or (origins s offsets z) i (stream 0))) % 65_536)

  frame_old : (k : Decoder) → IsV0 k → (f : List ℕ) → length f ≡ cells z → Samples f → (i : ℕ)
      → old_part (get_or (frame_marks k s offsets z) i 0) ≡ 1 → Old (get_or (frame_samples k s offsets z f) i 0) f i
  unfolding frame_samples frame_marks
  frame_old direct is_direct f e b i m = (position_below s offsets z i m, marked_value s offsets z f e b i m)
  frame_old two_phase is_two_phase f e b i m =
      rw (two_phase_direct s offsets z f e) (position_below s offsets z i m, marked_value s offsets z f e b i m)
  frame_old v2 x f e b i m = elim x [ ]

-- ── A call that ran ──

-- What holds of each f m holds of what f makes of a map that is lent.
of_lent : (P : List ℕ → Type 0) (f : List ℕ → List ℕ) → ((m : List ℕ) → P (f m)) → (o : Option (List ℕ)) (m : List ℕ) → some m ≡ Option.map f o → P m
of_lent P f h none m e = absurd (some-ne-none m e)
of_lent P f h (some x) m e = subst P (sym (some-injective m (f x) e)) (h x)

module _ (c : Returned) where
  abbrev pub n : ℕ
  n = cells c.ask.size

  -- The frame that the call decoded, and the one that it found.
  abbrev pub frame : List ℕ → List ℕ
  frame f = frame_samples c.ask.decoder c.ask.stream c.ask.offsets c.ask.size f

  abbrev pub before : List ℕ
  before = take n c.found.samples

  module _ (ok : refusal c.ask (lengths c.found) ≡ 0) where
    pub before_length : length before ≡ n
    before_length = length-take-le n c.found.samples (samples_enough c.ask (lengths c.found) ok)

    frame_long : length (frame before) ≡ n
    frame_long = frame_length c.ask.stream c.ask.offsets c.ask.size c.ask.decoder before ∙ before_length

    left_framed : c.left.samples ≡ frame before ++ drop n c.found.samples
    unfolding samples_after unless_refused
    left_framed = c.yields.samples ∙ rw ok

    pub sample_framed : (i : ℕ) → i < n → get_or c.left.samples i 0 ≡ get_or (frame before) i 0
    sample_framed i l = rw left_framed (get_or-append (frame before) (drop n c.found.samples) 0 i (omega (arith, frame_long)))

    -- The first N bytes of a map are the rules' marks.
    pub map_marked : (m : List ℕ) → c.left.map ≡ some m → take n m ≡ marks c.ask
    unfolding map_after unless_refused
    map_marked m e = of_lent (λ x. take n x ≡ marks c.ask) (map_after c.ask (lengths c.found)) first c.found.map m (sym e ∙ c.yields.map)
      where
        first : (x : List ℕ) → take n (map_after c.ask (lengths c.found) x) ≡ marks c.ask
        first x = rw ok (take_at (marks c.ask) (drop n x) n (marks_length c.ask.stream c.ask.offsets c.ask.size c.ask.decoder))

    marked : Samples c.found.samples → Marked c
    marked b =
        record {
          bytes = map_marked;
          old = λ v i l m.
              let p = frame_old c.ask.stream c.ask.offsets c.ask.size c.ask.decoder v before before_length (all_take (λ x. x < 65_536) n b) i m in
              (p.0, sample_framed i l ∙ p.1 ∙ ap (λ x. (x + amount_of c.ask i) % 65_536) (get_or-take n c.found.samples (position_of c.ask i) 0 p.0));
        }

-- A call that ends with done or 5 to 8 passed the tests of 1 to 4.
pub ran_passed : (c : Returned) → Ran c.answered → refusal c.ask (lengths c.found) ≡ 0
ran_passed c r = passed c.ask (lengths c.found) (rw c.yields.answered at (late r))
  where
    late : Ran c.answered → (c.answered.number ≡ 0) ⊎ (5 ≤ c.answered.number)
    late (inl e) = inl e
    late (inr p) = inr p.0

-- ── The list ──

-- A decoder's call leaves 16-bit samples.
pub left_below : (c : Returned) → Samples c.found.samples → Samples c.left.samples
unfolding samples_after unless_refused
left_below c b = rw c.yields.samples (by-test (eqb (refusal c.ask (lengths c.found)) 0)
    (λ e. rw e (let ok = eqb-true (refusal c.ask (lengths c.found)) 0 e in
    all_append (λ x. x < 65_536)
    (frame_below c.ask.stream c.ask.offsets c.ask.size c.ask.decoder (before c) (before_length c ok) (all_take (λ x. x < 65_536) (n c) b))
    (all_drop (λ x. x < 65_536) (n c) b)))
    (λ e. rw e b))

-- What it does to the sample buffer.
abbrev pub decodes : Returned → Step
decodes c = record { found = c.found.samples; left = c.left.samples; below = left_below c }

-- What a call is lent is the buffer's, and the rest stays.
part_below : {x : List ℕ} (f rest : List ℕ) → x ≡ f ++ rest → Samples x → Samples f × Samples rest
part_below f rest e b =
    let q = rw e at b in
    (rw (take_at f rest (length f) refl) at (all_take (λ x. x < 65_536) (length f) q), rw (drop_at f rest (length f) refl) at (all_drop (λ x. x < 65_536) (length f) q))

calls_below : {C : Type 0} (step : C → Step) {b x : List ℕ} → Samples b → Calls step b x → Samples x
calls_below step h start = h
calls_below step h (call cs c rest e) =
    let q = part_below (step c).found rest e (calls_below step h cs) in
    all_append (λ x. x < 65_536) ((step c).below q.0) q.1

-- ── The claim ──

-- Of two calls on 16-bit samples, whatever led to them.
same : (c d : Returned) → Samples c.found.samples → Samples d.found.samples → Alike c d → Ran c.answered → Ran d.answered → Same c d
same c d below below' alike ran ran' =
    record {
      answers = c.yields.answered ∙ answer_passed c.ask (lengths c.found) ok ∙ ap (λ a. stream_answer a.decoder a.stream a.offsets a.size) alike.ask
          ∙ sym (d.yields.answered ∙ answer_passed d.ask (lengths d.found) ok');
      marks_c = marked c ok below;
      marks_d = marked d ok' below';
      marks = ap marks alike.ask;
      samples = λ i l m.
          sample_framed c ok i l
          ∙ frame_same c.ask.stream c.ask.offsets c.ask.size c.ask.decoder (before c) (take (n c) d.found.samples) (before_length c ok) as_long
          (all_take (λ x. x < 65_536) (n c) below) (all_take (λ x. x < 65_536) (n c) below') i m
          ∙ ap (λ a. get_or (frame_samples a.decoder a.stream a.offsets a.size (take (cells a.size) d.found.samples)) i 0) alike.ask
          ∙ sym (sample_framed d ok' i (subst (λ a. i < cells a.size) alike.ask l));
    }
  where
    ok : refusal c.ask (lengths c.found) ≡ 0
    ok = ran_passed c ran

    ok' : refusal d.ask (lengths d.found) ≡ 0
    ok' = ran_passed d ran'

    as_long : length (take (n c) d.found.samples) ≡ n c
    as_long = length-take-le (n c) d.found.samples (let q = samples_enough c.ask (lengths c.found) ok in omega (arith, alike.samples))

pub isolation : {C D : Type 0} (step : C → Step) (returned : D → Returned) → Isolation step returned
isolation step returned b b' x y h h' cs ds c d rest rest' e e' alike ran ran' =
    same (returned c) (returned d) (part_below (returned c).found.samples rest e (calls_below step h cs)).0
    (part_below (returned d).found.samples rest' e' (calls_below step h' ds)).0 alike ran ran'

-- Where both calls or neither lend a map, the first's ending is the second's.
pub ran_alike : (c d : Returned) → Alike c d → (lengths c.found).map ≡ (lengths d.found).map → Ran c.answered → Ran d.answered
ran_alike c d alike maps ran = subst Ran (c.yields.answered ∙ same_answer ∙ sym d.yields.answered) ran
  where
    same_answer : answer c.ask (lengths c.found) ≡ answer d.ask (lengths d.found)
    same_answer = λ i. answer (alike.ask i) (record { samples = alike.samples i; map = maps i; scratch = alike.scratch i })
