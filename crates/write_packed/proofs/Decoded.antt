-- A proposal that is taken is decoded, by every V0 decoder and over any buffer, to the samples meant, with no word missing and a map
-- that is all 0: its frame is clean, so nothing of it rests on what a buffer held.
use Prim.Native.Nat.{ℕ, zero, suc, ◌%◌, ◌<◌, ◌≤◌}
use mathlib.Core.Path.{◌≡◌, refl, sym, ap, ◌∙◌}
use mathlib.Core.List.{List, ◌++◌}
use lib.Dec.{eqb}
use lib.ListN.{length, get_or, take, drop, replicate}
use lib.Seq.{length-take-le, ext_get_or}
use borrow.Author.Tests.{eqb-true}
use Rattle.rules.specs.declared.answer.Size.{Size}
use Rattle.rules.specs.Frame.{cells}
use Rattle.rules.specs.V0.{decoded}
use Rattle.rules.specs.Map.{v0_map}
use Rattle.rules.specs.Answer as Plain
use Rattle.rules.specs.Answer.{Decoder, direct, two_phase, v2, Ask, Lent, done_with, done, refusal, stream_answer, frame_samples, frame_marks, unless_refused, samples_after, map_after}
use Rattle.rules.proofs.Cells.{all_take}
use Rattle.rules.proofs.Isolation.{Samples, IsV0, is_direct, is_two_phase}
use Rattle.rules.proofs.Origins.{unmarked_same}
use Rattle.rules.proofs.Refusals.{samples_enough}
use Rattle.rules.proofs.TwoPhase.{two_phase_direct}
use Rattle.rules.proofs.V0Cells.{decoded_length}
use Rattle.rules_clean.specs.Clean as Clean
use Rattle.rules_clean.proofs.Calls.{taken_done}
use Rattle.rules_clean.proofs.Verdicts.{Clean, clean_map}
use Rattle.write_packed.specs.Proposal.{Proposal, frame_of, asked, before, answer}
use Rattle.write_packed.proofs.Exactly.{Begun, begun, Accepted, frame_is}
use Rattle.rules.proofs.Tests.{by-test}

zero_at : (n i : ℕ) → ◌≡◌ {A = ℕ} (get_or (replicate n 0) i 0) 0
zero_at zero i = refl
zero_at (suc n) zero = refl
zero_at (suc n) (suc i) = zero_at n i

-- A clean frame is the same over every two buffers.
clean_same : (s offsets : List ℕ) (z : Size) → Clean s offsets z → (f g : List ℕ) → length f ≡ cells z → length g ≡ cells z → Samples f → Samples g
    → decoded s offsets z f ≡ decoded s offsets z g
clean_same s offsets z c f g e e' low low' =
    ext_get_or 0 (decoded s offsets z f) (decoded s offsets z g) (decoded_length s offsets z f ∙ e ∙ sym (decoded_length s offsets z g ∙ e'))
    (λ i l. unmarked_same s offsets z f e low i g e' low' (ap (λ m. get_or m i 0 % 2) (clean_map s offsets z c) ∙ ap (λ x. x % 2) (zero_at (cells z) i)))

-- ── What the verdict rests on ──

-- The answer is the same whatever the scratch held.
pub answer_alone : (p : Proposal) (f g : List ℕ) → length f ≡ length g → Samples f → Samples g → answer p f ≡ answer p g
unfolding answer
answer_alone p f g e low low' =
    by-test (eqb (before p (length f)).number 0)
    (λ q. let n = cells p.size in
    let b = begun p (length f) (eqb-true _ 0 q) in
    let b' : Begun p (length g) = rw e at b in
    let frames = clean_same p.stream p.offsets p.size b.clean (take n f) (take n g)
    (length-take-le n f b.scratch_enough) (length-take-le n g b'.scratch_enough) (all_take (λ v. v < 65_536) n low) (all_take (λ v. v < 65_536) n low') in
    rw (frame_is p f b, frame_is p g b', frames, e))
    (λ q. rw (q, ← e, q))

-- ── What is taken is decoded back ──

-- A proposal, asked of one of the V0 decoders.
abbrev pub asked_of : Decoder → Proposal → Ask
asked_of d p = record { decoder = d; stream = p.stream; offsets = p.offsets; size = p.size }

module _ (p : Proposal) (scratch : List ℕ) (low : Samples scratch) (a : Accepted p scratch) where
  clean : Clean p.stream p.offsets p.size
  clean = a.begun.clean

  marks_0 : v0_map p.stream p.offsets p.size ≡ replicate (cells p.size) 0
  marks_0 = clean_map p.stream p.offsets p.size clean

  -- Over any buffer.
  pub decoded_back : (old : List ℕ) → length old ≡ cells p.size → Samples old → decoded p.stream p.offsets p.size old ≡ frame_of p
  decoded_back old e below =
      let n = cells p.size in
      clean_same p.stream p.offsets p.size clean old (take n scratch) e (length-take-le n scratch a.begun.scratch_enough) below (all_take (λ v. v < 65_536) n low)
      ∙ a.frame

  -- ── By the decoders ──

  samples_of : (d : Decoder) → IsV0 d → (old : List ℕ) → length old ≡ cells p.size → Samples old
      → frame_samples d p.stream p.offsets p.size old ≡ frame_of p
  unfolding frame_samples
  samples_of direct is_direct old e below = decoded_back old e below
  samples_of two_phase is_two_phase old e below = two_phase_direct p.stream p.offsets p.size old e ∙ decoded_back old e below
  samples_of v2 v0 old e below = elim v0 [ ]

  marks_of : (d : Decoder) → IsV0 d → frame_marks d p.stream p.offsets p.size ≡ replicate (cells p.size) 0
  unfolding frame_marks
  marks_of direct is_direct = marks_0
  marks_of two_phase is_two_phase = marks_0
  marks_of v2 v0 = elim v0 [ ]

  answer_of : (d : Decoder) → IsV0 d → stream_answer d p.stream p.offsets p.size ≡ done
  unfolding stream_answer
  answer_of direct is_direct = ap done_with clean.no_filler
  answer_of two_phase is_two_phase = refl
  answer_of v2 v0 = elim v0 [ ]

  module _ (d : Decoder) (v0 : IsV0 d) (l : Lent) (lends : refusal (asked_of d p) l ≡ 0) where
    pub answered_done : Plain.answer (asked_of d p) l ≡ done
    unfolding Plain.answer
    answered_done = rw lends (answer_of d v0)

    pub samples_back : (buffer : List ℕ) → length buffer ≡ l.samples → Samples buffer
        → samples_after (asked_of d p) l buffer ≡ frame_of p ++ drop (cells p.size) buffer
    unfolding samples_after unless_refused
    samples_back buffer e below =
        let n = cells p.size in
        let room : n ≤ length buffer = rw e (samples_enough (asked_of d p) l lends) in
        rw lends (ap (λ f. f ++ drop n buffer) (samples_of d v0 (take n buffer) (length-take-le n buffer room) (all_take (λ v. v < 65_536) n below)))

    pub map_back : (m : List ℕ) → map_after (asked_of d p) l m ≡ replicate (cells p.size) 0 ++ drop (cells p.size) m
    unfolding map_after unless_refused
    map_back m = rw lends (ap (λ x. x ++ drop (cells p.size) m) (marks_of d v0))

  -- The decoder for clean frames takes it.
  pub clean_done : (l : Lent) → refusal (asked p) l ≡ 0 → Clean.answer (asked p) l ≡ done
  clean_done l lends = taken_done (asked p) l (record { passed = lends; clean = clean })
