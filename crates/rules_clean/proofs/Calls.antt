-- A call for clean frames that is done yields what the plain call yields, with a map that is all 0 and no word missing; a call that is
-- refused leaves all as it was.
use Prim.Native.Nat.{ℕ}
use mathlib.Core.Bool.{cond}
use mathlib.Core.Path.{◌≡◌, refl, sym, ap, ◌∙◌}
use mathlib.Core.Logic.{◌≢◌}
use mathlib.Core.List.{List, ◌++◌}
use mathlib.Core.Option
use mathlib.Core.Option.{Option, none, some}
use lib.Dec.{eqb}
use lib.ListN.{length, take, drop, replicate, take-append-drop}
use lib.Seq.{length-take-le}
use borrow.Author.Tests.{eqb-true, eqb-false, eq-eqb, ne_eqb}
use Rattle.rules.specs.declared.answer.Answer.{Answer}
use Rattle.rules.specs.Frame.{cells}
use Rattle.rules.specs.V0.{decoded}
use Rattle.rules.specs.Answer as Plain
use Rattle.rules.proofs.Refusals.{map_enough}
use Rattle.rules.proofs.Tests.{by-test}
use Rattle.rules_clean.specs.Verdict.{verdict}
use Rattle.rules_clean.specs.Clean.{answer, taken, samples_after, map_after, Yields}
use Rattle.rules_clean.proofs.Verdicts.{Clean, accepted_clean, clean_accepted, clean_map}

module _ (a : Plain.Ask) (l : Plain.Lent) where
  -- ── Numbers ──

  -- A refusal of the plain call's is this call's; else the verdict is.
  pub answer_refused : (k : ℕ) → Plain.refusal a l ≡ k → k ≢ 0 → answer a l ≡ Plain.refused k
  unfolding answer
  answer_refused k e ne = rw (e, ne_eqb k 0 ne)

  pub answer_verdict : Plain.refusal a l ≡ 0 → answer a l ≡ verdict a.stream a.offsets a.size
  unfolding answer
  answer_verdict e = rw e

  -- Done: the plain call's refusals are passed, and the frame is clean.
  pub record Taken : Type 0 where
    pub passed : Plain.refusal a l ≡ 0
    pub clean : Clean a.stream a.offsets a.size

  pub done_taken : (answer a l).number ≡ 0 → Taken
  unfolding answer
  done_taken =
      by-test (eqb (Plain.refusal a l) 0)
      (λ q. rw q (λ e. record { passed = eqb-true _ 0 q; clean = accepted_clean a.stream a.offsets a.size e }))
      (λ q. rw q (λ e. absurd (eqb-false _ 0 q e)))

  -- A clean frame is taken, once the plain call's refusals are passed.
  pub taken_done : Taken → answer a l ≡ Plain.done
  taken_done t = answer_verdict t.passed ∙ clean_accepted a.stream a.offsets a.size t.clean

  -- ── What is left ──

  module _ (done : (answer a l).number ≡ 0) where
    pub samples_plain : (buffer : List ℕ) → samples_after a l buffer ≡ Plain.samples_after a l buffer
    unfolding samples_after
    samples_plain buffer = rw (eq-eqb (answer a l).number 0 done)

    pub map_plain : (buffer : List ℕ) → map_after a l buffer ≡ Plain.map_after a l buffer
    unfolding map_after
    map_plain buffer = rw (eq-eqb (answer a l).number 0 done)

    -- The direct decoder's answer is done, with no word missing.
    pub answer_plain : a.decoder ≡ Plain.direct → answer a l ≡ Plain.answer a l
    unfolding Plain.answer Plain.stream_answer
    answer_plain e = let t = done_taken done in taken_done t ∙ rw (t.passed, e, t.clean.no_filler)

    -- The map that the direct decoder leaves is all 0.
    pub map_all_0 : a.decoder ≡ Plain.direct → (buffer : List ℕ) → map_after a l buffer ≡ replicate (cells a.size) 0 ++ drop (cells a.size) buffer
    unfolding Plain.map_after Plain.unless_refused Plain.frame_marks
    map_all_0 e buffer =
        let t = done_taken done in
        map_plain buffer ∙ rw (t.passed, e, clean_map a.stream a.offsets a.size t.clean)

  module _ (refused : (answer a l).number ≢ 0) where
    pub samples_kept : (buffer : List ℕ) → samples_after a l buffer ≡ buffer
    unfolding samples_after
    samples_kept buffer = rw (ne_eqb (answer a l).number 0 refused)

    pub map_kept : (buffer : List ℕ) → map_after a l buffer ≡ buffer
    unfolding map_after
    map_kept buffer = rw (ne_eqb (answer a l).number 0 refused)

-- ── What a call yields ──

-- Done: what the plain call yields over the same buffers.
pub yields_plain : (a : Plain.Ask) → a.decoder ≡ Plain.direct → (samples left : List ℕ) (map left_map : Option (List ℕ)) (r : Answer) → r.number ≡ 0
    → Yields a (Plain.buffers samples map none) r (Plain.buffers left left_map none)
    → Plain.Yields a (Plain.buffers samples map none) r (Plain.buffers left left_map none)
yields_plain a e samples left map left_map r done y =
    record {
      answered = y.answered ∙ answer_plain a l here e;
      samples = y.samples ∙ samples_plain a l here samples;
      map = y.map ∙ same map;
      scratch = refl;
    }
  where
    l : Plain.Lent
    l = Plain.lengths (Plain.buffers samples map none)

    here : (answer a l).number ≡ 0
    here = sym (ap (λ v. v.number) y.answered) ∙ done

    same : (m : Option (List ℕ)) → Option.map (map_after a l) m ≡ Option.map (Plain.map_after a l) m
    same none = refl
    same (some m) = ap some (map_plain a l here m)

-- ── What an entry owes ──

-- What leaves every buffer as it was leaves one that may not be lent as it was.
pub lent_kept : (f : List ℕ → List ℕ) → ((m : List ℕ) → f m ≡ m) → (o : Option (List ℕ)) → o ≡ Option.map f o
lent_kept f h none = refl
lent_kept f h (some m) = ap some (sym (h m))

-- A refusal of the plain call leaves all as it was.
kept_yields : (a : Plain.Ask) (found : Plain.Buffers) (r : Answer) → r ≡ answer a (Plain.lengths found) → r.number ≢ 0 → Yields a found r found
kept_yields a found r e ne =
    let l = Plain.lengths found in
    let refused : (answer a l).number ≢ 0 = λ q. ne (ap (λ v. v.number) e ∙ q) in
    record {
      answered = e;
      samples = sym (samples_kept a l refused found.samples);
      map = lent_kept (map_after a l) (λ m. map_kept a l refused m) found.map;
    }

pub refused_yields : (a : Plain.Ask) (found : Plain.Buffers) (k : ℕ) → Plain.refusal a (Plain.lengths found) ≡ k → k ≢ 0 → (r : Answer) → r ≡ Plain.refused k
    → Yields a found r found
refused_yields a found k e ne r q =
    kept_yields a found r (q ∙ sym (answer_refused a (Plain.lengths found) k e ne)) (λ z. ne (sym (ap (λ v. v.number) q) ∙ z))

-- A fault leaves all as it was. Else the frame's samples are the first of their buffer, and the first bytes of a map are 0.
module _ (a : Plain.Ask) (direct : a.decoder ≡ Plain.direct) (l : Plain.Lent) (ok : Plain.refusal a l ≡ 0) (r : Answer) (e : r ≡ verdict a.stream a.offsets a.size) where
  pub checked_answer : r ≡ answer a l
  checked_answer = e ∙ sym (answer_verdict a l ok)

  plain_samples : (buffer : List ℕ)
      → Plain.samples_after a l buffer ≡ decoded a.stream a.offsets a.size (take (cells a.size) buffer) ++ drop (cells a.size) buffer
  unfolding Plain.samples_after Plain.unless_refused Plain.frame_samples
  plain_samples buffer =
      let n = cells a.size in
      rw ok (ap (λ d. Plain.frame_samples d a.stream a.offsets a.size (take n buffer) ++ drop n buffer) direct)

  pub checked_samples : (new buffer : List ℕ)
      → new ≡ cond (eqb r.number 0) (decoded a.stream a.offsets a.size (take (cells a.size) buffer)) (take (cells a.size) buffer)
      → new ++ drop (cells a.size) buffer ≡ samples_after a l buffer
  unfolding samples_after
  checked_samples new buffer en =
      ap (λ x. x ++ drop n buffer) en ∙ ap (λ v. cond (eqb v.number 0) whole (take n buffer) ++ drop n buffer) checked_answer ∙ by-test (taken a l) (λ e. rw e (sym (plain_samples buffer))) (λ e. rw e (take-append-drop n buffer))
    where
      n : ℕ
      n = cells a.size

      whole : List ℕ
      whole = decoded a.stream a.offsets a.size (take n buffer)

  pub fault_map : r.number ≢ 0 → (buffer : List ℕ) → some buffer ≡ Option.map (map_after a l) (some buffer)
  fault_map ne buffer = ap some (sym (map_kept a l (λ q. ne (ap (λ v. v.number) checked_answer ∙ q)) buffer))

  pub taken_map : r.number ≡ 0 → (new buffer : List ℕ) → l.map ≡ some (length buffer) → new ≡ replicate (length (take (cells a.size) buffer)) 0
      → some (new ++ drop (cells a.size) buffer) ≡ Option.map (map_after a l) (some buffer)
  taken_map done new buffer lent en =
      let n = cells a.size in
      let whole = length-take-le n buffer (map_enough a l ok (length buffer) lent) in
      ap some
      (ap (λ x. x ++ drop n buffer) (en ∙ ap (λ k. replicate k 0) whole) ∙ sym (map_all_0 a l (sym (ap (λ v. v.number) checked_answer) ∙ done) direct buffer))
