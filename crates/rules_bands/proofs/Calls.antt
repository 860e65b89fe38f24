-- A call in bands that is done leaves what the plain call leaves, and a call that is refused leaves all as it was.
use Prim.Native.Nat.{ℕ}
use mathlib.Core.Bool.{true}
use mathlib.Core.Path.{◌≡◌, refl, sym, ap, ◌∙◌}
use mathlib.Core.Logic.{◌≢◌}
use mathlib.Core.List.{List, ◌++◌}
use mathlib.Core.Option.{some}
use native.Mathlib.Omega.{arith}
use lib.Dec.{eqb}
use lib.ListN.{length, take, drop}
use lib.Seq.{length-take-le}
use borrow.Author.Tests.{eqb-true, eqb-false, ne_eqb}
use Rattle.rules.specs.declared.answer.Answer.{Answer}
use Rattle.rules.specs.Frame.{cells}
use Rattle.rules.specs.Phases.{scratch}
use Rattle.rules.specs.Answer as Plain
use Rattle.rules.proofs.Refusals.{samples_enough}
use Rattle.rules.proofs.Tests.{by-test}
use Rattle.rules_bands.specs.declared.Cut.{Cut}
use Rattle.rules_bands.specs.Bands.{fits, good, in_bands}
use Rattle.rules_bands.specs.Call.{Call, plain, buffers, lengths, list_refusal, refusal, answer, samples_after, scratch_after, Yields}
use Rattle.rules_bands.proofs.AnySequence.{in_bands_two_phase}

-- ── Numbers ──

-- A list that isn't refused is good, of a cut that fits.
pub list_passed : (c : Cut) (steps : List ℕ) → list_refusal c steps ≡ 0 → (fits c ≡ true) × (good c steps ≡ true)
unfolding list_refusal
list_passed c steps e =
    by-test (fits c)
    (λ q. by-test (good c steps) (λ q'. (q, q')) (λ q'. let z : ◌≡◌ {A = ℕ} 12 0 = rw (q, q') at e in absurd (omega arith)))
    (λ q. let z : ◌≡◌ {A = ℕ} 11 0 = rw q at e in absurd (omega arith))

-- A call that is done passed 1 to 4, its cut fits, and its list is good.
pub record Passed (c : Call) : Type 0 where
  pub plain_passed : Plain.refusal (plain c) (lengths c) ≡ 0
  pub cut_fits : fits c.cut ≡ true
  pub list_good : good c.cut c.steps ≡ true

pub passed : (c : Call) → refusal c ≡ 0 → Passed c
unfolding refusal
passed c e =
    by-test (eqb p 0)
    (λ q. let l = list_passed c.cut c.steps (rw q at e) in
    record { plain_passed = eqb-true p 0 q; cut_fits = l.0; list_good = l.1 })
    (λ q. let z : p ≡ 0 = rw q at e in let m = eqb-false p 0 q in absurd (omega arith))
  where
    p : ℕ
    p = Plain.refusal (plain c) (lengths c)

-- A number of the plain call's is this call's; else the list decides.
module _ (c : Call) where
  pub refusal_plain : (k : ℕ) → Plain.refusal (plain c) (lengths c) ≡ k → k ≢ 0 → refusal c ≡ k
  unfolding refusal
  refusal_plain k e ne = rw (e, ne_eqb k 0 ne)

  pub refusal_list : Plain.refusal (plain c) (lengths c) ≡ 0 → refusal c ≡ list_refusal c.cut c.steps
  unfolding refusal
  refusal_list e = rw e

-- ── What is left ──

module _ (c : Call) where
  -- Done: samples and scratch are the plain call's.
  module _ (done : refusal c ≡ 0) where
    pub samples_plain : samples_after c ≡ Plain.samples_after (plain c) (lengths c) c.samples
    unfolding samples_after Plain.samples_after Plain.frame_samples Plain.unless_refused
    samples_plain =
        let p = passed c done in
        let n = samples_enough (plain c) (lengths c) p.plain_passed in
        rw (
          done,
          p.plain_passed,
          in_bands_two_phase c.stream c.offsets c.cut p.cut_fits c.steps p.list_good (take (cells c.cut.size) c.samples)
              (length-take-le (cells c.cut.size) c.samples n),
        )

    pub scratch_plain : scratch_after c ≡ Plain.scratch_after (plain c) (lengths c) c.scratch
    unfolding scratch_after Plain.scratch_after Plain.frame_scratch Plain.unless_refused
    scratch_plain = let p = passed c done in rw (done, p.plain_passed)

    pub answer_plain : answer c ≡ Plain.answer (plain c) (lengths c)
    unfolding answer Plain.answer Plain.stream_answer
    answer_plain = let p = passed c done in rw (done, p.plain_passed)

    -- So what it yields is what the plain call yields.
    pub yields_plain : (r : Answer) (out dirs : List ℕ) → Yields c r out dirs
        → Plain.Yields (plain c) (buffers c.samples c.scratch) r (buffers out dirs)
    yields_plain r out dirs y =
        record {
          answered = y.answered ∙ answer_plain;
          samples = y.samples ∙ samples_plain;
          map = refl;
          scratch = ap some (y.scratch ∙ scratch_plain);
        }

  -- Refused: nothing is changed.
  module _ (refused : refusal c ≢ 0) where
    pub samples_kept : samples_after c ≡ c.samples
    unfolding samples_after
    samples_kept = rw (ne_eqb (refusal c) 0 refused)

    pub scratch_kept : scratch_after c ≡ c.scratch
    unfolding scratch_after
    scratch_kept = rw (ne_eqb (refusal c) 0 refused)

-- ── What an entry owes ──

-- A refusal is answered by its number, and leaves samples and scratch as they were.
pub refused_yields : (c : Call) (k : ℕ) → refusal c ≡ k → k ≢ 0 → (r : Answer) → r ≡ Plain.refused k
    → Yields c r c.samples c.scratch
unfolding answer
refused_yields c k e ne r q =
    let some_refusal : refusal c ≢ 0 = λ z. ne (sym e ∙ z) in
    record {
      answered = q ∙ ap Plain.refused (sym e);
      samples = sym (samples_kept c some_refusal);
      scratch = sym (scratch_kept c some_refusal);
    }

-- Else the frame's samples are the first of the buffer, and its directions the first of the scratch.
pub done_yields : (c : Call) → refusal c ≡ 0 → (r : Answer) → r ≡ Plain.done → (new dirs : List ℕ)
    → new ≡ in_bands c.stream c.offsets c.cut c.steps (take (cells c.cut.size) c.samples)
    → dirs ≡ scratch c.stream c.offsets c.cut.size ++ drop (length (scratch c.stream c.offsets c.cut.size)) c.scratch
    → Yields c r (new ++ drop (cells c.cut.size) c.samples) dirs
unfolding answer samples_after scratch_after
done_yields c e r q new dirs en ed =
    record {
      answered = q ∙ ap Plain.refused (sym e);
      samples = rw (e, en);
      scratch = ed ∙ rw e;
    }
