-- A call in bands among others on one sample buffer. One that is done is the plain two-phase call by what it yields, so what is
-- claimed of lists of decoder calls holds of it; one that is refused leaves the samples as it found them.
use Prim.Native.Nat.{ℕ}
use mathlib.Core.Path.{◌≡◌, sym, ap, ◌∙◌}
use mathlib.Core.List.{List}
use mathlib.Core.Option.{map}
use native.Mathlib.Omega.{arith}
use lib.Dec.{eqb}
use borrow.Author.Tests.{eqb-true, eqb-false}
use Rattle.rules.specs.declared.answer.Answer.{Answer}
use Rattle.rules.specs.Answer as Plain
use Rattle.rules.proofs.Isolation.{Returned, Step, decodes}
use Rattle.rules.proofs.Tests.{by-test}
use Rattle.rules_bands.specs.Call.{Call, plain, buffers, refusal, answer, Yields}
use Rattle.rules_bands.proofs.Calls.{yields_plain, samples_kept}

module _ (c : Call) (r : Answer) (out dirs : List ℕ) (y : Yields c r out dirs) where
  -- Number 0 is done.
  pub done_passed : r.number ≡ 0 → refusal c ≡ 0
  unfolding answer
  done_passed e = sym (ap (λ a. a.number) y.answered) ∙ e

  unfoldable pub passed_returned : refusal c ≡ 0 → Returned
  passed_returned ok =
      record {
        ask = plain c;
        found = buffers c.samples c.scratch;
        answered = r;
        left = buffers out dirs;
        yields = yields_plain c ok r out dirs y;
      }

  -- The plain call that it then is.
  unfoldable pub returned : r.number ≡ 0 → Returned
  returned e = passed_returned (done_passed e)

  -- What it does to the sample buffer, done or not.
  unfoldable pub step : Step
  unfolding passed_returned
  step = record {
    found = c.samples;
    left = out;
    below = by-test (eqb (refusal c) 0)
        (λ q. λ h. (decodes (passed_returned (eqb-true (refusal c) 0 q))).below h)
        (λ q. λ h. rw (y.samples ∙ samples_kept c (λ z. let m = eqb-false (refusal c) 0 q in omega arith)) h);
  }

-- Calls that ask the same over the same buffers yield the same.
module _ (p q : Returned) (asked : p.ask ≡ q.ask) (found : p.found ≡ q.found) where
  pub same_answer : p.answered ≡ q.answered
  same_answer = p.yields.answered ∙ (λ i. Plain.answer (asked i) (Plain.lengths (found i))) ∙ sym q.yields.answered

  pub same_samples : p.left.samples ≡ q.left.samples
  same_samples =
      p.yields.samples ∙ (λ i. Plain.samples_after (asked i) (Plain.lengths (found i)) (found i).samples) ∙ sym q.yields.samples

  pub same_scratch : p.left.scratch ≡ q.left.scratch
  same_scratch =
      p.yields.scratch
      ∙ (λ i. map (Plain.scratch_after (asked i) (Plain.lengths (found i))) (found i).scratch)
      ∙ sym q.yields.scratch
