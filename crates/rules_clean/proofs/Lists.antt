-- A call for clean frames among others on one sample buffer. One that is done is the plain call by what it yields, so what is claimed of
-- lists of decoder calls holds of it; one that is refused leaves the samples as it found them.
use Prim.Native.Nat.{ℕ}
use mathlib.Core.Path.{◌≡◌, sym, ap, ◌∙◌}
use mathlib.Core.Logic.{◌≢◌}
use mathlib.Core.List.{List, ◌++◌}
use mathlib.Core.Option
use mathlib.Core.Option.{Option, none, some}
use lib.Dec.{eqb}
use lib.ListN.{drop, replicate}
use borrow.Author.Tests.{eqb-true, eqb-false}
use Rattle.rules.specs.declared.answer.Answer.{Answer}
use Rattle.rules.specs.Frame.{cells}
use Rattle.rules.specs.Answer as Plain
use Rattle.rules.proofs.Isolation.{Returned, Step, decodes}
use Rattle.rules.proofs.Tests.{by-test}
use Rattle.rules_clean.specs.Clean.{answer, map_after, Yields}
use Rattle.rules_clean.proofs.Calls.{done_taken, taken_done, map_all_0, yields_plain, samples_kept}

-- A call that has returned: what it asked the direct decoder, samples and map as it found them, what it answered, and what it left.
pub record Checked : Type 0 where
  pub ask : Plain.Ask
  pub direct : ask.decoder ≡ Plain.direct
  pub samples : List ℕ
  pub map : Option (List ℕ)
  pub answered : Answer
  pub left : List ℕ
  pub left_map : Option (List ℕ)
  pub yields : Yields ask (Plain.buffers samples map none) answered (Plain.buffers left left_map none)

-- The plain call that it is if it is done.
unfoldable pub returned : (c : Checked) → c.answered.number ≡ 0 → Returned
returned c e =
    record {
      ask = c.ask;
      found = Plain.buffers c.samples c.map none;
      answered = c.answered;
      left = Plain.buffers c.left c.left_map none;
      yields = yields_plain c.ask c.direct c.samples c.left c.map c.left_map c.answered e c.yields;
    }

-- What it does to the sample buffer, done or not.
unfoldable pub step : Checked → Step
unfolding returned
step c = record {
  found = c.samples;
  left = c.left;
  below = by-test (eqb c.answered.number 0)
      (λ q. λ h. (decodes (returned c (eqb-true c.answered.number 0 q))).below h)
      (λ q. λ h. rw (refused (eqb-false c.answered.number 0 q)) h);
}
  where
    refused : c.answered.number ≢ 0 → c.left ≡ c.samples
    refused ne =
        c.yields.samples
        ∙ samples_kept c.ask (Plain.lengths (Plain.buffers c.samples c.map none)) (λ z. ne (ap (λ v. v.number) c.yields.answered ∙ z)) c.samples

-- ── One that is done ──

module _ (c : Checked) (done : c.answered.number ≡ 0) where
  abbrev lent : Plain.Lent
  lent = Plain.lengths (Plain.buffers c.samples c.map none)

  passed : (answer c.ask lent).number ≡ 0
  passed = sym (ap (λ v. v.number) c.yields.answered) ∙ done

  -- No word was missing.
  pub done_answer : c.answered ≡ Plain.done
  done_answer = c.yields.answered ∙ taken_done c.ask lent (done_taken c.ask lent passed)

  -- The first N bytes of a map that was lent are 0.
  pub done_map : (m : List ℕ) → c.map ≡ some m → c.left_map ≡ some (replicate (cells c.ask.size) 0 ++ drop (cells c.ask.size) m)
  done_map m e = c.yields.map ∙ ap (Option.map (map_after c.ask lent)) e ∙ ap some (map_all_0 c.ask lent passed c.direct m)
