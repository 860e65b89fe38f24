-- A call in bands is done exactly if the plain two-phase call is lent enough, the cut fits and the list is good; else it changes nothing.
-- One that is done equals the plain two-phase call: asked the same over the same buffers, they give the same answer, samples and
-- scratch, whatever the cut and the list of steps.
use mathlib.Core.Path.{◌≡◌, sym, ap, ◌∙◌}
use mathlib.Core.Logic.{◌≢◌}
use Rattle.rules_bands.specs.Call as Bands
use Rattle.rules_bands.proofs.Calls.{Passed, passed, refusal_list, samples_kept, scratch_kept}
use Rattle.rules_bands.proofs.Lists.{same_answer, same_samples, same_scratch}
use Rattle.rules.proofs.Isolation.{Returned}
use Rattle.samsung.proofs.Isolation.{Call, Banded, called, yielded, returned, last_in_bands, ended}

-- ── The claim ──

-- Two calls gave the same answer, samples and scratch.
pub record SameScratch (p q : Returned) : Type 0 where
  pub answers : p.answered ≡ q.answered
  pub samples : p.left.samples ≡ q.left.samples
  pub scratch : p.left.scratch ≡ q.left.scratch

pub record InBands : Type 0 where
  pub only : (c : Banded) → c.result.number ≡ 0 → Passed (called c)
  pub all : (c : Banded) → Passed (called c) → c.result.number ≡ 0
  pub kept : (c : Banded) → c.result.number ≢ 0
      → (c.exit.1.1.1.1.0.now ≡ c.args.1.1.1.1.0.now) × (c.exit.1.1.1.1.1.0.now ≡ c.args.1.1.1.1.1.0.now)
  pub same : (c : Banded) (done : c.result.number ≡ 0) (d : Call) → (ended (last_in_bands c done)).ask ≡ (returned d).ask
      → (ended (last_in_bands c done)).found ≡ (returned d).found → SameScratch (ended (last_in_bands c done)) (returned d)

-- ── Its proof ──

good_passes : (c : Bands.Call) → Passed c → Bands.refusal c ≡ 0
unfolding Bands.list_refusal
good_passes c p = refusal_list c p.plain_passed ∙ rw (p.cut_fits, p.list_good)

number_is : (c : Banded) → c.result.number ≡ Bands.refusal (called c)
unfolding Bands.answer
number_is c = ap (λ a. a.number) (yielded c).answered

pub in_bands : InBands
in_bands =
    record {
      only = λ c e. passed (called c) (sym (number_is c) ∙ e);
      all = λ c p. number_is c ∙ good_passes (called c) p;
      kept = λ c n.
          let refused : Bands.refusal (called c) ≢ 0 = λ z. n (number_is c ∙ z) in
          ((yielded c).samples ∙ samples_kept (called c) refused, (yielded c).scratch ∙ scratch_kept (called c) refused);
      same = λ c done d asked found.
          let p = ended (last_in_bands c done) in
          let q = returned d in
          record { answers = same_answer p q asked found; samples = same_samples p q asked found; scratch = same_scratch p q asked found };
    }
