-- A proposal is taken exactly if its size is within the limits, all that it needs is lent, no sample meant is above 16,383, the frame is
-- clean, the stream is no longer than the writer's, and the frame decoded is the one meant.
use Prim.Native.Nat.{ℕ, ◌<◌, ◌≤◌}
use mathlib.Core.Bool.{Bool, true, false, cond}
use mathlib.Core.Path.{◌≡◌, refl, sym, ap, ap₂, ◌∙◌}
use mathlib.Core.List.{List, [], ◌∷◌, ◌++◌}
use mathlib.Core.Option.{none}
use native.Mathlib.Omega.{arith}
use lib.Dec.{ltb, eqb}
use lib.ListN.{length, take, drop}
use lib.Seq.{length-take-le, take_at}
use borrow.Author.Tests.{ltb-false, le-ltb, eqb-true, eqb-false, eq-eqb}
use Rattle.rules.specs.Limits.{most_side, sample_bound}
use Rattle.rules.specs.declared.answer.Answer.{Answer}
use Rattle.rules.specs.Frame.{cells}
use Rattle.rules.specs.V0.{decoded}
use Rattle.rules.specs.Answer as Plain
use Rattle.rules.specs.Answer.{done, refused, too_large, short_samples, short_offsets, lent}
use Rattle.rules.proofs.Cells.{All, nil, more}
use Rattle.rules.proofs.Tests.{clash, neither, both, by-test}
use Rattle.rules.proofs.V0Cells.{decoded_length}
use Rattle.rules_clean.specs.Verdict.{verdict}
use Rattle.rules_clean.proofs.Verdicts.{Clean, accepted_clean, clean_accepted}
use Rattle.write_rules.specs.Calls.{any_above, too_bright}
use Rattle.write_rules.specs.Writer.{stream_for}
use Rattle.write_rules.proofs.CallLaws.{not_bright}
use Rattle.write_packed.specs.Proposal.{Proposal, frame_of, asked, early, longer, before, scratch_after, same, answer}

-- ── The statement ──

-- Decoding begins, with n scratch samples.
pub record Begun (p : Proposal) (n : ℕ) : Type 0 where
  pub wide : p.size.width ≤ most_side
  pub high : p.size.height ≤ most_side
  pub meant_enough : cells p.size ≤ length p.meant
  pub dim : All (λ a. a < sample_bound) (frame_of p)
  pub scratch_enough : cells p.size ≤ n
  pub offsets_enough : p.size.height ≤ length p.offsets
  pub clean : Clean p.stream p.offsets p.size
  pub no_longer : length p.stream ≤ length (stream_for p.size (frame_of p))

-- The proposal is taken: the frame that is then decoded over the scratch is the one meant.
pub record Accepted (p : Proposal) (scratch : List ℕ) : Type 0 where
  pub begun : Begun p (length scratch)
  pub frame : decoded p.stream p.offsets p.size (take (cells p.size) scratch) ≡ frame_of p

-- ── Tests ──

early_zero : (t1 t3 t9 u3 : Bool) → cond {A = ℕ} t1 1 (cond t3 3 (cond t9 9 (cond u3 3 0))) ≡ 0
    → (t1 ≡ false) × ((t3 ≡ false) × ((t9 ≡ false) × (u3 ≡ false)))
early_zero true t3 t9 u3 e = absurd (let q : 1 ≡ 0 = e in omega arith)
early_zero false true t9 u3 e = absurd (let q : 3 ≡ 0 = e in omega arith)
early_zero false false true u3 e = absurd (let q : 9 ≡ 0 = e in omega arith)
early_zero false false false true e = absurd (let q : 3 ≡ 0 = e in omega arith)
early_zero false false false false e = (refl, (refl, (refl, refl)))

before_zero : (k : ℕ) (v : Answer) (t : Bool) → (cond (eqb k 0) (cond (eqb v.number 0) (cond t (refused 21) done) v) (refused k)).number ≡ 0
    → (k ≡ 0) × ((v.number ≡ 0) × (t ≡ false))
before_zero k v t e =
    by-test (eqb k 0)
    (λ p. by-test (eqb v.number 0)
    (λ q. by-test t
    (λ r. let x : 21 ≡ 0 = rw (p, q, r) at e in absurd (omega arith))
    (λ r. (eqb-true k 0 p, (eqb-true v.number 0 q, r))))
    (λ q. absurd (eqb-false v.number 0 q (rw (p, q) at e))))
    (λ p. absurd (eqb-false k 0 p (rw p at e)))

answer_zero : (first : Answer) (t : Bool) → (cond (eqb first.number 0) (cond t done (refused 20)) first).number ≡ 0
    → (first.number ≡ 0) × (t ≡ true)
answer_zero first t e =
    by-test (eqb first.number 0)
    (λ p. by-test t (λ r. (eqb-true first.number 0 p, r)) (λ r. let x : 20 ≡ 0 = rw (p, r) at e in absurd (omega arith)))
    (λ p. absurd (eqb-false first.number 0 p (rw p at e)))

dim_not_bright : {f : List ℕ} → All (λ a. a < sample_bound) f → too_bright f ≡ false
unfolding any_above
dim_not_bright nil = refl
dim_not_bright (more {a = a} l ls) = rw (le-ltb 16_383 a (omega arith), dim_not_bright ls)

-- Frames that are the same are equal, and the other way round.
pub same_equal : (f g : List ℕ) → same f g ≡ true → f ≡ g
unfolding same
same_equal [] [] e = refl
same_equal [] (b ∷ g) e = absurd (clash e refl)
same_equal (a ∷ f) [] e = absurd (clash e refl)
same_equal (a ∷ f) (b ∷ g) e = let q = both (eqb a b) (same f g) e in ap₂ (λ x xs. x ∷ xs) (eqb-true a b q.0) (same_equal f g q.1)

equal_same : (f : List ℕ) → same f f ≡ true
unfolding same
equal_same [] = refl
equal_same (a ∷ f) = rw (eq-eqb a a refl, equal_same f)

-- ── Decoding begins ──

module _ (p : Proposal) (n : ℕ) where
  pub begun : (before p n).number ≡ 0 → Begun p n
  unfolding before early longer too_large short_samples short_offsets
  begun e =
      let z = p.size in
      let b = before_zero (early p n) (verdict p.stream p.offsets z) (longer p) e in
      let t = early_zero (too_large z) (ltb (length p.meant) (cells z)) (too_bright (frame_of p)) (short_samples (asked p) (lent n none 0)) b.0 in
      let size = neither (ltb most_side z.width) (ltb most_side z.height) t.0 in
      let lends = neither (ltb n (cells z)) (ltb (length p.offsets) z.height) t.1.1.1 in
      record {
        wide = ltb-false _ _ size.0;
        high = ltb-false _ _ size.1;
        meant_enough = ltb-false _ _ t.1.0;
        dim = not_bright (frame_of p) t.1.1.0;
        scratch_enough = ltb-false _ _ lends.0;
        offsets_enough = ltb-false _ _ lends.1;
        clean = accepted_clean p.stream p.offsets z b.1.0;
        no_longer = ltb-false _ _ b.1.1;
      }

  module _ (b : Begun p n) where
    fits : too_large p.size ≡ false
    unfolding too_large
    fits = rw (le-ltb _ _ b.wide, le-ltb _ _ b.high)

    lends : short_samples (asked p) (lent n none 0) ≡ false
    unfolding short_samples short_offsets
    lends = rw (le-ltb n (cells p.size) b.scratch_enough, le-ltb _ _ b.offsets_enough)

    pub early_none : early p n ≡ 0
    unfolding early
    early_none = rw (fits, le-ltb _ _ b.meant_enough, dim_not_bright b.dim, lends)

    pub before_done : before p n ≡ done
    unfolding before longer
    before_done =
        rw (early_none, clean_accepted p.stream p.offsets p.size b.clean, le-ltb _ _ b.no_longer)

    -- The direct decoder's own tests are passed.
    pub decodes : Plain.refusal (asked p) (lent n none 0) ≡ 0
    unfolding Plain.refusal Plain.first_of Plain.too_small Plain.short_map Plain.short_scratch
    decodes = rw (fits, lends)

-- ── Exactly ──

module _ (p : Proposal) (scratch : List ℕ) where
  abbrev pub frame : List ℕ
  frame = decoded p.stream p.offsets p.size (take (cells p.size) scratch)

  module _ (b : Begun p (length scratch)) where
    pub scratch_is : scratch_after p scratch ≡ frame ++ drop (cells p.size) scratch
    unfolding scratch_after Plain.samples_after Plain.unless_refused Plain.frame_samples
    scratch_is = rw (before_done p (length scratch) b, decodes p (length scratch) b)

    frame_long : length frame ≡ cells p.size
    frame_long = decoded_length p.stream p.offsets p.size (take (cells p.size) scratch) ∙ length-take-le _ scratch b.scratch_enough

    pub frame_is : take (cells p.size) (scratch_after p scratch) ≡ frame
    frame_is = ap (take (cells p.size)) scratch_is ∙ take_at frame (drop (cells p.size) scratch) (cells p.size) frame_long

  pub done_accepted : (answer p scratch).number ≡ 0 → Accepted p scratch
  unfolding answer
  done_accepted e =
      let t = answer_zero (before p (length scratch)) (same (take (cells p.size) (scratch_after p scratch)) (frame_of p)) e in
      let b = begun p (length scratch) t.0 in
      record { begun = b; frame = sym (frame_is b) ∙ same_equal _ (frame_of p) t.1 }

  pub accepted_done : Accepted p scratch → answer p scratch ≡ done
  unfolding answer
  accepted_done a = rw (before_done p (length scratch) a.begun, frame_is a.begun, a.frame, equal_same (frame_of p))
