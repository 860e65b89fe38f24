-- What the check of a proposal owes: each number is the definition's, and else the frame is decoded and compared.
use Prim.Native.Nat.{ℕ, suc, ◌+◌, ◌<◌, ◌≤◌}
use mathlib.Core.Bool.{Bool, true, false, ◌||◌, ◌&&◌, cond}
use mathlib.Core.Path.{◌≡◌, sym, ap, ◌∙◌}
use mathlib.Core.List.{List}
use mathlib.Core.Option.{none}
use native.Mathlib.Omega.{arith}
use lib.Dec.{ltb, eqb}
use lib.ListN.{length, get_or, take, drop, drop_of_length-le}
use lib.Seq.{drop-cons, length-take-le, length_front}
use borrow.Author.Tests.{ne_eqb, eq-eqb, lt-ltb, le-ltb}
use Rattle.rules.specs.declared.answer.Answer.{Answer}
use Rattle.rules.specs.Frame.{cells}
use Rattle.rules.specs.Answer as Rules
use Rattle.rules.specs.Answer.{done, refused, too_large, short_samples, short_offsets, scratch_bytes, first_of, buffers}
use Rattle.rules.proofs.V0Cells.{decoded_length}
use Rattle.entry_refusals.specs.Lending.{short}
use Rattle.std.specs.Prelude.{Some, None}
use Rattle.entry_refusals.proofs.RefusalLaws.{Room, room, long_enough}
use Rattle.rules_clean.specs.Verdict.{verdict}
use Rattle.v0_clean.specs.OffsetsLent.{OffsetsLent}
use Rattle.write_rules.specs.Writer.{stream_for}
use Rattle.write_packed.specs.Proposal.{Proposal, frame_of, before, scratch_after, same, answer, Yields}
use Rattle.write_packed.specs.Proposal as Proposals
use Rattle.write_packed.proofs.Exactly.{Begun, begun, before_done, frame, scratch_is}
use Rattle.entry_frames.proofs.WriterLaws as Writer
use Rattle.rules.proofs.Tests.{by-test}

-- ── Two frames compared ──

-- What was the same before place i, and what is from there on: one step, and the end.
pub same_on : (f g : List ℕ) (i : ℕ) (t next : Bool) → length f ≡ length g → i < length f → next ≡ (t && eqb (get_or f i 0) (get_or g i 0))
    → (t && same (drop i f) (drop i g)) ≡ (next && same (drop (i + 1) f) (drop (i + 1) g))
unfolding same
same_on f g i t next e l q =
    let one : i + 1 ≡ suc i = omega arith in
    let m : i < length g = omega arith in
    rw (one, q, drop-cons f i 0 l, drop-cons g i 0 m) (by-test t (λ k. rw k) (λ k. rw k))

pub same_gone : (f g : List ℕ) (i : ℕ) (t : Bool) → length f ≡ length g → length f ≤ i → (t && same (drop i f) (drop i g)) ≡ t
unfolding same
same_gone f g i t e l = rw (drop_of_length-le f {i = i} l, drop_of_length-le g {i = i} (omega arith)) (by-test t (λ k. rw k) (λ k. rw k))

-- ── Before decoding ──

-- 3 of the scratch and of the offsets, which comes after 1, 3 and 9 of the samples meant.
abbrev later : Proposal → ℕ → ℕ
later p n = cond (short_samples (Proposals.asked p) (Rules.lent n none 0)) 3 0

-- What is known once 1, 3 and 9 of the samples meant are passed.
pub record MeantLent (p : Proposal) (n : ℕ) : Type 0 where
  pub meant : Writer.Lent p.size p.meant
  pub left : Proposals.early p n ≡ later p n

-- What is known once 3 of the scratch and of the offsets is passed, too.
pub record AllLent (p : Proposal) (n : ℕ) : Type 0 where
  pub meant : Writer.Lent p.size p.meant
  pub room : Room p.size n (Some (length p.offsets)) None None
  pub early_none : Proposals.early p n ≡ 0

-- What is known once 17 to 19 are passed, too.
pub record Clean (p : Proposal) (n : ℕ) : Type 0 where
  pub lent : AllLent p n
  pub clean : (verdict p.stream p.offsets p.size).number ≡ 0

refused_before : (p : Proposal) (n k : ℕ) {r : Answer} → Proposals.early p n ≡ k → (k ≡ 0 → ⊥) → r ≡ refused k → r ≡ before p n
unfolding before
refused_before p n k e ne q = q ∙ sym (rw (e, ne_eqb k 0 ne))

module _ (p : Proposal) (n : ℕ) {k : ℕ} (e : k ≡ Writer.first_or p.size p.meant 0) where
  first_is : Proposals.early p n ≡ cond (eqb k 0) (later p n) k
  unfolding Proposals.early
  first_is = Writer.first_then p.size p.meant e _

  -- 1, 3 and 9 of the samples meant.
  pub early_before : {r : Answer} → (k ≡ 0 → ⊥) → r ≡ refused k → r ≡ before p n
  early_before ne q = refused_before p n k (first_is ∙ rw (ne_eqb k 0 ne)) ne q

  pub meant_lent : k ≡ 0 → MeantLent p n
  meant_lent passed = record { meant = Writer.lent p.size p.meant e passed; left = first_is ∙ rw passed }

module _ {p : Proposal} {n : ℕ} where
  module _ (m : MeantLent p n) {j : ℕ} (second : j ≡ first_of (too_large p.size) false (ltb n (cells p.size) || short (Some (length p.offsets)) p.size.height)
      (short None (cells p.size) || short None (scratch_bytes p.size))) where
    early_is : Proposals.early p n ≡ j
    unfolding first_of short short_samples short_offsets too_large
    early_is =
        let w = m.meant.writable in
        m.left ∙ sym (second ∙ rw (le-ltb _ _ w.wide, le-ltb _ _ w.high))

    -- 3 of the scratch and of the offsets.
    pub short_before : {r : Answer} → (j ≡ 0 → ⊥) → r ≡ refused j → r ≡ before p n
    short_before ne q = refused_before p n j early_is ne q

    pub all_lent : j ≡ 0 → AllLent p n
    all_lent passed = record { meant = m.meant; room = room p.size false n (Some (length p.offsets)) None None j second passed; early_none = early_is ∙ passed }

  module _ (l : AllLent p n) where
    pub checkable : OffsetsLent p.size p.offsets
    checkable = record { width = l.room.wide; height = l.room.high; offsets_enough = long_enough _ _ l.room.offsets_enough }

    module _ {v : Answer} (told : v ≡ verdict p.stream p.offsets p.size) where
      -- 17 to 19.
      pub fault_before : (v.number ≡ 0 → ⊥) → v ≡ before p n
      unfolding before
      fault_before ne = told ∙ sym (rw (l.early_none, ne_eqb (verdict p.stream p.offsets p.size).number 0 (λ x. ne (ap (λ a. a.number) told ∙ x))))

      pub clean : v.number ≡ 0 → Clean p n
      clean e = record { lent = l; clean = sym (ap (λ a. a.number) told) ∙ e }

  module _ (c : Clean p n) {m : ℕ} (is : m ≡ length (stream_for p.size (frame_of p))) where
    left : before p n ≡ cond (ltb m (length p.stream)) (refused 21) done
    unfolding before Proposals.longer
    left = rw (c.lent.early_none, eq-eqb _ 0 c.clean, is)

    -- 21.
    pub long_before : {r : Answer} → m < length p.stream → r ≡ refused 21 → r ≡ before p n
    long_before l q = q ∙ sym (left ∙ rw (lt-ltb m (length p.stream) l))

    pub done_before : {r : Answer} → length p.stream ≤ m → r ≡ done → r ≡ before p n
    done_before l q = q ∙ sym (left ∙ rw (le-ltb m (length p.stream) l))

-- ── Decoding, and after it ──

module _ {p : Proposal} {scratch : List ℕ} {v : Answer} (told : v ≡ before p (length scratch)) where
  -- A refusal leaves the scratch as it was.
  pub kept_yields : (v.number ≡ 0 → ⊥) → Yields p scratch v scratch
  unfolding answer scratch_after
  kept_yields ne =
      let t : eqb (before p (length scratch)).number 0 ≡ false = ne_eqb _ 0 (λ x. ne (ap (λ a. a.number) told ∙ x)) in
      record { answered = told ∙ sym (rw t); scratch_left = sym (rw t) }

pub ready : {p : Proposal} {n : ℕ} {v : Answer} → v ≡ before p n → v.number ≡ 0 → Begun p n
ready {p} {n} told e = begun p n (sym (ap (λ a. a.number) told) ∙ e)

-- The frame is decoded into the scratch.
pub record Decoded (p : Proposal) (scratch left : List ℕ) : Type 0 where
  pub begun : Begun p (length scratch)
  pub left_is : left ≡ scratch_after p scratch

pub frame_decoded : {p : Proposal} {scratch left : List ℕ} {a : Answer} → Begun p (length scratch) → Rules.Yields (Proposals.asked p) (Proposals.found scratch) a (buffers left none none)
    → Decoded p scratch left
unfolding scratch_after
frame_decoded {p} {scratch} b y = record { begun = b; left_is = y.samples ∙ sym (rw (before_done p (length scratch) b)) }

module _ {p : Proposal} {scratch left : List ℕ} (d : Decoded p scratch left) where
  -- The frame lies in its buffer, and so does the one meant.
  pub scratch_room : cells p.size ≤ length left
  scratch_room =
      let n = cells p.size in
      let whole = length_front scratch (frame p scratch) n (decoded_length p.stream p.offsets p.size (take n scratch)) in
      omega (arith, ap length (d.left_is ∙ scratch_is p scratch d.begun), whole, d.begun.scratch_enough)

  pub as_long : length (take (cells p.size) left) ≡ length (frame_of p)
  as_long = length-take-le _ left scratch_room ∙ sym (length-take-le _ p.meant d.begun.meant_enough)

  module _ {t : Bool} (compared : t ≡ same (take (cells p.size) left) (frame_of p)) where
    answer_is : answer p scratch ≡ cond t done (refused 20)
    unfolding answer
    answer_is = rw (before_done p (length scratch) d.begun, ← d.left_is, ← compared)

    -- 20; else all is as it is meant.
    pub other_yields : {r : Answer} → t ≡ false → r ≡ refused 20 → Yields p scratch r left
    other_yields f q = record { answered = q ∙ sym (answer_is ∙ rw f); scratch_left = d.left_is }

    pub taken_yields : {r : Answer} → t ≡ true → r ≡ done → Yields p scratch r left
    taken_yields f q = record { answered = q ∙ sym (answer_is ∙ rw f); scratch_left = d.left_is }
