-- What the writer's entry owes: each refusal is the definition's, and else what was written is.
use mathlib.Core.Path.{◌≡◌, refl, sym, ap, ◌∙◌}
use mathlib.Core.Bool.{Bool, true, false, ◌||◌, cond}
use mathlib.Core.List.{List, ◌++◌}
use Prim.Native.Nat.{ℕ, ◌*◌, ◌<◌, ◌≤◌}
use native.Mathlib.Omega.{arith}
use native.Mathlib.Nat.{zero-add}
use lib.Dec.{ltb, eqb, lit<}
use lib.ListN.{length, take, drop}
use lib.Seq.{sets, sets-eq, length-take-le}
use borrow.Author.Tests.{ne_eqb, ltb-false}
use Rattle.rules.specs.Limits.{sample_bound}
use Rattle.rules.specs.declared.answer.Size.{Size}
use Rattle.rules.specs.Frame.{cells}
use Rattle.rules.specs.Answer.{too_large}
use Rattle.rules.specs.V0.{sample_kind, exchange}
use Rattle.rules.proofs.Cells.{all_get}
use Rattle.entry_refusals.proofs.RefusalLaws.{cells_most, size_most}
use Rattle.write_rules.specs.declared.Written.{Written}
use Rattle.write_rules.specs.Writer.{residuals, offsets_for}
use Rattle.write_rules.specs.Calls.{Call, frame_of, stream_of, offsets_of, too_bright, short_output, write_refusal, refused, written, write_answer, unless_refused, stream_after, offsets_after, Yields}
use Rattle.write_rules.proofs.CallLaws.{not_bright, passed}
use Rattle.write_rules.proofs.Rows.{offsets_length}
use Rattle.write_frame.specs.declared.format.Format.TheVariants.{V0}
use Rattle.write_frame.specs.Frames.{Writable}
use Rattle.write_frame.proofs.CodingLaws.{whole_v0}

-- ── 1, 3 and 9 ──

-- The first of them that holds, or what the tests after them give.
abbrev pub first_or : Size → List ℕ → ℕ → ℕ
first_or z samples rest = cond (too_large z) 1 (cond (ltb (length samples) (cells z)) 3 (cond (too_bright (take (cells z) samples)) 9 rest))

pub first_then : (z : Size) (samples : List ℕ) {k : ℕ} → k ≡ first_or z samples 0 → (rest : ℕ) → first_or z samples rest ≡ cond (eqb k 0) rest k
first_then z samples e rest = rw e (go (too_large z) (ltb (length samples) (cells z)) (too_bright (take (cells z) samples)))
  where
    go : (t1 t3 t9 : Bool) → let k = cond {A = ℕ} t1 1 (cond t3 3 (cond t9 9 0)) in cond t1 1 (cond t3 3 (cond t9 9 rest)) ≡ cond (eqb k 0) rest k
    go true t3 t9 = refl
    go false true t9 = refl
    go false false true = refl
    go false false false = refl

-- Samples of which none of them holds can be written.
pub record Lent (z : Size) (samples : List ℕ) : Type 0 where
  pub few : z.width * z.height ≤ 268_435_456
  pub enough : cells z ≤ length samples
  pub writable : Writable V0 z (take (cells z) samples)

none_of : (t1 t3 t9 : Bool) → cond {A = ℕ} t1 1 (cond t3 3 (cond t9 9 0)) ≡ 0 → (t1 ≡ false) × ((t3 ≡ false) × (t9 ≡ false))
none_of true t3 t9 e = absurd (omega arith)
none_of false true t9 e = absurd (omega arith)
none_of false false true e = absurd (omega arith)
none_of false false false e = (refl, (refl, refl))

pub lent : (z : Size) (samples : List ℕ) {k : ℕ} → k ≡ first_or z samples 0 → k ≡ 0 → Lent z samples
lent z samples e zero =
    let f = none_of _ _ _ (sym e ∙ zero) in
    let m = size_most z f.0 in
    let n = ltb-false _ _ f.1.0 in
    record {
      few = cells_most _ _ m.0 m.1;
      enough = n;
      writable = record {
        wide = m.0;
        high = m.1;
        blocks = whole_v0 z.width;
        whole = length-take-le (cells z) samples n;
        dim = λ i. all_get (λ a. a < sample_bound) (not_bright (take (cells z) samples) f.1.1) i 0 (lit< tt);
      };
    }

-- ── The entry ──

module _ {c : Call} where
  refused_yields : (k : ℕ) {r : Written} → write_refusal c ≡ k → (k ≡ 0 → ⊥) → r ≡ refused k → Yields c r c.stream c.offsets
  unfolding write_answer stream_after offsets_after unless_refused
  refused_yields k e n q =
      let t : eqb (write_refusal c) 0 ≡ false = ap (λ m. eqb m 0) e ∙ ne_eqb k 0 n in
      record { answered = q ∙ sym (rw t (ap refused e)); stream_left = sym (rw t); offsets_left = sym (rw t) }

module _ (c : Call) {k : ℕ} (e : k ≡ first_or c.size c.samples 0) where
  refusal_is : write_refusal c ≡ cond (eqb k 0) (cond (short_output c) 10 0) k
  unfolding write_refusal
  refusal_is = first_then c.size c.samples e _

  -- 1, 3 and 9.
  pub early_yields : {r : Written} → (k ≡ 0 → ⊥) → r ≡ refused k → Yields c r c.stream c.offsets
  early_yields n q = refused_yields k (refusal_is ∙ rw (ne_eqb k 0 n)) n q

  module _ (zero : k ≡ 0) {n : ℕ} (is : n ≡ length (stream_of c)) {s : Bool} (test : s ≡ (ltb (length c.stream) n || ltb (length c.offsets) c.size.height)) where
    last : write_refusal c ≡ cond s 10 0
    unfolding short_output
    last = refusal_is ∙ rw (zero, ← is, ← test)

    -- 10.
    pub short_yields : {r : Written} → s ≡ true → r ≡ refused 10 → Yields c r c.stream c.offsets
    short_yields q a = refused_yields 10 (last ∙ rw q) (λ p. let x : 10 ≡ 0 = p in omega arith) a

    pub none_holds : s ≡ false → write_refusal c ≡ 0
    none_holds q = last ∙ rw q

-- There is room, and all is written.
module _ (c : Call) (ok : write_refusal c ≡ 0) where
  pub stream_room : length (stream_of c) ≤ length c.stream
  stream_room = (passed c ok).room

  pub done_yields : {n : ℕ} {r : Written} {s o : List ℕ} → n ≡ length (stream_of c) → r ≡ written n → s ≡ sets c.stream 0 (stream_of c) → o ≡ sets c.offsets 0 (offsets_of c)
      → Yields c r s o
  unfolding write_answer stream_after offsets_after unless_refused offsets_for
  done_yields is e p p' =
      let rows = offsets_length (residuals c.size.width (exchange sample_kind c.size (frame_of c))) c.size.height 0 0 in
      record {
        answered = rw ok (e ∙ ap written is);
        stream_left =
            rw ok (p ∙ sets-eq (stream_of c) c.stream 0 (omega (arith, stream_room)) ∙ ap (λ m. stream_of c ++ drop m c.stream) (zero-add (length (stream_of c))));
        offsets_left =
            rw ok (p' ∙ sets-eq (offsets_of c) c.offsets 0 (omega (arith, rows, (passed c ok).table)) ∙ ap (λ m. offsets_of c ++ drop m c.offsets) (zero-add (length (offsets_of c))));
      }
