-- Filler over a block's bytes one by one, a block's end, and the parts of two.
use mathlib.Core.Path.{◌≡◌, refl, sym, ap, ap₂, ◌∙◌}
use mathlib.Core.List.{List}
use Prim.Native.Nat.{ℕ, suc, ◌+◌, ◌-◌, ◌≤◌, ◌<◌}
use native.Mathlib.Omega.{arith}
use lib.Bits.{bit_or}
use lib.ListN.{length, get_or, set}
use lib.Seq.{set_out}
use borrow.Author.Tests.{ne_eqb}
use Rattle.rules.specs.declared.reader.Bits.{Bits}
use Rattle.rules.specs.Reader.{has_filler}
use Rattle.rules.specs.Frame.{change_cells, ended}
use Rattle.rules.specs.Map.{with_filler, either_part}
use Rattle.rules.proofs.Cells.{change_length}

-- ── One byte ──

pub one_filled : (p v : ℕ) (f : List ℕ) → v ≡ with_filler (get_or f p 0) → set f p v ≡ change_cells with_filler 0 1 p f
unfolding change_cells
one_filled p v f e = rw e

pub none_filled : (p : ℕ) (f : List ℕ) → length f ≤ p → f ≡ change_cells with_filler 0 1 p f
unfolding change_cells
none_filled p f l = sym (set_out f p (with_filler (get_or f p 0)) l)

-- ── Sixteen ──

-- After i of them: what is left comes to what all sixteen come to.
pub record Filling (place : ℕ) (f₀ f : List ℕ) (i : ℕ) : Type 0 where
  pub below : i ≤ 16
  pub same_length : length f ≡ length f₀
  pub left : change_cells with_filler 0 (16 - i) (place + i) f ≡ change_cells with_filler 0 16 place f₀

module _ (place : ℕ) (f₀ : List ℕ) where
  pub filling_begun : Filling place f₀ f₀ 0
  filling_begun =
      let e : place + 0 ≡ place = omega arith in
      record { below = omega arith; same_length = refl; left = ap (λ p. change_cells with_filler 0 16 p f₀) e }

  pub filling_on : (f g : List ℕ) (i : ℕ) → i < 16 → g ≡ change_cells with_filler 0 1 (place + i) f → Filling place f₀ f i → Filling place f₀ g (i + 1)
  unfolding change_cells
  filling_on f g i l e r =
      let more : 16 - i ≡ suc (16 - (i + 1)) = omega arith in
      let next : place + (i + 1) ≡ suc (place + i) = omega arith in
      record {
        below = omega arith;
        same_length = ap length e ∙ change_length with_filler 0 1 (place + i) f ∙ r.same_length;
        left = ap₂ (λ p x. change_cells with_filler 0 (16 - (i + 1)) p x) next e
            ∙ sym (ap (λ n. change_cells with_filler 0 n (place + i) f) more) ∙ r.left;
      }

  pub filled : (f : List ℕ) (i : ℕ) → 16 ≤ i → Filling place f₀ f i → f ≡ change_cells with_filler 0 16 place f₀
  unfolding change_cells
  filled f i l r =
      let none : 16 - i ≡ 0 = omega arith in
      sym (ap (λ n. change_cells with_filler 0 n (place + i) f) none) ∙ r.left

-- ── A block's end ──

-- Without filler all bytes stay, with filler all sixteen are filled.
module _ (b : Bits) (place : ℕ) (f g : List ℕ) (e : g ≡ f) where
  pub ended_clear : b.filler ≡ 0 → g ≡ ended with_filler 0 (has_filler b) place f
  ended_clear none = rw none e

  pub ended_filled : (b.filler ≡ 0 → ⊥) → (p : ℕ) (h : List ℕ) → p ≡ place → h ≡ change_cells with_filler 0 16 p g → h ≡ ended with_filler 0 (has_filler b) place f
  ended_filled some p h ep eh = rw (ne_eqb b.filler 0 some) (eh ∙ ap₂ (λ q x. change_cells with_filler 0 16 q x) ep e)

-- ── The parts of two ──

pub parts_are : (a b : ℕ) → bit_or a b ≡ either_part a b
unfolding either_part
parts_are a b = refl
