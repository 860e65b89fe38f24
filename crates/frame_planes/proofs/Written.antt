-- A list that is written element by element: so far it begins as another does, and in the end it is the other.
use mathlib.Core.Path.{◌≡◌, refl, sym, ap₂, ◌∙◌}
use mathlib.Core.List.{List, [], ◌∷◌, ◌++◌}
use Prim.Native.Nat.{ℕ, ◌+◌, ◌≤◌, ◌<◌}
use native.Mathlib.Omega.{arith}
use native.Mathlib.Numerals.{add-one}
use lib.ListN.{length, get_or, take, set, length-set}
use lib.Seq.{take-suc, take-suc-set, take_all}

-- The first i elements of xs, which is to become l, are written over what it held before.
pub record Written (l xs₀ xs : List ℕ) (i : ℕ) : Type 0 where
  pub below : i ≤ length l
  pub kept : length xs ≡ length xs₀
  pub same_length : length xs₀ ≡ length l
  pub begins : take i xs ≡ take i l

pub written_none : (l xs : List ℕ) → length xs ≡ length l → Written l xs xs 0
written_none l xs e = record { below = omega arith; kept = refl; same_length = e; begins = refl }

pub written_more : {l xs₀ xs : List ℕ} {i : ℕ} (v : ℕ) → i < length xs → v ≡ get_or l i 0 → Written l xs₀ xs i → Written l xs₀ (set xs i v) (i + 1)
written_more {l} {xs₀} {xs} {i} v h e w =
    record {
      below = omega (arith, w.kept, w.same_length);
      kept = length-set xs i v ∙ w.kept;
      same_length = w.same_length;
      begins =
          rw (add-one i)
          (take-suc-set xs i v h ∙ ap₂ (λ x y. x ++ (y ∷ [])) w.begins e ∙ sym (take-suc l i 0 (omega (arith, w.kept, w.same_length))));
    }

pub written_all : {l xs₀ xs : List ℕ} {i : ℕ} → length xs ≤ i → Written l xs₀ xs i → xs ≡ l
written_all {l} {xs₀} {xs} {i} h w = sym (take_all i xs h) ∙ w.begins ∙ take_all i l (omega (arith, w.kept, w.same_length))
