-- A list filled place by place.
use mathlib.Core.List.{List, [], ◌∷◌, ◌++◌}
use mathlib.Core.Path.{◌≡◌, refl, ap}
use Prim.Native.Nat.{ℕ, zero, suc, ◌+◌, ◌≤◌, ◌<◌}
use native.Mathlib.Nat.{add-zero, zero-add}
use native.Mathlib.Numerals.{add-one}
use native.Mathlib.Omega.{arith}
use lib.ListN.{length, set, take, drop, length-set}
use lib.Seq.{sets, take-suc-set}
use Rattle.rules.specs.Frame.{tabulate}

pub tabulate_same : {A : Type 0} (k i : ℕ) (f g : ℕ → A) → ((j : ℕ) → f j ≡ g j) → tabulate k i f ≡ tabulate k i g
unfolding tabulate
tabulate_same zero i f g h = refl
tabulate_same (suc k) i f g h = rw (h i, tabulate_same k (suc i) f g h)

tabulate_last : {A : Type 0} (k i : ℕ) (f : ℕ → A) → tabulate (suc k) i f ≡ tabulate k i f ++ (f (k + i) ∷ [])
unfolding tabulate
tabulate_last {A = A} zero i f = rw zero-add
tabulate_last {A = A} (suc k) i f = let e : k + suc i ≡ suc k + i = omega arith in ap (λ (l : List A). f i ∷ l) (rw e at (tabulate_last k (suc i) f))

-- A loop that fills sixteen places: the first i are f's.
pub record Filled {A : Type 0} (f : ℕ → A) (l : List A) (i : ℕ) : Type 0 where
  pub most : i ≤ 16
  pub sixteen : length l ≡ 16
  pub first : take i l ≡ tabulate i 0 f

-- None is at first, and one more after a store at i.
module _ {A : Type 0} {f : ℕ → A} {l : List A} where
  pub filled_none : length l ≡ 16 → Filled f l 0
  unfolding tabulate
  filled_none e = record { most = omega arith; sixteen = e; first = refl }

  pub filled_more : {i : ℕ} {v : A} → Filled f l i → i < 16 → v ≡ f i → Filled f (set l i v) (i + 1)
  filled_more {i} {v} g h e =
      record {
        most = omega arith;
        sixteen = simp length-set g.sixteen;
        first = rw (add-one, take-suc-set l i v (omega (arith, g.sixteen)), tabulate_last i 0 f, g.first, e, add-zero);
      }

-- A loop that stores sixteen values: those from i on are left.
pub record Stored {A : Type 0} (old s : List A) (at : ℕ) (out : List A) (i : ℕ) : Type 0 where
  pub most : i ≤ 16
  pub as_long : length out ≡ length old
  pub left : sets old at s ≡ sets out (at + i) (drop i s)

pub empty_is : (f : List ℕ) → length f ≡ 0 → f ≡ []
empty_is [] e = refl
empty_is (x ∷ f) e = absurd (omega arith)
