-- The sixteen numbers of a block, found one by one, and by halves.
use Prim.Native.Nat.{ℕ, zero, suc, ◌+◌, ◌-◌, ◌*◌, ◌%◌, ◌<◌, ◌≤◌}
use mathlib.Core.Bool.{cond}
use mathlib.Core.Path.{◌≡◌, refl, sym, ap, ap₂, ◌∙◌}
use mathlib.Core.Logic.{◌≢◌, by_cases}
use mathlib.Core.List.{List}
use native.Mathlib.Omega.{arith}
use native.Mathlib.Decide.{ℕ_discrete}
use native.Mathlib.Nat.{zero-add}
use lib.Dec.{eqb, ltb}
use lib.ListN.{length, get_or, set, length-set}
use lib.Seq.{get_or-set_same, get_or-set_other, ext_get_or}
use borrow.Author.Tests.{eq-eqb, ne_eqb}
use Rattle.rules.specs.Frame.{tabulate}
use Rattle.write_frame.specs.Frames.{by_halves}
use Rattle.rules.proofs.Tests.{by-test}

-- ── Sixteen of them ──

pub tabulate_get : (F : ℕ → ℕ) (n m j : ℕ) → j < n → get_or (tabulate n m F) j 0 ≡ F (m + j)
unfolding tabulate
tabulate_get F zero m j l = absurd (omega arith)
tabulate_get F (suc n) m zero l = let e : m + 0 ≡ m = omega arith in rw e
tabulate_get F (suc n) m (suc j) l = let e : m + suc j ≡ suc m + j = omega arith in rw e (tabulate_get F n (suc m) j (omega arith))

pub tabulate_length : (F : ℕ → ℕ) (n m : ℕ) → length (tabulate n m F) ≡ n
unfolding tabulate
tabulate_length F zero m = refl
tabulate_length F (suc n) m = ap suc (tabulate_length F n (suc m))

-- A list of sixteen that agrees with F at each place.
pub listed : (F : ℕ → ℕ) (d : List ℕ) → length d ≡ 16 → ((k : ℕ) → k < 16 → get_or d k 0 ≡ F k) → d ≡ tabulate 16 0 F
listed F d e each =
    ext_get_or 0 d (tabulate 16 0 F) (e ∙ sym (tabulate_length F 16 0))
    (λ i q. let l : i < 16 = omega (arith, e) in each i l ∙ sym (tabulate_get F 16 0 i l ∙ ap F (zero-add i)))

-- The first k have been found.
pub record Finding (F : ℕ → ℕ) (d : List ℕ) (k : ℕ) : Type 0 where
  pub most : k ≤ 16
  pub long : length d ≡ 16
  pub before : (j : ℕ) → j < k → get_or d j 0 ≡ F j

pub finding_on : (F : ℕ → ℕ) (d : List ℕ) (k v : ℕ) → k < 16 → v ≡ F k → Finding F d k → Finding F (set d k v) (k + 1)
finding_on F d k v l e g =
    record {
      most = omega arith;
      long = length-set d k v ∙ g.long;
      before = λ j q. by_cases (ℕ_discrete j k)
          (λ z. rw z (get_or-set_same d k v 0 (omega (arith, g.long)) ∙ e))
          (λ z. get_or-set_other d k j v 0 z ∙ g.before j (omega arith));
    }

pub found : (F : ℕ → ℕ) (d : List ℕ) (k : ℕ) → 16 ≤ k → Finding F d k → d ≡ tabulate 16 0 F
found F d k l g = listed F d g.long (λ j q. g.before j (omega arith))

-- ── By halves ──

pub half_in : (k first second n : ℕ) → first + 14 < n → second + 14 < n → cond (ltb k 8) first second + 2 * (k % 8) < n
half_in k first second n p q = by-test (ltb k 8) (λ e. rw e (omega arith)) (λ e. rw e (omega arith))

pub halves_on : (f d : List ℕ) (first second p q k at b v : ℕ) → k < 16 → at ≡ cond (ltb k 8) first second → b ≡ cond (ltb k 8) p q
    → v ≡ (get_or f (at + 2 * (k % 8)) 0 + 65_536 - b) % 65_536
    → Finding (by_halves f first second p q) d k → Finding (by_halves f first second p q) (set d k v) (k + 1)
halves_on f d first second p q k at b v l e e' is g =
    finding_on (by_halves f first second p q) d k v l (is ∙ ap₂ (λ x y. (get_or f (x + 2 * (k % 8)) 0 + 65_536 - y) % 65_536) e e') g

-- What a half is predicted from.
pub constant_first : (constant col x : ℕ) → col ≡ 0 → constant ≡ cond (eqb col 0) constant x
constant_first constant col x z = rw (eq-eqb col 0 z)

pub sample_later : (constant col x : ℕ) → col ≢ 0 → x ≡ cond (eqb col 0) constant x
sample_later constant col x n = rw (ne_eqb col 0 n)
