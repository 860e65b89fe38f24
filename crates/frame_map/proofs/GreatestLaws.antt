-- The greatest of those before a place and of those from there on is the whole's, and tests of the greatest are tests of each.
use Prim.Native.Nat.{ℕ, suc, ◌+◌, ◌≤◌, ◌<◌, max}
use mathlib.Core.Bool.{◌||◌}
use mathlib.Core.Path.{◌≡◌, refl, sym, ap, ◌∙◌}
use mathlib.Core.List.{List, [], ◌∷◌}
use native.Mathlib.Omega.{arith}
use native.Mathlib.Numerals.{add-one}
use lib.Dec.{ltb, eqb}
use lib.ListN.{length, get_or, drop, drop_of_length-le}
use lib.Seq.{drop-cons}
use borrow.Author.Tests.{lt-ltb, le-ltb, ltb-true, ltb-false}
use Rattle.rules.proofs.Tests.{by-test}
use Rattle.std.specs.Ordering.{ord_max, nat_cmp}
use Rattle.std.specs.declared.cmp.Ordering.{Ordering}
use Rattle.frame_map.specs.Greatest.{greatest, greatest_by}

-- What is left at a place is the number there, and what is left after it.
pub left_more : (f : List ℕ) (i : ℕ) → i < length f → drop i f ≡ get_or f i 0 ∷ drop (i + 1) f
left_more f i h = rw (add-one i) (drop-cons f i 0 h)

-- One step of a search by an order, and its end.
module _ {T : Type 0} (cmp : T → T → Ordering) where
  pub by_step : (f : List T) (i : ℕ) (most more x : T) → i < length f → x ≡ get_or f i x → more ≡ ord_max cmp most x
      → greatest_by cmp most (drop i f) ≡ greatest_by cmp more (drop (i + 1) f)
  unfolding greatest_by
  by_step f i most more x h is e =
      ap (greatest_by cmp most) (drop-cons f i x h ∙ ap (λ y. y ∷ drop (suc i) f) (sym is))
      ∙ ap (λ m. greatest_by cmp m (drop (suc i) f)) (sym e) ∙ rw (add-one i) refl

  pub by_gone : (f : List T) (i : ℕ) (most : T) → length f ≤ i → greatest_by cmp most (drop i f) ≡ most
  unfolding greatest_by
  by_gone f i most h = rw (drop_of_length-le f {i = i} h) refl

-- By the order of numbers it is the greatest number.
max_is : (a b : ℕ) → ord_max nat_cmp a b ≡ max a b
max_is a b =
    by-test (ltb b a)
    (λ e. rw e (omega (arith, ltb-true b a e)))
    (λ e. rw e (by-test (eqb b a)
    (λ q. rw q (omega (arith, ltb-false b a e)))
    (λ q. rw q (omega (arith, ltb-false b a e)))))

by_numbers : (most : ℕ) (f : List ℕ) → greatest_by nat_cmp most f ≡ max most (greatest f)
unfolding greatest greatest_by
by_numbers most [] = omega arith
by_numbers most (a ∷ f) = by_numbers (ord_max nat_cmp most a) f ∙ rw (max_is most a) (omega arith)

pub greatest_is : (f : List ℕ) → greatest_by nat_cmp 0 f ≡ greatest f
greatest_is f = by_numbers 0 f ∙ omega arith

-- The greater of two is above a bound if one of them is.
pub above_either : (n a b : ℕ) → ltb n (max a b) ≡ (ltb n a || ltb n b)
above_either n a b =
    by-test (ltb n a)
    (λ e. rw e (lt-ltb n (max a b) (omega (arith, ltb-true n a e))))
    (λ e. rw e (by-test (ltb n b)
    (λ q. rw q (lt-ltb n (max a b) (omega (arith, ltb-true n b q))))
    (λ q. rw q (le-ltb n (max a b) (omega (arith, ltb-false n a e, ltb-false n b q))))))
