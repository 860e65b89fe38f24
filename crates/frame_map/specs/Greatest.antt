-- What a loop finds that looks for the greatest.
use Rattle.std.specs.Prelude.{ℕ, max, List, [], ◌∷◌}
use Rattle.std.specs.Ordering.{ord_max}
use Rattle.std.specs.declared.cmp.Ordering.{Ordering}

-- The greatest number, or 0.
unfoldable pub greatest : List ℕ → ℕ
greatest [] = 0
greatest (a ∷ f) = max a (greatest f)

-- The greatest of a value and of a list, by an order.
unfoldable pub greatest_by : {T : Type 0} → (T → T → Ordering) → T → List T → T
greatest_by cmp most [] = most
greatest_by cmp most (a ∷ f) = greatest_by cmp (ord_max cmp most a) f
