-- A block's differences, one after another: what the stages before gave is a variable with its equation.
use Rattle.std.proofs.Common.{◌≡◌, ℕ, suc, ◌+◌, ◌-◌, ◌/◌, ◌<◌, ◌≤◌, List, get_or, set, ℤ, ap, ◌∙◌, add-one, arith}
use Rattle.rules.specs.declared.reader.Bits.{Bits}
use Rattle.rules.specs.declared.reader.Taken.{Taken}
use Rattle.rules.specs.Reader.{read_signed}
use Rattle.rules.specs.V2.{position, Differences, difference_step, differences_from}

module _ (s : List ℕ) (row : ℕ) (ls : List ℕ) (k : ℕ) where
  step_is : (ds : List ℤ) (b : Bits) (g : Taken ℤ) (p : ℕ) → g ≡ read_signed s b (get_or ls (k / 4) 0) → p ≡ position row k
      → difference_step s row ls k (record { values = ds; bits = b }) ≡ record { values = set ds p g.value; bits = g.bits }
  unfolding difference_step
  step_is ds b g p eg ep = rw (← eg, ← ep)

  first_of : (x : Differences) → k < 16
      → differences_from s row ls (16 - k) k x ≡ differences_from s row ls (16 - (k + 1)) (k + 1) (difference_step s row ls k x)
  unfolding differences_from
  first_of x h = let e : 16 - k ≡ suc (16 - (k + 1)) = omega arith in rw (e, add-one)

  pub difference_more : (ds : List ℤ) (b : Bits) (g : Taken ℤ) (p : ℕ) → k < 16 → g ≡ read_signed s b (get_or ls (k / 4) 0) → p ≡ position row k
      → differences_from s row ls (16 - k) k (record { values = ds; bits = b })
      ≡ differences_from s row ls (16 - (k + 1)) (k + 1) (record { values = set ds p g.value; bits = g.bits })
  difference_more ds b g p h eg ep =
      first_of _ h ∙ ap (λ (x : Differences). differences_from s row ls (16 - (k + 1)) (k + 1) x) (step_is ds b g p eg ep)

  pub difference_end : (x : Differences) → 16 ≤ k → differences_from s row ls (16 - k) k x ≡ x
  unfolding differences_from
  difference_end x h = let e : 16 - k ≡ 0 = omega arith in rw e
