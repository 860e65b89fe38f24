-- The table of positions: one test of all its entries is the rule at each, for rows of either parity.
use Rattle.std.proofs.Common.{◌≡◌, ℕ, zero, suc, ◌+◌, ◌-◌, ◌*◌, ◌/◌, ◌%◌, ◌<◌, Bool, true, false, cond, eqb, List, [], get_or, add-zero, zero-add, arith}
use Rattle.rules.specs.Frame.{tabulate}
use Rattle.rules.specs.V2.{position}
use Rattle.v2_differences.specs.Positions.{row_positions, positions}

tabulate_at : {A : Type 0} (n i k : ℕ) (f : ℕ → A) (d : A) → k < n → get_or (tabulate n i f) k d ≡ f (k + i)
unfolding tabulate
tabulate_at zero i k f d h = absurd (omega arith)
tabulate_at (suc n) i zero f d h = rw zero-add
tabulate_at (suc n) i (suc k) f d h = let e : k + suc i ≡ suc k + i = omega arith in rw e at (tabulate_at n (suc i) k f d (omega arith))

-- The table has a row's positions at the row's parity.
pub positions_are : (table : List (List ℕ)) → table ≡ positions → (row : ℕ) → get_or table (row % 2) [] ≡ row_positions row
unfolding position tabulate
positions_are table e row =
    let same : row % 2 % 2 ≡ row % 2 = omega arith in
    rw (e, tabulate_at 2 0 (row % 2) row_positions [] (omega arith), add-zero (row % 2), same)

below : (t : Bool) (k : ℕ) → k < 16 → cond t (2 * (k % 8) + k / 8) (2 * (k % 8) + 1 - k / 8) < 16
below true k h = omega arith
below false k h = omega arith

-- Entry k of a row's positions: the rule's, and below 16.
pub position_at : (row k : ℕ) (ps : List ℕ) → ps ≡ row_positions row → k < 16 → (get_or ps k 0 ≡ position row k) × (get_or ps k 0 < 16)
unfolding position
position_at row k ps e h =
    let at : get_or ps k 0 ≡ position row k = rw e (rw add-zero at (tabulate_at 16 0 k (position row) 0 h)) in
    (at, rw at (below (eqb (row % 2) 0) k h))
