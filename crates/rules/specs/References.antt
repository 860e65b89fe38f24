-- Number 6 as a test of a block's references: one is below 0, or at or above N. No rule of V2.antt rests on it: that number 6
-- comes exactly at row 2, column 0, motion 0, 1 or 2, and that no reference reaches N, are theorems over this test
-- (proofs/V2References.antt).
use Rattle.std.specs.Prelude.{ℕ, zero, suc, ◌+◌, Bool, true, false, ◌||◌, cond, ltb, leb, eqb, ℤ, pos, negsuc, get_or}
use Rattle.rules.specs.V2.{motion_averages, reference}

-- Whether a position, or the one `more` places on, is outside a frame of n cells.
unfoldable pub outside : ℕ → ℕ → ℤ → Bool
outside n more (pos p) = leb n (p + more)
outside n more (negsuc p) = true

-- Whether the reference of sample i is outside; averaging counts.
unfoldable pub strays : ℕ → ℕ → ℕ → ℕ → ℕ → ℕ → Bool
strays n w row col motion i = outside n (cond (get_or motion_averages motion false) 2 0) (reference w row col motion i)

-- Whether one of k references from sample i on is outside.
unfoldable pub any_strays : ℕ → ℕ → ℕ → ℕ → ℕ → ℕ → ℕ → Bool
any_strays n w row col motion zero i = false
any_strays n w row col motion (suc k) i = strays n w row col motion i || any_strays n w row col motion k (suc i)

-- The refusal that a base meets by this test, or 0.
unfoldable pub tested_refusal : ℕ → ℕ → ℕ → ℕ → ℕ → ℕ
tested_refusal n w row col motion =
    cond (eqb motion 7) 0 (cond (ltb row 2) 5 (cond (any_strays n w row col motion 16 0) 6 0))
