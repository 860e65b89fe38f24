-- What the tables hold.
use Rattle.std.specs.Prelude.{◌≡◌, ℕ, ◌+◌, ◌-◌, ◌*◌, ◌/◌, ◌%◌, ◌^◌, ◌<◌, cond, List, length, ◌==◌, slice_index}

-- A table of n numbers by a rule.
pub record Holds (rule : ℕ → ℕ) (n : ℕ) (t : List ℕ) : Type 0 where
  pub size : length t ≡ n
  pub each : (k : ℕ) → k < n → slice_index t k ≡ rule k

-- What four residuals of n bits are made with, a number for each n from 0 to 15: all bits of the four; how far the upper two are moved, and then
-- the upper one of each two, which is masked first; the four signs; what a sign is multiplied by, to fill the bits above it.
unfoldable pub shape : ℕ → ℕ → ℕ
shape n k =
    cond (k == 0) (2 ^ (4 * n) - 1)
    (cond (k == 1) (2 ^ 32 - 2 ^ (2 * n))
    (cond (k == 2) ((2 ^ n - 1) * 2 ^ 32 + (2 ^ n - 1))
    (cond (k == 3) (2 ^ 16 - 2 ^ n)
    (cond (k == 4) (2 ^ n / 2 * 281_479_271_743_489)
    (131_072 / 2 ^ n - 2)))))

abbrev pub shapes : ℕ → ℕ
shapes i = shape (i % 16) (i / 16)
