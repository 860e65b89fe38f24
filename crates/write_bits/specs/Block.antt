-- A block's numbers in the order of the stream, as a list, and what is written of them.
use Rattle.std.specs.Prelude.{ℕ, ◌+◌, ◌*◌, ◌/◌, ◌<◌, Bool, List, get_or}
use Rattle.rules.specs.Frame.{tabulate}
use Rattle.write_rules.specs.Weight.{Short}
use Rattle.write_rules.specs.Writer.{bits_of, run}

-- Number k.
abbrev pub numbers : List ℕ → ℕ → ℕ
numbers d k = get_or d k 0

-- The bits of number k, by its length.
abbrev pub number_bits : List ℕ → List ℕ → ℕ → List Bool
number_bits lengths d k = bits_of (get_or lengths (k / 4) 0) (get_or d k 0)

-- The bits of all sixteen.
abbrev pub numbers_bits : List ℕ → List ℕ → List Bool
numbers_bits lengths d = run (number_bits lengths d) (tabulate 16 0 (λ k. k))

-- A block's first 25 bits as one number: 0, four times 3, and the lengths.
abbrev pub opening_number : List ℕ → ℕ
opening_number ls = 16_711_680 + get_or ls 0 0 * 4_096 + get_or ls 1 0 * 256 + get_or ls 2 0 * 16 + get_or ls 3 0

-- Every number is one that 15 bits hold.
pub record Shorts (d : List ℕ) : Type 0 where
  pub each : (k : ℕ) → Short (get_or d k 0)

-- Every length is below 16.
pub record Lengths (ls : List ℕ) : Type 0 where
  pub each : (j : ℕ) → get_or ls j 0 < 16
