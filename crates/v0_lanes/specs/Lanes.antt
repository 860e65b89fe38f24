-- Four numbers side by side in one number: four residuals of one length in lanes of 16 bits, four lengths in bytes.
use Rattle.std.specs.Prelude.{ℕ, ◌+◌, ◌*◌, ◌/◌, ◌%◌, ◌^◌, ◌<◌, List, [], ◌∷◌}
use Rattle.v0_parse_window.specs.ByWindow.{residual}

-- Four lanes of k bits, the last one lowest.
abbrev pub lanes : ℕ → ℕ → ℕ → ℕ → ℕ → ℕ
lanes k a b c d = ((a * 2 ^ k + b) * 2 ^ k + c) * 2 ^ k + d

-- Four fields of n bits that d ends with, each as the residual that it is, in lanes of 16 bits.
unfoldable pub residual_lanes : ℕ → ℕ → ℕ
residual_lanes n d =
    lanes 16 (residual n (d / 2 ^ n / 2 ^ n / 2 ^ n % 2 ^ n)) (residual n (d / 2 ^ n / 2 ^ n % 2 ^ n)) (residual n (d / 2 ^ n % 2 ^ n)) (residual n (d % 2 ^ n))

-- Four lanes of 16 bits, the first highest.
abbrev pub lanes_of : ℕ → List ℕ
lanes_of z = z / 2 ^ 48 ∷ z / 2 ^ 32 % 2 ^ 16 ∷ z / 2 ^ 16 % 2 ^ 16 ∷ z % 2 ^ 16 ∷ []

-- A number whose four lanes of 16 bits are below m.
pub record LanesBelow (m z : ℕ) : Type 0 where
  pub first : z / 2 ^ 48 < m
  pub second : z / 2 ^ 32 % 2 ^ 16 < m
  pub third : z / 2 ^ 16 % 2 ^ 16 < m
  pub fourth : z % 2 ^ 16 < m
