-- Four groups in lanes are the block's sixteen residuals.
use Rattle.std.proofs.Common.{◌≡◌, ℕ, ◌+◌, ◌-◌, ◌*◌, ◌/◌, ◌%◌, ◌^◌, ◌<◌, ◌≤◌, Bool, List, length, arith}
use Rattle.rules.specs.V0.{length_bits}
use Rattle.v0_parse_window.specs.ByWindow.{Ahead, Plans, Group, Ends, residuals_of, residuals_ahead}
use Rattle.v0_parse_window.specs.declared.Plan.{Plan}
use Rattle.v0_parse_window.proofs.GroupLaws.{ByPosition, groups_are, groups_end}
use Rattle.v0_lanes.specs.Blocks.{four_set, stored, listed, head_before}
use Rattle.v0_lanes.specs.Lanes.{lanes_of}
use Rattle.v0_lanes.specs.Lengths.{byte0, byte1, byte2, byte3, Packed, lengths_of}

-- The window that a group of n bits ends with is in the stream.
pub group_room : {s : List ℕ} {base q : ℕ} → Ahead s base q residuals_ahead → (e n : ℕ) → q + 4 * n ≤ e → e ≤ q + 240
    → (64 + 4 * n ≤ e) × ((e < 2 ^ 32) × (base + (e - 64) / 32 * 4 + 12 ≤ length s))
group_room x e n l m = (omega arith, (omega arith, omega arith))

-- Where the groups end.
pub record Ending (q l e₀ e₁ e₂ e₃ : ℕ) : Type 0 where
  pub first : e₀ ≡ q + 4 * byte0 l
  pub second : e₁ ≡ q + 4 * byte0 l + 4 * byte1 l
  pub third : e₂ ≡ q + 4 * byte0 l + 4 * byte1 l + 4 * byte2 l
  pub fourth : e₃ ≡ q + 4 * byte0 l + 4 * byte1 l + 4 * byte2 l + 4 * byte3 l

-- The same from four equations.
pub endings : (q l e₀ e₁ e₂ e₃ : ℕ) → e₀ ≡ q + 4 * byte0 l → e₁ ≡ q + 4 * byte0 l + 4 * byte1 l → e₂ ≡ q + 4 * byte0 l + 4 * byte1 l + 4 * byte2 l
    → e₃ ≡ q + 4 * byte0 l + 4 * byte1 l + 4 * byte2 l + 4 * byte3 l → Ending q l e₀ e₁ e₂ e₃
endings q l e₀ e₁ e₂ e₃ a b c d = record { first = a; second = b; third = c; fourth = d }

module _ {s : List ℕ} {base q l e₀ e₁ e₂ e₃ : ℕ} (packed : Packed l) (ahead : Ahead s base q residuals_ahead) (ends : Ending q l e₀ e₁ e₂ e₃) (a b c d : ℕ)
    (first : Group s base (e₀ - 4 * byte0 l) (byte0 l) (lanes_of a)) (second : Group s base (e₁ - 4 * byte1 l) (byte1 l) (lanes_of b))
    (third : Group s base (e₂ - 4 * byte2 l) (byte2 l) (lanes_of c)) (fourth : Group s base (e₃ - 4 * byte3 l) (byte3 l) (lanes_of d)) (up : Bool) where
  plan : Plan
  plan = record { n0 = byte0 l; n1 = byte1 l; n2 = byte2 l; n3 = byte3 l; q1 = e₀; q2 = e₁; q3 = e₂; end = e₃ }

  plans : Plans (head_before up q l) plan
  unfolding plan lengths_of length_bits
  plans =
      record {
        is₀ = omega (arith, packed.first);
        is₁ = omega (arith, packed.second);
        is₂ = omega (arith, packed.third);
        is₃ = omega (arith, packed.fourth);
        second = ends.first;
        third = ends.second;
        fourth = ends.third;
        ends = ends.fourth;
      }

  by_position : ByPosition s base (head_before up q l) plan (lanes_of a) (lanes_of b) (lanes_of c) (lanes_of d)
  unfolding plan
  by_position =
      let q₀ : e₀ - 4 * byte0 l ≡ q = omega (arith, ends.first) in
      let q₁ : e₁ - 4 * byte1 l ≡ e₀ = omega (arith, ends.first, ends.second) in
      let q₂ : e₂ - 4 * byte2 l ≡ e₁ = omega (arith, ends.second, ends.third) in
      let q₃ : e₃ - 4 * byte3 l ≡ e₂ = omega (arith, ends.third, ends.fourth) in
      record { ahead = ahead; plans = plans; first = rw q₀ at first; second = rw q₁ at second; third = rw q₂ at third; fourth = rw q₃ at fourth }

  pub block_ends : Ends s base (head_before up q l) e₃
  unfolding plan
  block_ends = groups_end by_position

  pub block_listed : listed (residuals_of s base (head_before up q l)) ≡ residuals_of s base (head_before up q l)
  block_listed = rw (← groups_are by_position)

  pub block_stored : (f f₁ f₂ f₃ f₄ : List ℕ) (at : ℕ) → f₁ ≡ four_set f at (a / 2 ^ 48) (a / 2 ^ 32 % 2 ^ 16) (a / 2 ^ 16 % 2 ^ 16) (a % 2 ^ 16)
      → f₂ ≡ four_set f₁ (at + 4) (b / 2 ^ 48) (b / 2 ^ 32 % 2 ^ 16) (b / 2 ^ 16 % 2 ^ 16) (b % 2 ^ 16)
      → f₃ ≡ four_set f₂ (at + 8) (c / 2 ^ 48) (c / 2 ^ 32 % 2 ^ 16) (c / 2 ^ 16 % 2 ^ 16) (c % 2 ^ 16)
      → f₄ ≡ four_set f₃ (at + 12) (d / 2 ^ 48) (d / 2 ^ 32 % 2 ^ 16) (d / 2 ^ 16 % 2 ^ 16) (d % 2 ^ 16)
      → f₄ ≡ stored f at (residuals_of s base (head_before up q l))
  unfolding stored
  block_stored f f₁ f₂ f₃ f₄ at e₁ e₂ e₃ e₄ = rw (e₄, e₃, e₂, e₁, ← groups_are by_position)
