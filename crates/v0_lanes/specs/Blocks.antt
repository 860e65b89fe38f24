-- Heads and blocks with packed lengths, as those of the rules.
use Rattle.std.specs.Prelude.{◌≡◌, ℕ, ◌+◌, ◌-◌, ◌*◌, ◌/◌, ◌%◌, ◌<◌, ◌≤◌, Bool, List, [], ◌∷◌, map, length, slice_index, slice_set}
use Rattle.rules.specs.V0.{apply, order, sample_kind}
use Rattle.rules.specs.Phases.{store_samples}
use Rattle.v0_cells.specs.Inner.{inner_ops}
use Rattle.v0_parse_window.specs.declared.WindowHead.{WindowHead}
use Rattle.v0_lanes.specs.Lengths.{lengths_of, lengths_after}
use Rattle.v0_lanes.specs.declared.lengths.PackedHead.{PackedHead}

-- Four cells from a place on, the last of four numbers first.
abbrev pub four_set : List ℕ → ℕ → ℕ → ℕ → ℕ → ℕ → List ℕ
four_set f at a b c d = slice_set (slice_set (slice_set (slice_set f at d) (at + 1) c) (at + 2) b) (at + 3) a

-- Sixteen numbers, four and four.
unfoldable pub stored : List ℕ → ℕ → List ℕ → List ℕ
stored f at r =
    four_set
    (four_set
    (four_set (four_set f at (slice_index r 0) (slice_index r 1) (slice_index r 2) (slice_index r 3)) (at + 4) (slice_index r 4) (slice_index r 5) (slice_index r 6) (slice_index r 7))
    (at + 8) (slice_index r 8) (slice_index r 9) (slice_index r 10) (slice_index r 11))
    (at + 12) (slice_index r 12) (slice_index r 13) (slice_index r 14) (slice_index r 15)

-- Sixteen numbers, one by one.
abbrev pub listed : List ℕ → List ℕ
listed r =
    slice_index r 0 ∷ slice_index r 1 ∷ slice_index r 2 ∷ slice_index r 3 ∷ slice_index r 4 ∷ slice_index r 5 ∷ slice_index r 6 ∷ slice_index r 7
    ∷ slice_index r 8 ∷ slice_index r 9 ∷ slice_index r 10 ∷ slice_index r 11 ∷ slice_index r 12 ∷ slice_index r 13 ∷ slice_index r 14 ∷ slice_index r 15 ∷ []

-- Where the residual of sample c lies among those stored.
abbrev pub lane_of : ℕ → ℕ
lane_of c = c % 2 * 8 + c / 8 * 4 + 3 - c / 2 % 4

-- A head that begins at bit q.
abbrev pub head_after : ℕ → PackedHead → WindowHead
head_after q h = record { up = h.up; lengths = lengths_after h.sums; q = q + h.size }

-- A head that ends before bit q, after which the lengths are 0 to 15.
abbrev pub head_before : Bool → ℕ → ℕ → WindowHead
head_before up q l = record { up = up; lengths = lengths_of l; q = q }

-- The first n residuals of a block in the order of its columns.
pub record Columns (f : List ℕ) (base n : ℕ) (d : List ℕ) : Type 0 where
  pub few : n ≤ 16
  pub size : length d ≡ 16
  pub each : (c : ℕ) → c < n → slice_index d c ≡ slice_index f (base + lane_of c)

-- The direct decoder's operations on a block at `base`, with the residuals that lie there as their lanes came.
abbrev pub predict_lanes : ℕ → ℕ → Bool → List ℕ → List ℕ
predict_lanes w base up f = apply sample_kind (inner_ops w base up order (map (λ c. slice_index f (base + lane_of c)) order)) f

-- The residuals of a block at `base` that lie there as their lanes came, each to its own column.
unfoldable pub order_lanes : ℕ → List ℕ → List ℕ
order_lanes base f = store_samples 0 (base + 16) base order (map (λ c. slice_index f (base + lane_of c)) order) f
