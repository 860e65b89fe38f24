-- What the functions ask of what they are lent, and what they do with one row.
use Rattle.std.specs.Prelude.{ℕ, ◌+◌, ◌-◌, ◌*◌, ◌/◌, ◌≤◌, ◌<◌, ◌≡◌, List, ◌++◌, length, take, drop}
use Rattle.rules.specs.declared.answer.Size.{Size}
use Rattle.rules.specs.Limits.{most_side}
use Rattle.rules.specs.Frame.{cells}
use Rattle.frame_planes.specs.Planes.{evens, odds, even_count, odd_count, weave}

-- A size within the limits.
pub record Within (z : Size) : Type 0 where
  pub wide : z.width ≤ most_side
  pub high : z.height ≤ most_side

-- A frame, and room for its planes; or its planes, and room for the frame.
pub record PlanesLent (z : Size) (from to : List ℕ) : Type 0 where
  pub within : Within z
  pub read : length from ≡ cells z
  pub written : length to ≡ cells z

-- ── One row, in the half of the planes that the rows of its parity make ──

-- Row k of so many rows of w samples, and a half that holds them all.
pub record RowOfHalf (w rows k half : ℕ) : Type 0 where
  pub wide : w ≤ most_side
  pub few : rows ≤ most_side
  pub below : k < rows
  pub room : rows * w ≤ half

-- Where its even columns start, and its odd ones.
abbrev pub evens_at : ℕ → ℕ → ℕ
evens_at w k = k * even_count w

abbrev pub odds_at : ℕ → ℕ → ℕ → ℕ
odds_at w rows k = rows * even_count w + k * odd_count w

-- A list with others in the place of its elements from the a-th on.
abbrev pub put_at : ℕ → List ℕ → List ℕ → List ℕ
put_at a new l = take a l ++ (new ++ drop (a + length new) l)

unfoldable pub row_put : List ℕ → ℕ → ℕ → List ℕ → List ℕ
row_put row rows k half = put_at (odds_at (length row) rows k) (odds row) (put_at (evens_at (length row) k) (evens row) half)

unfoldable pub row_taken : ℕ → ℕ → ℕ → List ℕ → List ℕ
row_taken w rows k half = weave (take (even_count w) (drop (evens_at w k) half)) (take (odd_count w) (drop (odds_at w rows k) half))

-- ── All rows ──

-- How many rows have a parity.
abbrev pub rows_with : ℕ → ℕ → ℕ
rows_with parity h = (h + 1 - parity) / 2

-- A frame, and room for the rows of one parity.
pub record HalfLent (z : Size) (parity : ℕ) (samples half : List ℕ) : Type 0 where
  pub within : Within z
  pub bit : parity ≤ 1
  pub read : length samples ≡ cells z
  pub written : length half ≡ rows_with parity z.height * z.width

-- The planes, and room for a row of the frame.
pub record RowLent (z : Size) (row : ℕ) (planes to : List ℕ) : Type 0 where
  pub within : Within z
  pub below : row < z.height
  pub read : length planes ≡ cells z
  pub written : length to ≡ z.width
