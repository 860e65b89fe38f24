-- Where in a frame's cells a row, a block or a sample lies.
use Rattle.std.specs.Prelude.{◌≡◌, ℕ, ◌+◌, ◌*◌, ◌/◌, ◌%◌, ◌<◌, ◌≤◌, ◌⊎◌, List, length}
use Rattle.rules.specs.Limits.{most_side}
use Rattle.rules.specs.Answer.{scratch_bytes}
use Rattle.rules.specs.Frame.{cells}
use Rattle.rules.specs.declared.answer.Size.{Size}

-- A map is lent whole, or not at all: then it is a frame of no cells, to which every rule does nothing.
abbrev pub Whole : {A : Type 0} → Size → List A → Type 0
Whole z map = (length map ≡ cells z) ⊎ (length map ≡ 0)

-- The block at a column of a row that the frame has.
pub record InFrame (z : Size) (row col : ℕ) : Type 0 where
  pub width : z.width ≤ most_side
  pub height : z.height ≤ most_side
  pub row_in : row < z.height
  pub col_in : col < z.width
  pub block : col % 16 ≡ 0

-- From row 2 on, after column 0 and inside the row: every sample of such a block predicts from a sample that exists.
pub record Inner (z : Size) (row col : ℕ) : Type 0 where
  pub frame : InFrame z row col
  pub late : 2 ≤ row
  pub after : 0 < col
  pub inside : col + 16 ≤ z.width

-- A block at `base` in cells of a row length w: it is no wider than a row and lies inside them, with two rows before it.
pub record Inside {A : Type 0} (w base : ℕ) (f : List A) : Type 0 where
  pub wide : 16 ≤ w
  pub rows : 2 * w ≤ base
  pub room : base + 16 ≤ length f

-- Low enough that sums with it fit 64 bits with room to spare: a frame has at most 16,384 rows of 16,384 cells.
abbrev pub Low : ℕ → Type 0
Low base = base < 1_000_000_000

-- A pair of rows, with columns from one up to another.
pub record InColumns {A : Type 0} (w row from to : ℕ) (f : List A) : Type 0 where
  pub width : w ≤ most_side
  pub row_in : row < most_side
  pub columns : from ≤ to
  pub columns_in : to ≤ w
  pub inside : (row + 2) * w ≤ length f

-- Two rows that lie in a frame of row length w.
pub record InPair {A : Type 0} (w row : ℕ) (f : List A) : Type 0 where
  pub width : w ≤ most_side
  pub row_in : row < most_side
  pub inside : (row + 2) * w ≤ length f

-- The same of a map, which may not be lent.
abbrev pub MapInPair : {A : Type 0} → ℕ → ℕ → List A → Type 0
MapInPair w row map = InPair w row map ⊎ (length map ≡ 0)

-- The pairs of rows from one number up to another, of a frame that is lent with its map or without.
pub record PairsLent {A B : Type 0} (z : Size) (from to : ℕ) (out : List A) (map : List B) : Type 0 where
  pub width : z.width ≤ most_side
  pub height : z.height ≤ most_side
  pub pairs : from ≤ to
  pub pairs_in : to ≤ z.height / 2
  pub samples_lent : length out ≡ cells z
  pub map_lent : Whole z map

-- A whole frame.
pub record Framed (z : Size) (f : List ℕ) : Type 0 where
  pub width : z.width ≤ most_side
  pub height : z.height ≤ most_side
  pub lent : length f ≡ cells z

-- What a phase of the two-phase decoder is lent: a frame's cells, and a direction byte for each block from row 2 on.
pub record PhaseLent (z : Size) (f dirs : List ℕ) : Type 0 where
  pub frame : Framed z f
  pub directions_lent : scratch_bytes z ≤ length dirs
