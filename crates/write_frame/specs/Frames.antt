-- A frame that is lent, a place in it, and what is written of it.
use Rattle.std.specs.Prelude.{ℕ, ◌+◌, ◌-◌, ◌*◌, ◌%◌, ◌<◌, ◌≤◌, cond, ◌≡◌, List, ltb, length, get_or}
use Rattle.rules.specs.Limits.{most_side, sample_bound}
use Rattle.rules.specs.declared.answer.Size.{Size}
use Rattle.rules.specs.Frame.{tabulate}
use Rattle.rules.specs.V0.{sample_kind, exchange}
use Rattle.write_rules.specs.Writer.{Coding, residuals, row_bytes, rows_bytes}
use Rattle.write_rules.specs.V2Writer.{differences}
use Rattle.write_frame.specs.declared.format.Format.{Format}
use Rattle.write_frame.specs.declared.format.Format.TheVariants.{V0, V2}

abbrev pub size : ℕ → ℕ → Size
size width height = record { width = width; height = height }

-- A row and a column that the frame has, within the limits.
pub record InFrame (z : Size) (row col : ℕ) : Type 0 where
  pub wide : z.width ≤ most_side
  pub high : z.height ≤ most_side
  pub row_in : row < z.height
  pub col_in : col < z.width

-- The block at a column of a row, where all of the frame is lent.
pub record BlockLent (z : Size) (row col : ℕ) (f : List ℕ) : Type 0 where
  pub place : InFrame z row col
  pub block : col % 16 ≡ 0
  pub whole : length f ≡ z.width * z.height

-- In V2 every block ends within its row.
pub record Whole (format : Format) (width : ℕ) : Type 0 where
  pub blocks : format ≡ V2 → width % 16 ≡ 0

-- A frame that can be written: it is within the limits, all of it is lent, and no sample is above 16,383.
pub record Writable (format : Format) (z : Size) (f : List ℕ) : Type 0 where
  pub wide : z.width ≤ most_side
  pub high : z.height ≤ most_side
  pub blocks : Whole format z.width
  pub whole : length f ≡ z.width * z.height
  pub dim : (i : ℕ) → get_or f i 0 < sample_bound

-- What V0 writes: the samples after the exchange of places.
abbrev pub exchanged : Size → List ℕ → List ℕ
exchanged z f = exchange sample_kind z f

-- What a frame's blocks are written from in each format, and the bytes that its rows are padded to.
unfoldable pub coding : Format → Size → List ℕ → Coding
coding V0 z f = residuals z.width (exchanged z f)
coding V2 z f = differences z.width f

unfoldable pub unit : Format → ℕ
unit V0 = 4
unit V2 = 16

-- The bytes of a row, and of all.
abbrev pub row_of : Format → Size → List ℕ → ℕ → List ℕ
row_of format z f row = row_bytes (coding format z f) row

abbrev pub rows_of : Format → Size → List ℕ → List ℕ
rows_of format z f = rows_bytes (coding format z f) z.height 0

-- The numbers of the block at a column of a row, in the order of the stream.
abbrev pub block_of : Coding → ℕ → ℕ → List ℕ
block_of x row col = tabulate 16 0 (x.number row col)

abbrev pub block_residuals : Size → List ℕ → ℕ → ℕ → List ℕ
block_residuals z f row col = block_of (residuals z.width (exchanged z f)) row col

abbrev pub block_differences : ℕ → List ℕ → ℕ → ℕ → List ℕ
block_differences width f row col = block_of (differences width f) row col

abbrev pub block_numbers : Format → Size → List ℕ → ℕ → ℕ → List ℕ
block_numbers format z f row col = block_of (coding format z f) row col

-- The same where each half begins at a place, its samples two places apart, and has one prediction.
abbrev pub by_halves : List ℕ → ℕ → ℕ → ℕ → ℕ → ℕ → ℕ
by_halves f first second p q k = (get_or f (cond (ltb k 8) first second + 2 * (k % 8)) 0 + 65_536 - cond (ltb k 8) p q) % 65_536
