-- What a block of a band, the exchange of what it frees, and the steps of a list are lent.
use Rattle.std.specs.Prelude.{ℕ, ◌+◌, ◌-◌, ◌*◌, ◌%◌, ◌≤◌, ◌<◌, ◌≡◌, true, List, length}
use Rattle.rules.specs.Limits.{most_side}
use Rattle.rules.specs.Frame.{cells}
use Rattle.rules.specs.Answer.{scratch_bytes}
use Rattle.rules.specs.V0.{blocks_in}
use Rattle.rules_bands.specs.declared.Cut.{Cut}
use Rattle.rules_bands.specs.Bands.{fits, blocks_per_band, step_count, good}

-- n late rows from a row on, of w cells, with their direction bytes; and a block of b columns that begins within a row.
pub record BandLent (w b block row n : ℕ) (f dirs : List ℕ) : Type 0 where
  pub width : w ≤ most_side
  pub multiple : b % 16 ≡ 0
  pub begins : block * b < w
  pub rows_above : 2 ≤ row
  pub rows_below : row + n ≤ most_side
  pub rows_lent : (row + n) * w ≤ length f
  pub directions_lent : (row + n - 2) * blocks_in w ≤ length dirs

-- Pairs of rows from one up to another, with columns from one up to another.
pub record PartLent (w row end from to : ℕ) (f : List ℕ) : Type 0 where
  pub width : w ≤ most_side
  pub rows : row ≤ end
  pub rows_in : end ≤ most_side
  pub pairs : (row % 2 ≡ 0) × (end % 2 ≡ 0)
  pub columns : from ≤ to
  pub columns_in : to ≤ w
  pub lent : end * w ≤ length f

-- A band, or the end of the last one.
pub record RowLent (h bands band : ℕ) : Type 0 where
  pub height : h ≤ most_side
  pub some_band : 0 < bands
  pub most_bands : bands ≤ 64
  pub within : band ≤ bands

-- A block of a cut that fits, or the end of the last one.
pub record ColumnLent (c : Cut) (blocks block : ℕ) : Type 0 where
  pub width : c.size.width ≤ most_side
  pub cut_fits : fits c ≡ true
  pub blocks_are : blocks ≡ blocks_per_band c
  pub some_block : 0 < blocks
  pub within : block ≤ blocks

-- A step of a cut that fits.
pub record StepLent (c : Cut) (blocks n : ℕ) (f : List ℕ) : Type 0 where
  pub width : c.size.width ≤ most_side
  pub height : c.size.height ≤ most_side
  pub cut_fits : fits c ≡ true
  pub blocks_are : blocks ≡ blocks_per_band c
  pub low : n < step_count c
  pub lent : c.size.height * c.size.width ≤ length f

-- A frame of late rows cut into bands, and a good list.
pub record StepsLent (c : Cut) (steps f dirs : List ℕ) : Type 0 where
  pub width : c.size.width ≤ most_side
  pub height : c.size.height ≤ most_side
  pub cut_fits : fits c ≡ true
  pub list_good : good c steps ≡ true
  pub lent : c.size.height * c.size.width ≤ length f
  pub directions_lent : (c.size.height - 2) * blocks_in c.size.width ≤ length dirs

-- A whole frame, with its offsets, scratch and list, once refusals 1, 3, 4, 11 and 12 are passed.
pub record FrameLent (c : Cut) (offsets out scratch steps : List ℕ) : Type 0 where
  pub width : c.size.width ≤ most_side
  pub height : c.size.height ≤ most_side
  pub offsets_enough : c.size.height ≤ length offsets
  pub samples_lent : length out ≡ cells c.size
  pub scratch_lent : scratch_bytes c.size ≤ length scratch
  pub cut_fits : fits c ≡ true
  pub list_good : good c steps ≡ true
