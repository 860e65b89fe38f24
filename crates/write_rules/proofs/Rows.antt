-- How long rows get, whatever their blocks are written from.
use Prim.Native.Nat.{ℕ, zero, suc, ◌+◌, ◌*◌, ◌/◌, ◌%◌, ◌<◌, ◌≤◌}
use mathlib.Core.Bool.{Bool}
use mathlib.Core.Path.{◌≡◌, refl, ap, ◌∙◌}
use mathlib.Core.List.{List}
use native.Mathlib.Omega.{arith}
use lib.ListN.{length, length-append}
use Rattle.rules.specs.Limits.{most_side}
use Rattle.rules.specs.V0.{blocks_in}
use Rattle.rules.proofs.Cells.{All, nil, more, all_append}
use Rattle.write_rules.specs.Writer.{gap, padded, block_bits, Coding, Unit, word, line, blocks_bits, row_bytes, rows_bytes, offsets_from}
use Rattle.write_rules.proofs.Blocks.{block_length}
use Rattle.write_rules.proofs.WrittenBytes.{bytes_length, bytes_below, padded_length}

-- Padding ends with a word.
pub gap_whole : {unit : ℕ} (n : ℕ) → Unit unit → (n + gap (8 * unit) n) % 32 ≡ 0
gap_whole n word = omega arith
gap_whole n line = omega arith

module _ (x : Coding) where
  -- A row's bits before they are padded.
  abbrev pub row_bits : ℕ → List Bool
  row_bits row = blocks_bits x row (blocks_in x.width) 0

  pub blocks_length : (row n col : ℕ) → length (blocks_bits x row n col) ≤ 265 * n
  unfolding blocks_bits
  blocks_length row zero col = omega arith
  blocks_length row (suc n) col =
      let d = x.number row col in
      omega (arith, length-append (block_bits d) (blocks_bits x row n (col + 16)), block_length d, blocks_length row n (col + 16))

  pub rows_below : (n row : ℕ) → All (λ b. b < 256) (rows_bytes x n row)
  unfolding rows_bytes row_bytes
  rows_below zero row = nil
  rows_below (suc n) row = all_append (λ b. b < 256) (bytes_below (padded (8 * x.unit) (row_bits row))) (rows_below n (suc row))

  pub offsets_length : (n row at : ℕ) → length (offsets_from x n row at) ≡ n
  unfolding offsets_from
  offsets_length zero row at = refl
  offsets_length (suc n) row at = ap suc (offsets_length n (suc row) (at + length (row_bytes x row)))

  module _ (u : Unit x.unit) where
    pub row_is : (row : ℕ) → length (row_bytes x row) ≡ (length (row_bits row) + gap (8 * x.unit) (length (row_bits row))) / 8
    unfolding row_bytes
    row_is row =
        let bs = row_bits row in
        let n = length bs + gap (8 * x.unit) (length bs) in
        let w : n % 32 ≡ 0 = gap_whole (length bs) u in
        let e : 4 * (n / 32) ≡ n / 8 = omega arith in
        bytes_length (padded (8 * x.unit) bs) ∙ ap (λ m. 4 * (m / 32)) (padded_length (8 * x.unit) bs) ∙ e

    pub row_whole : (row : ℕ) → length (row_bytes x row) % x.unit ≡ 0
    row_whole row = ap (λ n. n % x.unit) (row_is row) ∙ go (length (row_bits row)) u
      where
        go : {unit : ℕ} (n : ℕ) → Unit unit → (n + gap (8 * unit) n) / 8 % unit ≡ 0
        go n word = omega arith
        go n line = omega arith

    pub row_fourth : (row : ℕ) → length (row_bytes x row) % 4 ≡ 0
    row_fourth row = let w = gap_whole (length (row_bits row)) u in rw (row_is row) (omega arith)

    module _ (wide : x.width ≤ most_side) where
      -- A row takes at most 33,920 bytes.
      pub row_most : (row : ℕ) → length (row_bytes x row) ≤ 33_920
      row_most row = rw (row_is row) (go (length (row_bits row)) u (omega (arith, blocks_length row (blocks_in x.width) 0)))
        where
          go : {unit : ℕ} (n : ℕ) → Unit unit → n ≤ 271_360 → (n + gap (8 * unit) n) / 8 ≤ 33_920
          go n word l = omega arith
          go n line l = omega arith

      pub rows_most : (n row : ℕ) → length (rows_bytes x n row) ≤ 33_920 * n
      unfolding rows_bytes
      rows_most zero row = omega arith
      rows_most (suc n) row = omega (arith, length-append (row_bytes x row) (rows_bytes x n (suc row)), row_most row, rows_most n (suc row))

      pub offsets_most : (n row at m : ℕ) → at + 33_920 * n ≤ m → All (λ o. o ≤ m) (offsets_from x n row at)
      unfolding offsets_from
      offsets_most zero row at m l = nil
      offsets_most (suc n) row at m l =
          let a : at ≤ m = omega arith in
          more a (offsets_most n (suc row) (at + length (row_bytes x row)) m (omega (arith, row_most row)))
