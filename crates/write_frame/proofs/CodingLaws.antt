-- What holds of both formats: their units, their widths, and that every number of a frame that can be written is short.
use Prim.Native.Nat.{ℕ, suc, zero, ◌+◌, ◌*◌, ◌/◌, ◌%◌, ◌<◌, ◌≤◌}
use mathlib.Core.Path.{◌≡◌, refl, ap}
use mathlib.Core.List.{List, [], ◌∷◌}
use mathlib.Core.Logic.{by_cases}
use native.Mathlib.Omega.{arith}
use native.Mathlib.Decide.{dec_lt}
use lib.Dec.{lit<}
use lib.ListN.{length, get_or}
use Rattle.rules.specs.Limits.{sample_bound}
use Rattle.rules.specs.declared.answer.Size.{Size}
use Rattle.rules.specs.V0.{order, sample_kind}
use Rattle.rules.specs.V2.{position}
use Rattle.rules.proofs.Cells.{All, nil, more}
use Rattle.write_rules.specs.Writer.{gap, Coding, Unit, word, line}
use Rattle.write_rules.specs.Weight.{Short}
use Rattle.write_rules.proofs.Exchange.{exchange_all}
use Rattle.write_rules.proofs.V0Written.{residual_short}
use Rattle.write_rules.proofs.V2Written.{difference_short}
use Rattle.write_bits.specs.Block.{Shorts}
use Rattle.write_frame.specs.declared.format.Format.{Format}
use Rattle.write_frame.specs.declared.format.Format.TheVariants.{V0, V2}
use Rattle.write_frame.specs.Frames.{BlockLent, Whole, Writable, size, exchanged, coding, unit, block_of, block_residuals, block_differences, block_numbers}
use Rattle.write_frame.proofs.HalfLaws.{tabulate_get, tabulate_length}

module _ (z : Size) (f : List ℕ) where
  pub unit_is : (format : Format) → (coding format z f).unit ≡ unit format
  unfolding coding unit
  unit_is V0 = refl
  unit_is V2 = refl

  pub width_is : (format : Format) → (coding format z f).width ≡ z.width
  unfolding coding
  width_is V0 = refl
  width_is V2 = refl

  pub coding_unit : (format : Format) → Unit (coding format z f).unit
  unfolding coding
  coding_unit V0 = word
  coding_unit V2 = line

pub format_unit : (format : Format) → Unit (unit format)
unfolding unit
format_unit V0 = word
format_unit V2 = line

-- Bits in whole units, as bytes.
pub in_words : (format : Format) (bits : ℕ) → format ≡ V0 → (bits + 31) / 32 * 4 ≡ (bits + gap (8 * unit format) bits) / 8
unfolding unit
in_words format bits e = rw e (omega arith)

pub in_lines : (format : Format) (bits : ℕ) → format ≡ V2 → (bits + 127) / 128 * 16 ≡ (bits + gap (8 * unit format) bits) / 8
unfolding unit
in_lines format bits e = rw e (omega arith)

-- A block's numbers, by the format.
module _ (format : Format) (w h : ℕ) (f : List ℕ) (row col : ℕ) where
  pub numbers_v0 : (d : List ℕ) → format ≡ V0 → d ≡ block_residuals (size w h) f row col → d ≡ block_numbers format (size w h) f row col
  unfolding coding
  numbers_v0 d e q = rw e q

  pub numbers_v2 : (d : List ℕ) → format ≡ V2 → d ≡ block_differences w f row col → d ≡ block_numbers format (size w h) f row col
  unfolding coding
  numbers_v2 d e q = rw e q

-- V0 asks nothing of the width.
pub whole_v0 : (w : ℕ) → Whole V0 w
unfolding unit
whole_v0 w = record { blocks = λ e. absurd (let q : 4 ≡ 16 = ap unit e in omega arith) }

-- A V2 block ends within its row.
pub inner_block : {format : Format} {w h row col : ℕ} {f : List ℕ} → BlockLent (size w h) row col f → Whole format w → format ≡ V2 → col + 16 ≤ w
inner_block x whole e = let b = whole.blocks e in omega arith

-- Each block of a frame that can be written is lent.
pub block_lent : {format : Format} {w h row col : ℕ} {f : List ℕ} → Writable format (size w h) f → row < h → col < w → col % 16 ≡ 0 → BlockLent (size w h) row col f × Whole format w
block_lent x r c e = (record { place = record { wide = x.wide; high = x.high; row_in = r; col_in = c }; block = e; whole = x.whole }, x.blocks)

-- A block's numbers as a list, each of them short.
listed_short : (x : Coding) (row col : ℕ) → ((k : ℕ) → Short (x.number row col k)) → Shorts (block_of x row col)
listed_short x row col each = record {
  each = λ k. by_cases (dec_lt k 16)
      (λ l. let z : 0 + k ≡ k = omega arith in rw (tabulate_get (x.number row col) 16 0 k l, z) (each k))
      (λ l. rw (past (block_of x row col) k (rw (tabulate_length (x.number row col) 16 0) (omega arith))) (record { below = lit< tt; short = lit< tt }));
}
  where
    past : (l : List ℕ) (i : ℕ) → length l ≤ i → get_or l i 0 ≡ 0
    past [] i q = refl
    past (a ∷ l) zero q = absurd (omega arith)
    past (a ∷ l) (suc i) q = past l i (omega arith)

all_of_get : (f : List ℕ) → ((i : ℕ) → get_or f i 0 < sample_bound) → All (λ a. a < sample_bound) f
all_of_get [] q = nil
all_of_get (a ∷ f) q = more (q 0) (all_of_get f (λ i. q (suc i)))

number_short : (format : Format) (w h : ℕ) (f : List ℕ) → All (λ a. a < sample_bound) f → (row col : ℕ) → row < h → (k : ℕ) → Short ((coding format (size w h) f).number row col k)
unfolding coding
number_short V0 w h f dim row col l k =
    residual_short w h (exchanged (size w h) f) (exchange_all sample_kind (λ a. a < sample_bound) (lit< tt) (size w h) dim) row l col (get_or order k 0)
number_short V2 w h f dim row col l k = difference_short w h f dim row l col (position row k)

pub block_short : (format : Format) (w h : ℕ) (f : List ℕ) (row col : ℕ) → Writable format (size w h) f → row < h → (d : List ℕ) → d ≡ block_numbers format (size w h) f row col → Shorts d
block_short format w h f row col writable l d e =
    rw e (listed_short (coding format (size w h) f) row col (number_short format w h f (all_of_get f writable.dim) row col l))
