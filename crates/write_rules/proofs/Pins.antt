-- Pinned examples of specs/Writer.antt: what no frame of the worked examples shows, on the definition that says it.
use Prim.Native.Nat.{ℕ}
use mathlib.Core.Path.{◌≡◌, refl}
use mathlib.Core.Bool.{false, cond}
use mathlib.Core.List.{List, [], ◌∷◌, ◌++◌}
use lib.Dec.{eqb}
use lib.ListN.{length, replicate}
use Rattle.rules.specs.Reader as Reader
use Rattle.rules.specs.Frame as Frame
use Rattle.write_rules.specs.Writer as Writer
use Rattle.write_rules.specs.Writer.{Coding, bytes, smallest, lengths_for, offsets_from, predicted, residual}

-- The lengths of a block whose numbers are 0, but for number j, which is 1.
abbrev one_at : ℕ → List ℕ
one_at j = lengths_for (λ k. cond (eqb k j) 1 0)

-- Each of the sixteen numbers counts for its length, and for no other.
pub first_length : one_at 0 ++ one_at 1 ++ one_at 2 ++ one_at 3 ≡ 2 ∷ 0 ∷ 0 ∷ 0 ∷ 2 ∷ 0 ∷ 0 ∷ 0 ∷ 2 ∷ 0 ∷ 0 ∷ 0 ∷ 2 ∷ 0 ∷ 0 ∷ 0 ∷ []
unfolding Reader.signed Reader.modulo Writer.holds Writer.holds_all Writer.first_from Writer.smallest Writer.lengths_for
first_length = refl

pub second_length : one_at 4 ++ one_at 5 ++ one_at 6 ++ one_at 7 ≡ 0 ∷ 2 ∷ 0 ∷ 0 ∷ 0 ∷ 2 ∷ 0 ∷ 0 ∷ 0 ∷ 2 ∷ 0 ∷ 0 ∷ 0 ∷ 2 ∷ 0 ∷ 0 ∷ []
unfolding Reader.signed Reader.modulo Writer.holds Writer.holds_all Writer.first_from Writer.smallest Writer.lengths_for
second_length = refl

pub third_length : one_at 8 ++ one_at 9 ++ one_at 10 ++ one_at 11 ≡ 0 ∷ 0 ∷ 2 ∷ 0 ∷ 0 ∷ 0 ∷ 2 ∷ 0 ∷ 0 ∷ 0 ∷ 2 ∷ 0 ∷ 0 ∷ 0 ∷ 2 ∷ 0 ∷ []
unfolding Reader.signed Reader.modulo Writer.holds Writer.holds_all Writer.first_from Writer.smallest Writer.lengths_for
third_length = refl

pub fourth_length : one_at 12 ++ one_at 13 ++ one_at 14 ++ one_at 15 ≡ 0 ∷ 0 ∷ 0 ∷ 2 ∷ 0 ∷ 0 ∷ 0 ∷ 2 ∷ 0 ∷ 0 ∷ 0 ∷ 2 ∷ 0 ∷ 0 ∷ 0 ∷ 2 ∷ []
unfolding Reader.signed Reader.modulo Writer.holds Writer.holds_all Writer.first_from Writer.smallest Writer.lengths_for
fourth_length = refl

-- No length is above 15.
pub greatest_length : smallest (32_768 ∷ []) ≡ 15
unfolding Reader.signed Reader.modulo Writer.holds Writer.holds_all Writer.first_from Writer.smallest
greatest_length = refl

-- A row of 31 words.
pub long_row : length (bytes (replicate 992 false)) ≡ 124
unfolding Writer.number_of Writer.words_bytes Writer.bytes
long_row = refl

-- Three rows of one block, of which row 1 alone has numbers that aren't 0, and so is a word longer.
abbrev three_rows : Coding
three_rows = record { width = 16; unit = 4; number = λ row col k. cond (eqb row 1) 1 0 }

pub three_offsets : offsets_from three_rows 3 0 0 ≡ 0 ∷ 4 ∷ 12 ∷ []
unfolding Reader.signed Reader.modulo Frame.tabulate Writer.bits_of Writer.number_of Writer.fields_bits Writer.run Writer.padded Writer.words_bytes Writer.bytes Writer.holds Writer.holds_all Writer.first_from Writer.smallest Writer.lengths_for Writer.length_for Writer.block_bits Writer.blocks_bits Writer.row_bytes Writer.offsets_from
three_offsets = refl

-- 20 by 2, each sample its own place. At column 16 a sample is predicted from one before its block, in its row; at column 0 from none.
abbrev places : List ℕ
places = Frame.tabulate 40 0 (λ i. i)

pub predictions : predicted 20 places 1 16 2 ∷ predicted 20 places 1 16 3 ∷ predicted 20 places 1 0 3 ∷ predicted 20 [] 1 16 2 ∷ [] ≡ 34 ∷ 35 ∷ 128 ∷ 0 ∷ []
unfolding Frame.tabulate Writer.predicted
predictions = refl

pub two_residuals : residual 20 places 1 16 2 ∷ residual 20 [] 1 16 2 ∷ [] ≡ 4 ∷ 0 ∷ []
unfolding Frame.tabulate Writer.predicted Writer.residual
two_residuals = refl
