-- How the pinned examples write a value: as a list of numbers.
use Prim.Native.Nat.{ℕ, suc, ◌+◌}
use mathlib.Core.Bool.{Bool, true, false}
use mathlib.Core.Path.{◌≡◌}
use mathlib.Core.List.{List, [], ◌∷◌, ◌++◌, map}
use lib.ListN.{get_or, replicate}
use lib.IntN.{ℤ, pos, negsuc}
use Rattle.rules.specs.declared.answer.Size.{Size}
use Rattle.rules.specs.declared.reader.Bits.{Bits}
use Rattle.rules.specs.declared.reader.Got.{Got}
use Rattle.rules.specs.declared.v0.Predictor.{Predictor}
use Rattle.rules.specs.declared.v0.Predictor.TheVariants.{Skipped, Constant, Sample}
use Rattle.rules.specs.declared.v0.V0Op.{V0Op}
use Rattle.rules.specs.Examples.{Example}

-- A number, and a list of numbers.
abbrev pub is : ℕ → ℕ → Example
is given stated = record { given = given ∷ []; stated = stated ∷ [] }

abbrev pub are : List ℕ → List ℕ → Example
are given stated = record { given = given; stated = stated }

-- What the rules give in each is what is stated.
abbrev pub Hold : List Example → Type 0
Hold es = map (λ e. e.given) es ≡ map (λ e. e.stated) es

-- A flag is 0 or 1; a number below 0 stands apart from all that the examples have.
abbrev pub of_bool : Bool → ℕ
of_bool false = 0
of_bool true = 1

abbrev pub minus : ℕ → ℕ
minus n = 1_000_000_000_000 + n

abbrev pub of_ℤ : ℤ → ℕ
of_ℤ (pos n) = n
of_ℤ (negsuc n) = minus (suc n)

-- A reader's state: position, word, count, missing words.
abbrev pub bits : ℕ → ℕ → ℕ → ℕ → Bits
bits p w c n = record { pos = p; word = w; count = c; filler = n }

abbrev pub of_bits : Bits → List ℕ
of_bits b = b.pos ∷ b.word ∷ b.count ∷ b.filler ∷ []

abbrev pub of_got : Got → List ℕ
of_got g = g.value ∷ of_bits g.bits

abbrev pub size : ℕ → ℕ → Size
size w h = record { width = w; height = h }

-- Two words, A0000000 and 87654321.
abbrev pub words : List ℕ
words = 0x00 ∷ 0x00 ∷ 0x00 ∷ 0xA0 ∷ 0x21 ∷ 0x43 ∷ 0x65 ∷ 0x87 ∷ []

-- A predictor: 0 skipped, 1 the constant, 2 and the place of a sample. An operation: place, residual, predictor.
abbrev pub of_predictor : Predictor → List ℕ
of_predictor Skipped = 0 ∷ []
of_predictor Constant = 1 ∷ []
of_predictor (Sample p) = 2 ∷ p ∷ []

abbrev pub op : ℕ → Predictor → ℕ → V0Op
op place p d = record { place = place; predictor = p; residual = d }

abbrev pub of_op : V0Op → List ℕ
of_op o = o.place ∷ o.residual ∷ of_predictor o.predictor

abbrev pub op_at : ℕ → List V0Op → List ℕ
op_at i ops = of_op (get_or ops i (op 0 Skipped 0))

-- Rows of a frame of 3 by 4, at offsets of both words and of zeros behind them: directions 1, 0, 1, 0.
abbrev pub rows_bytes : List ℕ
rows_bytes = words ++ replicate 12 0

abbrev pub rows_offsets : List ℕ
rows_offsets = 4 ∷ 8 ∷ 4 ∷ 8 ∷ []

-- Two rows, of which the first has no bytes.
abbrev pub spilt_bytes : List ℕ
spilt_bytes = 0x00 ∷ 0x00 ∷ 0x00 ∷ 0x80 ∷ replicate 8 0x00

abbrev pub spilt_offsets : List ℕ
spilt_offsets = 12 ∷ 0 ∷ []

-- Some cells of a frame.
abbrev pub cells_at : List ℕ → List ℕ → List ℕ
cells_at is f = map (λ i. get_or f i 0) is
