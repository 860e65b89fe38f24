-- What the count of missing words is held against: the words that reads fetch, by their positions. `proofs/Missing.antt` says that
-- the count is the number of those that don't lie wholly in the stream.
use Rattle.std.specs.Prelude.{ℕ, zero, suc, ◌+◌, min, Bool, cond, not, ◌||◌, List, [], ◌∷◌, ◌++◌, length, get_or, leb}
use Rattle.rules.specs.declared.answer.Size.{Size}
use Rattle.rules.specs.declared.reader.Bits.{Bits}
use Rattle.rules.specs.Reader.{reset_at, held, read}
use Rattle.rules.specs.V0.{row_blocks}

-- Whether the word at p doesn't lie wholly in a stream.
abbrev pub past_end : List ℕ → ℕ → Bool
past_end s p = not (leb (p + 4) (length s))

-- How many of the words at some positions don't.
unfoldable pub missing_of : List ℕ → List ℕ → ℕ
missing_of s [] = 0
missing_of s (p ∷ ps) = cond (past_end s p) 1 0 + missing_of s ps

-- The flag that a reader of one flag has after them, o being what it had before.
unfoldable pub flag_after : List ℕ → Bool → List ℕ → Bool
flag_after s o [] = o
flag_after s o (p ∷ ps) = flag_after s (o || past_end s p) ps

-- The words that a read of n bits fetches: one, or none if enough bits are held.
unfoldable pub fetches : Bits → ℕ → List ℕ
fetches b n = cond (leb (min n 32) (held b)) [] (b.pos ∷ [])

-- A reader that goes by reads and resets from one state to another, and the positions of the words that it fetches.
pub data Run (s : List ℕ) : Bits → List ℕ → Bits → Type 0 where
  stay : {b : Bits} → Run s b [] b
  reads : {b c : Bits} {ps : List ℕ} (n : ℕ) → Run s (read s b n).bits ps c → Run s b (fetches b n ++ ps) c
  resets : {b c : Bits} {ps : List ℕ} (p : ℕ) → Run s (reset_at b p) ps c → Run s b ps c

-- The sum of the counts of n rows of a V0 frame from a row on.
unfoldable pub rows_sum : List ℕ → List ℕ → Size → ℕ → ℕ → ℕ
rows_sum s offsets z zero row = 0
rows_sum s offsets z (suc n) row = (row_blocks s z row (get_or offsets row 0)).bits.filler + rows_sum s offsets z n (suc row)
