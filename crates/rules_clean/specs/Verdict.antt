-- Clean frames (docs/RULES.md, "Clean frames"): the check takes a V0 frame if no block in rows 0 and 1 has direction 1, all four
-- lengths of every block lie in 0 to 16 after its operations, and no filler word is fetched by the direct decoder. Else it says
-- what is wrong: the first fault in row order, then in block order, then in the sequence 17, 18, 19. It is read off the direct
-- decoder's own parse: the head of each block, and the reader's state at the block's end.
use Rattle.std.specs.Prelude.{ℕ, zero, suc, ◌+◌, ◌*◌, Bool, true, false, cond, not, ◌&&◌, List, [], ◌∷◌, ltb, leb, eqb, ℤ, pos, negsuc, get_or}
use Rattle.rules.specs.declared.answer.Answer.{Answer}
use Rattle.rules.specs.declared.answer.Size.{Size}
use Rattle.rules.specs.declared.reader.Bits.{Bits}
use Rattle.rules.specs.declared.v0.V0Row.{V0Row}
use Rattle.rules.specs.declared.v0.V0Head.{V0Head}
use Rattle.rules.specs.Reader.{has_filler}
use Rattle.rules.specs.V0.{fresh_row, head, predictor, samples, order, blocks_in}
use Rattle.rules.specs.Answer.{done}

-- ── A block ──

-- A length in 0 to 16.
unfoldable pub fits : ℤ → Bool
fits (pos n) = leb n 16
fits (negsuc n) = false

unfoldable pub all_fit : List ℤ → Bool
all_fit [] = true
all_fit (l ∷ ls) = fits l && all_fit ls

-- The first of three tests that holds, by its number; 0 if none does.
unfoldable pub first_fault : Bool → Bool → Bool → ℕ
first_fault upward outside filler = cond upward 17 (cond outside 18 (cond filler 19 0))

-- What is wrong with a block of a row: 17, direction 1 in row 0 or 1; 18, a length outside 0 to 16 after the operations; 19, its
-- reader had fetched a filler word by the block's end.
unfoldable pub block_fault : ℕ → V0Head → Bits → ℕ
block_fault row h end = first_fault (ltb row 2 && h.up) (not (all_fit h.row.lengths)) (has_filler end)

-- ── A row and a frame ──

-- A number, or if it is 0 the next.
abbrev pub or_next : ℕ → ℕ → ℕ
or_next k n = cond (eqb k 0) n k

-- The first fault of n blocks of a row from a column on.
unfoldable pub blocks_fault : List ℕ → Size → ℕ → ℕ → ℕ → V0Row → ℕ
blocks_fault s z row zero col st = 0
blocks_fault s z row (suc n) col st =
    let h = head s st in
    let x = samples s (row * z.width + col) h.row.lengths (predictor z row col h.up) order h.row.bits in
    or_next (block_fault row h x.bits) (blocks_fault s z row n (col + 16) (record { lengths = h.row.lengths; bits = x.bits }))

-- That of a row whose data begins at an offset of the stream.
unfoldable pub row_fault : List ℕ → Size → ℕ → ℕ → ℕ
row_fault s z row offset = blocks_fault s z row (blocks_in z.width) 0 (fresh_row row offset)

-- A fault's answer has its row, and counts no filler.
abbrev pub fault_at : ℕ → ℕ → Answer
fault_at row k = record { number = k; row = row; filler = 0 }

-- The verdict on n rows from a row on: the first fault, or done.
unfoldable pub rows_verdict : List ℕ → List ℕ → Size → ℕ → ℕ → Answer
rows_verdict s offsets z zero row = done
rows_verdict s offsets z (suc n) row =
    let k = row_fault s z row (get_or offsets row 0) in
    cond (eqb k 0) (rows_verdict s offsets z n (suc row)) (fault_at row k)

-- The verdict on a frame.
unfoldable pub verdict : List ℕ → List ℕ → Size → Answer
verdict s offsets z = rows_verdict s offsets z z.height 0
