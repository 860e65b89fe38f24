-- Pinned examples of specs/V0.antt, by the definition's name.
use Prim.Native.Nat.{ℕ, ◌+◌, ◌-◌, ◌%◌, ◌^◌}
use mathlib.Core.Bool.{Bool, true, false, cond}
use mathlib.Core.Path.{refl}
use mathlib.Core.List.{List, [], ◌∷◌, ◌++◌, map}
use lib.ListN.{get_or, take, replicate}
use lib.IntN.{ℤ, pos, negsuc}
use Rattle.rules.specs.declared.v0.Predictor.{Predictor}
use Rattle.rules.specs.declared.v0.Predictor.TheVariants.{Skipped, Constant, Sample}
use Rattle.rules.specs.declared.v0.V0Row.{V0Row}
use Rattle.rules.specs.declared.reader.Taken.{Taken}
use Rattle.rules.specs.Reader.{fresh, fetched, counted, held, read, fields, four, signed, modulo, read_residual}
use Rattle.rules.specs.Frame.{tabulate, change_cells}
use Rattle.rules.specs.V0.{Step, Block, Kind, fresh_row, operated, operate, head, limit, bounded, rows_up, columns_back, predictor, length_of, length_bits, residual_bits, sample, samples, order, blocks_in, blocks, row_blocks, rows, rows_filler, frame_filler, put, apply, write, write_all, swap, exchange_columns, exchange_rows, exchange, sample_kind}
use Rattle.rules.specs.Examples.{Example}
use Rattle.rules.proofs.Pins.Values.{is, are, Hold, of_bool, minus, of_ℤ, of_bits, size, words, op, of_predictor, of_op, op_at, spilt_bytes, spilt_offsets}

abbrev of_length : Taken ℤ → List ℕ
of_length x = of_ℤ x.value ∷ of_bits x.bits

abbrev of_row : V0Row → List ℕ
of_row st = map of_ℤ st.lengths ++ of_bits st.bits

abbrev of_step : Step → List ℕ
of_step x = of_op x.op ++ of_bits x.bits

abbrev row : ℤ → ℤ → ℤ → ℤ → V0Row
row a b c d = record { lengths = a ∷ b ∷ c ∷ d ∷ []; bits = fresh 0 }

abbrev lengths : List ℤ
lengths = pos 4 ∷ pos 8 ∷ pos 12 ∷ pos 16 ∷ []

-- A head: direction 1, operations 1, 2, 3, 0, and the 4 bits 9.
abbrev a_head : List ℕ
a_head = 0x00 ∷ 0x00 ∷ 0x48 ∷ 0xB6 ∷ []

-- Two blocks. Direction 1, no operation but keeping, 16 bits; direction 0, each length one more, 32 bits.
abbrev two_blocks : List ℕ
two_blocks = 0x15 ∷ 0x69 ∷ 0x56 ∷ 0x80 ∷ 0x1B ∷ 0x1B ∷ 0x1B ∷ 0x5B ∷ 0x00 ∷ 0x00 ∷ 0x00 ∷ 0x00 ∷ []

abbrev up_or_constant : ℕ → Bool → ℕ → Predictor
up_or_constant col up c = cond up (Sample (col + c)) Constant

-- A block: places and whether there was filler. An operation of one of several blocks.
unfoldable pub of_blocks : List Block → List ℕ
of_blocks [] = []
of_blocks (b ∷ bs) = b.place ∷ of_bool b.filler ∷ of_blocks bs

abbrev no_block : Block
no_block = record { place = 0; ops = []; filler = false }

abbrev op_of : ℕ → ℕ → List Block → List ℕ
op_of k i bs = op_at i (get_or bs k no_block).ops

-- A block from a place on whose samples are the first of a frame and, from it, the third.
abbrev a_block : ℕ → Bool → Block
a_block place filler = record { place = place; ops = op 0 Constant 1 ∷ op 2 (Sample 0) 2 ∷ []; filler = filler }

abbrev mark_kind : Kind ℕ
mark_kind = record { constant = λ v. 0; plus = λ a d. a; filled = λ a. a % 2 + 2 }

abbrev pub examples : List Example
examples =
    -- fresh_row: 7 up to row 1, then 4
    are (of_row (fresh_row 1 9)) (7 ∷ 7 ∷ 7 ∷ 7 ∷ 9 ∷ 0 ∷ 0 ∷ 0 ∷ [])
    ∷ are (of_row (fresh_row 2 9)) (4 ∷ 4 ∷ 4 ∷ 4 ∷ 9 ∷ 0 ∷ 0 ∷ 0 ∷ [])
    -- operated: only operation 3 reads; a length may go below 0
    ∷ are (of_length (operated words 0 (pos 5) (fresh 4))) (5 ∷ 4 ∷ 0 ∷ 0 ∷ 0 ∷ [])
    ∷ are (of_length (operated words 1 (pos 5) (fresh 4))) (6 ∷ 4 ∷ 0 ∷ 0 ∷ 0 ∷ [])
    ∷ are (of_length (operated words 2 (pos 0) (fresh 4))) (minus 1 ∷ 4 ∷ 0 ∷ 0 ∷ 0 ∷ [])
    ∷ are (of_length (operated words 3 (pos 5) (fresh 4))) (8 ∷ 8 ∷ 0x8765_4321 ∷ 28 ∷ 0 ∷ [])
    -- operate: in order; as many as there are of both
    ∷ are (of_row (operate words (3 ∷ 0 ∷ 3 ∷ []) (pos 1 ∷ pos 2 ∷ pos 3 ∷ []) (fresh 4))) (8 ∷ 2 ∷ 7 ∷ 8 ∷ 0x8765_4321 ∷ 24 ∷ 0 ∷ [])
    ∷ are (of_row (operate words [] (pos 1 ∷ []) (fresh 4))) (1 ∷ 4 ∷ 0 ∷ 0 ∷ 0 ∷ [])
    ∷ are (of_row (operate words (3 ∷ []) [] (fresh 4))) (4 ∷ 0 ∷ 0 ∷ 0 ∷ [])
    -- head
    ∷ are (of_bool (head a_head (row (pos 5) (pos 5) (pos 5) (pos 2))).up
    ∷ of_row (head a_head (row (pos 5) (pos 5) (pos 5) (pos 2))).row) (1 ∷ 6 ∷ 4 ∷ 9 ∷ 2 ∷ 4 ∷ 0xB648_0000 ∷ 19 ∷ 0 ∷ [])
    ∷ is (of_bool (head (0 ∷ 0 ∷ 0 ∷ 0 ∷ []) (row (pos 5) (pos 5) (pos 5) (pos 5))).up) 0
    -- limit: width times (height + 7); bounded: both places must lie below it
    ∷ is (limit (size 3 5)) 36
    ∷ are (of_predictor (bounded (size 3 5) 35 35)) (2 ∷ 35 ∷ [])
    ∷ are (of_predictor (bounded (size 3 5) 36 35)) (0 ∷ [])
    ∷ are (of_predictor (bounded (size 3 5) 35 36)) (0 ∷ [])
    -- rows_up, columns_back: of even c and of odd
    ∷ are (rows_up 4 ∷ rows_up 5 ∷ columns_back 4 ∷ columns_back 5 ∷ []) (1 ∷ 2 ∷ 2 ∷ 1 ∷ [])
    -- predictor, direction 1: the row above, even c; two above, odd c; skipped without that row, and at the bound (width 1)
    ∷ are (of_predictor (predictor (size 20 5) 1 16 true 2)) (2 ∷ 18 ∷ [])
    ∷ are (of_predictor (predictor (size 20 5) 3 16 true 3)) (2 ∷ 39 ∷ [])
    ∷ are (of_predictor (predictor (size 20 5) 2 16 true 3)) (2 ∷ 19 ∷ [])
    ∷ are (of_predictor (predictor (size 20 5) 0 16 true 2)) (0 ∷ [])
    ∷ are (of_predictor (predictor (size 20 5) 1 16 true 3)) (0 ∷ [])
    ∷ are (of_predictor (predictor (size 1 2) 1 0 true 6)) (2 ∷ 6 ∷ [])
    ∷ are (of_predictor (predictor (size 1 2) 1 0 true 8)) (0 ∷ [])
    ∷ are (of_predictor (predictor (size 1 3) 2 0 true 7)) (2 ∷ 7 ∷ [])
    -- direction 0: before the block; 128 at column 0, past the bound too; skipped at the bound
    ∷ are (of_predictor (predictor (size 20 5) 3 16 false 2)) (2 ∷ 74 ∷ [])
    ∷ are (of_predictor (predictor (size 20 5) 3 16 false 3)) (2 ∷ 75 ∷ [])
    ∷ are (of_predictor (predictor (size 1 1) 0 0 false 15)) (1 ∷ [])
    ∷ are (of_predictor (predictor (size 2 1) 0 1 false 15)) (0 ∷ [])
    -- length_of: evens and odds, below 8 and from 8 on
    ∷ are (map (λ c. of_ℤ (length_of lengths c)) (0 ∷ 6 ∷ 8 ∷ 14 ∷ 1 ∷ 7 ∷ 9 ∷ 15 ∷ [])) (4 ∷ 4 ∷ 8 ∷ 8 ∷ 12 ∷ 12 ∷ 16 ∷ 16 ∷ [])
    ∷ is (of_ℤ (length_of [] 0)) 0
    -- length_bits: none at 0 and below, 32 at most; residual_bits: none where skipped
    ∷ are (map length_bits (negsuc 40 ∷ negsuc 0 ∷ pos 0 ∷ pos 1 ∷ pos 32 ∷ pos 33 ∷ [])) (0 ∷ 0 ∷ 0 ∷ 1 ∷ 32 ∷ 32 ∷ [])
    ∷ are (map (λ p. residual_bits p (pos 5)) (Skipped ∷ Constant ∷ Sample 9 ∷ [])) (0 ∷ 5 ∷ 5 ∷ [])
    -- sample: predicted from a place, from 128; a skipped one leaves the reader where it was
    ∷ are (of_step (sample words 20 lengths (λ c. Sample (c + 1)) 9 (fresh 4))) (29 ∷ 0x8765 ∷ 2 ∷ 10 ∷ 8 ∷ 0x8765_4321 ∷ 16 ∷ 0 ∷ [])
    ∷ are (of_step (sample words 20 lengths (λ c. Constant) 8 (fresh 4))) (28 ∷ 65_415 ∷ 1 ∷ 8 ∷ 0x8765_4321 ∷ 24 ∷ 0 ∷ [])
    ∷ are (of_step (sample words 20 lengths (λ c. Skipped) 9 (fresh 4))) (29 ∷ 0 ∷ 0 ∷ 4 ∷ 0 ∷ 0 ∷ 0 ∷ [])
    -- samples: in the order given
    ∷ are (map (λ o. o.place) (samples words 20 lengths (λ c. Constant) (8 ∷ 0 ∷ []) (fresh 4)).ops) (28 ∷ 20 ∷ [])
    ∷ are (map (λ o. o.residual) (samples words 20 lengths (λ c. Constant) (8 ∷ 0 ∷ []) (fresh 4)).ops) (65_415 ∷ 6 ∷ [])
    ∷ are (of_bits (samples words 20 lengths (λ c. Constant) (8 ∷ 0 ∷ []) (fresh 4)).bits) (8 ∷ 0x8765_4321 ∷ 20 ∷ 0 ∷ [])
    -- order: evens first, then odds
    ∷ are order (0 ∷ 2 ∷ 4 ∷ 6 ∷ 8 ∷ 10 ∷ 12 ∷ 14 ∷ 1 ∷ 3 ∷ 5 ∷ 7 ∷ 9 ∷ 11 ∷ 13 ∷ 15 ∷ [])
    -- blocks_in: of 16 columns each, the last begun
    ∷ are (map blocks_in (0 ∷ 1 ∷ 16 ∷ 17 ∷ [])) (0 ∷ 1 ∷ 1 ∷ 2 ∷ [])
    -- blocks: two from column 16 on; a block's lengths and reader go on to the next; a block's filler is its reader's at its end
    ∷ are (op_of 0 0 (blocks two_blocks 100 up_or_constant 2 16 (row (pos 1) (pos 1) (pos 1) (pos 1))).blocks) (116 ∷ 65_535 ∷ 2 ∷ 16 ∷ [])
    ∷ are (op_of 1 1 (blocks two_blocks 100 up_or_constant 2 16 (row (pos 1) (pos 1) (pos 1) (pos 1))).blocks) (134 ∷ 65_534 ∷ 1 ∷ [])
    ∷ are (of_blocks (blocks two_blocks 100 up_or_constant 2 16 (row (pos 1) (pos 1) (pos 1) (pos 1))).blocks) (116 ∷ 0 ∷ 132 ∷ 0 ∷ [])
    ∷ are (of_blocks (blocks two_blocks 100 up_or_constant 3 16 (row (pos 1) (pos 1) (pos 1) (pos 1))).blocks) (116 ∷ 0 ∷ 132 ∷ 0 ∷ 148 ∷ 1 ∷ [])
    ∷ are (of_blocks (blocks (take 4 two_blocks) 100 up_or_constant 3 16 (row (pos 1) (pos 1) (pos 1) (pos 1))).blocks) (116 ∷ 0 ∷ 132 ∷ 1 ∷ 148 ∷ 1 ∷ [])
    ∷ are (of_bits (blocks two_blocks 100 up_or_constant 2 16 (row (pos 1) (pos 1) (pos 1) (pos 1))).bits) (12 ∷ 0 ∷ 30 ∷ 0 ∷ [])
    -- row_blocks: row 2 of 17 columns has two blocks
    ∷ are (op_of 0 0 (row_blocks words (size 17 4) 2 4).blocks) (34 ∷ 65_530 ∷ 2 ∷ 17 ∷ [])
    ∷ are (op_of 0 9 (row_blocks words (size 17 4) 2 4).blocks) (37 ∷ 65_535 ∷ 2 ∷ 3 ∷ [])
    ∷ are (op_of 1 15 (row_blocks words (size 17 4) 2 4).blocks) (65 ∷ 65_535 ∷ 2 ∷ 31 ∷ [])
    ∷ are (of_bits (row_blocks words (size 17 4) 2 4).bits) (52 ∷ 0xffff_ffff ∷ 14 ∷ 11 ∷ [])
    -- rows: rows 1 and 2, each at its own offset; 0 where there is none
    ∷ are (op_of 0 0 (rows words (9 ∷ 4 ∷ 0 ∷ []) (size 1 3) 2 1)) (1 ∷ 65_492 ∷ 2 ∷ 0 ∷ [])
    ∷ are (op_of 1 0 (rows words (9 ∷ 4 ∷ 0 ∷ []) (size 1 3) 2 1)) (2 ∷ 0 ∷ 2 ∷ 1 ∷ [])
    ∷ are (op_of 0 0 (rows words [] (size 1 1) 1 0)) (0 ∷ 0 ∷ 0 ∷ [])
    -- rows_filler: each row's own, from its offset, and the count so far; held at the greatest; frame_filler: all rows, from 0
    ∷ is (rows_filler words (9 ∷ 4 ∷ 0 ∷ []) (size 1 3) 2 1 5) 6
    ∷ is (rows_filler words (9 ∷ 4 ∷ 0 ∷ []) (size 1 3) 3 0 (2 ^ 64 - 2)) (2 ^ 64 - 1)
    -- an offset that isn't there is 0
    ∷ is (rows_filler (replicate 12 0) [] (size 16 3) 1 2 0) 0
    ∷ is (frame_filler words (9 ∷ 4 ∷ 0 ∷ []) (size 1 3)) 2
    ∷ is (frame_filler words [] (size 1 0)) 0
    ∷ is (frame_filler spilt_bytes spilt_offsets (size 2 2)) 1
    -- put: skipped; 128; a sample; a predictor at N counts as 0; a place at N isn't written
    ∷ are (put sample_kind 1 Skipped 5 (10 ∷ 20 ∷ 30 ∷ [])) (10 ∷ 20 ∷ 30 ∷ [])
    ∷ are (put sample_kind 1 Constant 5 (10 ∷ 20 ∷ 30 ∷ [])) (10 ∷ 133 ∷ 30 ∷ [])
    ∷ are (put sample_kind 2 (Sample 0) 5 (10 ∷ 20 ∷ 30 ∷ [])) (10 ∷ 20 ∷ 15 ∷ [])
    ∷ are (put sample_kind 1 (Sample 3) 5 (10 ∷ 20 ∷ 30 ∷ [])) (10 ∷ 5 ∷ 30 ∷ [])
    ∷ are (put sample_kind 3 Constant 5 (10 ∷ 20 ∷ 30 ∷ [])) (10 ∷ 20 ∷ 30 ∷ [])
    -- apply: the second operation reads what the first wrote
    ∷ are (apply sample_kind (op 0 Constant 1 ∷ op 1 (Sample 0) 2 ∷ []) (10 ∷ 20 ∷ [])) (129 ∷ 131 ∷ [])
    -- write: the operations, then filler over sixteen cells from the block's place on, or not; write_all: one after another
    ∷ are (write mark_kind (a_block 1 true) (replicate 18 1)) (0 ∷ 3 ∷ 2 ∷ 3 ∷ 3 ∷ 3 ∷ 3 ∷ 3 ∷ 3 ∷ 3 ∷ 3 ∷ 3 ∷ 3 ∷ 3 ∷ 3 ∷ 3 ∷ 3 ∷ 1 ∷ [])
    ∷ are (write mark_kind (a_block 1 false) (1 ∷ 1 ∷ 1 ∷ 1 ∷ [])) (0 ∷ 1 ∷ 0 ∷ 1 ∷ [])
    ∷ are (write sample_kind (a_block 0 true) (10 ∷ 20 ∷ 30 ∷ [])) (129 ∷ 20 ∷ 131 ∷ [])
    ∷ are (write_all mark_kind (a_block 0 true ∷ a_block 3 false ∷ []) (1 ∷ 1 ∷ 1 ∷ 1 ∷ [])) (0 ∷ 3 ∷ 0 ∷ 3 ∷ [])
    ∷ are (write_all mark_kind (a_block 3 false ∷ a_block 2 true ∷ []) (1 ∷ 1 ∷ 1 ∷ 1 ∷ [])) (0 ∷ 1 ∷ 2 ∷ 3 ∷ [])
    -- swap: within the frame; past it 0 comes in
    ∷ are (swap sample_kind 0 2 (10 ∷ 20 ∷ 30 ∷ [])) (30 ∷ 20 ∷ 10 ∷ [])
    ∷ are (swap sample_kind 0 3 (10 ∷ 20 ∷ 30 ∷ [])) (0 ∷ 20 ∷ 30 ∷ [])
    ∷ are (swap sample_kind 3 0 (10 ∷ 20 ∷ 30 ∷ [])) (0 ∷ 20 ∷ 30 ∷ [])
    -- exchange_columns: of row 1, from column 1; exchange_rows: rows 0 and 2; exchange: what has no row below or column beside it stays
    ∷ are (exchange_columns sample_kind 4 1 1 1 (tabulate 12 0 (λ i. i))) (0 ∷ 1 ∷ 2 ∷ 3 ∷ 4 ∷ 5 ∷ 9 ∷ 7 ∷ 8 ∷ 6 ∷ 10 ∷ 11 ∷ [])
    ∷ are (exchange sample_kind (size 4 3) (tabulate 12 0 (λ i. i))) (0 ∷ 4 ∷ 2 ∷ 6 ∷ 1 ∷ 5 ∷ 3 ∷ 7 ∷ 8 ∷ 9 ∷ 10 ∷ 11 ∷ [])
    ∷ are (exchange sample_kind (size 5 5) (tabulate 25 0 (λ i. i)))
    (0 ∷ 5 ∷ 2 ∷ 7 ∷ 4 ∷ 1 ∷ 6 ∷ 3 ∷ 8 ∷ 9 ∷ 10 ∷ 15 ∷ 12 ∷ 17 ∷ 14 ∷ 11 ∷ 16 ∷ 13 ∷ 18 ∷ 19 ∷ 20 ∷ 21 ∷ 22 ∷ 23 ∷ 24 ∷ [])
    -- sample_kind: modulo 65,536; filler changes none
    ∷ are (sample_kind.constant 9 ∷ sample_kind.plus 65_530 10 ∷ sample_kind.filled 9 ∷ []) (9 ∷ 4 ∷ 9 ∷ [])
    ∷ []

pub examples_hold : Hold examples
unfolding fetched counted held read fields four signed modulo read_residual tabulate change_cells fresh_row operated operate head bounded predictor length_of length_bits residual_bits sample samples blocks row_blocks rows rows_filler frame_filler put apply of_blocks write write_all swap exchange_columns exchange_rows exchange
examples_hold = refl
