-- Pinned examples of specs/Phases.antt, by the definition's name.
use Prim.Native.Nat.{ℕ, ◌*◌}
use mathlib.Core.Bool.{Bool, true, false}
use mathlib.Core.Path.{refl}
use mathlib.Core.List.{List, [], ◌∷◌, ◌++◌, map}
use lib.ListN.{get_or, replicate}
use lib.IntN.{pos, negsuc}
use Rattle.rules.specs.declared.v0.V0Row.{V0Row}
use Rattle.rules.specs.Reader.{fresh, fetched, counted, held, read, fields, four, signed, modulo, read_residual}
use Rattle.rules.specs.Frame.{tabulate, change_cells}
use Rattle.rules.specs.V0.{fresh_row, operated, operate, head, bounded, predictor, length_of, length_bits, residual_bits, sample, samples, blocks, row_blocks, rows, put, apply, write, write_all, swap, exchange_columns, exchange_rows, exchange, sample_kind}
use Rattle.rules.specs.Phases.{residuals, BlockRecord, block_records, row_records, store_samples, store_blocks, phase_one, direction, upward, directions, late_predictor, predict_samples, predict_blocks, phase_two, sample_stage, scratch, first_rows, two_phase}
use Rattle.rules.specs.Examples.{Example}
use Rattle.rules.proofs.Pins.Values.{is, are, Hold, of_bool, of_bits, size, words, of_predictor, rows_bytes, rows_offsets, cells_at}

abbrev of_record : BlockRecord → List ℕ
of_record r = of_bool r.up ∷ r.residuals

abbrev a_record : Bool → ℕ → BlockRecord
a_record up first = record { up = up; residuals = tabulate 16 first (λ i. i) }

abbrev record_at : ℕ → List BlockRecord → List ℕ
record_at i rs = of_record (get_or rs i (record { up = false; residuals = [] }))

-- Two blocks: direction 1, no operation but keeping; direction 0, each length one more.
abbrev two_blocks : List ℕ
two_blocks = 0x15 ∷ 0x69 ∷ 0x56 ∷ 0x80 ∷ 0x1B ∷ 0x1B ∷ 0x1B ∷ 0x5B ∷ 0x00 ∷ 0x00 ∷ 0x00 ∷ 0x00 ∷ []

abbrev ones : V0Row
ones = record { lengths = pos 1 ∷ pos 1 ∷ pos 1 ∷ pos 1 ∷ []; bits = fresh 0 }

-- n samples, each its own place, or ten times it; and the old samples of a frame of 3 by 4.
abbrev places : ℕ → List ℕ
places n = tabulate n 0 (λ i. i)

abbrev tens : List ℕ
tens = tabulate 12 0 (λ i. 10 * i)

abbrev old_frame : List ℕ
old_frame = tabulate 12 7 (λ i. i)

abbrev pub examples : List Example
examples =
    -- residuals: of samples 0 and 9; none for a length below 0
    are (residuals words (pos 4 ∷ pos 8 ∷ pos 12 ∷ pos 16 ∷ []) (0 ∷ 9 ∷ []) (fresh 4)).values (65_528 ∷ 0x7654 ∷ [])
    ∷ are (of_bits (residuals words (pos 4 ∷ pos 8 ∷ pos 12 ∷ pos 16 ∷ []) (0 ∷ 9 ∷ []) (fresh 4)).bits) (8 ∷ 0x8765_4321 ∷ 12 ∷ 0 ∷ [])
    ∷ are ((residuals words (negsuc 0 ∷ []) (0 ∷ []) (fresh 4)).values ++ of_bits (residuals words (negsuc 0 ∷ []) (0 ∷ []) (fresh 4)).bits) (0 ∷ 4 ∷ 0 ∷ 0 ∷ 0 ∷ [])
    -- block_records: a block's lengths and reader go on to the next
    ∷ are (record_at 0 (block_records two_blocks 2 ones))
    (1 ∷ 65_535 ∷ 0 ∷ 65_535 ∷ 0 ∷ 65_535 ∷ 65_535 ∷ 0 ∷ 0 ∷ 65_535 ∷ 65_535 ∷ 0 ∷ 65_535 ∷ 0 ∷ 0 ∷ 65_535 ∷ 0 ∷ [])
    ∷ are (record_at 1 (block_records two_blocks 2 ones)) (0 ∷ 1 ∷ 65_534 ∷ 65_535 ∷ 0 ∷ 1 ∷ 65_534 ∷ 65_535 ∷ 0 ∷ 1 ∷ 65_534 ∷ 65_535 ∷ 0 ∷ 1 ∷ 65_534 ∷ 65_535 ∷ 0 ∷ [])
    -- row_records: two blocks of 17 columns; rows 1 and 2 start with other lengths
    ∷ are (map (λ r. of_bool r.up) (row_records rows_bytes 17 2 4)) (1 ∷ 0 ∷ [])
    ∷ are (record_at 0 (row_records rows_bytes 17 2 4)) (1 ∷ 65_530 ∷ 65_528 ∷ 6 ∷ 4 ∷ 2 ∷ 0 ∷ 0 ∷ 0 ∷ 0 ∷ 0 ∷ 0 ∷ 0 ∷ 0 ∷ 0 ∷ 0 ∷ 0 ∷ [])
    ∷ are (record_at 0 (row_records rows_bytes 1 1 4)) (1 ∷ 65_492 ∷ 25 ∷ 4 ∷ 0 ∷ 0 ∷ 0 ∷ 0 ∷ 0 ∷ 0 ∷ 0 ∷ 0 ∷ 0 ∷ 0 ∷ 1 ∷ 65_535 ∷ 65_535 ∷ [])
    -- store_samples: within the row; as many as there are of both; store_blocks: 16 columns on
    ∷ are (store_samples 2 4 1 (0 ∷ 2 ∷ 3 ∷ []) (70 ∷ 80 ∷ 90 ∷ []) (places 8)) (0 ∷ 1 ∷ 2 ∷ 70 ∷ 4 ∷ 80 ∷ 6 ∷ 7 ∷ [])
    ∷ are (store_samples 2 4 1 (0 ∷ []) [] (places 3)) (0 ∷ 1 ∷ 2 ∷ [])
    ∷ are (cells_at (0 ∷ 1 ∷ 2 ∷ 16 ∷ 17 ∷ 18 ∷ []) (store_blocks 1 17 0 (a_record true 50 ∷ a_record true 80 ∷ []) (places 19))) (0 ∷ 50 ∷ 58 ∷ 65 ∷ 80 ∷ 18 ∷ [])
    -- phase_one: rows 2 and 3 alone, each at its own offset, 0 where there is none
    ∷ are (phase_one rows_bytes rows_offsets 3 2 2 (places 12)) (0 ∷ 1 ∷ 2 ∷ 3 ∷ 4 ∷ 5 ∷ 65_530 ∷ 0 ∷ 65_528 ∷ 0 ∷ 0 ∷ 0 ∷ [])
    ∷ are (phase_one (0x21 ∷ 0x43 ∷ 0x65 ∷ 0x87 ∷ 0x00 ∷ []) [] 1 1 0 (9 ∷ [])) (65_492 ∷ [])
    -- direction, upward: every byte but 0 is direction 1; directions: a byte for each block, row by row
    ∷ are (direction (a_record true 0) ∷ direction (a_record false 0) ∷ map (λ d. of_bool (upward d)) (0 ∷ 1 ∷ 2 ∷ [])) (1 ∷ 0 ∷ 0 ∷ 1 ∷ 1 ∷ [])
    ∷ are (directions rows_bytes rows_offsets 17 2 2) (1 ∷ 0 ∷ 0 ∷ 0 ∷ [])
    ∷ are (directions rows_bytes (0 ∷ []) 1 2 0) (1 ∷ 1 ∷ [])
    -- late_predictor: as the direct decoder's, and nothing is skipped
    ∷ are (of_predictor (late_predictor 20 3 16 true 2)) (2 ∷ 58 ∷ [])
    ∷ are (of_predictor (late_predictor 20 3 16 true 3)) (2 ∷ 39 ∷ [])
    ∷ are (of_predictor (late_predictor 20 3 16 false 2)) (2 ∷ 74 ∷ [])
    ∷ are (of_predictor (late_predictor 20 3 16 false 3)) (2 ∷ 75 ∷ [])
    ∷ are (of_predictor (late_predictor 20 3 0 false 3)) (1 ∷ [])
    -- predict_samples: what stands in a place is its residual; past the row's end nothing is added
    ∷ are (predict_samples sample_stage 3 2 0 true (0 ∷ 1 ∷ 3 ∷ []) tens) (0 ∷ 10 ∷ 20 ∷ 30 ∷ 40 ∷ 50 ∷ 90 ∷ 80 ∷ 80 ∷ 90 ∷ 100 ∷ 110 ∷ [])
    ∷ are (predict_samples sample_stage 3 2 0 false (1 ∷ []) tens) (0 ∷ 10 ∷ 20 ∷ 30 ∷ 40 ∷ 50 ∷ 60 ∷ 198 ∷ 80 ∷ 90 ∷ 100 ∷ 110 ∷ [])
    -- predict_blocks: 16 columns on, each by its own direction; phase_two: two rows, two bytes to each
    ∷ are (cells_at (34 ∷ 35 ∷ 49 ∷ 50 ∷ 51 ∷ []) (predict_blocks sample_stage 17 2 0 (1 ∷ 0 ∷ []) (places 68))) (51 ∷ 36 ∷ 64 ∷ 129 ∷ 51 ∷ [])
    ∷ are (cells_at (34 ∷ 35 ∷ 50 ∷ 51 ∷ 52 ∷ 67 ∷ []) (phase_two sample_stage 17 2 2 (1 ∷ 0 ∷ 0 ∷ 1 ∷ []) (places 68))) (51 ∷ 36 ∷ 129 ∷ 179 ∷ 180 ∷ 196 ∷ [])
    -- sample_stage; scratch: the directions of rows 2 on; none for two rows or fewer
    ∷ is (sample_stage.residual 9) 9
    ∷ are (scratch rows_bytes rows_offsets (size 17 4)) (1 ∷ 0 ∷ 0 ∷ 0 ∷ [])
    ∷ are (scratch rows_bytes rows_offsets (size 17 1)) []
    -- first_rows: two, or as many as there are; two_phase: a whole frame
    ∷ are (first_rows sample_kind rows_bytes (4 ∷ 0 ∷ 4 ∷ 8 ∷ []) (size 3 4) old_frame) (7 ∷ 8 ∷ 9 ∷ 7 ∷ 11 ∷ 9 ∷ 13 ∷ 12 ∷ 15 ∷ 27 ∷ 17 ∷ 65_524 ∷ [])
    ∷ are (first_rows sample_kind rows_bytes (8 ∷ []) (size 3 1) (7 ∷ 8 ∷ 9 ∷ [])) (128 ∷ 128 ∷ 128 ∷ [])
    ∷ are (first_rows sample_kind (0 ∷ 0 ∷ 5 ∷ 0 ∷ replicate 12 0) (4 ∷ 0 ∷ []) (size 1 2) (7 ∷ 8 ∷ [])) (128 ∷ 133 ∷ [])
    ∷ are (two_phase rows_bytes rows_offsets (size 3 4) old_frame) (7 ∷ 128 ∷ 9 ∷ 8 ∷ 128 ∷ 128 ∷ 122 ∷ 128 ∷ 120 ∷ 8 ∷ 128 ∷ 128 ∷ [])
    ∷ are (two_phase rows_bytes (0 ∷ 0 ∷ 4 ∷ 4 ∷ 8 ∷ []) (size 3 5) (tabulate 15 7 (λ i. i))) (7 ∷ 7 ∷ 9 ∷ 8 ∷ 11 ∷ 9 ∷ 1 ∷ 65_531 ∷ 1 ∷ 8 ∷ 11 ∷ 65_529 ∷ 128 ∷ 128 ∷ 128 ∷ [])
    ∷ []

pub examples_hold : Hold examples
unfolding fetched counted held read fields four signed modulo read_residual tabulate change_cells fresh_row operated operate head bounded predictor length_of length_bits residual_bits sample samples blocks row_blocks rows put apply write write_all swap exchange_columns exchange_rows exchange residuals block_records row_records store_samples store_blocks phase_one directions late_predictor predict_samples predict_blocks phase_two scratch first_rows two_phase
examples_hold = refl
