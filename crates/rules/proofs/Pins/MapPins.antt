-- Pinned examples of specs/Map.antt, by the definition's name.
use Prim.Native.Nat.{ℕ}
use mathlib.Core.Path.{refl}
use mathlib.Core.List.{List, [], ◌∷◌, ◌++◌, map}
use lib.IntN.{pos}
use lib.ListN.{drop, replicate}
use Rattle.rules.specs.Reader.{fetched, counted, held, read, fields, four, signed, read_signed, modulo, read_residual}
use Rattle.rules.specs.Frame.{tabulate, change_cells}
use Rattle.rules.specs.V0 as V0
use Rattle.rules.specs.V2 as V2
use Rattle.rules.specs.Map.{all_old, old_part, with_filler, v0_marks, either_part, v2_marks, v0_map, v2_map, Origin, stream, old, moved, origin_kind, origins, position, amount}
use Rattle.rules.specs.Examples.{Example}
use Rattle.rules.proofs.Pins.Values.{are, Hold, size, words, rows_bytes, rows_offsets, spilt_bytes, spilt_offsets}
use Rattle.rules.proofs.Pins.V2Pins.{frame_bytes}

-- An origin: 0 and a number, or 1, position and amount.
abbrev of_origin : Origin → List ℕ
of_origin (stream v) = 0 ∷ v ∷ []
of_origin (old p a) = 1 ∷ p ∷ a ∷ []

unfoldable pub of_origins : List Origin → List ℕ
of_origins [] = []
of_origins (o ∷ os) = of_origin o ++ of_origins os

abbrev pub examples : List Example
examples =
    -- all_old
    are (all_old (size 2 3)) (1 ∷ 1 ∷ 1 ∷ 1 ∷ 1 ∷ 1 ∷ [])
    -- old_part: 1 of bytes 1 and 3; with_filler: the old part stays
    ∷ are (map old_part (0 ∷ 1 ∷ 2 ∷ 3 ∷ [])) (0 ∷ 1 ∷ 0 ∷ 1 ∷ [])
    ∷ are (map with_filler (0 ∷ 1 ∷ 2 ∷ 3 ∷ [])) (2 ∷ 3 ∷ 2 ∷ 3 ∷ [])
    -- v0_marks: a constant has nothing old and no filler; a residual changes no mark
    ∷ are (v0_marks.constant 5 ∷ v0_marks.plus 1 5 ∷ v0_marks.plus 2 5 ∷ v0_marks.plus 0 5 ∷ []) (0 ∷ 1 ∷ 2 ∷ 0 ∷ [])
    ∷ are (map v0_marks.filled (0 ∷ 1 ∷ 2 ∷ 3 ∷ [])) (2 ∷ 3 ∷ 2 ∷ 3 ∷ [])
    -- either_part: each part that one of two has
    ∷ are (map (either_part 0) (0 ∷ 1 ∷ 2 ∷ 3 ∷ []) ++ map (either_part 1) (0 ∷ 1 ∷ 2 ∷ 3 ∷ [])) (0 ∷ 1 ∷ 2 ∷ 3 ∷ 1 ∷ 1 ∷ 3 ∷ 3 ∷ [])
    ∷ are (map (either_part 2) (0 ∷ 1 ∷ 2 ∷ 3 ∷ []) ++ map (either_part 3) (0 ∷ 1 ∷ 2 ∷ 3 ∷ [])) (2 ∷ 3 ∷ 2 ∷ 3 ∷ 3 ∷ 3 ∷ 3 ∷ 3 ∷ [])
    -- v2_marks: an average has the parts of both
    ∷ are (v2_marks.constant 5 ∷ v2_marks.adjust (pos 2) (pos 3) 1 ∷ v2_marks.adjust (pos 2) (pos 3) 2 ∷ []) (0 ∷ 1 ∷ 2 ∷ [])
    ∷ are (v2_marks.average 0 0 ∷ v2_marks.average 2 1 ∷ v2_marks.filled 0 ∷ v2_marks.filled 1 ∷ []) (0 ∷ 3 ∷ 2 ∷ 3 ∷ [])
    -- v0_map: a frame of 3 by 4 whose rows 0 and 2 look up and row 1 is a word short, one of four words and one of two; v2_map: what is
    -- not written stays 1, and so does what averages it; a block read from filler has 2, and the row's end stays 1
    ∷ are (v0_map rows_bytes rows_offsets (size 3 4)) (1 ∷ 2 ∷ 1 ∷ 1 ∷ 2 ∷ 2 ∷ 2 ∷ 0 ∷ 2 ∷ 1 ∷ 0 ∷ 0 ∷ [])
    ∷ are (v0_map (words ++ replicate 8 0) rows_offsets (size 3 4)) (1 ∷ 2 ∷ 1 ∷ 1 ∷ 2 ∷ 2 ∷ 2 ∷ 2 ∷ 2 ∷ 3 ∷ 2 ∷ 2 ∷ [])
    ∷ are (v0_map words (0 ∷ 4 ∷ 0 ∷ 4 ∷ []) (size 3 4)) (1 ∷ 3 ∷ 1 ∷ 1 ∷ 3 ∷ 3 ∷ 3 ∷ 3 ∷ 3 ∷ 3 ∷ 3 ∷ 3 ∷ [])
    ∷ are (v0_map rows_bytes (0 ∷ 0 ∷ 0 ∷ 0 ∷ 8 ∷ []) (size 3 5)) (1 ∷ 1 ∷ 1 ∷ 1 ∷ 1 ∷ 1 ∷ 1 ∷ 1 ∷ 1 ∷ 1 ∷ 1 ∷ 1 ∷ 0 ∷ 0 ∷ 0 ∷ [])
    -- row 0 has no bytes, and its block spills over row 1, whose own reader has its word
    ∷ are (v0_map spilt_bytes spilt_offsets (size 2 2)) (3 ∷ 3 ∷ 3 ∷ 3 ∷ [])
    ∷ are (drop 51 (v2_map frame_bytes (size 17 4))) (2 ∷ 2 ∷ 2 ∷ 2 ∷ 2 ∷ 2 ∷ 2 ∷ 2 ∷ 2 ∷ 2 ∷ 2 ∷ 2 ∷ 2 ∷ 2 ∷ 2 ∷ 2 ∷ 1 ∷ [])
    ∷ are (v2_map frame_bytes (size 17 3))
    (0 ∷ 0 ∷ 0 ∷ 0 ∷ 0 ∷ 0 ∷ 0 ∷ 0 ∷ 0 ∷ 0 ∷ 0 ∷ 0 ∷ 0 ∷ 0 ∷ 0 ∷ 0 ∷ 1 ∷ 0 ∷ 0 ∷ 0 ∷ 0 ∷ 0 ∷ 0 ∷ 0 ∷ 0 ∷ 0 ∷ 0 ∷ 0 ∷ 0 ∷ 0 ∷ 0 ∷ 0 ∷ 0 ∷ 1
    ∷ 0 ∷ 0 ∷ 0 ∷ 0 ∷ 0 ∷ 0 ∷ 0 ∷ 0 ∷ 0 ∷ 0 ∷ 0 ∷ 0 ∷ 0 ∷ 0 ∷ 1 ∷ 0 ∷ 1 ∷ [])
    -- moved: a residual is added to a number, and to an amount, modulo 65,536
    ∷ are (of_origin (moved (stream 65_535) 3)) (0 ∷ 2 ∷ [])
    ∷ are (of_origin (moved (old 4 65_535) 3)) (1 ∷ 4 ∷ 2 ∷ [])
    -- origin_kind; origins: at entry a sample's own place and 0
    ∷ are (of_origin (origin_kind.constant 128) ++ of_origin (origin_kind.plus (old 4 5) 6)) (0 ∷ 128 ∷ 1 ∷ 4 ∷ 11 ∷ [])
    ∷ are (of_origin (origin_kind.filled (old 4 5))) (1 ∷ 4 ∷ 5 ∷ [])
    ∷ are (of_origins (origins rows_bytes (4 ∷ 0 ∷ 4 ∷ 8 ∷ []) (size 3 4)))
    (1 ∷ 0 ∷ 0 ∷ 1 ∷ 0 ∷ 0 ∷ 1 ∷ 2 ∷ 0 ∷ 1 ∷ 1 ∷ 0 ∷ 1 ∷ 4 ∷ 0 ∷ 1 ∷ 2 ∷ 0 ∷ 1 ∷ 0 ∷ 65_530 ∷ 0 ∷ 128 ∷ 1 ∷ 2 ∷ 65_528 ∷ 1 ∷ 1 ∷ 0 ∷ 0 ∷ 128
    ∷ 0 ∷ 128 ∷ [])
    -- position, amount: 0 where there is neither
    ∷ are (position (stream 9) ∷ amount (stream 9) ∷ position (old 4 5) ∷ amount (old 4 5) ∷ []) (0 ∷ 0 ∷ 4 ∷ 5 ∷ [])
    ∷ []

pub examples_hold : Hold examples
unfolding fetched counted held read fields four signed read_signed modulo read_residual tabulate change_cells V0.fresh_row V0.operated V0.operate V0.head V0.bounded V0.predictor V0.length_of V0.length_bits V0.residual_bits V0.sample V0.samples V0.blocks V0.row_blocks V0.rows V0.put V0.apply V0.write V0.write_all V0.swap V0.exchange_columns V0.exchange_rows V0.exchange V0.frame V2.header V2.aligned V2.fresh_mode V2.rescaled V2.read_scale V2.read_motion V2.repeated V2.reference V2.referred V2.base V2.refers_before V2.base_refusal V2.lengths_bit V2.colour V2.read_length V2.length_step V2.lengths_from V2.flagged_lengths V2.read_lengths V2.position V2.difference_step V2.differences_from V2.read_differences V2.tail V2.based_tail V2.read_block V2.then V2.blocks V2.read_row V2.then_rows V2.rows V2.read_frame V2.base_cell V2.block_cells V2.write V2.apply V2.frame either_part v0_map v2_map moved origins position amount of_origins
examples_hold = refl
