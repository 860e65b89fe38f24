-- Pinned examples of specs/Missing.antt, by the definition's name.
use mathlib.Core.Bool.{true, false}
use mathlib.Core.Path.{refl}
use mathlib.Core.List.{List, [], ◌∷◌, map}
use lib.ListN.{replicate}
use Rattle.rules.specs.Reader.{fetched, counted, held, read, fields, four, signed, modulo, read_residual}
use Rattle.rules.specs.V0.{fresh_row, operated, operate, head, bounded, predictor, length_of, length_bits, residual_bits, sample, samples, blocks, row_blocks}
use Rattle.rules.specs.Missing.{past_end, missing_of, flag_after, fetches, rows_sum}
use Rattle.rules.specs.Examples.{Example}
use Rattle.rules.proofs.Pins.Values.{is, are, Hold, of_bool, bits, size, words}

abbrev pub examples : List Example
examples =
    -- past_end: the last word that lies in eight bytes, and the first that doesn't
    are (map (λ p. of_bool (past_end words p)) (4 ∷ 5 ∷ 8 ∷ [])) (0 ∷ 1 ∷ 1 ∷ [])
    -- missing_of: each position by itself, also one that comes twice
    ∷ are (map (missing_of words) ([] ∷ (4 ∷ []) ∷ (5 ∷ 0 ∷ 5 ∷ []) ∷ [])) (0 ∷ 0 ∷ 2 ∷ [])
    -- flag_after: set by one of them, or before
    ∷ are (map (λ ps. of_bool (flag_after words false ps)) ([] ∷ (4 ∷ []) ∷ (5 ∷ 0 ∷ []) ∷ (0 ∷ 5 ∷ []) ∷ [])) (0 ∷ 0 ∷ 1 ∷ 1 ∷ [])
    ∷ is (of_bool (flag_after words true (4 ∷ []))) 1
    -- fetches: none where enough bits are held, and a width above 32 counts as 32
    ∷ are (fetches (bits 9 2 6 0) 6) []
    ∷ are (fetches (bits 9 2 6 0) 7) (9 ∷ [])
    ∷ are (fetches (bits 9 2 31 0) 33) (9 ∷ [])
    ∷ are (fetches (bits 9 2 40 0) 0) []
    -- rows_sum: rows 0 and 1 miss a word each, row 2 none; an offset that isn't there is 0
    ∷ are (rows_sum words (9 ∷ 4 ∷ 0 ∷ []) (size 1 3) 3 0 ∷ rows_sum words (9 ∷ 4 ∷ 0 ∷ []) (size 1 3) 1 1 ∷ []) (2 ∷ 1 ∷ [])
    ∷ is (rows_sum (replicate 12 0) [] (size 16 3) 1 2) 0
    ∷ []

pub examples_hold : Hold examples
unfolding missing_of flag_after fetches rows_sum fetched counted held read fields four signed modulo read_residual fresh_row operated operate head bounded predictor length_of length_bits residual_bits sample samples blocks row_blocks
examples_hold = refl
