-- The positions of a block's differences, by row parity.
use Rattle.std.specs.Prelude.{ℕ, ◌+◌, List, set, ℤ, pos, slice_index, slice_index_or, slice_set}
use Rattle.rules.specs.Frame.{tabulate}
use Rattle.rules.specs.V2.{position}

-- Where the sixteen differences of a row's block go, in the order of the stream.
abbrev pub row_positions : ℕ → List ℕ
row_positions row = tabulate 16 0 (position row)

-- Those of even rows, and of odd ones.
abbrev pub positions : List (List ℕ)
positions = tabulate 2 0 row_positions

-- Four differences, from number k on, each stored at its position.
abbrev pub stored_four : List ℤ → List ℕ → ℕ → List ℤ → List ℤ
stored_four ds ps k four =
    set
    (slice_set (slice_set (slice_set ds (slice_index ps k) (slice_index_or four 0 (pos 0))) (slice_index ps (k + 1)) (slice_index_or four 1 (pos 0))) (slice_index ps (k + 2)) (slice_index_or four 2 (pos 0)))
    (slice_index ps (k + 3))
    (slice_index_or four 3 (pos 0))
