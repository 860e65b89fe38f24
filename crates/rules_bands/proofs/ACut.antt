-- Cuts worked out by hand: where bands begin, how many blocks and steps there are, and which cuts fit.
use mathlib.Core.Bool.{true, false}
use mathlib.Core.Path.{◌≡◌, refl}
use mathlib.Core.List.{[], ◌∷◌, map}
use lib.ListN.{replicate}
use Rattle.rules.specs.Frame.{tabulate}
use Rattle.rules_bands.specs.declared.Cut.{Cut}
use Rattle.rules_bands.specs.Bands.{cut, sized, fits, band_start, blocks_per_band, step_count, step_band, step_block, block_directions}

-- 7 late rows in 3 bands of 2, 2 and 3 rows, and 40 columns in blocks of 16, the last of 8.
abbrev uneven : Cut
uneven = cut (sized 40 9) 3 16

pub first_rows : map (band_start uneven) (0 ∷ 1 ∷ 2 ∷ 3 ∷ []) ≡ 0 ∷ 2 ∷ 4 ∷ 7 ∷ []
first_rows = refl

pub numbers : blocks_per_band uneven ∷ step_count uneven ∷ step_band uneven 5 ∷ step_block uneven 5 ∷ [] ≡ 3 ∷ 9 ∷ 1 ∷ 2 ∷ []
unfolding blocks_per_band
numbers = refl

-- A block may be wider than the frame; without late rows or columns there are none.
pub blocks : map blocks_per_band (cut (sized 40 9) 3 48 ∷ cut (sized 40 9) 3 64 ∷ cut (sized 40 2) 1 16 ∷ cut (sized 0 9) 3 16 ∷ []) ≡ 1 ∷ 1 ∷ 0 ∷ 0 ∷ []
unfolding blocks_per_band
blocks = refl

-- Half as many bands as late rows, at least 1 and at most 64; a positive multiple of 16 columns.
pub cuts_that_fit : map fits (uneven ∷ cut (sized 40 3) 1 16 ∷ cut (sized 40 0) 1 32 ∷ cut (sized 40 9_000) 64 4_096 ∷ []) ≡ true ∷ true ∷ true ∷ true ∷ []
unfolding fits
cuts_that_fit = refl

pub cuts_that_fail : map fits (cut (sized 40 9) 4 16 ∷ cut (sized 40 9) 0 16 ∷ cut (sized 40 9_000) 65 16 ∷ cut (sized 40 9) 3 8 ∷ cut (sized 40 9) 3 0 ∷ cut (sized 40 4) 2 16 ∷ cut (sized 40 2) 2 16 ∷ []) ≡ replicate 7 false
unfolding fits
cuts_that_fail = refl

-- A block of 240 columns has fifteen direction bytes of its row.
pub directions : block_directions 720 240 1 2 (tabulate 45 0 (λ i. i)) ≡ tabulate 15 15 (λ i. i)
unfolding tabulate
directions = refl
