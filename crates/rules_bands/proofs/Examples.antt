-- Lists worked out by hand: which are good, and what is refused. And the worked calls, which hold by computing.
use mathlib.Core.Bool.{true, false}
use mathlib.Core.Path.{◌≡◌, refl}
use mathlib.Core.List.{[], ◌∷◌, map}
use Rattle.rules.specs.Reader as Reader
use Rattle.rules.specs.Frame as Frame
use Rattle.rules.specs.V0 as V0
use Rattle.rules.specs.Phases as Phases
use Rattle.rules.specs.Answer as Plain
use Rattle.rules_bands.specs.Bands as Bands
use Rattle.rules_bands.specs.declared.Cut.{Cut}
use Rattle.rules_bands.specs.Bands.{cut, sized, fits, blocks_per_band, ready, after, in_turn, good}
use Rattle.rules_bands.specs.Call as Call
use Rattle.rules_bands.specs.Call.{list_refusal}
use Rattle.rules_bands.specs.Examples.{defined, examples}

-- 2 bands of 2 blocks: steps 0 and 1 are the band above, 2 and 3 the one below.
abbrev square : Cut
square = cut (sized 32 6) 2 16

pub good_lists : map (good square) ((0 ∷ 1 ∷ 2 ∷ 3 ∷ []) ∷ (0 ∷ 2 ∷ 1 ∷ 3 ∷ []) ∷ []) ≡ true ∷ true ∷ []
unfolding good in_turn ready after blocks_per_band
good_lists = refl

-- Without the block to its left; without the one above, of the first column and of the second; short; long; twice; no block's.
pub bad_lists : map (good square) ((1 ∷ 0 ∷ 2 ∷ 3 ∷ []) ∷ (2 ∷ 0 ∷ 1 ∷ 3 ∷ []) ∷ (0 ∷ 2 ∷ 3 ∷ 1 ∷ []) ∷ (0 ∷ 1 ∷ 2 ∷ []) ∷ (0 ∷ 1 ∷ 2 ∷ 3 ∷ 3 ∷ []) ∷ (0 ∷ 0 ∷ 1 ∷ 2 ∷ []) ∷ (0 ∷ 1 ∷ 2 ∷ 4 ∷ []) ∷ []) ≡ false ∷ false ∷ false ∷ false ∷ false ∷ false ∷ false ∷ []
unfolding good in_turn ready after blocks_per_band
bad_lists = refl

-- 3 bands of 1 block: the band above is the one before, and not the first. And 17 bands of 2 blocks, more bands than a block has
-- columns.
pub three_bands : map (good (cut (sized 16 8) 3 16)) ((0 ∷ 1 ∷ 2 ∷ []) ∷ (0 ∷ 2 ∷ 1 ∷ []) ∷ []) ≡ true ∷ false ∷ []
unfolding good in_turn ready after blocks_per_band
three_bands = refl

pub many_bands : good (cut (sized 17 36) 17 16) (Frame.tabulate 34 0 (λ i. i)) ≡ true
unfolding good in_turn ready after blocks_per_band Frame.tabulate
many_bands = refl

-- The cut is tested before the list.
pub refusals : list_refusal square (0 ∷ 1 ∷ 2 ∷ 3 ∷ []) ∷ list_refusal square [] ∷ list_refusal (cut (sized 32 6) 3 16) [] ∷ [] ≡ 0 ∷ 12 ∷ 11 ∷ []
unfolding list_refusal fits good in_turn ready after blocks_per_band
refusals = refl

pub calls_hold : map defined examples ≡ examples
unfolding examples fits good in_turn ready after blocks_per_band list_refusal Bands.predict_band Bands.do_step Bands.do_steps Bands.in_bands Call.refusal Call.answer Call.samples_after Call.scratch_after Plain.too_large Plain.too_small Plain.short_offsets Plain.short_samples Plain.short_map Plain.short_scratch Plain.first_of Plain.refusal Reader.fetched Reader.counted Reader.held Reader.read Reader.fields Reader.four Reader.signed Reader.modulo Reader.read_residual Frame.tabulate Frame.change_cells V0.fresh_row V0.operated V0.operate V0.head V0.bounded V0.predictor V0.length_of V0.length_bits V0.residual_bits V0.sample V0.samples V0.blocks V0.row_blocks V0.rows V0.put V0.apply V0.write V0.write_all V0.swap V0.exchange_columns V0.exchange_rows V0.exchange V0.frame Phases.residuals Phases.block_records Phases.row_records Phases.store_samples Phases.store_blocks Phases.phase_one Phases.directions Phases.late_predictor Phases.predict_samples Phases.predict_blocks Phases.scratch Phases.first_rows
calls_hold = refl
