use mathlib.Core.Path.{sym, ◌∙◌}
use native.Mathlib.Omega.{arith}
use Rattle.rules_bands.proofs.CheckLaws.{some_column, count_most, some_blocks_left, band_most, block_most, wrong_length, at_first, at_end, outside, not_ready, ready_then}
use Rattle.rules_bands.proofs.Cut.is_good.Goals as goal

pub blocks_per_band-blocks-requires : goal.blocks_per_band-blocks-requires
blocks_per_band-blocks-requires c = some_column _ c.requires.0 c.requires.1

pub overflow_mul-count : goal.overflow_mul-count
overflow_mul-count c = omega (arith, count_most _ c.requires.0 c.requires.1 _ c.blocks_per_band-blocks.ensures)

pub returns-then-steps-count : goal.returns-then-steps-count
returns-then-steps-count c = wrong_length _ c.requires.0 c.requires.1 _ c.blocks_per_band-blocks.ensures _ (λ e. omega arith)

pub loop-step-init : goal.loop-step-init
loop-step-init c = at_first _ c.requires.0 c.requires.1 _ c.blocks_per_band-blocks.ensures _

pub overflow_cast-n : goal.overflow_cast-n
overflow_cast-n c = omega (arith, c.type_inv.steps c.loop-step.step-index)

pub returns-then-count-n : goal.returns-then-count-n
returns-then-count-n c = outside _ c.requires.0 c.requires.1 _ c.blocks_per_band-blocks.ensures _ (omega arith) _ _ c.loop-step.invariant (omega arith) (omega arith)

pub nonzero_div-band : goal.nonzero_div-band
nonzero_div-band c = some_blocks_left _ c.requires.0 c.requires.1 _ c.blocks_per_band-blocks.ensures _ c.if-count-n.false

pub nonzero_rem-block : goal.nonzero_rem-block
nonzero_rem-block c = some_blocks_left _ c.requires.0 c.requires.1 _ c.blocks_per_band-blocks.ensures _ c.if-count-n.false

pub overflow_cast-block : goal.overflow_cast-block
overflow_cast-block c = omega (arith, block_most _ c.requires.0 c.requires.1 _ c.blocks_per_band-blocks.ensures _ c.if-count-n.false)

pub is_next-requires : goal.is_next-requires
is_next-requires c = band_most _ c.requires.0 c.requires.1 _ c.blocks_per_band-blocks.ensures _ (omega arith)

pub returns-then-not-is_next : goal.returns-then-not-is_next
returns-then-not-is_next c = not_ready _ c.requires.0 c.requires.1 _ c.blocks_per_band-blocks.ensures _ (omega arith) _ _ c.loop-step.invariant (omega arith) (omega arith) (sym c.is_next.ensures ∙ c.if-not-is_next.true)

pub overflow_add-done : goal.overflow_add-done
overflow_add-done c = omega (arith, block_most _ c.requires.0 c.requires.1 _ c.blocks_per_band-blocks.ensures _ c.if-count-n.false)

pub offset_bounds-done-band : goal.offset_bounds-done-band
offset_bounds-done-band c = omega (arith, band_most _ c.requires.0 c.requires.1 _ c.blocks_per_band-blocks.ensures _ c.if-count-n.false)

pub bounds-done-band : goal.bounds-done-band
bounds-done-band c = band_most _ c.requires.0 c.requires.1 _ c.blocks_per_band-blocks.ensures _ (omega arith)

pub loop-step-preserved : goal.loop-step-preserved
loop-step-preserved c =
    ready_then _ c.requires.0 c.requires.1 _ c.blocks_per_band-blocks.ensures _ (omega arith) _ _ c.loop-step.invariant (omega arith) (omega arith) (sym c.is_next.ensures ∙ c.if-not-is_next.false)

pub returns : goal.returns
returns c = at_end _ c.requires.0 c.requires.1 _ c.blocks_per_band-blocks.ensures _ (omega arith) _ _ (omega arith) c.loop-step.invariant
