use mathlib.Core.Path.{◌∙◌}
use native.Mathlib.Omega.{arith}
use Rattle.rules_bands.proofs.CheckLaws.{some_column, bands_most}
use Rattle.v0_bands.proofs.StepLaws.{bands_some, blocks_some, band_low, start_end, end_low, band_lent, step_lent, rows_most, first_most, steps_begun, steps_on, steps_done}
use Rattle.v0_bands.proofs.add_steps.Goals as goal

pub blocks_per_band-blocks-requires : goal.blocks_per_band-blocks-requires
blocks_per_band-blocks-requires c = some_column _ c.requires.width c.requires.cut_fits

pub loop-step-init : goal.loop-step-init
loop-step-init c = steps_begun _ _ _ _

pub overflow_cast-n : goal.overflow_cast-n
overflow_cast-n c = omega (arith, c.type_inv.steps c.loop-step.step-index)

pub nonzero_div-band : goal.nonzero_div-band
nonzero_div-band c = blocks_some c.requires c.loop-step.step-index (omega arith) _ _ c.blocks_per_band-blocks.ensures c.late_rows-late.ensures

pub overflow_mul-first : goal.overflow_mul-first
overflow_mul-first c = omega (arith, first_most c.requires c.loop-step.step-index (omega arith) _ _ c.blocks_per_band-blocks.ensures c.late_rows-late.ensures)

pub nonzero_div-first : goal.nonzero_div-first
nonzero_div-first c = bands_some c.requires c.loop-step.step-index (omega arith)

pub overflow_add-end : goal.overflow_add-end
overflow_add-end c = omega (arith, band_low c.requires c.loop-step.step-index (omega arith) _ _ c.blocks_per_band-blocks.ensures c.late_rows-late.ensures, bands_most _ c.requires.width c.requires.cut_fits)

pub overflow_mul-end : goal.overflow_mul-end
overflow_mul-end c = omega (arith, rows_most c.requires c.loop-step.step-index (omega arith) _ _ c.blocks_per_band-blocks.ensures c.late_rows-late.ensures)

pub nonzero_div-end : goal.nonzero_div-end
nonzero_div-end c = bands_some c.requires c.loop-step.step-index (omega arith)

pub nonzero_rem-n : goal.nonzero_rem-n
nonzero_rem-n c = blocks_some c.requires c.loop-step.step-index (omega arith) _ _ c.blocks_per_band-blocks.ensures c.late_rows-late.ensures

pub overflow_add-first : goal.overflow_add-first
overflow_add-first c = omega (arith, start_end c.requires c.loop-step.step-index (omega arith) _ _ c.blocks_per_band-blocks.ensures c.late_rows-late.ensures, end_low c.requires c.loop-step.step-index (omega arith) _ _ c.blocks_per_band-blocks.ensures c.late_rows-late.ensures, c.requires.height)

pub overflow_sub-end : goal.overflow_sub-end
overflow_sub-end c = start_end c.requires c.loop-step.step-index (omega arith) _ _ c.blocks_per_band-blocks.ensures c.late_rows-late.ensures

pub add_band-requires : goal.add_band-requires
add_band-requires c = band_lent c.requires c.loop-step.step-index (omega arith) _ _ c.blocks_per_band-blocks.ensures c.late_rows-late.ensures _ c.loop-step.invariant.same_length

pub exchange_freed-requires : goal.exchange_freed-requires
exchange_freed-requires c =
    step_lent c.requires c.loop-step.step-index (omega arith) _ _ c.blocks_per_band-blocks.ensures c.late_rows-late.ensures _ (c.add_band.auto.out ∙ c.loop-step.invariant.same_length)

pub loop-step-preserved : goal.loop-step-preserved
loop-step-preserved c =
    let e = c.exchange_freed in
    steps_on _ _ _ _ _ _ _ _ (omega arith) (e.auto.out ∙ c.add_band.auto.out) _ _ c.blocks_per_band-blocks.ensures c.late_rows-late.ensures
    c.add_band.ensures e.ensures c.loop-step.invariant

pub returns : goal.returns
returns c = steps_done _ _ _ _ _ _ (omega arith) c.loop-step.invariant
