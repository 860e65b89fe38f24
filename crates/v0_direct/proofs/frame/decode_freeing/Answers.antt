use mathlib.Core.Path.{refl}
use native.Mathlib.Omega.{arith}
use Rattle.rules.specs.V0.{sample_kind}
use Rattle.rules.specs.Map.{v0_marks}
use Rattle.v0_direct.proofs.FrameLaws.{going_begun, row_lent, freed_lent, going_on, freed_all, counted_all}
use Rattle.v0_direct.proofs.frame.decode_freeing.Goals as goal

pub loop-row-init : goal.loop-row-init
loop-row-init c = going_begun _ _ c.args.size _ _ _

pub offset_bounds-offsets-row : goal.offset_bounds-offsets-row
offset_bounds-offsets-row c = omega arith

pub bounds-offsets-row : goal.bounds-offsets-row
bounds-offsets-row c = omega arith

pub decode_row-missing-requires : goal.decode_row-missing-requires
decode_row-missing-requires c =
    row_lent _ _ _ _ _ _ c.requires _ _ _ _ (omega arith) c.loop-row.invariant

pub overflow_add-row : goal.overflow_add-row
overflow_add-row c = omega arith

pub exchange_pairs-requires : goal.exchange_pairs-requires
exchange_pairs-requires c =
    let d = c.decode_row-missing.ensures in
    freed_lent _ _ _ _ _ _ c.requires _ _ _ _ _ _ _ _ _ (omega arith) d.samples d.marks c.freed_pairs.ensures c.freed_pairs-in-loop-row.ensures c.loop-row.invariant

pub loop-row-preserved : goal.loop-row-preserved
loop-row-preserved c =
    let d = c.decode_row-missing.ensures in
    going_on _ _ _ _ _ _ _ _ _ _ _ _ _ _ _ _ _ _ _ (omega arith) refl d.missing d.samples d.marks c.held_sum-filler.ensures
    c.freed_pairs.ensures c.freed_pairs-in-loop-row.ensures c.exchange_pairs.ensures.samples c.exchange_pairs.ensures.marks c.loop-row.invariant

pub returns : goal.returns
returns c =
    let z = c.args.size in
    let i = c.loop-row.invariant in record {
      missing = counted_all _ _ z _ _ _ (omega arith) i.filler_left;
      samples = freed_all sample_kind _ _ z _ _ _ _ (omega (arith, i.below)) i.samples_left;
      marks = freed_all v0_marks _ _ z _ _ _ _ (omega (arith, i.below)) i.marks_left;
    }
