use mathlib.Core.Path.{◌≡◌}
use Prim.Native.Nat.{◌+◌, ◌*◌, ◌/◌, min}
use native.Mathlib.Omega.{arith}
use Rattle.rules.specs.V0.{blocks_in}
use Rattle.v0_bands.proofs.StepLaws.{band_begun, band_on, band_done, from_low, small_product, directions_within, row_late}
use Rattle.v0_bands.proofs.add_band.Goals as goal

pub blocks_in-blocks-requires : goal.blocks_in-blocks-requires
blocks_in-blocks-requires c = c.requires.width

pub overflow_mul-from : goal.overflow_mul-from
overflow_mul-from c = omega (arith, from_low c.requires, c.requires.width)

pub overflow_add-from : goal.overflow_add-from
overflow_add-from c = omega (arith, from_low c.requires, c.requires.width)

pub overflow_add-r-end : goal.overflow_add-r-end
overflow_add-r-end c = omega (arith, c.requires.rows_below)

pub loop-r-init : goal.loop-r-init
loop-r-init c = band_begun _ _ _ _ _ _ _ _

pub overflow_sub-r : goal.overflow_sub-r
overflow_sub-r c = omega (arith, c.requires.rows_above, c.loop-r.invariant.begun)

pub overflow_mul-r : goal.overflow_mul-r
overflow_mul-r c =
    let p = c.requires in
    record { fits = small_product _ _ (omega (arith, p.rows_below)) (omega (arith, p.width)) }

pub add_part-requires : goal.add_part-requires
add_part-requires c =
    let p = c.requires in
    let l = c.loop-r in
    let b = c.blocks_in-blocks in
    let m = c.min-to in (
      row_late p _ l.invariant.same_length l.r l.invariant.begun (omega arith),
      rw b.ensures (omega (arith, directions_within p l.r l.invariant.begun (omega arith), m.ensures, b.ensures), omega (arith, m.ensures, b.ensures)),
    )

pub loop-r-preserved : goal.loop-r-preserved
loop-r-preserved c =
    let l = c.loop-r in
    let b = c.blocks_in-blocks in
    let a = c.args in
    let i = a.cut.block_width / 16 in
    let to : c.min-to.result ≡ min (a.block * i + i) (blocks_in a.cut.size.width) = omega (arith, c.min-to.ensures, b.ensures) in
    band_on _ _ _ _ _ _ _ _ _ _ _ (omega arith) c.requires.multiple (directions_within c.requires _ l.invariant.begun (omega arith)) c.add_part.auto.out _ to (rw b.ensures at c.add_part.ensures) l.invariant

pub returns : goal.returns
returns c = band_done _ _ _ _ _ _ _ _ _ _ (omega arith) c.loop-r.invariant
