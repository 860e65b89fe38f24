use mathlib.Core.Path.{sym, ◌∙◌}
use Prim.Native.Nat.{◌*◌, ◌≤◌}
use native.Mathlib.Omega.{arith}
use Rattle.write_rules.proofs.PendingLaws.{wrote}
use Rattle.write_frame.specs.Frames.{coding}
use Rattle.write_frame.proofs.CodingLaws.{unit_is, width_is, coding_unit, format_unit, block_short, block_lent}
use Rattle.write_frame.proofs.RowLaws.{row_begun, block_room, row_on, fourth, end_is, row_gone}
use Rattle.write_frame.proofs.write.write_row.Goals as goal

pub loop-block-init : goal.loop-block-init
loop-block-init c = row_begun _ _ _ _ _ c.none-p.ensures

pub numbers_of-d-requires : goal.numbers_of-d-requires
numbers_of-d-requires c =
    block_lent c.requires.0 c.requires.1 (omega arith) c.loop-block.invariant.whole

pub put_block-p-requires : goal.put_block-p-requires
put_block-p-requires c =
    let a = c.args in
    let l = c.loop-block in
    let e = c.numbers_of-d.ensures in
    (l.invariant.wrote.count_small, block_short _ _ _ _ _ _ c.requires.0 c.requires.1 _ e, block_room (coding_unit _ _ _) l.invariant _ e (omega (arith, width_is a.size a.samples.now a.format)) c.requires.3)

pub loop-block-preserved : goal.loop-block-preserved
loop-block-preserved c =
    let a = c.args in
    let l = c.loop-block in
    row_on (coding_unit _ _ _) l.invariant _ _ _ _ (omega arith) c.numbers_of-d.ensures (omega (arith, width_is a.size a.samples.now a.format)) (wrote c.put_block-p.ensures)

pub finish-q-requires : goal.finish-q-requires
finish-q-requires c =
    let a = c.args in
    let l = c.loop-block in
    let e = c.unit_of.ensures in
    let v = e ∙ sym (unit_is a.size a.samples.now a.format) in
    let past : (coding a.format a.size a.samples.now).width ≤ (l.block * 16) = omega (arith, width_is a.size a.samples.now a.format) in (
      rw e (format_unit a.format),
      l.invariant.wrote.count_small,
      fourth (coding_unit _ _ _) l.invariant _ v (rw e c.requires.2) past,
      omega (arith, end_is (coding_unit _ _ _) l.invariant _ v (rw e c.requires.2) past, l.invariant.wrote.length_is, c.requires.3),
    )

pub returns : goal.returns
returns c =
    let a = c.args in
    let l = c.loop-block in
    let e = c.unit_of.ensures in
    row_gone (coding_unit _ _ _) l.invariant _ (e ∙ sym (unit_is a.size a.samples.now a.format)) (rw e c.requires.2) (omega (arith, width_is a.size a.samples.now a.format)) _ _ (wrote c.finish-q.ensures)
