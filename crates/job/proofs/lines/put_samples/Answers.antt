use native.Mathlib.Omega.{arith}
use Rattle.job.proofs.WrittenLaws.{left_start, left_step, left_end, part_room}
use Rattle.job.proofs.TextLaws.{samples_parts, no_samples}
use Rattle.job.proofs.lines.put_samples.Goals as goal

pub loop-i-init : goal.loop-i-init
loop-i-init c = (omega arith, left_start _ _ _)

pub put_sample-at-requires : goal.put_sample-at-requires
put_sample-at-requires c = part_room _ (samples_parts _ _ _ _ c.loop-i-test.true c.requires.map_len c.from.ensures c.loop-i.invariant.1) c.requires.room

pub loop-i-preserved : goal.loop-i-preserved
loop-i-preserved c =
    (omega arith, left_step (samples_parts _ _ _ _ c.loop-i-test.true c.requires.map_len c.from.ensures c.loop-i.invariant.1) c.put_sample-at.ensures)

pub returns : goal.returns
returns c = left_end (no_samples _ _ _ c.loop-i-test.false c.loop-i.invariant.1)
