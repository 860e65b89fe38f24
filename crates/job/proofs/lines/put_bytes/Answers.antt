use native.Mathlib.Omega.{arith}
use Rattle.job.proofs.WrittenLaws.{left_start, left_step, left_end, part_room}
use Rattle.job.proofs.TextLaws.{byte_parts, no_bytes}
use Rattle.job.proofs.lines.put_bytes.Goals as goal

pub loop-byte-init : goal.loop-byte-init
loop-byte-init c = (omega arith, left_start _ _ _)

pub put-at-requires : goal.put-at-requires
put-at-requires c = part_room _ (byte_parts _ _ c.loop-byte-test.true c.loop-byte.invariant.1) c.requires

pub loop-byte-preserved : goal.loop-byte-preserved
loop-byte-preserved c = (omega arith, left_step (byte_parts _ _ c.loop-byte-test.true c.loop-byte.invariant.1) c.put-at.ensures)

pub returns : goal.returns
returns c = left_end (no_bytes _ _ c.loop-byte-test.false c.loop-byte.invariant.1)
