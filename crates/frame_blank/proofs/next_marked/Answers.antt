use native.Mathlib.Omega.{arith}
use Rattle.frame_blank.proofs.ByteLaws.{zero_unmarked, other_marked}
use Rattle.frame_blank.proofs.RunLaws.{gap_more, gap_stops, gap_gone}
use Rattle.frame_blank.proofs.next_marked.Goals as goal

pub returns-then-map-col-ne0 : goal.returns-then-map-col-ne0
returns-then-map-col-ne0 c =
    let l = c.loop-col in
    omega (arith, l.invariant, gap_stops c.args.map.now l.col (omega arith) (other_marked _ c.if-map-col-ne0.true))

pub loop-col-preserved : goal.loop-col-preserved
loop-col-preserved c =
    let l = c.loop-col in
    omega (arith, l.invariant, gap_more c.args.map.now l.col (omega arith) (zero_unmarked _ c.if-map-col-ne0.false))

pub returns : goal.returns
returns c = omega (arith, c.loop-col.invariant, gap_gone c.args.map.now c.loop-col.col (omega arith))
