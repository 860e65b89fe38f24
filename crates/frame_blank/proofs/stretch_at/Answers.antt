use native.Mathlib.Omega.{arith}
use Rattle.frame_blank.proofs.ByteLaws.{zero_unmarked, other_marked}
use Rattle.frame_blank.proofs.RunLaws.{stretch_more, stretch_stops, stretch_gone}
use Rattle.frame_blank.proofs.stretch_at.Goals as goal

pub loop-end-init : goal.loop-end-init
loop-end-init c = (omega arith, (omega arith, omega arith))

pub returns-then-map-end-eq0 : goal.returns-then-map-end-eq0
returns-then-map-end-eq0 c =
    let m = c.args.map.now in
    let l = c.loop-end in
    let none = stretch_stops m l.end (omega arith) (zero_unmarked _ c.if-map-end-eq0.true) in
    omega (arith, l.invariant.1.1, none)

pub loop-end-preserved : goal.loop-end-preserved
loop-end-preserved c =
    let m = c.args.map.now in
    let l = c.loop-end in
    let one = stretch_more m l.end (omega arith) (other_marked _ c.if-map-end-eq0.false) in
    (omega arith, (omega arith, omega (arith, l.invariant.1.1, one)))

pub returns : goal.returns
returns c =
    let l = c.loop-end in
    let none = stretch_gone c.args.map.now l.end (omega arith) in
    omega (arith, l.invariant.1.1, none)
