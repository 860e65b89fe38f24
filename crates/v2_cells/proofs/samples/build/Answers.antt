use native.Mathlib.Omega.{arith}
use lib.IntN.{pos}
use lib.ListN.{get_or}
use mir.Syntax.{w32}
use mir.Val.{SFits}
use mir.ValLaws.{to_z-of_z}
use Rattle.rules.specs.Ranges.{Small}
use Rattle.v2_cells.proofs.Fill.{filled_none, filled_more}
use Rattle.v2_cells.proofs.samples.build.Goals as goal

pub loop-i-init : goal.loop-i-init
loop-i-init c = filled_none c.told-samples

pub loop-i-preserved : goal.loop-i-preserved
loop-i-preserved c =
    let l = c.loop-i in
    let z = get_or c.args.d.now l.i (pos 0) in
    let s : Small z = c.requires.0 l.i in
    let f : SFits w32 z = record { sfits = omega arith } in
    filled_more l.invariant c.loop-i-test.true (rw (to_z-of_z w32 z f) at c.sample_of.ensures)
