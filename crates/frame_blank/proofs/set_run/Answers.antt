use Prim.Native.Nat.{◌+◌, ◌*◌}
use native.Mathlib.Omega.{arith}
use lib.ListN.{length-set}
use Rattle.frame_blank.proofs.RowLaws.{turned_none, turned_two, turned_last, turned_all}
use Rattle.frame_blank.proofs.set_run.Goals as goal

pub loop-k-init : goal.loop-k-init
loop-k-init c = turned_none _ _ _ _ _ _ (omega arith)

pub bounds-samples-at-in-loop-k : goal.bounds-samples-at-in-loop-k
bounds-samples-at-in-loop-k c =
    let l = c.loop-k in omega (arith, length-set l.samples (c.args.from + 2 * l.k) c.args.fill.first, l.invariant.kept)

pub loop-k-preserved : goal.loop-k-preserved
loop-k-preserved c = turned_two c.loop-k.invariant _ (omega arith) (omega arith)

pub returns-then-columns-eq1 : goal.returns-then-columns-eq1
returns-then-columns-eq1 c = turned_last c.loop-k.invariant _ (omega arith) (omega arith)

pub returns-else-columns-eq1 : goal.returns-else-columns-eq1
returns-else-columns-eq1 c = turned_all c.loop-k.invariant (omega arith)
