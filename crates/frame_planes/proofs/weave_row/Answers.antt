use Prim.Native.Nat.{◌+◌, ◌*◌, ◌<◌}
use mathlib.Core.Path.{◌≡◌, sym}
use native.Mathlib.Omega.{arith}
use lib.ListN.{length, get_or, length-set}
use lib.Seq.{lt-length-set}
use Rattle.frame_planes.proofs.ColumnLaws.{woven_length, pair_written}
use Rattle.frame_planes.proofs.Lists.{weave_even}
use Rattle.frame_planes.proofs.Written.{written_none, written_more, written_all}
use Rattle.frame_planes.proofs.weave_row.Goals as goal

pub loop-k-init : goal.loop-k-init
loop-k-init c = written_none _ _ (woven_length _ _ c.args.row.now c.requires.0 c.requires.1)

pub bounds-row-k-in-loop-k : goal.bounds-row-k-in-loop-k
bounds-row-k-in-loop-k c =
    let l = c.loop-k in
    let h : 2 * l.k + 1 < length l.row = omega arith in
    lt-length-set l.row (2 * l.k) (get_or c.args.evens.now l.k 0) h

pub loop-k-preserved : goal.loop-k-preserved
loop-k-preserved c =
    let a = c.args in
    let l = c.loop-k in
    pair_written a.evens.now a.odds.now (omega arith) (omega arith) l.k (omega arith) l.invariant

pub returns-then-pairs-evens : goal.returns-then-pairs-evens
returns-then-pairs-evens c =
    let a = c.args in
    let l = c.loop-k in
    let n = length a.odds.now in
    let v = get_or a.evens.now n 0 in
    let e : l.k ≡ n = omega arith in
    let i = rw e at l.invariant in
    written_all (omega (arith, length-set l.row (2 * n) v))
    (written_more v (omega arith) (sym (weave_even a.evens.now a.odds.now (omega arith) (omega arith) n 0)) i)

pub returns-else-pairs-evens : goal.returns-else-pairs-evens
returns-else-pairs-evens c = written_all (omega arith) c.loop-k.invariant
