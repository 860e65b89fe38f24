-- Three stores, one after the other.
use Prim.Native.Nat.{◌+◌, suc}
use mathlib.Core.Path.{◌≡◌}
use native.Mathlib.Omega.{arith}
use lib.ListN.{set, length-set}
use Rattle.frame_blank.proofs.put_run.Goals as goal

pub bounds-runs-at-2 : goal.bounds-runs-at-2
bounds-runs-at-2 c = let a = c.args in omega (arith, length-set a.runs.now a.at a.row)

pub bounds-runs-at-3 : goal.bounds-runs-at-3
bounds-runs-at-3 c =
    let a = c.args in
    let one = length-set a.runs.now a.at a.row in
    omega (arith, one, length-set (set a.runs.now a.at a.row) (a.at + 1) a.first)

pub returns : goal.returns
returns c =
    let one : c.args.at + 1 ≡ suc c.args.at = omega arith in
    let two : c.args.at + 2 ≡ suc (suc c.args.at) = omega arith in
    rw (one, two)
