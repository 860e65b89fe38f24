use Prim.Native.Nat.{◌≤◌}
use mathlib.Core.Path.{sym, ◌∙◌}
use native.Mathlib.Omega.{arith}
use Rattle.frame_blank.proofs.ByteLaws.{bit_most}
use Rattle.frame_blank.proofs.RowLaws.{tally_none, tallied_none, tallied_more, tallied_all}
use Rattle.frame_blank.proofs.tally_row.Goals as goal

pub returns-then-greatest_of-eq0 : goal.returns-then-greatest_of-eq0
returns-then-greatest_of-eq0 c = tally_none _ (sym c.greatest_of.ensures ∙ c.if-greatest_of-eq0.true)

pub loop-x-init : goal.loop-x-init
loop-x-init c = tallied_none _

pub overflow_add-marked : goal.overflow_add-marked
overflow_add-marked c =
    let l = c.loop-x in
    let b : c.mark-now.result ≤ 1 = rw c.mark-now.ensures (bit_most _) in
    omega (arith, l.invariant.few_marks)

pub overflow_add-runs : goal.overflow_add-runs
overflow_add-runs c =
    let l = c.loop-x in
    let b : c.starts-runs.result ≤ 1 = rw c.starts-runs.ensures (bit_most _) in
    omega (arith, l.invariant.few_runs)

pub loop-x-preserved : goal.loop-x-preserved
loop-x-preserved c =
    let l = c.loop-x in
    tallied_more _ _ (omega arith) c.mark-now.ensures c.starts-runs.ensures l.invariant

pub returns : goal.returns
returns c = rw (c.from.ensures, c.from-2.ensures) (tallied_all (omega arith) c.loop-x.invariant)
