-- The four tests are those of the mark and the version, in the same order.
use borrow.Author.Tests.{eq-eqb}
use native.Mathlib.Omega.{arith}
use Rattle.rules.specs.Job.{marked}
use Rattle.job.proofs.input.marked.Goals.{then-input-eq83, else-input-eq83, then-input-eq77, else-input-eq77}
use Rattle.job.proofs.input.marked.Goals as goal

pub returns-then-input-eq82 : goal.returns-then-input-eq82
unfolding marked
returns-then-input-eq82 c = elim c.if-input-eq77.branch [
  | then-input-eq77 w ↦ elim c.if-input-eq83.branch [ then-input-eq83 v ↦ grind (arith, c.half_word.ensures.answered, w, v, eq-eqb) | else-input-eq83 v ↦ grind (arith, w, v) ]
  | else-input-eq77 w ↦ grind (arith, w)
]

pub returns-else-input-eq82 : goal.returns-else-input-eq82
unfolding marked
returns-else-input-eq82 c = elim c.if-input-eq77.branch [
  | then-input-eq77 w ↦ elim c.if-input-eq83.branch [ then-input-eq83 v ↦ grind (arith, w, v) | else-input-eq83 v ↦ grind (arith, w, v) ]
  | else-input-eq77 w ↦ elim c.if-input-eq83.branch [ then-input-eq83 v ↦ grind (arith, w, v) | else-input-eq83 v ↦ grind (arith, w, v) ]
]
