-- The code's tests are the rule's, in their order.
use mathlib.Core.Path.{sym, ◌∙◌}
use native.Mathlib.Omega.{arith}
use borrow.Author.Tests.{lt-ltb, le-ltb}
use Rattle.rules.specs.Answer.{first_of}
use Rattle.entry_refusals.proofs.RefusalLaws.{cells_most, size_most}
use Rattle.entry_frames.specs.Moved.{refusal}
use Rattle.entry_frames.proofs.colour.refuse.Goals.{then-read-n-via-then-read-n, then-read-n-via-else-read-n+then-written-n}
use Rattle.entry_frames.proofs.colour.refuse.Goals as goal

pub returns-then-is_too_large : goal.returns-then-is_too_large
unfolding refusal first_of
returns-then-is_too_large c = rw (sym c.is_too_large.ensures ∙ c.if-is_too_large.true)

pub overflow_mul-n : goal.overflow_mul-n
overflow_mul-n c =
    let m = size_most _ (sym c.is_too_large.ensures ∙ c.if-is_too_large.false) in
    omega (arith, cells_most _ _ m.0 m.1)

pub returns-then-read-n : goal.returns-then-read-n
unfolding refusal first_of
returns-then-read-n c = elim c.then-read-n.branch [
  | then-read-n-via-then-read-n w ↦ rw (sym c.is_too_large.ensures ∙ c.if-is_too_large.false, lt-ltb _ _ w.if-read-n.true)
  | then-read-n-via-else-read-n+then-written-n w ↦ rw (sym c.is_too_large.ensures ∙ c.if-is_too_large.false, le-ltb _ _ w.if-read-n.false, lt-ltb _ _ w.if-written-n.true)
]

pub returns : goal.returns
unfolding refusal first_of
returns c = rw (sym c.is_too_large.ensures ∙ c.if-is_too_large.false, le-ltb _ _ c.if-read-n.false, le-ltb _ _ c.if-written-n.false)
