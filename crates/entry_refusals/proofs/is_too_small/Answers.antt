-- `is_too_small` meets its contract: the code's two tests are the rule's.
use borrow.Author.Tests.{lt-ltb, le-ltb}
use Rattle.rules.specs.Answer.{too_small}
use Rattle.entry_refusals.proofs.is_too_small.Goals as goal

pub returns-then-size-lt-LEAST_HEIGHT : goal.returns-then-size-lt-LEAST_HEIGHT
unfolding too_small
returns-then-size-lt-LEAST_HEIGHT c = simp (lt-ltb _ _ c.if-size-lt-LEAST_HEIGHT.true)

pub returns-else-size-lt-LEAST_HEIGHT : goal.returns-else-size-lt-LEAST_HEIGHT
unfolding too_small
returns-else-size-lt-LEAST_HEIGHT c = simp (le-ltb _ _ c.if-size-lt-LEAST_HEIGHT.false)
