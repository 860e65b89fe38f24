-- `is_too_large` meets its contract: the code's two tests are the rule's.
use borrow.Author.Tests.{lt-ltb, le-ltb}
use Rattle.rules.specs.Answer.{too_large}
use Rattle.entry_refusals.proofs.is_too_large.Goals as goal

pub returns-then-size-gt-MOST : goal.returns-then-size-gt-MOST
unfolding too_large
returns-then-size-gt-MOST c = simp (lt-ltb _ _ c.if-size-gt-MOST.true)

pub returns-else-size-gt-MOST : goal.returns-else-size-gt-MOST
unfolding too_large
returns-else-size-gt-MOST c = simp (le-ltb _ _ c.if-size-gt-MOST.false)
