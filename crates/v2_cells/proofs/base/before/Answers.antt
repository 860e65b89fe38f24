-- At column 0 the rule gives the initial sample's cell, else one of the two cells before the block.
use Rattle.std.proofs.Common.{◌∙◌, arith}
use Rattle.std.proofs.lemmas.List.{get_or_default}
use borrow.Author.Tests.{eq-eqb, ne_eqb}
use Rattle.rules.specs.V2.{base_cell, repeated}
use Rattle.v2_cells.proofs.base.before.Goals as goal

pub returns-then-at-eq0 : goal.returns-then-at-eq0
unfolding base_cell repeated
returns-then-at-eq0 g c = λ h e. rw (eq-eqb _ _ c.if-at-eq0.true) e

pub returns : goal.returns
unfolding base_cell repeated
returns g c = λ h e. rw (ne_eqb _ _ c.if-at-eq0.false, ← c.first.ensures) (c.index-frame-first.is ∙ get_or_default c.args.frame.now _ _ _ (omega (arith, c.first.ensures, c.if-at-eq0.false, c.requires.0.placed.whole, c.requires.0.room, c.requires.1)))
