-- Each way out is one case of the rule.
use mathlib.Core.Path.{sym, ◌∙◌}
use borrow.Author.Tests.{ne_eqb}
use Rattle.v2_cells.proofs.BaseLaws.{refusal_7, refusal_5, refusal_6, refusal_none}
use Rattle.v2_cells.proofs.base.refusal_of.Goals as goal

pub returns-then-motion-eq-MOTION : goal.returns-then-motion-eq-MOTION
returns-then-motion-eq-MOTION c =
    let e = refusal_7 c.args.at.row c.args.at.col _ c.if-motion-eq-MOTION.true in
    record { number = e; refusal = rw (← e) }

pub returns-then-at-lt2 : goal.returns-then-at-lt2
returns-then-at-lt2 c =
    let e = refusal_5 _ c.args.at.col _ (ne_eqb _ _ c.if-motion-eq-MOTION.false) c.if-at-lt2.true in
    record { number = e; refusal = rw (← e) }

pub returns-then-refers_before : goal.returns-then-refers_before
returns-then-refers_before c =
    let e = refusal_6 _ _ _ (ne_eqb _ _ c.if-motion-eq-MOTION.false) c.if-at-lt2.false (sym c.refers_before.ensures ∙ c.if-refers_before.true) in
    record { number = e; refusal = rw (← e) }

pub returns : goal.returns
returns c =
    let e = refusal_none _ _ _ (ne_eqb _ _ c.if-motion-eq-MOTION.false) c.if-at-lt2.false (sym c.refers_before.ensures ∙ c.if-refers_before.false) in
    record { number = e; refusal = rw (← e) }
