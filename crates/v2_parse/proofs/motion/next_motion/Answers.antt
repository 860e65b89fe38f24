-- One way for each case of the rule: by one bit, read, kept.
use Rattle.std.proofs.Common.{sym, ◌∙◌, ne_eqb}
use Rattle.v2_parse.proofs.HeaderLaws.{motion_by_bit, motion_read, motion_kept}
use Rattle.v2_parse.proofs.motion.next_motion.Goals as goal

pub returns-then-short_motion : goal.returns-then-short_motion
returns-then-short_motion c = motion_by_bit _ _ _ _ _ c.get-g.ensures _ (sym c.short_motion.ensures ∙ c.if-short_motion.true) c.by_bit.ensures

pub returns-then-g-eq0 : goal.returns-then-g-eq0
returns-then-g-eq0 c = c.get.ensures ∙ sym (motion_read _ _ _ _ _ c.get-g.ensures (sym c.short_motion.ensures ∙ c.if-short_motion.false) c.if-g-eq0.true)

pub returns : goal.returns
returns c = sym (motion_kept _ _ _ _ _ c.get-g.ensures (sym c.short_motion.ensures ∙ c.if-short_motion.false) (ne_eqb _ _ c.if-g-eq0.false))
