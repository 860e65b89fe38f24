-- Motion 7 repeats; else every reference is in the frame, since no refusal is met, and the places on the two runs are the references.
use Rattle.std.proofs.Common.{rules}
use Rattle.v2_cells.proofs.BaseLaws.{runs, bases_7, bases_referred}
use Rattle.v2_cells.proofs.base.bases.Goals as goal

pub refer-requires : goal.refer-requires
refer-requires g c =
    let p = c.requires in
    (search rules, (rw c.references_of.ensures (runs p.inside c.if-motion-eq-MOTION.false p.unrefused), p.sixteen))

pub returns-then-motion-eq-MOTION : goal.returns-then-motion-eq-MOTION
returns-then-motion-eq-MOTION g c = λ h e. bases_7 _ _ _ _ _ _ _ _ c.if-motion-eq-MOTION.true (c.repeat.ensures h e)

pub returns-else-motion-eq-MOTION : goal.returns-else-motion-eq-MOTION
returns-else-motion-eq-MOTION g c =
    let p = c.requires in
    λ h e. bases_referred p.inside c.if-motion-eq-MOTION.false p.unrefused _ _ h c.references_of.ensures c.refer.ensures
