use mathlib.Core.Path.{refl, sym, ◌∙◌}
use native.Mathlib.Omega.{arith}
use Rattle.entry_convert.proofs.ProposalLaws.{same_on, same_gone}
use Rattle.entry_convert.proofs.proposal.is_same.Goals as goal

pub loop-i-init : goal.loop-i-init
loop-i-init c = (omega arith, refl)

pub loop-i-preserved : goal.loop-i-preserved
loop-i-preserved c =
    let l = c.loop-i in
    (omega arith, l.invariant.1 ∙ same_on c.args.frame.now c.args.meant.now l.i l.alike _ c.requires (omega arith) refl)

pub returns : goal.returns
returns c =
    let l = c.loop-i in
    sym (l.invariant.1 ∙ same_gone c.args.frame.now c.args.meant.now l.i l.alike c.requires (omega arith))
