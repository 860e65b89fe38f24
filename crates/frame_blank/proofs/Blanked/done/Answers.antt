-- The answer is done's.
use mathlib.Core.Path.{ap}
use Rattle.frame_blank.proofs.Blanked.done.Goals as goal

pub returns : goal.returns
returns c = ap (λ a. record { answer = a; count = c.args.count; runs = c.args.runs }) c.done-answer.ensures
