-- The answer is done's.
use mathlib.Core.Path.{ap}
use Rattle.write_rules.proofs.Written.done.Goals as goal

pub returns : goal.returns
returns c = ap (λ a. record { answer = a; length = c.args.length }) c.done-answer.ensures
