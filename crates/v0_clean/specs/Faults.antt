-- What a check answers, as the rules say it.
use Rattle.std.specs.Prelude.{Result, Ok, Err}
use Rattle.rules.specs.declared.answer.Answer.{Answer}
use Rattle.rules.specs.Answer.{done}
use Rattle.rules.specs.Refusals.{refusal_number}
use Rattle.rules_clean.specs.Verdict.{fault_at}
use Rattle.v0_clean.specs.declared.Fault.{Fault}

-- Done, or the fault's number with its row.
abbrev pub told : {A : Type 0} → Result A Fault → Answer
told (Ok x) = done
told (Err f) = fault_at f.row (refusal_number f.refusal)
