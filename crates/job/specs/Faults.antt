-- The faults' numbers (docs/RULES.md, "The job program"), and the text of a job that was tested.
use Rattle.std.specs.Prelude.{ℕ, List, Result, Ok, Err}
use Rattle.rules.specs.declared.answer.Size.{Size}
use Rattle.rules.specs.Job.{fault, answer_text}
use Rattle.job.specs.declared.Fault.{Fault}
use Rattle.job.specs.declared.Fault.TheVariants.{Longer, Short, Unmarked, TableCut, TooMany}

abbrev pub fault_number : Fault → ℕ
fault_number Longer = 3
fault_number Short = 2
fault_number Unmarked = 1
fault_number TableCut = 2
fault_number TooMany = 3

abbrev pub checked_text : List ℕ → Result Size Fault → List ℕ
checked_text s (Ok size) = answer_text s
checked_text s (Err f) = fault (fault_number f)
