-- The refusals' numbers (docs/RULES.md, "Answers"): a refusal is a value in the code, and a number for who calls.
use Rattle.std.specs.Prelude.{ℕ, Result, Ok, Err}
use Rattle.rules.specs.declared.answer.Refusal.{Refusal}
use Rattle.rules.specs.declared.answer.Refusal.TheVariants.{TooLarge, TooSmall, ShortSamples, ShortMap, EarlyMotion, Outside, LongDifference, Overrun, TooBright, ShortOutput, BadCut, BadSteps, ShortRuns, BadMap, BadWidth, Marked, EarlyUpward, BadLength, MissingWord, OtherSample, LongStream}

abbrev pub refusal_number : Refusal → ℕ
refusal_number TooLarge = 1
refusal_number TooSmall = 2
refusal_number ShortSamples = 3
refusal_number ShortMap = 4
refusal_number EarlyMotion = 5
refusal_number Outside = 6
refusal_number LongDifference = 7
refusal_number Overrun = 8
refusal_number TooBright = 9
refusal_number ShortOutput = 10
refusal_number BadCut = 11
refusal_number BadSteps = 12
refusal_number ShortRuns = 13
refusal_number BadMap = 14
refusal_number BadWidth = 15
refusal_number Marked = 16
refusal_number EarlyUpward = 17
refusal_number BadLength = 18
refusal_number MissingWord = 19
refusal_number OtherSample = 20
refusal_number LongStream = 21

-- What a test answers: 0 if it passes, else the number of the refusal that it meets.
abbrev pub answer_number : {A : Type 0} → Result A Refusal → ℕ
answer_number (Ok x) = 0
answer_number (Err refusal) = refusal_number refusal
