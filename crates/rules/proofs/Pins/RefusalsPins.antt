-- Pinned examples of specs/Refusals.antt, by the definition's name.
use mathlib.Core.Path.{refl}
use mathlib.Core.List.{List, [], ◌∷◌, map}
use Rattle.std.specs.Prelude.{Result, Ok, Err}
use Rattle.rules.specs.declared.answer.Refusal.{Refusal}
use Rattle.rules.specs.declared.answer.Refusal.TheVariants.{TooLarge, TooSmall, ShortSamples, ShortMap, EarlyMotion, Outside, LongDifference, Overrun, TooBright, ShortOutput, BadCut, BadSteps, ShortRuns, BadMap, BadWidth, Marked, EarlyUpward, BadLength, MissingWord, OtherSample, LongStream}
use Rattle.rules.specs.Refusals.{refusal_number, answer_number}
use Rattle.rules.specs.Examples.{Example}
use Rattle.rules.proofs.Pins.Values.{is, are, Hold}

-- Every refusal, in the order of docs/RULES.md, "Answers".
abbrev refusals : List Refusal
refusals =
    TooLarge ∷ TooSmall ∷ ShortSamples ∷ ShortMap ∷ EarlyMotion ∷ Outside ∷ LongDifference ∷ Overrun ∷ TooBright ∷ ShortOutput ∷ BadCut
    ∷ BadSteps ∷ ShortRuns ∷ BadMap ∷ BadWidth ∷ Marked ∷ EarlyUpward ∷ BadLength ∷ MissingWord ∷ OtherSample ∷ LongStream ∷ []

abbrev passed : Result (List Refusal) Refusal
passed = Ok refusals

abbrev refused : Result (List Refusal) Refusal
refused = Err Overrun

abbrev pub examples : List Example
examples =
    -- refusal_number: each refusal's
    are (map refusal_number refusals) (1 ∷ 2 ∷ 3 ∷ 4 ∷ 5 ∷ 6 ∷ 7 ∷ 8 ∷ 9 ∷ 10 ∷ 11 ∷ 12 ∷ 13 ∷ 14 ∷ 15 ∷ 16 ∷ 17 ∷ 18 ∷ 19 ∷ 20 ∷ 21 ∷ [])
    -- answer_number: of a test that passes, and of one that doesn't
    ∷ is (answer_number passed) 0
    ∷ is (answer_number refused) 8
    ∷ []

pub examples_hold : Hold examples
examples_hold = refl
