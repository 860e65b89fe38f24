-- A test that refuses answers a number above 0, and one that passes answers 0.
use Prim.Native.Nat.{◌≤◌}
use mathlib.Core.Path.{◌≡◌, ap}
use native.Mathlib.Omega.{arith}
use Rattle.std.specs.Prelude.{Result, Ok, Err}
use Rattle.rules.specs.declared.answer.Refusal.{Refusal}
use Rattle.rules.specs.declared.answer.Refusal.TheVariants.{TooLarge, TooSmall, ShortSamples, ShortMap, EarlyMotion, Outside, LongDifference, Overrun, TooBright, ShortOutput, BadCut, BadSteps, ShortRuns, BadMap, BadWidth, Marked, EarlyUpward, BadLength, MissingWord, OtherSample, LongStream}
use Rattle.rules.specs.Refusals.{refusal_number, answer_number}

pub number_above : (r : Refusal) → 1 ≤ refusal_number r
number_above TooLarge = omega arith
number_above TooSmall = omega arith
number_above ShortSamples = omega arith
number_above ShortMap = omega arith
number_above EarlyMotion = omega arith
number_above Outside = omega arith
number_above LongDifference = omega arith
number_above Overrun = omega arith
number_above TooBright = omega arith
number_above ShortOutput = omega arith
number_above BadCut = omega arith
number_above BadSteps = omega arith
number_above ShortRuns = omega arith
number_above BadMap = omega arith
number_above BadWidth = omega arith
number_above Marked = omega arith
number_above EarlyUpward = omega arith
number_above BadLength = omega arith
number_above MissingWord = omega arith
number_above OtherSample = omega arith
number_above LongStream = omega arith

pub number_not : (r : Refusal) → refusal_number r ≡ 0 → ⊥
number_not r e = let a = number_above r in omega arith

module _ {A : Type 0} {x : Result A Refusal} where
  pub refused_number : {r : Refusal} → x ≡ Err r → answer_number x ≡ refusal_number r
  refused_number e = ap answer_number e

  pub passed_number : {y : A} → x ≡ Ok y → answer_number x ≡ 0
  passed_number e = ap answer_number e
