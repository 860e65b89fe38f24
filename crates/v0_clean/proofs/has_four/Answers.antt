-- The tests in turn.
use native.Mathlib.Omega.{arith}
use borrow.Author.Tests.{ltb-true}
use Rattle.v0_clean.proofs.FrameLaws.{four_early, four_few, four_wide}
use Rattle.v0_clean.proofs.HeadsLaws.{never}
use Rattle.v0_clean.proofs.has_four.Goals as goal

pub returns-then-row-lt2 : goal.returns-then-row-lt2
returns-then-row-lt2 c = record {
  answered = four_early _ _ c.if-row-lt2.true;
  there = never;
}

pub returns-then-size-row-lt4 : goal.returns-then-size-row-lt4
returns-then-size-row-lt4 c = record {
  answered = four_few _ _ c.if-row-lt2.false c.if-size-row-lt4.true;
  there = never;
}

pub returns : goal.returns
returns c =
    let few = c.if-size-row-lt4.false in
    record {
      answered = four_wide _ _ c.if-row-lt2.false few;
      there = λ t. (c.if-row-lt2.false, (omega arith, ltb-true _ _ t));
    }
