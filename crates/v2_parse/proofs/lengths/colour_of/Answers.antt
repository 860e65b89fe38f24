-- The formula is the rule's, and its colours are below 3.
use Rattle.std.proofs.Common.{arith}
use Rattle.v2_parse.proofs.LengthLaws.{colour_odd, colour_even}
use Rattle.v2_parse.proofs.lengths.colour_of.Goals as goal

pub returns-then-row-eq1 : goal.returns-then-row-eq1
returns-then-row-eq1 c = record {
  answered = colour_odd _ _ c.if-row-eq1.true;
  small = omega arith;
}

pub returns-else-row-eq1 : goal.returns-else-row-eq1
returns-else-row-eq1 c = record {
  answered = colour_even _ _ c.if-row-eq1.false;
  small = omega arith;
}
