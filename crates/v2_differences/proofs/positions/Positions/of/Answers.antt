-- A row's positions are those of its parity.
use Rattle.v2_differences.proofs.PositionLaws.{position_at, positions_are}
use Rattle.v2_differences.proofs.positions.Positions.of.Goals as goal

pub invariant_of-result : goal.invariant_of-result
invariant_of-result c = record { in_block = λ k h. (position_at _ k _ (positions_are _ c.table-both.ensures c.args.row) h).1 }

pub returns : goal.returns
returns c = positions_are _ c.table-both.ensures _
