use Rattle.std.proofs.Common.{arith}
use Rattle.rules.specs.V0.{sample_kind}
use Rattle.rules.specs.Map.{v0_marks}
use Rattle.v0_cells.proofs.ExchangeLaws.{paired_all, pairs_begun, pairs_on, pairs_done, samples_in_pair, marks_in_pair}
use Rattle.v0_cells.proofs.exchange.exchange_pairs.Goals as goal

pub loop-pair-init : goal.loop-pair-init
loop-pair-init c = (pairs_begun _ _ _ _ _, pairs_begun _ _ _ _ _)

pub overflow_mul-pair : goal.overflow_mul-pair
overflow_mul-pair c = let i = c.requires in omega (arith, i.pairs_in, i.height)

pub exchange_columns-requires : goal.exchange_columns-requires
exchange_columns-requires c = samples_in_pair _ _ _ _ _ c.requires c.loop-pair.pair (omega arith) _ c.loop-pair.invariant.0.same_length

pub overflow_mul-pair-in-loop-pair : goal.overflow_mul-pair-in-loop-pair
overflow_mul-pair-in-loop-pair c = let i = c.requires in omega (arith, i.pairs_in, i.height)

pub exchange_marks-requires : goal.exchange_marks-requires
exchange_marks-requires c = marks_in_pair _ _ _ _ _ c.requires c.loop-pair.pair (omega arith) _ c.loop-pair.invariant.1.same_length

pub loop-pair-preserved : goal.loop-pair-preserved
loop-pair-preserved c = let i = c.loop-pair.invariant in (
  pairs_on sample_kind _ _ _ _ _ _ _ (omega arith) (paired_all _ _ _ _ _ c.exchange_columns.ensures) i.0,
  pairs_on v0_marks _ _ _ _ _ _ _ (omega arith) c.exchange_marks.ensures i.1,
)

pub returns : goal.returns
returns c = let i = c.loop-pair.invariant in record {
  samples = pairs_done _ _ _ _ _ _ _ (omega arith) i.0;
  marks = pairs_done _ _ _ _ _ _ _ (omega arith) i.1;
}
