use Rattle.std.proofs.Common.{refl, arith}
use Rattle.v0_phase2.proofs.PredictionLaws.{part_begun, part_on, part_done, row_kept}
use Rattle.v0_phase2.proofs.add_part.Goals as goal

pub loop-k-init : goal.loop-k-init
loop-k-init c = part_begun _ _ _ _ _ _ _ _

pub overflow_mul-k : goal.overflow_mul-k
overflow_mul-k c = omega (arith, c.requires.1.1, c.requires.0.width)

pub add_block-requires : goal.add_block-requires
add_block-requires c = (row_kept _ c.requires.0 c.loop-k.invariant.same_length, omega (arith, c.requires.1.1))

pub loop-k-preserved : goal.loop-k-preserved
loop-k-preserved c =
    part_on _ _ _ _ _ _ _ _ _ _ _ _ (omega arith) c.requires.1.0 refl c.add_block.auto.out c.add_block.ensures c.loop-k.invariant

pub returns : goal.returns
returns c = part_done _ _ _ _ _ _ _ _ _ _ (omega arith) c.loop-k.invariant
