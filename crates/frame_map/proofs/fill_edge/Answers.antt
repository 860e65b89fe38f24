use native.Mathlib.Omega.{arith}
use Rattle.frame_map.proofs.MapLaws.{filling_begun, filling_on, filled}
use Rattle.frame_map.proofs.fill_edge.Goals as goal

pub loop-k-init : goal.loop-k-init
loop-k-init c = filling_begun _ _

pub loop-k-preserved : goal.loop-k-preserved
loop-k-preserved c =
    filling_on _ _ _ _ c.loop-k.k (omega arith) c.fill_byte.ensures c.loop-k.invariant

pub returns : goal.returns
returns c = filled _ _ _ _ (omega arith) c.loop-k.invariant
