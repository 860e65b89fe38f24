use mathlib.Core.Path.{refl}
use native.Mathlib.Omega.{arith}
use Rattle.frame_map.proofs.MapLaws.{filling_begun, filling_on, filled, one_filled}
use Rattle.frame_map.proofs.fill_whole.Goals as goal

pub loop-i-init : goal.loop-i-init
loop-i-init c = filling_begun _ _

pub loop-i-preserved : goal.loop-i-preserved
loop-i-preserved c = let l = c.loop-i in filling_on _ _ _ _ l.i (omega arith) (one_filled _ _ l.map refl) l.invariant

pub returns : goal.returns
returns c = filled _ _ _ _ (omega arith) c.loop-i.invariant
