-- The first block has nothing before it.
use Prim.Native.Nat.{◌-◌}
use native.Mathlib.Omega.{arith}
use lib.ListN.{get_or}
use Rattle.write_frame.proofs.HalfLaws.{constant_first, sample_later}
use Rattle.write_frame.proofs.halves.prediction.Goals as goal

pub returns-then-col-eq0 : goal.returns-then-col-eq0
returns-then-col-eq0 c = let a = c.args in constant_first a.constant a.col (get_or a.samples.now (a.first - 2) 0) (omega arith)

pub returns : goal.returns
returns c = let a = c.args in sample_later a.constant a.col (get_or a.samples.now (a.first - 2) 0) (λ e. omega arith)
