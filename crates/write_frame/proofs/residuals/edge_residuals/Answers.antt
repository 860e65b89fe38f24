use mathlib.Core.Path.{refl}
use native.Mathlib.Omega.{arith}
use lib.ListN.{get_or}
use Rattle.rules.specs.V0.{order}
use Rattle.write_rules.specs.Writer.{residual}
use Rattle.write_frame.specs.Frames.{exchanged}
use Rattle.write_frame.proofs.HalfLaws.{found}
use Rattle.write_frame.proofs.ResidualLaws.{edge_on}
use Rattle.write_frame.proofs.residuals.edge_residuals.Goals as goal

pub loop-k-init : goal.loop-k-init
loop-k-init c = record { most = omega arith; long = refl; before = λ j l. absurd (omega arith) }

pub residual_at-requires : goal.residual_at-requires
residual_at-requires c = (c.requires, omega arith)

pub loop-k-preserved : goal.loop-k-preserved
loop-k-preserved c =
    let a = c.args in
    let l = c.loop-k in
    edge_on a.size.width (exchanged a.size a.samples.now) a.row a.col l.d l.k c.residual_at.result (omega arith) c.residual_at.ensures l.invariant

pub returns : goal.returns
returns c = let a = c.args in let l = c.loop-k in found (λ k. residual a.size.width (exchanged a.size a.samples.now) a.row a.col (get_or order k 0)) l.d l.k (omega arith) l.invariant
