-- The loop: the first k residuals have been found.
use lib.ListN.{get_or}
use Rattle.rules.specs.V0.{order}
use Rattle.write_rules.specs.Writer.{residual}
use Rattle.write_frame.specs.Frames.{exchanged}
use Rattle.write_frame.proofs.HalfLaws.{Finding}
use Rattle.write_frame.proofs.residuals.edge_residuals.Given as goal

abbrev pub invariant-loop-k : goal.invariant-loop-k
invariant-loop-k l = Finding (λ k. residual l.size.width (exchanged l.size l.samples) l.row l.col (get_or order k 0)) l.d l.k
