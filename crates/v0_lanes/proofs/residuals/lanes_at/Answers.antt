-- The window ends with the four.
use Rattle.v0_lanes.proofs.LaneLaws.{group_made}
use Rattle.v0_lanes.proofs.residuals.lanes_at.Goals as goal

pub returns : goal.returns
returns c = let a = c.args in
    group_made a.src.now a.base a.e a.n _ _ c.requires.n_bound.0 c.requires.n_bound_2.0 c.window.ensures c.four_lanes.ensures
