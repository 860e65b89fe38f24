-- The block's lanes, taken by columns and then stored.
use Rattle.v0_lanes.proofs.OrderLaws.{ordered}
use Rattle.v0_lanes.proofs.predictions.order_block.Goals as goal

pub returns : goal.returns
returns c =
    ordered _ _ c.requires.0 c.columns_at-d.ensures c.store.ensures
