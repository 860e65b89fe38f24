-- The residuals of its columns are the block's lanes.
use Rattle.v0_cells.proofs.StagedLaws.{columns_same}
use Rattle.v0_lanes.proofs.predictions.predict.Goals as goal

pub put_columns-requires : goal.put_columns-requires
put_columns-requires c = c.requires

pub returns : goal.returns
returns c = rw (columns_same c.columns_at-d.ensures.each) at c.put_columns.ensures
