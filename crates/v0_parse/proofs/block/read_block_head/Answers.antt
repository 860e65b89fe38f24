-- What a block that is not read whole has of its head.
use Rattle.v0_parse.proofs.BlockLaws.{head_alone}
use Rattle.v0_parse.proofs.block.read_block_head.Goals as goal

pub returns : goal.returns
returns c = head_alone _ _ _ c.read_block-block.ensures
