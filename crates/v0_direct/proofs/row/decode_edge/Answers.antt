-- The head, and then the samples after it.
use Rattle.v0_direct.proofs.RowLaws.{block_decoded}
use Rattle.v0_direct.proofs.row.decode_edge.Goals as goal

pub returns : goal.returns
returns c =
    let a = c.args in
    block_decoded _ a.at.size a.at.row a.at.col a.state c.read_block_head-head.result c.read_block_head-head.ensures _ _ _ _ _
    (c.decode_samples-bits.ensures.answered, (c.decode_samples-bits.ensures.samples, c.decode_samples-bits.ensures.marks))
