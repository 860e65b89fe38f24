-- The head, and the residuals after it where the block is read whole; past the end every such block is of ones.
use mathlib.Core.Path.{◌∙◌}
use Rattle.v0_parse.proofs.BlockLaws.{whole_read, head_read}
use Rattle.v0_parse.proofs.PastLaws.{past_whole}
use borrow.Author.Rules.{rules}
use Rattle.v0_parse.proofs.block.read_block.Goals as goal

pub ones_block-requires : goal.ones_block-requires
ones_block-requires c = let x = c.is_past.ensures c.if-is_past.true in (x.few, x.far)

pub returns-then-is_past : goal.returns-then-is_past
returns-then-is_past c = let a = c.args in
    rw c.if-whole.true (c.ones_block.ensures ∙ past_whole a.src.now a.row.bits (c.is_past.ensures c.if-is_past.true) a.row.lengths (search rules))

pub returns-then-whole : goal.returns-then-whole
returns-then-whole c = rw c.if-whole.true (whole_read _ _ _ _ c.read_head-head.ensures c.read_residuals.ensures)

pub returns : goal.returns
returns c = rw c.if-whole.false (head_read _ _ c.read_head-head.result c.read_head-head.ensures)
