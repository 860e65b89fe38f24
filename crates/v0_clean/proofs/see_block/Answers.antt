-- Either way the block is read to its end: passed over where nothing is skipped, else sample by sample, over a frame of no cells.
use mathlib.Core.Path.{refl, sym, ◌∙◌}
use Rattle.v0_direct.proofs.InnerLaws.{inner_is}
use Rattle.v0_clean.proofs.BlockLaws.{seen_whole, seen_samples}
use Rattle.v0_clean.proofs.see_block.Goals as goal

pub returns-then-is_inner : goal.returns-then-is_inner
returns-then-is_inner c =
    let a = c.args in
    c.pass_block.ensures ∙ seen_whole a.src.now a.size a.row a.col a.state (inner_is _ _ _ c.requires.0 (sym c.is_inner.ensures ∙ c.if-is_inner.true)) _ refl

pub returns : goal.returns
returns c = let a = c.args in let h = c.read_block_head-head in seen_samples a.src.now a.size a.row a.col a.state h.result c.decode_samples-bits.result h.ensures c.decode_samples-bits.ensures.answered
