-- Either way the block's operations are done.
use mathlib.Core.Path.{sym, ◌∙◌}
use Rattle.v0_direct.proofs.InnerLaws.{inner_is}
use Rattle.v0_direct.proofs.row.decode_block.Goals as goal

pub decode_inner-requires : goal.decode_inner-requires
decode_inner-requires c =
    (inner_is _ _ _ c.requires.0 (sym c.is_inner.ensures ∙ c.if-is_inner.true), c.requires.1)
