-- Without filler the map stays, with filler the block's bytes gain 2.
use mathlib.Core.Path.{refl}
use Rattle.frame_map.proofs.MapLaws.{ended_clear, ended_filled}
use Rattle.v0_direct.proofs.row.end_block.Goals as goal

pub returns-then-bits-eq0 : goal.returns-then-bits-eq0
returns-then-bits-eq0 c = ended_clear c.args.bits _ _ _ refl c.if-bits-eq0.true

pub returns : goal.returns
returns c = ended_filled c.args.bits _ _ _ refl c.if-bits-eq0.false _ _ refl c.fill_block.ensures
