-- A 2-bit number is an operation, as `read_lengths` asks.
use mathlib.Core.Path.{refl}
use native.Mathlib.Omega.{arith}
use Rattle.v0_parse.proofs.HeadLaws.{four_below, head_is}
use Rattle.v0_parse.proofs.head.read_head.Goals as goal

pub read_lengths-next-requires : goal.read_lengths-next-requires
read_lengths-next-requires c = (four_below 4 _ _ _ _ (omega arith) (omega arith) (omega arith) (omega arith), c.requires)

pub returns : goal.returns
returns c = head_is _ c.args.row _ c.get_whole-g.result _ c.get_whole-g.ensures c.read_lengths-next.ensures refl
