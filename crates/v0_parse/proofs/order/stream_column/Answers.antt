-- The order of the stream, tested at all sixteen places.
use mathlib.Core.Path.{sym}
use native.Mathlib.Omega.{arith}
use Rattle.v0_parse.proofs.OrderLaws.{order_at}
use Rattle.v0_parse.proofs.order.stream_column.Goals as goal

pub returns : goal.returns
returns c = (sym (order_at c.args.k c.requires), omega arith)
