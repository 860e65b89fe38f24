-- What the two stores leave is the rule's swap.
use Rattle.std.proofs.Common.{◌∙◌, arith}
use Rattle.v0_cells.proofs.ExchangeLaws.{pairs_crossed}
use Rattle.v0_cells.proofs.exchange.exchange_two.Goals as goal

pub returns : goal.returns
returns g c =
    pairs_crossed g.C.Cell.kind c.args.i c.args.j c.index-cells-i.result c.index-cells-i-2.result c.index-cells-j.result c.index-cells-j-2.result _ _ _ _ _ _ _
    (omega arith) (omega arith) c.index-cells-i.is c.index-cells-i-2.is c.index-cells-j.is c.index-cells-j-2.is
    (c.joined.ensures.first ∙ c.first.ensures ∙ c.joined-x.ensures.first)
    (c.joined.ensures.second ∙ c.first-2.ensures ∙ c.joined-y.ensures.first)
    (c.joined-2.ensures.first ∙ c.second.ensures ∙ c.joined-x.ensures.second)
    (c.joined-2.ensures.second ∙ c.second-2.ensures ∙ c.joined-y.ensures.second)
    c.store_two.ensures c.store_two-2.ensures
