-- A frame of no cells stays one; else the pair lies in the map.
use Rattle.std.proofs.Common.{sym, ◌∙◌, eqb-true}
use borrow.Author.Tests.{eqb-false}
use Rattle.rules.specs.Map.{v0_marks}
use Rattle.v0_cells.proofs.ExchangeLaws.{columns_not_lent, map_in_pair, pair_columns, paired_all}
use Rattle.v0_cells.proofs.exchange.exchange_marks.Goals as goal

pub returns-then-is_empty : goal.returns-then-is_empty
returns-then-is_empty c = columns_not_lent v0_marks _ _ _ _ _ (eqb-true _ 0 (sym c.is_empty.ensures ∙ c.if-is_empty.true))

pub exchange_columns-requires : goal.exchange_columns-requires
exchange_columns-requires c = pair_columns (map_in_pair _ _ _ c.requires (eqb-false _ 0 (sym c.is_empty.ensures ∙ c.if-is_empty.false)))

pub returns : goal.returns
returns c = paired_all v0_marks _ _ _ _ c.exchange_columns.ensures
