-- Past the end the rule reads the cell of 0.
use Rattle.std.proofs.Common.{refl, sym, ◌∙◌, arith}
use Rattle.std.proofs.lemmas.List.{get_or_read_under}
use lib.ListN.{get_or-eq_default}
use Rattle.v0_cells.proofs.cells.cell_at.Goals as goal

pub returns-then-p-cells : goal.returns-then-p-cells
returns-then-p-cells g c = get_or_read_under _ _ _ _ _ c.index-cells-p.is c.if-p-cells.true refl

pub returns-else-p-cells : goal.returns-else-p-cells
returns-else-p-cells g c = c.constant.ensures ∙ sym (get_or-eq_default c.args.cells.now _ {n = c.args.p} (omega arith))
