-- Each case stores what the rule stores; past the end a store does nothing.
use Rattle.std.proofs.Common.{ap, ◌∙◌, arith}
use Rattle.v0_cells.proofs.CellLaws.{put_skipped, put_past, put_constant, put_sample}
use Rattle.v0_cells.proofs.cells.put.Goals as goal

pub returns-in-Skipped : goal.returns-in-Skipped
returns-in-Skipped g c = put_skipped g.C.Cell.kind _ _ _ _ c.in-Skipped.is

pub returns-in-Constant : goal.returns-in-Constant
returns-in-Constant g c =
    put_constant g.C.Cell.kind _ _ _ _ _ c.in-Constant.is (c.plus.ensures ∙ ap (λ x. g.C.Cell.kind.plus x c.args.residual) c.constant.ensures)

pub returns-in-Sample : goal.returns-in-Sample
returns-in-Sample g c = put_sample g.C.Cell.kind _ _ _ _ _ _ _ c.in-Sample.is c.cell_at.ensures c.plus-in-Sample.ensures

pub returns-else-place-cells : goal.returns-else-place-cells
returns-else-place-cells g c = put_past g.C.Cell.kind _ _ _ _ (omega arith)
