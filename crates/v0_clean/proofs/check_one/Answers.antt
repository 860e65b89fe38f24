-- A row from its beginning on, told with its number.
use mathlib.Core.Path.{ap, ◌∙◌}
use Rattle.rules.specs.Answer.{done}
use Rattle.v0_clean.specs.Rows.{or_after}
use Rattle.v0_clean.proofs.FrameLaws.{row_lent, row_alone}
use Rattle.v0_clean.proofs.RowLaws.{row_begun}
use Rattle.v0_clean.proofs.check_one.Goals as goal

pub check_rest-requires : goal.check_rest-requires
check_rest-requires c =
    let a = c.args in let p = c.requires in
    (row_lent p.1 p.0, (row_begun a.src.now a.size a.row _ c.fresh.result c.fresh.ensures).placed)

pub returns : goal.returns
returns c =
    let a = c.args in
    c.check_rest.ensures
    ∙ ap (λ k. or_after a.row k done) (row_begun a.src.now a.size a.row _ c.fresh.result c.fresh.ensures).left
    ∙ row_alone a.src.now a.offsets.now a.size a.row
