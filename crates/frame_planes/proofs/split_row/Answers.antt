use mathlib.Core.Path.{sym, ◌∙◌}
use native.Mathlib.Omega.{arith}
use Rattle.frame_planes.proofs.Lists.{columns_length, columns_get}
use Rattle.frame_planes.proofs.Written.{written_none, written_more, written_all}
use Rattle.frame_planes.proofs.split_row.Goals as goal

pub loop-k-init : goal.loop-k-init
loop-k-init c = written_none _ _ (c.requires.1 ∙ sym (columns_length _ _ c.requires.0))

pub loop-k-preserved : goal.loop-k-preserved
loop-k-preserved c =
    let a = c.args in
    let l = c.loop-k in
    written_more _ (omega (arith, l.invariant.kept)) (sym (columns_get a.row.now a.first l.k 0)) l.invariant

pub returns : goal.returns
returns c = written_all (omega (arith, c.loop-k.invariant.kept)) c.loop-k.invariant
