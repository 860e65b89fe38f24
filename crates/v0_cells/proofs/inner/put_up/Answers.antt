use Rattle.std.proofs.Common.{◌%◌, cond, eqb, refl, ap, ap₂, ◌∙◌, get_or, arith}
use Rattle.std.proofs.lemmas.List.{get_or_read_under}
use Rattle.v0_cells.proofs.StagedLaws.{made_none, made_on, staged, choice_up}
use Rattle.v0_cells.proofs.inner.put_up.Goals as goal

pub loop-c-init : goal.loop-c-init
loop-c-init g c = rw c.constant-values.ensures made_none

pub loop-c-preserved : goal.loop-c-preserved
loop-c-preserved g c =
    let a = c.args in let l = c.loop-c in
    let z = g.C.Cell.kind.constant 0 in
    let even = get_or_read_under a.cells.now _ _ _ z c.index-cells-base.is (omega arith) refl in
    let odd = get_or_read_under a.cells.now _ _ _ z c.index-cells-base-in-loop-c.is (omega arith) refl in
    let p = choice_up a.w a.base l.c _ z a.cells.now (c.of_parity-p.ensures ∙ ap₂ (λ x y. cond (eqb (l.c % 2) 0) x y) even odd) in
    made_on (omega arith) (c.plus.ensures ∙ ap (λ x. g.C.Cell.kind.plus x (get_or a.residuals l.c 0)) p) l.invariant

pub store-requires : goal.store-requires
store-requires g c = (c.requires.0.room, (omega arith, c.requires.1))

pub returns : goal.returns
returns g c = staged c.requires.0 (omega arith) c.loop-c.invariant c.store.ensures
