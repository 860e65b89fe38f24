use Rattle.std.proofs.Common.{◌+◌, ◌%◌, ap, get_or, arith}
use Rattle.v0_cells.proofs.StagedLaws.{made_none, made_on, staged, choice_left}
use Rattle.v0_phase2.proofs.add_left.Goals as goal

pub loop-c-init : goal.loop-c-init
loop-c-init c = made_none

pub loop-c-preserved : goal.loop-c-preserved
loop-c-preserved c =
    let a = c.args in let l = c.loop-c in
    let p = choice_left a.w a.base l.c _ 0 a.out.now c.of_parity-p.ensures in
    made_on (omega arith) (ap (λ x. (x + get_or a.out.now (a.base + l.c) 0) % 65_536) p) l.invariant

pub store-requires : goal.store-requires
store-requires c = (c.requires.0.room, (omega arith, c.requires.1))

pub returns : goal.returns
returns c = staged c.requires.0 (omega arith) c.loop-c.invariant c.store.ensures
