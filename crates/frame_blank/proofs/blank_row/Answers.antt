use mathlib.Core.Path.{sym, ◌∙◌}
use native.Mathlib.Omega.{arith}
use Rattle.frame_blank.proofs.RunLaws.{stretch_more}
use Rattle.frame_blank.proofs.RowLaws.{filled_none, filled_run, listed_none, run_within, run_room, listed_run, unmarked_passed, row_blanked, row_unmarked}
use Rattle.frame_blank.proofs.blank_row.Goals as goal

pub returns-then-greatest_of-eq0 : goal.returns-then-greatest_of-eq0
returns-then-greatest_of-eq0 c =
    row_unmarked c.args.fill (sym c.greatest_of.ensures ∙ c.if-greatest_of-eq0.true)

pub loop-col-init : goal.loop-col-init
loop-col-init c = unmarked_passed c.args.fill c.requires.written (listed_none _ _ _ _) (filled_none _ _) _ c.next_marked-col.ensures

pub set_run-requires : goal.set_run-requires
set_run-requires c =
    let i = c.loop-col.invariant in
    omega (arith, run_within i.0 (omega arith) (i.1.1 (omega arith)) _ c.stretch_at-columns.ensures, i.1.0.kept, c.requires.written)

pub put_run-requires : goal.put_run-requires
put_run-requires c =
    let p = c.requires in
    let l = c.loop-col.invariant.0 in
    let m = c.loop-col.invariant.1.1 (omega arith) in
    let s = c.stretch_at-columns.ensures in
    (run_room l (omega arith) m _ s p.room, (p.few, (omega (arith, p.wide), omega (arith, p.wide, run_within l (omega arith) m _ s))))

pub overflow_add-at : goal.overflow_add-at
overflow_add-at c =
    let i = c.loop-col.invariant in
    omega (arith, run_room i.0 (omega arith) (i.1.1 (omega arith)) _ c.stretch_at-columns.ensures c.requires.room, i.0.kept)

pub overflow_add-col : goal.overflow_add-col
overflow_add-col c =
    let i = c.loop-col.invariant in
    omega (arith, run_within i.0 (omega arith) (i.1.1 (omega arith)) _ c.stretch_at-columns.ensures)

pub next_marked-col-requires-in-loop-col : goal.next_marked-col-requires-in-loop-col
next_marked-col-requires-in-loop-col c =
    let i = c.loop-col.invariant in
    run_within i.0 (omega arith) (i.1.1 (omega arith)) _ c.stretch_at-columns.ensures

pub loop-col-smaller : goal.loop-col-smaller
loop-col-smaller c =
    let l = c.loop-col in
    let m = l.invariant.1.1 (omega arith) in
    let s = c.stretch_at-columns.ensures in
    omega (arith, stretch_more c.args.map.now l.col (omega arith) m, s, c.next_marked-col-in-loop-col.ensures)

pub loop-col-preserved : goal.loop-col-preserved
loop-col-preserved c =
    let a = c.args in
    let i = c.loop-col.invariant in
    let m = i.1.1 (omega arith) in
    let s = c.stretch_at-columns in
    let listed = listed_run i.0 (omega arith) m s.result s.ensures _ c.put_run.ensures in
    let filled = filled_run a.fill a.samples.now a.map.now s.result _ _ i.1.0 c.requires.written (run_within i.0 (omega arith) m s.result s.ensures) s.ensures c.turns_at-turns.ensures c.set_run.ensures in
    unmarked_passed a.fill c.requires.written listed filled _ c.next_marked-col-in-loop-col.ensures

pub returns : goal.returns
returns c =
    let i = c.loop-col.invariant in
    row_blanked c.args.fill i.0 i.1.0 c.requires.written (omega arith)
