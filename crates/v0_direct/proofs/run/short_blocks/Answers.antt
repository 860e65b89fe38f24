use mathlib.Core.Path.{◌≡◌, refl, sym, ap, ◌∙◌}
use native.Mathlib.Omega.{arith}
use Rattle.v0_parse_window.specs.ByWindow.{Ahead, block_ahead}
use Rattle.v0_cells.specs.Places.{Inner}
use Rattle.v0_cells.proofs.InnerLaws.{inner_fits, inner_inside}
use Rattle.v0_parse_window.proofs.GroupLaws.{room_for, ahead_room}
use Rattle.v0_lanes.specs.Lengths.{lengths_of}
use Rattle.v0_direct.proofs.RunLaws.{inner_on, going_begun, waiting_inner, going_done, going_ahead, going_room, going_on, ending, ends_narrow, ends_late, ends_long}
use Rattle.v0_direct.proofs.run.short_blocks.Goals as goal
use Rattle.v0_direct.proofs.run.short_blocks.Goals.{After-all_fit, then-loop-col-test+else-q-last, else-loop-col-test, then-loop-col-test+then-q-last+then-not-all_fit}

-- In a turn the block lies in its row, and the stream has room for it.
here : (c : After-all_fit) → Inner c.args.at.size c.args.at.row c.loop-col.col
here c = inner_on c.requires.inner.0 c.loop-col.invariant.ran.after c.loop-col.invariant.ran.whole (omega arith)

ahead : (c : After-all_fit) → Ahead c.args.src.now c.args.base c.loop-col.q block_ahead
ahead c =
    let there = c.requires.inner.1.0.there in
    room_for c.loop-col.invariant.ran.ahead.late (omega arith) (omega arith) c.last_start-last.ensures c.if-q-last.true

pub head_at-head-requires : goal.head_at-head-requires
head_at-head-requires c = let p = c.requires in (ahead_room p.inner.1.0, c.args.tables.now.of_heads)

pub loop-col-init : goal.loop-col-init
loop-col-init c = let p = c.requires in let k = c.packed-lengths in
    going_begun p.inner.0 p.inner.1.0 (rw k.ensures p.inner.1.1.near) k.result.packed refl c.head_at-head.ensures

pub overflow_add-col : goal.overflow_add-col
overflow_add-col c = let below = c.loop-col.invariant.ran.below in record { fits = omega (arith, c.requires.inner.0.frame.width) }

pub overflow_add-from : goal.overflow_add-from
overflow_add-from c = record { fits = omega (arith, c.loop-col.invariant.head.soon, c.loop-col.invariant.ran.ahead.soon) }

pub ends_of-ends-requires : goal.ends_of-ends-requires
ends_of-ends-requires c = omega (arith, c.loop-col.invariant.head.soon, c.loop-col.invariant.ran.ahead.soon)

pub head_at-head-requires-in-loop-col : goal.head_at-head-requires-in-loop-col
head_at-head-requires-in-loop-col c = let k = c.lengths_after-lengths in let fit = sym c.all_fit.ensures ∙ c.if-not-all_fit.false in (
  rw c.ends_of-ends.ensures.fourth_value (going_room c.requires.inner.0 c.loop-col.invariant (omega arith) (ahead (goal.at.head_at-head-requires-in-loop-col c).After-all_fit) c.if-q-last.true c.requires.inner.1.1.samples_lent fit _ k.result.packed (k.ensures fit)),
  c.args.tables.now.of_heads,
)

pub overflow_mul-at : goal.overflow_mul-at
overflow_mul-at c = record { fits = omega (arith, inner_fits (here (goal.at.overflow_mul-at c).After-all_fit)) }

pub overflow_add-at : goal.overflow_add-at
overflow_add-at c = record { fits = omega (arith, inner_fits (here (goal.at.overflow_add-at c).After-all_fit)) }

pub store_block-requires : goal.store_block-requires
store_block-requires c = let k = c.lengths_after-lengths in let fit = sym c.all_fit.ensures ∙ c.if-not-all_fit.false in let lent = c.requires.inner.1.1.samples_lent in (
  c.args.tables.now.of_lanes,
  (
    going_ahead c.requires.inner.0 c.loop-col.invariant (omega arith) (ahead (goal.at.store_block-requires c).After-all_fit) c.if-q-last.true lent fit _ k.result.packed (k.ensures fit),
    (inner_inside (here (goal.at.store_block-requires c).After-all_fit) c.loop-col.out (c.loop-col.invariant.same_samples ∙ lent)).room,
  ),
)

pub finish-requires : goal.finish-requires
finish-requires c = let lent = c.requires.inner.1.1 in
    (waiting_inner c.requires.inner.0 c.loop-col.invariant, (c.store_block.auto.out ∙ c.loop-col.invariant.same_samples ∙ lent.samples_lent, rw c.loop-col.invariant.same_map lent.map_lent))

pub overflow_add-col-in-loop-col : goal.overflow_add-col-in-loop-col
overflow_add-col-in-loop-col c = record { fits = omega (arith, c.requires.inner.0.frame.width) }

pub loop-col-smaller : goal.loop-col-smaller
loop-col-smaller c = omega arith

pub loop-col-preserved : goal.loop-col-preserved
loop-col-preserved c = let k = c.lengths_after-lengths in let fit = sym c.all_fit.ensures ∙ c.if-not-all_fit.false in
    going_on c.requires.inner.0 c.loop-col.invariant (omega arith) (ahead (goal.at.loop-col-preserved c).After-all_fit) c.if-q-last.true c.requires.inner.1.1.samples_lent fit _ k.result.packed (k.ensures fit) _ _ _ _ _ c.ends_of-ends.ensures.fourth_value c.head_at-head-in-loop-col.ensures
    (c.store_block.ensures.ends _) (c.store_block.ensures.out_after _) (c.store_block.ensures.l_value _) c.finish.ensures.samples c.finish.ensures.marks

pub finish-requires-2 : goal.finish-requires-2
finish-requires-2 c = let lent = c.requires.inner.1.1 in
    (waiting_inner c.requires.inner.0 c.loop-col.invariant, (c.loop-col.invariant.same_samples ∙ lent.samples_lent, rw c.loop-col.invariant.same_map lent.map_lent))

pub shape_of-out : goal.shape_of-out
shape_of-out c = c.finish-2.auto.out ∙ c.loop-col.invariant.same_samples

pub shape_of-map : goal.shape_of-map
shape_of-map c = c.finish-2.auto.map ∙ c.loop-col.invariant.same_map

pub returns : goal.returns
returns c = let a = c.args in let k = c.packed-lengths.ensures in record {
  ran = rw k at (going_done c.requires.inner.0 c.loop-col.invariant c.unpacked.ensures c.finish-2.ensures.samples c.finish-2.ensures.marks);
  reaches = (let ends : (let l = c.loop-col in l.col ≡ ending a.src.now a.base a.at.size c.last_start-last.result (record { col = l.col; q = l.q; lengths = lengths_of l.lengths.bytes })) = elim c.loop-col-test.branch [
    | then-loop-col-test+else-q-last w ↦ ends_late _ _ a.at.size _ _ w.if-q-last.false
    | else-loop-col-test w ↦ ends_narrow _ _ a.at.size _ _ w.loop-col-test.false
    | then-loop-col-test+then-q-last+then-not-all_fit w ↦ ends_long _ _ a.at.size _ _ _ w.if-q-last.true c.loop-col.invariant.head (sym w.all_fit.ensures ∙ w.if-not-all_fit.true)
  ] in ends) ∙ sym c.loop-col.invariant.on ∙ rw k (ap (λ last. ending a.src.now a.base a.at.size last a.start) c.last_start-last.ensures);
}
