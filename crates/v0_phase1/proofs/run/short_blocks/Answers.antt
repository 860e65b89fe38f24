use mathlib.Core.Path.{refl, sym, ◌∙◌}
use native.Mathlib.Omega.{arith}
use borrow.Author.Rules.{rules}
use Rattle.v0_parse_window.proofs.GroupLaws.{ahead_room, after_head, room_for, short_is}
use Rattle.v0_phase1.proofs.ResidualLaws.{near_enough}
use Rattle.v0_phase1.proofs.RunLaws.{ran_below, ran_lent, ran_samples, ran_directions, ran_within, run_begun, run_on, ended_at, ends_narrow, ends_late, ends_long, ends_on}
use Rattle.v0_phase1.proofs.run.short_blocks.Goals as goal

pub loop-k-init : goal.loop-k-init
loop-k-init c = (run_begun c.requires.0, λ f. refl)

pub overflow_add-k : goal.overflow_add-k
overflow_add-k c = omega (arith, (let first = c.requires.1.block_in in ran_below (omega arith) (c.loop-k.invariant.0.reads 0)), c.requires.1.row.width)

pub overflow_mul-k : goal.overflow_mul-k
overflow_mul-k c = omega (arith, (let first = c.requires.1.block_in in ran_below (omega arith) (c.loop-k.invariant.0.reads 0)), c.requires.1.row.width)

pub window_head-head-requires : goal.window_head-head-requires
window_head-head-requires c =
    let lent-near = c.requires.1.near in (
      ahead_room (let first = c.requires.0.there in
          room_for c.loop-k.invariant.0.ahead.late (omega arith) (omega arith) c.last_start-last.ensures c.if-q-last.true),
      near_enough _ c.loop-k.k (omega arith) (ran_within lent-near (c.loop-k.invariant.0.reads 0)),
    )

pub store_short-q-requires : goal.store_short-q-requires
store_short-q-requires c =
    let l = ran_lent c.requires.1.row (c.loop-k.invariant.0.reads 0) in
    record {
      short = short_is _ (sym c.are_short.ensures ∙ c.if-not-are_short.false);
      ahead = (
        (after_head (let first = c.requires.0.there in
            room_for c.loop-k.invariant.0.ahead.late (omega arith) (omega arith) c.last_start-last.ensures c.if-q-last.true) c.window_head-head.ensures),
        (l.samples_lent, (search rules, l.width)),
      );
    }

pub bounds-dirs-k : goal.bounds-dirs-k
bounds-dirs-k c = omega (arith, (ran_lent c.requires.1.row (c.loop-k.invariant.0.reads 0)).directions_lent)

pub loop-k-preserved : goal.loop-k-preserved
loop-k-preserved c =
    let stored-by = c.store_short-q.ensures in (
      run_on c.loop-k.invariant.0 (omega arith) c.store_short-q.auto.out ((after_head (let first = c.requires.0.there in
          room_for c.loop-k.invariant.0.ahead.late (omega arith) (omega arith) c.last_start-last.ensures c.if-q-last.true) c.window_head-head.ensures)) c.window_head-head.ensures stored-by.ends stored-by.samples c.from.ensures,
      λ f. c.loop-k.invariant.1 f ∙ ends_on _ _ _ _ _ _ c.if-q-last.true c.window_head-head.ensures _ (omega arith) (sym c.are_short.ensures ∙ c.if-not-are_short.false) stored-by.ends f,
    )

pub shape_of-out-else-q-last : goal.shape_of-out-else-q-last
shape_of-out-else-q-last c = ran_samples (c.loop-k.invariant.0.reads 0)

pub shape_of-dirs-else-q-last : goal.shape_of-dirs-else-q-last
shape_of-dirs-else-q-last c = ran_directions (c.loop-k.invariant.0.reads 0)

pub returns-else-q-last : goal.returns-else-q-last
returns-else-q-last c = record {
  ran = c.loop-k.invariant.0;
  reaches = ended_at _ _ _ _ _ _ _ c.loop-k.invariant.1 c.last_start-last.ensures (ends_late _ _ c.args.width _ _ c.if-q-last.false);
}

pub shape_of-out-after-loop-k : goal.shape_of-out-after-loop-k
shape_of-out-after-loop-k c = ran_samples (c.loop-k.invariant.0.reads 0)

pub shape_of-dirs-after-loop-k : goal.shape_of-dirs-after-loop-k
shape_of-dirs-after-loop-k c = ran_directions (c.loop-k.invariant.0.reads 0)

pub returns-after-loop-k : goal.returns-after-loop-k
returns-after-loop-k c = record {
  ran = c.loop-k.invariant.0;
  reaches = ended_at _ _ _ _ _ _ _ c.loop-k.invariant.1 c.last_start-last.ensures (ends_narrow _ _ _ _ _ (omega arith));
}

pub shape_of-out-then-not-are_short : goal.shape_of-out-then-not-are_short
shape_of-out-then-not-are_short c = ran_samples (c.loop-k.invariant.0.reads 0)

pub shape_of-dirs-then-not-are_short : goal.shape_of-dirs-then-not-are_short
shape_of-dirs-then-not-are_short c = ran_directions (c.loop-k.invariant.0.reads 0)

pub returns-then-not-are_short : goal.returns-then-not-are_short
returns-then-not-are_short c =
    record {
      ran = c.loop-k.invariant.0;
      reaches = ended_at _ _ _ _ _ _ _ c.loop-k.invariant.1 c.last_start-last.ensures (ends_long _ _ c.args.width _ _ _ c.if-q-last.true c.window_head-head.ensures (sym c.are_short.ensures ∙ c.if-not-are_short.true));
    }
