use mathlib.Core.Path.{refl, sym, ◌∙◌}
use native.Mathlib.Omega.{arith}
use Rattle.v0_clean.proofs.HeadsLaws.{all_begun, all_tracked, all_room, all_near, all_on, ends_narrow, ends_late, ends_long, least_more}
use Rattle.v0_clean.proofs.heads.pass_heads.Goals as goal

pub loop-t-init : goal.loop-t-init
loop-t-init c = (all_begun c.requires.0, refl)

pub overflow_add-t : goal.overflow_add-t
overflow_add-t c = record { fits = omega (arith, c.loop-t.invariant.0.first.below, c.requires.0.width) }

pub read_heads-h-requires : goal.read_heads-h-requires
read_heads-h-requires c = (all_room c.loop-t.t (omega arith) (all_tracked c.requires.0 c.loop-t.invariant.0) (sym c.have_room.ensures ∙ c.if-have_room.true), c.requires.1)

pub all_moved-t-requires : goal.all_moved-t-requires
all_moved-t-requires c =
    (omega (arith, c.requires.0.width), all_near c.loop-t.t c.read_heads-h.result (all_tracked c.requires.0 c.loop-t.invariant.0) c.read_heads-h.ensures)

pub loop-t-smaller : goal.loop-t-smaller
loop-t-smaller c = omega (arith, c.all_moved-t.ensures.col)

pub loop-t-preserved : goal.loop-t-preserved
loop-t-preserved c =
    let h = c.read_heads-h in let m = c.all_moved-t in
    let short = sym c.are_all_short.ensures ∙ c.if-not-are_all_short.false in (
      all_on c.requires.0 c.loop-t.invariant.0 m.result h.result (omega arith) (omega arith) (sym c.have_room.ensures ∙ c.if-have_room.true) h.ensures short m.ensures,
      c.loop-t.invariant.1 ∙ least_more _ c.args.size c.loop-t.t m.result h.result (omega arith) (all_tracked c.requires.0 c.loop-t.invariant.0) (omega arith) (sym c.have_room.ensures ∙ c.if-have_room.true) h.ensures short m.ensures,
    )

pub returns-else-have_room : goal.returns-else-have_room
returns-else-have_room c =
    let none = ends_late c.args.src.now c.args.size c.loop-t.t (sym c.have_room.ensures ∙ c.if-have_room.false) in
    record {
      passed = c.loop-t.invariant.0;
      reaches = omega (arith, c.loop-t.invariant.1, none);
    }

pub returns-after-loop-t : goal.returns-after-loop-t
returns-after-loop-t c =
    let none = ends_narrow c.args.src.now c.args.size c.loop-t.t (omega arith) in
    record {
      passed = c.loop-t.invariant.0;
      reaches = omega (arith, c.loop-t.invariant.1, none);
    }

pub returns-then-not-are_all_short : goal.returns-then-not-are_all_short
returns-then-not-are_all_short c =
    let none = ends_long c.args.src.now c.args.size c.loop-t.t c.read_heads-h.result c.read_heads-h.ensures (sym c.have_room.ensures ∙ c.if-have_room.true) (sym c.are_all_short.ensures ∙ c.if-not-are_all_short.true) in
    record {
      passed = c.loop-t.invariant.0;
      reaches = omega (arith, c.loop-t.invariant.1, none);
    }
