-- A block that is left lies in the frame, so that its samples and marks have room. Each row comes to what the rule says of it; the frame goes on after it, or is left with its refusal.
use Rattle.std.proofs.Common.{◌≡◌, ◌+◌, ◌*◌, ◌≤◌, ◌<◌, ℕ, refl, sym, ap, ◌∙◌, arith, ne_eqb}
use Rattle.rules.specs.Answer.{done_with}
use Rattle.rules.specs.Limits.{most_side}
use Rattle.rules.proofs.RefusalNumbers.{number_not}
use Rattle.rules.proofs.V2Places.{block_inside}
use Rattle.v2_cells.specs.Places.{Placed}
use Rattle.v2_frame.proofs.FrameLaws.{whole_row, blocks_start, row_starts, row_ends, row_short, row_stops, row_goes, goes_on, frame_starts, frame_ends, frame_stops, frame_goes, depth_is, markable, frame_is}
use Rattle.v2_frame.proofs.frame.decode_frame.Goals as goal

-- A block's place in a row of the frame.
placed : (w row block height : ℕ) → w ≤ most_side → height ≤ most_side → row < height → block * 16 + 16 ≤ w → Placed (record { width = w; row = row; col = block * 16 })
placed w row block height wide high below column = record { wide = wide; high = omega (arith, high, below); column = column; whole = omega arith }

pub frame-init : goal.frame-init
frame-init c = record { out_long = refl; map_long = refl; answered = c.done_with-answer.ensures; going = frame_starts _ _ _ _ _ _ _ _ }

pub loop-block-init : goal.loop-block-init
loop-block-init c = record {
  out_long = c.frame.invariant.out_long;
  map_long = c.frame.invariant.map_long;
  going = blocks_start _ _ _ _ _ _ _ _ _ _ c.fresh-state.ensures;
  state_fresh = c.fresh-state.ensures;
  lengths_fresh = c.mode-lengths.ensures;
  row_going = λ b₀ eb. row_starts _ _ _ _ _ b₀ _ _ _ _ _ eb c.fresh-state.ensures c.mode-lengths.ensures;
}

pub read_block-outcome-requires : goal.read_block-outcome-requires
read_block-outcome-requires c =
    let i = c.loop-block.invariant in
    let below : c.frame.row < c.args.size.height = omega arith in
    let column : c.loop-block.block * 16 + 16 ≤ c.args.size.width = omega arith in (
      record {
        depth = depth_is _ _ c.read_header-start.ensures;
        inside = record {
          placed = placed _ _ _ _ c.requires.width c.requires.height below column;
          room = rw (i.out_long ∙ c.requires.samples_lent) (block_inside c.args.size c.frame.row (c.loop-block.block * 16) below column);
        };
        motion = i.going.motion;
        scale = i.going.scale;
      },
      c.of-positions.ensures,
    )

pub mark_ended_block-requires : goal.mark_ended_block-requires
mark_ended_block-requires c =
    let i = c.loop-block.invariant in
    let below : c.frame.row < c.args.size.height = omega arith in
    let column : c.loop-block.block * 16 + 16 ≤ c.args.size.width = omega arith in
    markable _ _ _ _ _ _ _ _ _ _ _ (goes_on _ _ (sym c.in-Ok.is ∙ c.read_block-outcome.ensures.outcome)) i.going.motion
    (placed _ _ _ _ c.requires.width c.requires.height below column)
    (block_inside c.args.size c.frame.row (c.loop-block.block * 16) below column)
    i.map_long c.requires.map_lent

pub loop-block-preserved : goal.loop-block-preserved
loop-block-preserved c =
    let i = c.loop-block.invariant in
    let y = c.read_block-outcome.ensures in
    let next : (c.loop-block.block + 1) * 16 ≡ c.loop-block.block * 16 + 16 = omega arith in
    let on = row_goes _ _ _ _ _ _ _ _ _ _ _ _ _ _ i.going (omega arith) _ _ (goes_on _ _ (sym c.in-Ok.is ∙ y.outcome)) _ y.remembered _ _ _ _ c.first.ensures (rw c.in-Ok.is at y.samples) c.store.ensures (c.mark_ended_block.ensures _) in
    record {
      out_long = c.store.auto.frame ∙ i.out_long;
      map_long = c.mark_ended_block.auto.map ∙ i.map_long;
      going = rw next on;
      state_fresh = i.state_fresh;
      lengths_fresh = i.lengths_fresh;
      row_going = λ b₀ eb. rw (next, whole_row _ _ _ _ b₀ _ _ _ eb i.state_fresh i.lengths_fresh) on;
    }

pub frame-preserved : goal.frame-preserved
frame-preserved c =
    let i = c.loop-block.invariant in
    let r = i.row_going _ c.align-bits.ensures in
    let e = row_ends _ _ _ _ _ _ _ _ _ _ _ _ _ _ r (omega arith) c.if-bits-ne0.false in
    record {
      out_long = i.out_long;
      map_long = i.map_long;
      answered = c.done-answer.ensures ∙ ap done_with (sym c.if-bits-ne0.false);
      going = frame_goes _ _ _ _ _ _ _ _ _ _ _ _ c.frame.invariant.going (omega arith) _ _ _ _ e refl;
    }

pub returns-after-frame : goal.returns-after-frame
returns-after-frame c =
    let i = c.frame.invariant in
    let e = frame_ends _ _ _ _ _ _ _ _ _ _ _ _ i.going (omega arith) in
    let x = frame_is _ _ _ _ _ _ _ _ c.read_header-start.ensures e in
    record { answered = i.answered ∙ x.0; samples = x.1.0; marks = x.1.1 }

pub returns-in_default : goal.returns-in_default
returns-in_default c =
    let r = c.loop-block.invariant.row_going _ c.align-bits.ensures in
    let e = row_stops _ _ _ _ _ _ _ _ _ _ _ _ _ _ r (omega arith) _ (sym c.in_default.is ∙ c.read_block-outcome.ensures.outcome) in
    let x = frame_is _ _ _ _ _ _ _ _ c.read_header-start.ensures
    (frame_stops _ _ _ _ _ _ _ _ _ _ _ _ c.frame.invariant.going (omega arith) _ _ _ _ e (ne_eqb _ 0 (number_not c.in_default.field-0.refusal))) in
    record { answered = rw c.in_default.is at c.answer-answer.ensures ∙ x.0; samples = x.1.0; marks = x.1.1 }

pub returns-then-bits-ne0 : goal.returns-then-bits-ne0
returns-then-bits-ne0 c =
    let r = c.loop-block.invariant.row_going _ c.align-bits.ensures in
    let e = row_short _ _ _ _ _ _ _ _ _ _ _ _ _ _ r (omega arith) c.if-bits-ne0.true in
    let x = frame_is _ _ _ _ _ _ _ _ c.read_header-start.ensures
    (frame_stops _ _ _ _ _ _ _ _ _ _ _ _ c.frame.invariant.going (omega arith) _ _ _ _ e refl) in
    record { answered = rw c.number.ensures x.0; samples = x.1.0; marks = x.1.1 }
