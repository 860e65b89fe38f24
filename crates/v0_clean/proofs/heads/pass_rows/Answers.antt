-- Where all four rows are ready they go on by position, and else they stay.
use mathlib.Core.Path.{sym, ◌∙◌}
use Rattle.v0_clean.proofs.HeadsLaws.{all_tracked, rows_stay, tracks_at, rows_go, reach_none, reach_some}
use Rattle.v0_clean.proofs.heads.pass_rows.Goals as goal

pub returns-then-not-are_ready : goal.returns-then-not-are_ready
returns-then-not-are_ready c =
    let a = c.args in
    record {
      passed = rows_stay c.requires.rows_placed;
      reaches = reach_none a.src.now a.size a.rows (sym c.are_ready.ensures.answered ∙ c.if-not-are_ready.true);
    }

pub tracks_of-from-requires : goal.tracks_of-from-requires
tracks_of-from-requires c = c.are_ready.ensures.holds (c.if-not-are_ready.false)

pub pass_heads-to-requires : goal.pass_heads-to-requires
pass_heads-to-requires c =
    let p = c.requires in
    (tracks_at p.width_le_most_side.0 p.rows_placed (c.are_ready.ensures.holds (c.if-not-are_ready.false)) c.tracks_of-from.ensures, p.width_le_most_side.1)

pub rows_of-requires : goal.rows_of-requires
rows_of-requires c =
    let p = c.requires in
    all_tracked (tracks_at p.width_le_most_side.0 p.rows_placed (c.are_ready.ensures.holds (c.if-not-are_ready.false)) c.tracks_of-from.ensures) c.pass_heads-to.ensures.passed

pub returns : goal.returns
returns c =
    let a = c.args in
    let yes = c.if-not-are_ready.false in let y = c.are_ready.ensures.holds yes in record {
      passed = rows_go y c.tracks_of-from.ensures c.pass_heads-to.ensures.passed c.rows_of.ensures;
      reaches = reach_some a.src.now a.size a.rows c.rows_of.result c.tracks_of-from.result c.pass_heads-to.result (sym c.are_ready.ensures.answered ∙ yes) y c.tracks_of-from.ensures c.pass_heads-to.ensures.reaches c.rows_of.ensures;
    }
