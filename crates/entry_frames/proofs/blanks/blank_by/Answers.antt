-- The tests come in their sequence, and nothing is written before the last of them is passed.
use mathlib.Core.Path.{refl, sym}
use native.Mathlib.Omega.{arith}
use lib.Seq.{length-take-le}
use Rattle.frame_blank.specs.Calls.{call}
use Rattle.frame_blank.specs.MapLent.{meant}
use Rattle.rules.proofs.RefusalNumbers.{number_not}
use Rattle.entry_frames.proofs.BlankLaws.{lent, good, fits, map_there, map_lent, runs_few, frame_lent, early_yields, bad_yields, short_yields, done_yields}
use Rattle.entry_frames.proofs.blanks.blank_by.Goals as goal

pub returns-in-Err : goal.returns-in-Err
returns-in-Err c = early_yields c.in-Err.ensures (number_not _) c.from.ensures

pub overflow_mul-n : goal.overflow_mul-n
overflow_mul-n c = omega (
  arith,
  ((lent {c = let a = c.args in call (meant a.fill) a.samples.now a.map.now a.width a.height a.runs.now} c.in_default.ensures refl)).room.few,
)

pub slice_bounds-is_bad_map-end : goal.slice_bounds-is_bad_map-end
slice_bounds-is_bad_map-end c = sym (length-take-le _ _ (map_there ((lent {c = let a = c.args in call (meant a.fill) a.samples.now a.map.now a.width a.height a.runs.now} c.in_default.ensures refl))))

pub returns-then-is_bad_map : goal.returns-then-is_bad_map
returns-then-is_bad_map c = bad_yields ((lent {c = let a = c.args in call (meant a.fill) a.samples.now a.map.now a.width a.height a.runs.now} c.in_default.ensures refl)) c.is_bad_map.ensures c.if-is_bad_map.true c.from-then-is_bad_map.ensures

pub slice_bounds-tally_frame-end : goal.slice_bounds-tally_frame-end
slice_bounds-tally_frame-end c = sym (length-take-le _ _ (map_there ((good ((lent {c = let a = c.args in call (meant a.fill) a.samples.now a.map.now a.width a.height a.runs.now} c.in_default.ensures refl)) c.is_bad_map.ensures c.if-is_bad_map.false)).lent))

pub tally_frame-found-requires : goal.tally_frame-found-requires
tally_frame-found-requires c = map_lent ((good ((lent {c = let a = c.args in call (meant a.fill) a.samples.now a.map.now a.width a.height a.runs.now} c.in_default.ensures refl)) c.is_bad_map.ensures c.if-is_bad_map.false)).lent

pub is_short_list-requires : goal.is_short_list-requires
is_short_list-requires c = runs_few ((good ((lent {c = let a = c.args in call (meant a.fill) a.samples.now a.map.now a.width a.height a.runs.now} c.in_default.ensures refl)) c.is_bad_map.ensures c.if-is_bad_map.false)).lent c.tally_frame-found.ensures

pub returns-then-is_short_list : goal.returns-then-is_short_list
returns-then-is_short_list c =
    short_yields ((good ((lent {c = let a = c.args in call (meant a.fill) a.samples.now a.map.now a.width a.height a.runs.now} c.in_default.ensures refl)) c.is_bad_map.ensures c.if-is_bad_map.false)) c.tally_frame-found.ensures c.is_short_list.ensures c.if-is_short_list.true c.from-then-is_short_list.ensures

pub slice_bounds-blank_frame-end : goal.slice_bounds-blank_frame-end
slice_bounds-blank_frame-end c = ((fits ((good ((lent {c = let a = c.args in call (meant a.fill) a.samples.now a.map.now a.width a.height a.runs.now} c.in_default.ensures refl)) c.is_bad_map.ensures c.if-is_bad_map.false)) c.tally_frame-found.ensures c.is_short_list.ensures c.if-is_short_list.false)).good.lent.room.samples_enough

pub slice_bounds-blank_frame-end-2 : goal.slice_bounds-blank_frame-end-2
slice_bounds-blank_frame-end-2 c = sym (length-take-le _ _ ((fits ((good ((lent {c = let a = c.args in call (meant a.fill) a.samples.now a.map.now a.width a.height a.runs.now} c.in_default.ensures refl)) c.is_bad_map.ensures c.if-is_bad_map.false)) c.tally_frame-found.ensures c.is_short_list.ensures c.if-is_short_list.false)).good.lent.room.samples_enough)

pub slice_bounds-blank_frame-end-3 : goal.slice_bounds-blank_frame-end-3
slice_bounds-blank_frame-end-3 c = sym (length-take-le _ _ (map_there ((fits ((good ((lent {c = let a = c.args in call (meant a.fill) a.samples.now a.map.now a.width a.height a.runs.now} c.in_default.ensures refl)) c.is_bad_map.ensures c.if-is_bad_map.false)) c.tally_frame-found.ensures c.is_short_list.ensures c.if-is_short_list.false)).good.lent))

pub blank_frame-requires : goal.blank_frame-requires
blank_frame-requires c = frame_lent ((fits ((good ((lent {c = let a = c.args in call (meant a.fill) a.samples.now a.map.now a.width a.height a.runs.now} c.in_default.ensures refl)) c.is_bad_map.ensures c.if-is_bad_map.false)) c.tally_frame-found.ensures c.is_short_list.ensures c.if-is_short_list.false))

pub returns : goal.returns
returns c =
    done_yields ((fits ((good ((lent {c = let a = c.args in call (meant a.fill) a.samples.now a.map.now a.width a.height a.runs.now} c.in_default.ensures refl)) c.is_bad_map.ensures c.if-is_bad_map.false)) c.tally_frame-found.ensures c.is_short_list.ensures c.if-is_short_list.false)) c.tally_frame-found.ensures c.done.ensures c.blank_frame.ensures.samples c.blank_frame.ensures.runs
