-- A refusal is the rule's, and else the planes' function is lent the first N samples of both buffers.
use mathlib.Core.Path.{refl, sym}
use native.Mathlib.Omega.{arith}
use lib.Seq.{length-take-le}
use Rattle.rules.proofs.RefusalNumbers.{number_not}
use Rattle.entry_frames.proofs.MovedLaws.{room, refused_moved, lent, passed_moved}
use Rattle.entry_frames.proofs.colour.carry_lent.Goals as goal

pub returns-in-Err : goal.returns-in-Err
returns-in-Err g c = let both = refused_moved _ _ _ _ _ c.in-Err.ensures (number_not _) c.from.ensures in
    record { answered = both.0; written = both.1 }

pub overflow_mul-n : goal.overflow_mul-n
overflow_mul-n g c = omega (arith, ((let a = c.args in room {w = a.width} {h = a.height} {from = a.read.now} {to = a.written.now} c.in_default.ensures refl)).most)

pub slice_bounds-carry-end : goal.slice_bounds-carry-end
slice_bounds-carry-end g c = sym (length-take-le _ _ ((let a = c.args in room {w = a.width} {h = a.height} {from = a.read.now} {to = a.written.now} c.in_default.ensures refl)).read_enough)

pub slice_bounds-carry-end-2 : goal.slice_bounds-carry-end-2
slice_bounds-carry-end-2 g c = ((let a = c.args in room {w = a.width} {h = a.height} {from = a.read.now} {to = a.written.now} c.in_default.ensures refl)).written_enough

pub slice_bounds-carry-end-3 : goal.slice_bounds-carry-end-3
slice_bounds-carry-end-3 g c = sym (length-take-le _ _ ((let a = c.args in room {w = a.width} {h = a.height} {from = a.read.now} {to = a.written.now} c.in_default.ensures refl)).written_enough)

pub carry-requires : goal.carry-requires
carry-requires g c = lent ((let a = c.args in room {w = a.width} {h = a.height} {from = a.read.now} {to = a.written.now} c.in_default.ensures refl))

pub returns : goal.returns
returns g c = let both = passed_moved ((let a = c.args in room {w = a.width} {h = a.height} {from = a.read.now} {to = a.written.now} c.in_default.ensures refl)) _ c.done.ensures c.carry.ensures in
    record { answered = both.0; written = both.1 }
