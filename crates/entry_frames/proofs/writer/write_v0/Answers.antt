-- The tests come in the sequence of the numbers, and nothing is written before the last of them is passed.
use mathlib.Core.Path.{refl, sym}
use native.Mathlib.Omega.{arith}
use lib.Seq.{length-take-le}
use Rattle.write_rules.specs.Calls.{call}
use Rattle.rules.proofs.RefusalNumbers.{number_not}
use Rattle.entry_frames.proofs.WriterLaws.{lent, none_holds, early_yields, short_yields, stream_room, done_yields}
use Rattle.entry_frames.proofs.writer.write_v0.Goals as goal

pub returns-in-Err : goal.returns-in-Err
returns-in-Err c = early_yields _ c.in-Err.ensures (number_not _) c.from.ensures

pub overflow_mul-n : goal.overflow_mul-n
overflow_mul-n c = omega (arith, ((let a = c.args in lent (record { width = a.width; height = a.height }) a.samples.now c.in_default.ensures refl)).few)

pub slice_bounds-v0_length-end : goal.slice_bounds-v0_length-end
slice_bounds-v0_length-end c = sym (length-take-le _ _ ((let a = c.args in lent (record { width = a.width; height = a.height }) a.samples.now c.in_default.ensures refl)).enough)

pub v0_length-length-requires : goal.v0_length-length-requires
v0_length-length-requires c = ((let a = c.args in lent (record { width = a.width; height = a.height }) a.samples.now c.in_default.ensures refl)).writable

pub returns-then-is_short : goal.returns-then-is_short
returns-then-is_short c =
    short_yields _ c.in_default.ensures refl c.v0_length-length.ensures c.is_short.ensures c.if-is_short.true c.from-then-is_short.ensures

pub slice_bounds-write_v0-end : goal.slice_bounds-write_v0-end
slice_bounds-write_v0-end c = sym (length-take-le _ _ ((let a = c.args in lent (record { width = a.width; height = a.height }) a.samples.now c.in_default.ensures refl)).enough)

pub write_v0-requires : goal.write_v0-requires
write_v0-requires c = (((let a = c.args in lent (record { width = a.width; height = a.height }) a.samples.now c.in_default.ensures refl)).writable, stream_room _ ((none_holds (let a = c.args in call a.samples.now a.width a.height a.stream.now a.offsets.now) c.in_default.ensures refl c.v0_length-length.ensures c.is_short.ensures c.if-is_short.false)))

pub returns : goal.returns
returns c =
    done_yields _ ((none_holds (let a = c.args in call a.samples.now a.width a.height a.stream.now a.offsets.now) c.in_default.ensures refl c.v0_length-length.ensures c.is_short.ensures c.if-is_short.false)) c.v0_length-length.ensures c.done.ensures c.write_v0.ensures.stream c.write_v0.ensures.offsets
