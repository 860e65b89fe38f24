-- The tests before decoding change nothing; then what the decoder leaves is what is written.
use mathlib.Core.Path.{refl, sym}
use native.Mathlib.Omega.{arith}
use lib.Seq.{length-take-le}
use Rattle.rules.proofs.RefusalNumbers.{number_not}
use Rattle.entry_convert.specs.Convert.{call}
use Rattle.entry_convert.proofs.ConvertLaws.{lent, decoded, early_yields, width_yields, samples_room, map_room, frame_fits, converted}
use Rattle.entry_convert.proofs.convert.v0_to_v2.Goals as goal

pub returns-in-Err : goal.returns-in-Err
returns-in-Err c = early_yields refl c.is_too_small.ensures c.in-Err.ensures (number_not _) c.from.ensures

pub returns-then-width-ne0 : goal.returns-then-width-ne0
returns-then-width-ne0 c = width_yields ((lent {c = let a = c.args in call a.src.now a.offsets.now a.width a.height a.samples.now a.map.now a.stream.now} refl c.is_too_small.ensures c.in_default.ensures refl)) c.if-width-ne0.true c.from-then-width-ne0.ensures

pub overflow_mul-n : goal.overflow_mul-n
overflow_mul-n c = record {
  fits = omega (
    arith,
    ((decoded ((lent {c = let a = c.args in call a.src.now a.offsets.now a.width a.height a.samples.now a.map.now a.stream.now} refl c.is_too_small.ensures c.in_default.ensures refl)) c.decode_v0_reference_map.ensures)).lent.room.few,
  );
}

pub slice_bounds-write_decoded-end : goal.slice_bounds-write_decoded-end
slice_bounds-write_decoded-end c = samples_room ((decoded ((lent {c = let a = c.args in call a.src.now a.offsets.now a.width a.height a.samples.now a.map.now a.stream.now} refl c.is_too_small.ensures c.in_default.ensures refl)) c.decode_v0_reference_map.ensures))

pub slice_bounds-write_decoded-end-2 : goal.slice_bounds-write_decoded-end-2
slice_bounds-write_decoded-end-2 c = sym (length-take-le _ _ (samples_room ((decoded ((lent {c = let a = c.args in call a.src.now a.offsets.now a.width a.height a.samples.now a.map.now a.stream.now} refl c.is_too_small.ensures c.in_default.ensures refl)) c.decode_v0_reference_map.ensures))))

pub slice_bounds-write_decoded-end-3 : goal.slice_bounds-write_decoded-end-3
slice_bounds-write_decoded-end-3 c = map_room ((decoded ((lent {c = let a = c.args in call a.src.now a.offsets.now a.width a.height a.samples.now a.map.now a.stream.now} refl c.is_too_small.ensures c.in_default.ensures refl)) c.decode_v0_reference_map.ensures))

pub slice_bounds-write_decoded-end-4 : goal.slice_bounds-write_decoded-end-4
slice_bounds-write_decoded-end-4 c = sym (length-take-le _ _ (map_room ((decoded ((lent {c = let a = c.args in call a.src.now a.offsets.now a.width a.height a.samples.now a.map.now a.stream.now} refl c.is_too_small.ensures c.in_default.ensures refl)) c.decode_v0_reference_map.ensures))))

pub write_decoded-requires : goal.write_decoded-requires
write_decoded-requires c = frame_fits ((decoded ((lent {c = let a = c.args in call a.src.now a.offsets.now a.width a.height a.samples.now a.map.now a.stream.now} refl c.is_too_small.ensures c.in_default.ensures refl)) c.decode_v0_reference_map.ensures)) c.if-width-ne0.false

pub returns : goal.returns
returns c =
    converted ((decoded ((lent {c = let a = c.args in call a.src.now a.offsets.now a.width a.height a.samples.now a.map.now a.stream.now} refl c.is_too_small.ensures c.in_default.ensures refl)) c.decode_v0_reference_map.ensures)) c.if-width-ne0.false (c.write_decoded.ensures.answered, c.write_decoded.ensures.stream)
