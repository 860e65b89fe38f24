-- A refusal comes before anything is written; then the scratch holds what the decoder leaves, and the comparison decides.
use mathlib.Core.Path.{refl, sym, ap, ◌∙◌}
use native.Mathlib.Omega.{arith}
use lib.ListN.{length}
use lib.Seq.{length-take-le}
use Rattle.entry_refusals.proofs.RefusalLaws.{cells_most}
use Rattle.rules.proofs.RefusalNumbers.{number_not}
use Rattle.write_packed.specs.Proposal.{proposal}
use Rattle.entry_convert.proofs.ProposalLaws.{kept_yields, ready, frame_decoded, scratch_room, as_long, other_yields, taken_yields}
use Rattle.entry_convert.proofs.proposal.check_packed.Goals as goal

pub returns-in-Err : goal.returns-in-Err
returns-in-Err c = kept_yields (c.from.ensures ∙ c.in-Err.ensures) (λ z. number_not c.in-Err.fault.refusal (sym (ap (λ a. a.number) c.from.ensures) ∙ z))

pub overflow_mul-n : goal.overflow_mul-n
overflow_mul-n c = let b = (ready {p = let a = c.args in proposal a.src.now a.offsets.now a.width a.height a.meant.now} {n = length c.args.scratch.now} c.in_default.ensures refl) in record { fits = omega (arith, cells_most _ _ b.wide b.high) }

pub slice_bounds-is_same-end : goal.slice_bounds-is_same-end
slice_bounds-is_same-end c = scratch_room ((frame_decoded {scratch = c.args.scratch.now} {left = c.decode_v0_reference.new.out} ((ready {p = let a = c.args in proposal a.src.now a.offsets.now a.width a.height a.meant.now} {n = length c.args.scratch.now} c.in_default.ensures refl)) c.decode_v0_reference.ensures))

pub slice_bounds-is_same-end-2 : goal.slice_bounds-is_same-end-2
slice_bounds-is_same-end-2 c = sym (length-take-le _ _ (scratch_room ((frame_decoded {scratch = c.args.scratch.now} {left = c.decode_v0_reference.new.out} ((ready {p = let a = c.args in proposal a.src.now a.offsets.now a.width a.height a.meant.now} {n = length c.args.scratch.now} c.in_default.ensures refl)) c.decode_v0_reference.ensures))))

pub slice_bounds-is_same-end-3 : goal.slice_bounds-is_same-end-3
slice_bounds-is_same-end-3 c = sym (length-take-le _ _ ((ready {p = let a = c.args in proposal a.src.now a.offsets.now a.width a.height a.meant.now} {n = length c.args.scratch.now} c.in_default.ensures refl)).meant_enough)

pub is_same-requires : goal.is_same-requires
is_same-requires c = as_long ((frame_decoded {scratch = c.args.scratch.now} {left = c.decode_v0_reference.new.out} ((ready {p = let a = c.args in proposal a.src.now a.offsets.now a.width a.height a.meant.now} {n = length c.args.scratch.now} c.in_default.ensures refl)) c.decode_v0_reference.ensures))

pub returns-then-is_same : goal.returns-then-is_same
returns-then-is_same c = taken_yields ((frame_decoded {scratch = c.args.scratch.now} {left = c.decode_v0_reference.new.out} ((ready {p = let a = c.args in proposal a.src.now a.offsets.now a.width a.height a.meant.now} {n = length c.args.scratch.now} c.in_default.ensures refl)) c.decode_v0_reference.ensures)) c.is_same.ensures c.if-is_same.true c.done.ensures

pub returns : goal.returns
returns c = other_yields ((frame_decoded {scratch = c.args.scratch.now} {left = c.decode_v0_reference.new.out} ((ready {p = let a = c.args in proposal a.src.now a.offsets.now a.width a.height a.meant.now} {n = length c.args.scratch.now} c.in_default.ensures refl)) c.decode_v0_reference.ensures)) c.is_same.ensures c.if-is_same.false c.from-2.ensures
