-- A refusal is the rules', a fault the verdict's; else the frame's samples are what the direct decoder leaves, and the map's bytes
-- are 0.
use mathlib.Core.Path.{refl, sym, ap, ◌∙◌}
use mathlib.Core.Logic.{inr}
use mathlib.Core.Option.{some}
use native.Mathlib.Omega.{arith}
use lib.Seq.{length-take-le}
use Rattle.rules.proofs.RefusalNumbers.{number_not}
use Rattle.samsung.proofs.Opening.{direct_tested, direct_opened, direct_v0, v0_lends}
use Rattle.rules_clean.proofs.Calls.{checked_answer, checked_samples, fault_map, taken_map}
use Rattle.samsung.proofs.EntryLaws.{clean_refused}
use Rattle.samsung.proofs.clean.decode_v0_clean_map.Goals as goal

pub returns-in-Err : goal.returns-in-Err
returns-in-Err c = clean_refused (direct_tested c.in-Err.ensures) (number_not _) c.from.ensures

pub overflow_mul-n : goal.overflow_mul-n
overflow_mul-n c = omega (arith, ((let a = c.args in direct_opened a.src.now a.offsets.now a.width a.height a.out.now (some a.map.now) c.in_default.ensures)).few)

pub slice_bounds-decode_checked-end : goal.slice_bounds-decode_checked-end
slice_bounds-decode_checked-end c = ((let a = c.args in direct_opened a.src.now a.offsets.now a.width a.height a.out.now (some a.map.now) c.in_default.ensures)).samples_enough

pub slice_bounds-decode_checked-end-2 : goal.slice_bounds-decode_checked-end-2
slice_bounds-decode_checked-end-2 c = sym (length-take-le _ _ ((((let a = c.args in direct_opened a.src.now a.offsets.now a.width a.height a.out.now (some a.map.now) c.in_default.ensures)).samples_enough)))

pub decode_checked-requires : goal.decode_checked-requires
decode_checked-requires c = v0_lends ((let a = c.args in direct_opened a.src.now a.offsets.now a.width a.height a.out.now (some a.map.now) c.in_default.ensures)) direct_v0 _ (inr refl)

pub returns-in-Err-decode_checked : goal.returns-in-Err-decode_checked
returns-in-Err-decode_checked c =
    let ok = (let a = c.args in direct_opened a.src.now a.offsets.now a.width a.height a.out.now (some a.map.now) c.in_default.ensures).passed in
    let d = c.in-Err-decode_checked.ensures in
    let told = c.from-in-Err-decode_checked.ensures in
    record {
      answered = checked_answer _ refl _ ok _ (told ∙ d.answered);
      samples = checked_samples _ refl _ ok _ (told ∙ d.answered) _ _ (rw told d.samples);
      map = fault_map _ refl _ ok _ (told ∙ d.answered) (λ z. number_not c.in-Err-decode_checked.fault.refusal (sym (ap (λ a. a.number) told) ∙ z)) _;
    }

pub slice_bounds-mark_all-end : goal.slice_bounds-mark_all-end
slice_bounds-mark_all-end c = ((let a = c.args in direct_opened a.src.now a.offsets.now a.width a.height a.out.now (some a.map.now) c.in_default.ensures)).map_enough _ refl

pub slice_bounds-mark_all-end-2 : goal.slice_bounds-mark_all-end-2
slice_bounds-mark_all-end-2 c = sym (length-take-le _ _ ((((let a = c.args in direct_opened a.src.now a.offsets.now a.width a.height a.out.now (some a.map.now) c.in_default.ensures)).map_enough _ refl)))

pub returns : goal.returns
returns c =
    let ok = (let a = c.args in direct_opened a.src.now a.offsets.now a.width a.height a.out.now (some a.map.now) c.in_default.ensures).passed in
    let d = c.in_default-decode_checked.ensures in
    let told = c.done.ensures in
    record {
      answered = checked_answer _ refl _ ok _ (told ∙ d.answered);
      samples = checked_samples _ refl _ ok _ (told ∙ d.answered) _ _ (rw told d.samples);
      map = taken_map _ refl _ ok _ (told ∙ d.answered) (ap (λ a. a.number) told) _ _ refl c.mark_all.ensures;
    }
