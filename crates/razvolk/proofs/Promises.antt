-- All that is promised, on one page: README's list "What is promised, and what is not", in its order and under its numbers. Each field of
-- `Promises` is one line of that list, and `promises` proves all of them. They speak of calls that have returned: what was handed in,
-- what came out, and what the function's contract, as `src/` has it, says of the two (`Made` in `samsung/proofs/Isolation.antt`). That
-- every run of an export is such a call, and as well one of its entry, is what the first promise says of each export.
use Prim.Native.Nat.{ℕ}
use mathlib.Core.Path.{◌≡◌, refl, sym, subst}
use mathlib.Core.List.{List, [], ◌∷◌}
use contract.Lifetimes.{Lfts}
use borrow.Fn.Kinds.{ParamKind, ResultKind, Dens, In, Out}
use Rattle.rules.specs.Answer.{Yields}
use Rattle.rules.specs.Reader as Reader
use Rattle.samsung.proofs.Answered.{Answered, answered}
use Rattle.samsung.proofs.Isolation.{Made, Banded, Cleaned, called, yielded, checked, returned, ended}
use Rattle.samsung.proofs.TwoPhase.{Paired, SameFrame, entries_same}
use Rattle.samsung.proofs.CutUpload.{CutFinal, cut_final}
use Rattle.samsung.proofs.InBands.{InBands, in_bands}
use Rattle.samsung.proofs.CleanFrames.{CleanFrames, clean_frames}
use Rattle.write_rules.specs.Calls as Writers
use Rattle.frame_blank.proofs.Returned.{MarkedAlone, marked_alone}
use Rattle.entry_late.proofs.LateFault.{LateFault, late_fault}
use Rattle.entry_convert.proofs.Proposed.{Checks, checks, Writes, writes, Packed, packed}
use Rattle.razvolk.proofs.Isolation.{Export}
use Rattle.razvolk.proofs.BlankedFrames.{Blanking, blanks, Exporting, exports as Exports-of, Isolation, isolation, BlankedFrames, blanked_frames, ExportedFrames, exported_frames}
use Rattle.razvolk.proofs.RoundTrip.{Writing, wrote, ReadBack, read_back}
use Rattle.razvolk.proofs.Converted.{Converts, converts}
use Rattle.razvolk.proofs.Converted as Converted
use Rattle.razvolk.proofs.ColourPlanes.{ToPlanes, FromPlanes, to, from, Planes, planes}
use Rattle.razvolk.proofs.Numbers as Numbers
use Rattle.razvolk.proofs.Numbers.{OneOf, bands_number, clean_number, writer_number, blanking_number, export_number, planes_number, convert_number, check_number}
use Rattle.razvolk.proofs.direct.razvolk_decode_v0_reference as reference
use Rattle.samsung.proofs.direct.decode_v0_reference as reference-entry
use Rattle.razvolk.proofs.direct.razvolk_decode_v0_reference_map as reference-map
use Rattle.samsung.proofs.direct.decode_v0_reference_map as reference-map-entry
use Rattle.razvolk.proofs.two_phase.razvolk_decode_v0 as two_phase
use Rattle.samsung.proofs.two_phase.decode_v0 as two-phase-entry
use Rattle.razvolk.proofs.in_bands.razvolk_decode_v0_bands as bands
use Rattle.samsung.proofs.in_bands.decode_v0_bands as bands-entry
use Rattle.razvolk.proofs.clean.razvolk_decode_v0_clean as clean
use Rattle.samsung.proofs.clean.decode_v0_clean as clean-entry
use Rattle.razvolk.proofs.clean.razvolk_decode_v0_clean_map as clean_map
use Rattle.samsung.proofs.clean.decode_v0_clean_map as clean-map-entry
use Rattle.razvolk.proofs.v2.razvolk_decode_v2 as v2
use Rattle.samsung.proofs.v2_entries.decode_v2 as v2-entry
use Rattle.razvolk.proofs.v2.razvolk_decode_v2_map as v2_map
use Rattle.samsung.proofs.v2_entries.decode_v2_map as v2-map-entry
use Rattle.razvolk.proofs.writer.razvolk_write_v0 as writer
use Rattle.entry_frames.proofs.writer.write_v0 as writer-entry
use Rattle.razvolk.proofs.blanks.razvolk_blank_with as blank-with
use Rattle.entry_frames.proofs.blanks.blank_with as blank-with-entry
use Rattle.razvolk.proofs.blanks.razvolk_blank as blank
use Rattle.entry_frames.proofs.blanks.blank as blank-entry
use Rattle.razvolk.proofs.blanks.razvolk_export_v0 as export
use Rattle.entry_frames.proofs.export.export_v0 as export-entry
use Rattle.razvolk.proofs.colour.razvolk_to_planes as to_planes
use Rattle.entry_frames.proofs.colour.to_planes as to-planes-entry
use Rattle.razvolk.proofs.colour.razvolk_from_planes as from_planes
use Rattle.entry_frames.proofs.colour.from_planes as from-planes-entry
use Rattle.razvolk.proofs.convert.razvolk_v0_to_v2 as convert
use Rattle.entry_convert.proofs.convert.v0_to_v2 as convert-entry
use Rattle.razvolk.proofs.proposal.razvolk_check_packed as check
use Rattle.entry_convert.proofs.proposal.check_packed as check-entry
use Rattle.razvolk.proofs.reader.razvolk_get as get
use Rattle.read_bits.proofs.get as get-entry
use Rattle.razvolk.proofs.reader.razvolk_reset_at as reset_at
use Rattle.read_bits.proofs.reset_at as reset-at-entry

-- ── Beside every export ──

-- It asks nothing of its caller: its `requires` holds for all arguments. Its contract is its entry's, in what it asks and in what it says
-- of the result. And its code meets the contract: from every state that it may be called in it is safe, returns, and leaves what the
-- contract says.
pub record Kept {n : ℕ} (ps : List (ParamKind n)) (r : ResultKind n) (Asked Asked' : In n ps) (Learnt Learnt' : Out n ps r) (Code : Type 2) : Type 2 where
  pub asks_nothing : (κs : Lfts n) (args : Dens κs ps) → Asked κs args
  pub asks_its_entrys : Asked ≡ Asked'
  pub says_its_entrys : Learnt ≡ Learnt'
  pub met : Code

pub record Exports (M : Type 1) : Type 2 where
  pub razvolk_decode_v0_reference : Kept reference.Kinds.ps reference.Kinds.r reference.Reads.Asked reference-entry.Reads.Asked reference.Reads.Learnt reference-entry.Reads.Learnt (reference.Statement.statement M)
  pub razvolk_decode_v0_reference_map : Kept reference-map.Kinds.ps reference-map.Kinds.r reference-map.Reads.Asked reference-map-entry.Reads.Asked reference-map.Reads.Learnt reference-map-entry.Reads.Learnt (reference-map.Statement.statement M)
  pub razvolk_decode_v0 : Kept two_phase.Kinds.ps two_phase.Kinds.r two_phase.Reads.Asked two-phase-entry.Reads.Asked two_phase.Reads.Learnt two-phase-entry.Reads.Learnt (two_phase.Statement.statement M)
  pub razvolk_decode_v0_bands : Kept bands.Kinds.ps bands.Kinds.r bands.Reads.Asked bands-entry.Reads.Asked bands.Reads.Learnt bands-entry.Reads.Learnt (bands.Statement.statement M)
  pub razvolk_decode_v0_clean : Kept clean.Kinds.ps clean.Kinds.r clean.Reads.Asked clean-entry.Reads.Asked clean.Reads.Learnt clean-entry.Reads.Learnt (clean.Statement.statement M)
  pub razvolk_decode_v0_clean_map : Kept clean_map.Kinds.ps clean_map.Kinds.r clean_map.Reads.Asked clean-map-entry.Reads.Asked clean_map.Reads.Learnt clean-map-entry.Reads.Learnt (clean_map.Statement.statement M)
  pub razvolk_decode_v2 : Kept v2.Kinds.ps v2.Kinds.r v2.Reads.Asked v2-entry.Reads.Asked v2.Reads.Learnt v2-entry.Reads.Learnt (v2.Statement.statement M)
  pub razvolk_decode_v2_map : Kept v2_map.Kinds.ps v2_map.Kinds.r v2_map.Reads.Asked v2-map-entry.Reads.Asked v2_map.Reads.Learnt v2-map-entry.Reads.Learnt (v2_map.Statement.statement M)
  pub razvolk_write_v0 : Kept writer.Kinds.ps writer.Kinds.r writer.Reads.Asked writer-entry.Reads.Asked writer.Reads.Learnt writer-entry.Reads.Learnt (writer.Statement.statement M)
  pub razvolk_blank_with : Kept blank-with.Kinds.ps blank-with.Kinds.r blank-with.Reads.Asked blank-with-entry.Reads.Asked blank-with.Reads.Learnt blank-with-entry.Reads.Learnt (blank-with.Statement.statement M)
  pub razvolk_blank : Kept blank.Kinds.ps blank.Kinds.r blank.Reads.Asked blank-entry.Reads.Asked blank.Reads.Learnt blank-entry.Reads.Learnt (blank.Statement.statement M)
  pub razvolk_export_v0 : Kept export.Kinds.ps export.Kinds.r export.Reads.Asked export-entry.Reads.Asked export.Reads.Learnt export-entry.Reads.Learnt (export.Statement.statement M)
  pub razvolk_to_planes : Kept to_planes.Kinds.ps to_planes.Kinds.r to_planes.Reads.Asked to-planes-entry.Reads.Asked to_planes.Reads.Learnt to-planes-entry.Reads.Learnt (to_planes.Statement.statement M)
  pub razvolk_from_planes : Kept from_planes.Kinds.ps from_planes.Kinds.r from_planes.Reads.Asked from-planes-entry.Reads.Asked from_planes.Reads.Learnt from-planes-entry.Reads.Learnt (from_planes.Statement.statement M)
  pub razvolk_v0_to_v2 : Kept convert.Kinds.ps convert.Kinds.r convert.Reads.Asked convert-entry.Reads.Asked convert.Reads.Learnt convert-entry.Reads.Learnt (convert.Statement.statement M)
  pub razvolk_check_packed : Kept check.Kinds.ps check.Kinds.r check.Reads.Asked check-entry.Reads.Asked check.Reads.Learnt check-entry.Reads.Learnt (check.Statement.statement M)
  pub razvolk_get : Kept get.Kinds.ps get.Kinds.r get.Reads.Asked get-entry.Reads.Asked get.Reads.Learnt get-entry.Reads.Learnt (get.Statement.statement M)
  pub razvolk_reset_at : Kept reset_at.Kinds.ps reset_at.Kinds.r reset_at.Reads.Asked reset-at-entry.Reads.Asked reset_at.Reads.Learnt reset-at-entry.Reads.Learnt (reset_at.Statement.statement M)

-- ── Promises of several parts ──

-- Every export returns on every input. A decoder's answer is done or one of 1 to 8, and 1 to 4 change nothing; the others' are done or
-- one of a list.
pub record EveryInput (M : Type 1) : Type 2 where
  pub exports : Exports M
  pub decoders : (c : Export) → Answered (returned c)
  pub in_bands : (c : Banded) → OneOf (0 ∷ 1 ∷ 3 ∷ 4 ∷ 11 ∷ 12 ∷ []) c.result.number
  pub for_clean : (c : Cleaned) → OneOf (0 ∷ 1 ∷ 3 ∷ 4 ∷ 17 ∷ 18 ∷ 19 ∷ []) (checked c).answered.number
  pub writer : (w : Writes) → OneOf (0 ∷ 1 ∷ 3 ∷ 9 ∷ 10 ∷ []) (writes w).answered.answer.number
  pub blanking : (b : Blanking) → OneOf (0 ∷ 1 ∷ 3 ∷ 4 ∷ 13 ∷ 14 ∷ []) (blanks b).answered.answer.number
  pub export : (c : Exporting) → OneOf (0 ∷ 1 ∷ 3 ∷ 4 ∷ 9 ∷ 10 ∷ 13 ∷ 14 ∷ []) (Exports-of c).answered.answer.number
  pub to_planes : (c : ToPlanes) → OneOf (0 ∷ 1 ∷ 3 ∷ []) (to c).answered.number
  pub from_planes : (c : FromPlanes) → OneOf (0 ∷ 1 ∷ 3 ∷ []) (from c).answered.number
  pub into_v2 : (x : Converts) → OneOf (0 ∷ 1 ∷ 2 ∷ 3 ∷ 4 ∷ 9 ∷ 10 ∷ 15 ∷ 16 ∷ []) (converts x).answered.answer.number
  pub check_packed : (c : Checks) → OneOf (0 ∷ 1 ∷ 3 ∷ 9 ∷ 17 ∷ 18 ∷ 19 ∷ 20 ∷ 21 ∷ []) (checks c).answered.number

-- A decoder's answer and what it leaves in every buffer are the rules'; the two-phase decoder gives what the direct one gives. So are the
-- reader's values and states.
pub record ByTheRules : Type 0 where
  pub rules : (c : Export) → Yields (returned c).ask (returned c).found (returned c).answered (returned c).left
  pub two_phase : (c d : Export) → Paired (returned c) (returned d) → SameFrame (returned c) (returned d)
  pub get : (c : Made get.Kinds.ps get.Kinds.r get.Reads.Learnt) → c.result ≡ Reader.read c.args.0.now c.args.1.0 c.args.1.1.0
  pub reset_at : (c : Made reset_at.Kinds.ps reset_at.Kinds.r reset_at.Reads.Learnt) → c.result ≡ Reader.reset_at c.args.0 c.args.1.0

-- The stream and the offsets that are written are those of the definitions, byte for byte, and they are decoded back.
pub record WrittenV0 : Type 0 where
  pub fixed : (w : Writing) → Writers.Yields (wrote w).call (wrote w).answered (wrote w).stream (wrote w).offsets
  pub back : ReadBack

-- Blanking changes marked samples alone; a blanked frame, and an exported one, has nothing of an earlier frame.
pub record Blanked : Type 0 where
  pub marked_alone : (b : Blanking) → MarkedAlone (blanks b)
  pub frames : BlankedFrames
  pub exported : ExportedFrames

-- ── The promises ──

pub record Promises (M : Type 1) : Type 2 where
  -- 1. Every byte string, offset table, size and set of buffers is answered.
  pub p1_answered : EveryInput M
  -- 2. Each decoder and the reader equal the rules, and two-phase equals direct.
  pub p2_by_the_rules : ByTheRules
  -- 3. No earlier frame reaches a sample that is not marked old, by every two lists of calls of exports that write a sample buffer.
  pub p3_no_earlier_frame : Isolation
  -- 4. What a cut upload shows unmarked is final.
  pub p4_cut_uploads : CutFinal ended
  -- 5. How far a late fault reaches, and how V2's first bytes tell it.
  pub p5_late_faults : LateFault ended
  -- 6. What is written as V0 is decoded back by every V0 decoder.
  pub p6_written : WrittenV0
  -- 7. Which streams of other programs are taken, and that these are decoded back.
  pub p7_packed_by_others : Packed
  -- 8. In bands, by every good list, the two-phase decoder's frame.
  pub p8_in_bands : InBands
  -- 9. Clean frames, and they alone, are taken, and decoded as the direct decoder does.
  pub p9_clean_frames : CleanFrames
  -- 10. What V0 into V2 writes is decoded back.
  pub p10_v0_into_v2 : Converted.ReadBack
  -- 11. To colour planes and back, and the other way round.
  pub p11_colour_planes : Planes
  -- 12. Blanking changes marked samples alone, and leaves nothing of an earlier frame.
  pub p12_blanked : Blanked

-- ── Their proof ──

exports : {M : Type 1} → Exports M
exports =
    record {
      razvolk_decode_v0_reference = record { asks_nothing = λ κs args. tt; asks_its_entrys = refl; says_its_entrys = refl; met = reference.Met.met };
      razvolk_decode_v0_reference_map = record { asks_nothing = λ κs args. tt; asks_its_entrys = refl; says_its_entrys = refl; met = reference-map.Met.met };
      razvolk_decode_v0 = record { asks_nothing = λ κs args. tt; asks_its_entrys = refl; says_its_entrys = refl; met = two_phase.Met.met };
      razvolk_decode_v0_bands = record { asks_nothing = λ κs args. tt; asks_its_entrys = refl; says_its_entrys = refl; met = bands.Met.met };
      razvolk_decode_v0_clean = record { asks_nothing = λ κs args. tt; asks_its_entrys = refl; says_its_entrys = refl; met = clean.Met.met };
      razvolk_decode_v0_clean_map = record { asks_nothing = λ κs args. tt; asks_its_entrys = refl; says_its_entrys = refl; met = clean_map.Met.met };
      razvolk_decode_v2 = record { asks_nothing = λ κs args. tt; asks_its_entrys = refl; says_its_entrys = refl; met = v2.Met.met };
      razvolk_decode_v2_map = record { asks_nothing = λ κs args. tt; asks_its_entrys = refl; says_its_entrys = refl; met = v2_map.Met.met };
      razvolk_write_v0 = record { asks_nothing = λ κs args. tt; asks_its_entrys = refl; says_its_entrys = refl; met = writer.Met.met };
      razvolk_blank_with = record { asks_nothing = λ κs args. tt; asks_its_entrys = refl; says_its_entrys = refl; met = blank-with.Met.met };
      razvolk_blank = record { asks_nothing = λ κs args. tt; asks_its_entrys = refl; says_its_entrys = refl; met = blank.Met.met };
      razvolk_export_v0 = record { asks_nothing = λ κs args. tt; asks_its_entrys = refl; says_its_entrys = refl; met = export.Met.met };
      razvolk_to_planes = record { asks_nothing = λ κs args. tt; asks_its_entrys = refl; says_its_entrys = refl; met = to_planes.Met.met };
      razvolk_from_planes = record { asks_nothing = λ κs args. tt; asks_its_entrys = refl; says_its_entrys = refl; met = from_planes.Met.met };
      razvolk_v0_to_v2 = record { asks_nothing = λ κs args. tt; asks_its_entrys = refl; says_its_entrys = refl; met = convert.Met.met };
      razvolk_check_packed = record { asks_nothing = λ κs args. tt; asks_its_entrys = refl; says_its_entrys = refl; met = check.Met.met };
      razvolk_get = record { asks_nothing = λ κs args. tt; asks_its_entrys = refl; says_its_entrys = refl; met = get.Met.met };
      razvolk_reset_at = record { asks_nothing = λ κs args. tt; asks_its_entrys = refl; says_its_entrys = refl; met = reset_at.Met.met };
    }

every_input : {M : Type 1} → EveryInput M
every_input =
    record {
      exports = exports;
      decoders = λ c. answered (returned c);
      in_bands = λ c. told Numbers.in_bands (λ x. x.number) (yielded c).answered (bands_number (called c));
      for_clean = λ c. told Numbers.for_clean (λ x. x.number) (checked c).yields.answered (clean_number (checked c).ask _ (checked c).direct);
      writer = λ w. told Numbers.by_writer (λ x. x.answer.number) (writes w).yields.answered (writer_number (writes w).call);
      blanking = λ b. told Numbers.by_blanking (λ x. x.answer.number) (blanks b).yields.answered (blanking_number (blanks b).call);
      export = λ c. told Numbers.by_export (λ x. x.answer.number) (Exports-of c).yields.answered (export_number (Exports-of c).export);
      to_planes = λ c. told Numbers.by_planes (λ x. x.number) (to c).answers (planes_number (to c).width (to c).height (to c).read (to c).found);
      from_planes = λ c. told Numbers.by_planes (λ x. x.number) (from c).answers (planes_number (from c).width (from c).height (from c).read (from c).found);
      into_v2 = λ x. told Numbers.into_v2 (λ y. y.answer.number) (converts x).yields.answered (convert_number _);
      check_packed = λ c. told Numbers.by_check (λ x. x.number) (checks c).yields.answered (check_number (checks c).proposal (checks c).scratch);
    }
  where
    told : {A : Type 0} (ns : List ℕ) (number : A → ℕ) {x y : A} → x ≡ y → OneOf ns (number y) → OneOf ns (number x)
    told ns number e h = subst (λ z. OneOf ns (number z)) (sym e) h

pub promises : {M : Type 1} → Promises M
promises =
    record {
      p1_answered = every_input;
      p2_by_the_rules = record { rules = λ c. (returned c).yields; two_phase = entries_same; get = λ c. c.learnt; reset_at = λ c. c.learnt };
      p3_no_earlier_frame = isolation;
      p4_cut_uploads = cut_final;
      p5_late_faults = late_fault;
      p6_written = record { fixed = λ w. (wrote w).yields; back = read_back };
      p7_packed_by_others = packed;
      p8_in_bands = in_bands;
      p9_clean_frames = clean_frames;
      p10_v0_into_v2 = Converted.read_back;
      p11_colour_planes = planes;
      p12_blanked = record { marked_alone = λ b. marked_alone (blanks b); frames = blanked_frames; exported = exported_frames };
    }
