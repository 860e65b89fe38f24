-- Promise P3, no earlier frame, at work. For every input there is a call of each decoder, of V0 into V2 and of both ways between
-- frame and planes, and after every list of calls on a buffer each call may follow, lent all of the buffer or its first samples: so
-- the claim speaks of lists of every length, on buffers longer than a frame too. Then two calls that are alike and end with done
-- over buffers that differ: the worked example's frame of 2 by 2.
use Prim.Native.Nat.{ℕ, ◌+◌, ◌%◌}
use mathlib.Core.Path.{◌≡◌, refl, sym, ap, ◌∙◌}
use mathlib.Core.Logic.{inl}
use mathlib.Core.List.{List, [], ◌∷◌, ◌++◌}
use mathlib.Core.Option.{none, some, none-ne-some}
use lib.ListN.{length, get_or, take, drop, take-append-drop}
use lib.Dec.{lit≤}
use denote.Bor.{Bor}
use denote.MutBor.{MutBor}
use borrow.Fn.Kinds.{Out}
use Rattle.rules.specs.declared.answer.Answer.{Answer}
use Rattle.rules.specs.Answer.{Ask, ask, buffers, lengths, answer, samples_after, map_after, scratch_after}
use Rattle.rules.specs.Answer as Answer
use Rattle.rules.specs.Reader as Reader
use Rattle.rules.specs.Frame as Frame
use Rattle.rules.specs.V0 as V0
use Rattle.rules.specs.Phases as Phases
use Rattle.rules.specs.Map as Map
use Rattle.rules_bands.specs.Call as Bands
use Rattle.rules_bands.proofs.Lists as Bands-lists
use Rattle.rules_clean.specs.Clean as Clean
use Rattle.rules_clean.proofs.Lists as Clean-lists
use Rattle.rules.proofs.Cells.{nil, more}
use Rattle.rules.proofs.Isolation.{Step, Calls, start, call, Samples, Same, is_direct, position_of, amount_of}
use Rattle.samsung.proofs.Isolation.{Made, Banded, Cleaned, Entry, returned, checked, plain, in_bands, for_clean, step, last, last_in_bands, last_clean, ended, isolation}
use Rattle.razvolk.proofs.direct.razvolk_decode_v0_reference.Kinds as direct-kinds
use Rattle.razvolk.proofs.direct.razvolk_decode_v0_reference_map.Kinds as direct-map-kinds
use Rattle.frame_planes.specs.Planes.{to_planes, from_planes}
use Rattle.write_rules.specs.Calls as Writers
use Rattle.frame_blank.proofs.Isolation.{blank_step}
use Rattle.entry_frames.specs.Moved as Moved
use Rattle.entry_frames.proofs.Moves.{to_step, from_step, moved_step}
use Rattle.write_packed.proofs.Returned as Proposals
use Rattle.entry_convert.specs.Convert as Convert
use Rattle.entry_convert.proofs.Converted as Conversions
use Rattle.entry_convert.proofs.Proposed.{Checks, checks}
use Rattle.razvolk.proofs.BlankedFrames.{Blanking, blanks, Exporting, exports, steps, blanking, exporting, converting, moving_to_planes, moving_back, checking}
use Rattle.razvolk.proofs.ColourPlanes.{ToPlanes, FromPlanes, to, from}
use Rattle.razvolk.proofs.Converted.{Converts, converts}
use Rattle.razvolk.proofs.Isolation.{Export}
use Rattle.razvolk.proofs.Isolation as Exports

-- ── A call for every input ──

-- A slice that is lent, to read or to write: no contract asks where it lies.
abbrev slice : List ℕ → Bor (List ℕ)
slice xs = record { ref_ptr = (0, 0); now = xs }

abbrev mut_slice : List ℕ → MutBor (List ℕ)
mut_slice xs = record { ref_ptr = (0, 0); ghost_name = 0; now = xs }

module _ (s offsets : List ℕ) (w h : ℕ) (samples : List ℕ) where
  abbrev direct_ask : Ask
  direct_ask = ask Answer.direct s offsets w h

  abbrev two_phase_ask : Ask
  two_phase_ask = ask Answer.two_phase s offsets w h

  abbrev v2_ask : Ask
  v2_ask = ask Answer.v2 s [] w h

  -- What a V0 decoder is lent, and leaves: stream, offsets and size, samples, and what else its parameters are.
  abbrev lent : {X : Type 0} → List ℕ → X → Bor (List ℕ) × (Bor (List ℕ) × (ℕ × (ℕ × (MutBor (List ℕ) × X))))
  lent samples others = (slice s, (slice offsets, (w, (h, (mut_slice samples, others)))))

  -- A call that is lent samples alone, and one that is lent bytes, too, for a map or scratch: by what it answers and leaves.
  abbrev alone : {L : Out 3 direct-kinds.ps direct-kinds.r} (told : Answer) (left : List ℕ)
      → L ([], ([], ([], tt))) (lent samples tt) told (lent left tt) → Made direct-kinds.ps direct-kinds.r L
  alone told left learnt = record { κs = ([], ([], ([], tt))); args = lent samples tt; result = told; exit = lent left tt; learnt = learnt }

  abbrev with_bytes : {L : Out 4 direct-map-kinds.ps direct-map-kinds.r} (bytes : List ℕ) (told : Answer) (left bytes_left : List ℕ)
      → L ([], ([], ([], ([], tt)))) (lent samples (mut_slice bytes, tt)) told (lent left (mut_slice bytes_left, tt)) → Made direct-map-kinds.ps direct-map-kinds.r L
  with_bytes bytes told left bytes_left learnt =
      record { κs = ([], ([], ([], ([], tt)))); args = lent samples (mut_slice bytes, tt); result = told; exit = lent left (mut_slice bytes_left, tt); learnt = learnt }

  abbrev pub direct_call : Export
  direct_call =
      let l = lengths (buffers samples none none) in
      Exports.direct (alone (answer direct_ask l) (samples_after direct_ask l samples) (record { answered = refl; samples = refl; map = refl; scratch = refl }))

  abbrev pub direct_map_call : List ℕ → Export
  direct_map_call map =
      let l = lengths (buffers samples (some map) none) in
      Exports.direct_map
      (with_bytes map (answer direct_ask l) (samples_after direct_ask l samples) (map_after direct_ask l map)
      (record { answered = refl; samples = refl; map = refl; scratch = refl }))

  abbrev pub two_phase_call : List ℕ → Export
  two_phase_call scratch =
      let l = lengths (buffers samples none (some scratch)) in
      Exports.two_phase
      (with_bytes scratch (answer two_phase_ask l) (samples_after two_phase_ask l samples) (scratch_after two_phase_ask l scratch)
      (record { answered = refl; samples = refl; map = refl; scratch = refl }))

  abbrev pub v2_call : Export
  v2_call =
      Exports.v2
      (record {
        κs = ([], ([], tt));
        args = (slice s, (w, (h, (mut_slice samples, tt))));
        result = answer v2_ask (lengths (buffers samples none none));
        exit = (slice s, (w, (h, (mut_slice (samples_after v2_ask (lengths (buffers samples none none)) samples), tt))));
        learnt = record { answered = refl; samples = refl; map = refl; scratch = refl };
      })

  abbrev pub v2_map_call : List ℕ → Export
  v2_map_call map =
      Exports.v2_map
      (record {
        κs = ([], ([], ([], tt)));
        args = (slice s, (w, (h, (mut_slice samples, (mut_slice map, tt)))));
        result = answer v2_ask (lengths (buffers samples (some map) none));
        exit = (slice s, (w, (h, (mut_slice (samples_after v2_ask (lengths (buffers samples (some map) none)) samples), (mut_slice (map_after v2_ask (lengths (buffers samples (some map) none)) map), tt)))));
        learnt = record { answered = refl; samples = refl; map = refl; scratch = refl };
      })

  -- In bands: by every cut and list of steps.
  abbrev in_bands_asked : List ℕ → ℕ → ℕ → List ℕ → Bands.Call
  in_bands_asked scratch bands block_width steps = Bands.call s offsets w h samples scratch bands block_width steps

  abbrev pub in_bands_call : List ℕ → ℕ → ℕ → List ℕ → Banded
  in_bands_call scratch bands block_width steps =
      let asked = in_bands_asked scratch bands block_width steps in
      Exports.banded
      (record {
        κs = ([], ([], ([], ([], ([], tt)))));
        args = lent samples (mut_slice scratch, (bands, (block_width, (slice steps, tt))));
        result = Bands.answer asked;
        exit = lent (Bands.samples_after asked) (mut_slice (Bands.scratch_after asked), (bands, (block_width, (slice steps, tt))));
        learnt = record { answered = refl; samples = refl; scratch = refl };
      })

  -- For clean frames.
  abbrev pub clean_call : Cleaned
  clean_call =
      let l = lengths (buffers samples none none) in
      Exports.clean (alone (Clean.answer direct_ask l) (Clean.samples_after direct_ask l samples) (record { answered = refl; samples = refl; map = refl }))

  abbrev pub clean_map_call : List ℕ → Cleaned
  clean_map_call map =
      let l = lengths (buffers samples (some map) none) in
      Exports.clean_map
      (with_bytes map (Clean.answer direct_ask l) (Clean.samples_after direct_ask l samples) (Clean.map_after direct_ask l map)
      (record { answered = refl; samples = refl; map = refl }))

  -- They ask and find what they are given.
  pub direct_finds : ((returned direct_call).ask ≡ direct_ask) × ((returned direct_call).found ≡ buffers samples none none)
  unfolding returned
  direct_finds = (refl, refl)

  pub direct_map_finds : (m : List ℕ) → ((returned (direct_map_call m)).ask ≡ direct_ask) × ((returned (direct_map_call m)).found ≡ buffers samples (some m) none)
  unfolding returned
  direct_map_finds m = (refl, refl)

  pub two_phase_finds : (c : List ℕ) → ((returned (two_phase_call c)).ask ≡ two_phase_ask) × ((returned (two_phase_call c)).found ≡ buffers samples none (some c))
  unfolding returned
  two_phase_finds c = (refl, refl)

  pub v2_finds : ((returned v2_call).ask ≡ v2_ask) × ((returned v2_call).found ≡ buffers samples none none)
  unfolding returned
  v2_finds = (refl, refl)

  pub v2_map_finds : (m : List ℕ) → ((returned (v2_map_call m)).ask ≡ v2_ask) × ((returned (v2_map_call m)).found ≡ buffers samples (some m) none)
  unfolding returned
  v2_map_finds m = (refl, refl)

  pub in_bands_finds : (scratch : List ℕ) (k n : ℕ) (steps : List ℕ)
      → ((step (in_bands (in_bands_call scratch k n steps))).found ≡ samples)
      × ((step (in_bands (in_bands_call scratch k n steps))).left ≡ Bands.samples_after (in_bands_asked scratch k n steps))
  unfolding step Bands-lists.step
  in_bands_finds scratch k n steps = (refl, refl)

  -- At a list's end, done, it is the two-phase call.
  pub in_bands_ends : (scratch : List ℕ) (k n : ℕ) (steps : List ℕ) (done : (in_bands_call scratch k n steps).result.number ≡ 0)
      → ((ended (last_in_bands (in_bands_call scratch k n steps) done)).ask ≡ two_phase_ask)
      × ((ended (last_in_bands (in_bands_call scratch k n steps) done)).found ≡ buffers samples none (some scratch))
  unfolding ended Bands-lists.returned Bands-lists.passed_returned
  in_bands_ends scratch k n steps done = (refl, refl)

  pub clean_finds : ((step (for_clean clean_call)).found ≡ samples)
      × ((step (for_clean clean_call)).left ≡ Clean.samples_after direct_ask (lengths (buffers samples none none)) samples)
  unfolding step Clean-lists.step checked
  clean_finds = (refl, refl)

  -- At a list's end, done, it is the direct call.
  pub clean_ends : (m : List ℕ) (done : (checked (clean_map_call m)).answered.number ≡ 0)
      → ((ended (last_clean (clean_map_call m) done)).ask ≡ direct_ask) × ((ended (last_clean (clean_map_call m) done)).found ≡ buffers samples (some m) none)
  unfolding ended Clean-lists.returned checked
  clean_ends m done = (refl, refl)

-- ── The other calls that write a sample buffer ──

-- Each finds the samples that it is lent, and leaves what its contract says.
pub blanking_finds : (b : Blanking) → ((steps (blanking b)).found ≡ (blanks b).call.samples) × ((steps (blanking b)).left ≡ (blanks b).samples)
unfolding steps blank_step
blanking_finds b = (refl, refl)

pub exporting_finds : (c : Exporting) → ((steps (exporting c)).found ≡ (exports c).export.blank.samples) × ((steps (exporting c)).left ≡ (exports c).samples)
unfolding steps blank_step
exporting_finds c = (refl, refl)

pub converting_finds : (x : Converts) → ((steps (converting x)).found ≡ (converts x).samples) × ((steps (converting x)).left ≡ (converts x).samples_left)
unfolding steps Conversions.step
converting_finds x = (refl, refl)

pub to_planes_finds : (c : ToPlanes) (low : Samples (to c).read) → ((steps (moving_to_planes c low)).found ≡ (to c).found) × ((steps (moving_to_planes c low)).left ≡ (to c).left)
unfolding steps to_step moved_step
to_planes_finds c low = (refl, refl)

pub from_planes_finds : (c : FromPlanes) (low : Samples (from c).read) → ((steps (moving_back c low)).found ≡ (from c).found) × ((steps (moving_back c low)).left ≡ (from c).left)
unfolding steps from_step moved_step
from_planes_finds c low = (refl, refl)

pub checking_finds : (c : Checks) → ((steps (checking c)).found ≡ (checks c).scratch) × ((steps (checking c)).left ≡ (checks c).left)
unfolding steps Proposals.step
checking_finds c = (refl, refl)

-- There is a call of V0 into V2 for every input, and one each way between frame and planes.
abbrev pub convert_call : List ℕ → List ℕ → ℕ → ℕ → List ℕ → List ℕ → List ℕ → Converts
convert_call s offsets w h samples map stream =
    let c = Convert.call s offsets w h samples map stream in
    record {
      κs = ([], ([], ([], ([], ([], tt)))));
      args = (slice s, (slice offsets, (w, (h, (mut_slice samples, (mut_slice map, (mut_slice stream, tt)))))));
      result = Convert.if_decoded c (Convert.late_answer w h (Convert.frame_of c) (Convert.marks_of c) (length stream)) (Writers.refused (Convert.early c));
      exit = (
        slice s,
        (
          slice offsets,
          (
            w,
            (
              h,
              (
                mut_slice (Convert.if_decoded c (Convert.decoded_samples c) samples),
                (
                  mut_slice (Convert.if_decoded c (Convert.decoded_map c) map),
                  (mut_slice (Convert.if_decoded c (Convert.late_stream w h (Convert.frame_of c) (Convert.marks_of c) stream) stream), tt),
                ),
              ),
            ),
          ),
        ),
      );
      learnt = record { answered = refl; samples_left = refl; map_left = refl; stream_left = refl };
    }

abbrev pub to_planes_call : List ℕ → ℕ → ℕ → List ℕ → ToPlanes
to_planes_call samples w h planes =
    record {
      κs = ([], ([], tt));
      args = (slice samples, (w, (h, (mut_slice planes, tt))));
      result = Moved.answer w h samples planes;
      exit = (slice samples, (w, (h, (mut_slice (Moved.after to_planes w h samples planes), tt))));
      learnt = (refl, refl);
    }

abbrev pub from_planes_call : List ℕ → ℕ → ℕ → List ℕ → FromPlanes
from_planes_call planes w h samples =
    record {
      κs = ([], ([], tt));
      args = (slice planes, (w, (h, (mut_slice samples, tt))));
      result = Moved.answer w h planes samples;
      exit = (slice planes, (w, (h, (mut_slice (Moved.after from_planes w h planes samples), tt))));
      learnt = (refl, refl);
    }

-- ── A list, and one call more ──

-- After every list of calls each call may follow that is lent the first k samples of the buffer as it is now; the others stay.
pub one_more : {C : Type 0} {step : C → Step} {b x : List ℕ} → Calls step b x → (k : ℕ) (c : C) → (step c).found ≡ take k x → Calls step b ((step c).left ++ drop k x)
one_more {x = x} cs k c e = call cs c (drop k x) (sym (rw e (take-append-drop k x)))

-- ── The worked example's frame of 2 by 2 ──

abbrev frame_stream : List ℕ
frame_stream = 0x00 ∷ 0x00 ∷ 0x00 ∷ 0x80 ∷ 0x18 ∷ 0x20 ∷ 0xA0 ∷ 0x7F ∷ 0x00 ∷ 0x00 ∷ 0x70 ∷ 0x00 ∷ []

abbrev pub two_by_two : List ℕ → Export
two_by_two old = direct_call frame_stream (0 ∷ 4 ∷ []) 2 2 old

-- Over four samples it is done, and no word was missing.
pub two_by_two_done : (old : List ℕ) → length old ≡ 4 → (returned (two_by_two old)).answered ≡ Answer.done
unfolding returned Answer.answer Answer.refusal Answer.too_large Answer.too_small Answer.short_samples Answer.short_offsets Answer.short_map Answer.short_scratch Answer.first_of Answer.stream_answer Reader.fetched Reader.counted Reader.held Reader.read Reader.fields Reader.four Reader.signed Reader.modulo Reader.read_residual V0.fresh_row V0.operated V0.operate V0.head V0.bounded V0.predictor V0.length_of V0.length_bits V0.residual_bits V0.sample V0.samples V0.blocks V0.row_blocks V0.rows_filler V0.frame_filler
two_by_two_done old e = rw e

-- Its second and fourth sample are marked 0. Its third is marked 1: it is the old second one.
abbrev two_by_two_ask : Ask
two_by_two_ask = ask Answer.direct frame_stream (0 ∷ 4 ∷ []) 2 2

two_by_two_marks : (Answer.marks two_by_two_ask ≡ 1 ∷ 0 ∷ 1 ∷ 0 ∷ [])
    × ((position_of two_by_two_ask 2 ≡ 1) × (amount_of two_by_two_ask 2 ≡ 0))
unfolding Reader.fetched Reader.counted Reader.held Reader.read Reader.fields Reader.four Reader.signed Reader.read_signed Reader.modulo Reader.read_residual Frame.tabulate V0.fresh_row V0.operated V0.operate V0.head V0.bounded V0.predictor V0.length_of V0.length_bits V0.residual_bits V0.sample V0.samples V0.blocks V0.row_blocks V0.rows V0.rows_filler V0.frame_filler V0.put V0.apply V0.write V0.write_all V0.swap V0.exchange_columns V0.exchange_rows V0.exchange V0.frame Map.moved Map.origins Map.position Map.amount Map.v0_map Answer.frame_marks
two_by_two_marks = (refl, (refl, refl))

-- What the claim says of two such calls, at the end of every two lists of calls.
module _ (b b' x y : List ℕ) (h : Samples b) (h' : Samples b') (cs : Calls step b x) (ds : Calls step b' y)
    (old old' rest rest' : List ℕ) (four : length old ≡ 4) (four' : length old' ≡ 4) (e : x ≡ old ++ rest) (e' : y ≡ old' ++ rest') where
  same : Same (returned (two_by_two old)) (returned (two_by_two old'))
  unfolding returned ended
  same =
      isolation b b' x y h h' cs ds (last (two_by_two old)) (last (two_by_two old')) rest rest' e e'
      (record { ask = refl; samples = four ∙ sym four'; scratch = refl; map = λ m n p q. absurd (none-ne-some m p) })
      (inl (ap (λ a. a.number) (two_by_two_done old four))) (inl (ap (λ a. a.number) (two_by_two_done old' four')))

  -- The second and fourth sample are the same in both buffers, whatever came before.
  pub unmarked_same : (get_or (returned (two_by_two old)).left.samples 1 0 ≡ get_or (returned (two_by_two old')).left.samples 1 0)
      × (get_or (returned (two_by_two old)).left.samples 3 0 ≡ get_or (returned (two_by_two old')).left.samples 3 0)
  unfolding returned
  unmarked_same = (same.samples 1 (lit≤ tt) (ap (λ l. Map.old_part (get_or l 1 0)) two_by_two_marks.0), same.samples 3 (lit≤ tt) (ap (λ l. Map.old_part (get_or l 3 0)) two_by_two_marks.0))

  -- The third is what its buffer held at the second place.
  pub marked_old : get_or (returned (two_by_two old)).left.samples 2 0 ≡ (get_or old 1 0 + 0) % 65_536
  unfolding returned
  marked_old =
      (same.marks_c.old is_direct 2 (lit≤ tt) (ap (λ l. Map.old_part (get_or l 2 0)) two_by_two_marks.0)).1
      ∙ (λ i. (get_or old (two_by_two_marks.1.0 i) 0 + two_by_two_marks.1.1 i) % 65_536)

-- ── Two lists ──

-- On a buffer of six samples: V2 is lent all of it and is refused, then a two-phase call is lent its first four.
abbrev six : List ℕ
six = 7 ∷ 8 ∷ 9 ∷ 10 ∷ 11 ∷ 12 ∷ []

abbrev refused_first : Export
refused_first = v2_call [] [] 1 1 six

abbrev six_after_one : List ℕ
six_after_one = (returned refused_first).left.samples ++ drop 6 six

abbrev in_phases_next : Export
in_phases_next = two_phase_call frame_stream (0 ∷ 4 ∷ []) 2 2 (take 4 six_after_one) []

abbrev six_after_two : List ℕ
six_after_two = (returned in_phases_next).left.samples ++ drop 4 six_after_one

pub two_calls : Calls step six six_after_two
unfolding returned step
two_calls = one_more (one_more start 6 (plain refused_first) refl) 4 (plain in_phases_next) refl

-- On a buffer of four zeros: nothing before.
abbrev zeros : List ℕ
zeros = 0 ∷ 0 ∷ 0 ∷ 0 ∷ []

six_long : length (take 4 six_after_two) ≡ 4
unfolding returned Reader.fetched Reader.counted Reader.held Reader.read Reader.fields Reader.four Reader.signed Reader.read_signed Reader.modulo Reader.read_residual Frame.tabulate V0.fresh_row V0.operated V0.operate V0.head V0.bounded V0.predictor V0.length_of V0.length_bits V0.residual_bits V0.sample V0.samples V0.blocks V0.row_blocks V0.rows V0.rows_filler V0.frame_filler V0.put V0.apply V0.write V0.write_all V0.swap V0.exchange_columns V0.exchange_rows V0.exchange V0.frame Phases.first_rows Phases.phase_one Phases.phase_two Phases.directions Phases.scratch Phases.two_phase Answer.too_large Answer.too_small Answer.short_offsets Answer.short_samples Answer.short_map Answer.short_scratch Answer.first_of Answer.refusal Answer.frame_samples Answer.unless_refused Answer.samples_after
six_long = refl

-- The frame that follows leaves the same second sample in both.
pub shown : get_or (returned (two_by_two (take 4 six_after_two))).left.samples 1 0 ≡ get_or (returned (two_by_two zeros)).left.samples 1 0
shown =
    (unmarked_same six zeros six_after_two zeros (more (lit≤ tt) (more (lit≤ tt) (more (lit≤ tt) (more (lit≤ tt) (more (lit≤ tt) (more (lit≤ tt) nil))))))
    (more (lit≤ tt) (more (lit≤ tt) (more (lit≤ tt) (more (lit≤ tt) nil)))) two_calls start (take 4 six_after_two) zeros (drop 4 six_after_two) [] six_long refl
    (sym (take-append-drop 4 six_after_two)) refl).0
