-- What the V0 writer made is read back, by calls that have returned: every V0 decoder that is lent enough gives the samples, over any
-- buffer, with a map that is all 0, and a call for clean frames takes it. It reads the buffers as the writer left them, whole or cut
-- anywhere past what was written.
use Prim.Native.Nat.{ℕ, ◌^◌, ◌≤◌, ◌<◌}
use mathlib.Core.Path.{◌≡◌, refl, sym, ap, ap₂, ◌∙◌}
use mathlib.Core.List.{◌++◌}
use mathlib.Core.Option
use mathlib.Core.Option.{none, some}
use native.Mathlib.Omega.{arith}
use lib.ListN.{length, take, drop, replicate, length-append}
use lib.Seq.{take-length}
use Rattle.rules.specs.Frame.{cells}
use Rattle.rules.specs.Answer as Plain
use Rattle.rules.specs.Answer.{Decoder, direct, two_phase, v2, done}
use Rattle.rules.proofs.Cells.{All}
use Rattle.rules.proofs.Isolation.{Returned, IsV0, is_direct, is_two_phase}
use Rattle.rules_clean.proofs.Calls.{taken_done}
use Rattle.rules_clean.proofs.Lists as Clean-lists
use Rattle.rules_clean.proofs.Verdicts.{Clean, clean_map}
use Rattle.write_rules.specs.Calls as Writers
use Rattle.write_rules.proofs.CallLaws.{table_length}
use Rattle.write_rules.proofs.Decoded.{again, back, done_passed, answered_done, samples_back, no_marks_back}
use Rattle.write_packed.specs.Proposal.{Proposal, asked}
use Rattle.write_packed.proofs.Decoded.{asked_of}
use Rattle.write_packed.proofs.Returned.{Wrote, Back, length_is}
use Rattle.write_packed.proofs.Written.{holds_clean}

-- ── The statements ──

-- A call of the writer that is done, on a buffer of bytes, and as much of what it left as it wrote: n bytes and k offsets.
pub record Kept (w : Wrote) (n k : ℕ) : Type 0 where
  pub done : w.answered.answer.number ≡ 0
  pub bytes : All (λ b. b < 256) w.call.stream
  pub fewer : length w.call.stream < 2 ^ 64
  pub stream : w.answered.length ≤ n
  pub offsets : w.call.size.height ≤ k

-- So much of it, and the samples that it is to hold.
abbrev pub kept : Wrote → ℕ → ℕ → Proposal
kept w n k = record { stream = take n w.stream; offsets = take k w.offsets; size = w.call.size; meant = w.call.samples }

-- The claim: for calls of the writer, of decoders and of those for clean frames, each told by what it was. The decoders' may be of any
-- V0 decoder that is done or lent enough: directly, in two phases, in bands, for clean frames.
pub record ReadBack {W D K : Type 0} (wrote : W → Wrote) (returned : D → Returned) (cleaned : K → Clean-lists.Checked) : Type 0 where
  pub decoded_back : (w : W) (n k : ℕ) → Kept (wrote w) n k → (r : D) (d : Decoder) → IsV0 d → (returned r).ask ≡ asked_of d (kept (wrote w) n k)
      → Plain.refusal (returned r).ask (Plain.lengths (returned r).found) ≡ 0 → Back (kept (wrote w) n k) (returned r)
  pub clean_takes : (w : W) (n k : ℕ) → Kept (wrote w) n k → (c : K) → (cleaned c).ask ≡ asked (kept (wrote w) n k)
      → Plain.refusal (cleaned c).ask (Plain.lengths (Plain.buffers (cleaned c).samples (cleaned c).map none)) ≡ 0 → (cleaned c).answered ≡ done

-- ── One call of the writer ──

passed : (w : Wrote) → w.answered.answer.number ≡ 0 → Writers.write_refusal w.call ≡ 0
passed w zero = done_passed w.call (sym (ap (λ x. x.answer.number) w.yields.answered) ∙ zero)

module _ (w : Wrote) (n k : ℕ) (q : Kept w n k) where
  abbrev ok : Writers.write_refusal w.call ≡ 0
  ok = passed w q.done

  long : length (Writers.stream_of w.call) ≤ n
  long = omega (arith, length_is w q.done, q.stream)

  clean_left : Clean (take n (Writers.stream_after w.call)) (take k (Writers.offsets_after w.call)) w.call.size
  clean_left = holds_clean _ _ _ _ (back w.call q.bytes q.fewer ok n k long q.offsets)

  marks_are : (d : Decoder) → IsV0 d → Plain.marks (again w.call n k d) ≡ replicate (cells w.call.size) 0
  unfolding Plain.frame_marks
  marks_are direct is_direct = clean_map _ _ _ clean_left
  marks_are two_phase is_two_phase = clean_map _ _ _ clean_left
  marks_are v2 v0 = elim v0 [ ]

  again_is : (d : Decoder) → asked_of d (kept w n k) ≡ again w.call n k d
  again_is d =
      ap₂ (λ s o. record { decoder = d; stream = take n s; offsets = take k o; size = w.call.size }) w.yields.stream_left w.yields.offsets_left

  pub decoded_back : (r : Returned) (d : Decoder) → IsV0 d → r.ask ≡ asked_of d (kept w n k) → Plain.refusal r.ask (Plain.lengths r.found) ≡ 0
      → Back (kept w n k) r
  decoded_back r d v0 same lends =
      let c = w.call in
      let l = Plain.lengths r.found in
      let is : r.ask ≡ again c n k d = same ∙ again_is d in
      let lent : Plain.refusal (again c n k d) l ≡ 0 = rw is at lends in
      record {
        answered = r.yields.answered ∙ rw is (answered_done c q.bytes q.fewer ok n k long q.offsets d v0 l lent);
        samples = r.yields.samples ∙ rw is (samples_back c q.bytes q.fewer ok n k long q.offsets d v0 l lent r.found.samples refl);
        map = λ m e.
            r.yields.map ∙ ap (Option.map (Plain.map_after r.ask l)) e
            ∙ ap some (rw is (no_marks_back c q.bytes q.fewer ok n k long q.offsets d v0 l lent m).0 ∙ ap (λ x. x ++ drop (cells c.size) m) (marks_are d v0));
      }

  pub clean_takes : (c : Clean-lists.Checked) → c.ask ≡ asked (kept w n k) → Plain.refusal c.ask (Plain.lengths (Plain.buffers c.samples c.map none)) ≡ 0
      → c.answered ≡ done
  clean_takes c same lends =
      let l = Plain.lengths (Plain.buffers c.samples c.map none) in
      let is : c.ask ≡ again w.call n k direct = same ∙ again_is direct in
      let lent : Plain.refusal (again w.call n k direct) l ≡ 0 = rw is at lends in
      c.yields.answered ∙ rw is (taken_done (again w.call n k direct) l (record { passed = lent; clean = clean_left }))

pub read_back : {W D K : Type 0} (wrote : W → Wrote) (returned : D → Returned) (cleaned : K → Clean-lists.Checked) → ReadBack wrote returned cleaned
read_back wrote returned cleaned =
    record {
      decoded_back = λ w n k q r d v0 same lends. decoded_back (wrote w) n k q (returned r) d v0 same lends;
      clean_takes = λ w n k q c same lends. clean_takes (wrote w) n k q (cleaned c) same lends;
    }

-- ── The two cuts that a host makes ──

module _ (w : Wrote) (zero : w.answered.answer.number ≡ 0) (bytes : All (λ b. b < 256) w.call.stream) (fewer : length w.call.stream < 2 ^ 64) where
  -- The stream by the length that the writer told, and the table by the height.
  pub cut_kept : Kept w w.answered.length w.call.size.height
  cut_kept = record { done = zero; bytes = bytes; fewer = fewer; stream = omega arith; offsets = omega arith }

  -- Both buffers whole.
  pub whole_kept : Kept w (length w.stream) (length w.offsets)
  unfolding Writers.stream_after Writers.offsets_after Writers.unless_refused
  whole_kept =
      let c = w.call in
      let s : w.stream ≡ Writers.stream_of c ++ drop (length (Writers.stream_of c)) c.stream = w.yields.stream_left ∙ rw (passed w zero) in
      let o : w.offsets ≡ Writers.offsets_of c ++ drop (length (Writers.offsets_of c)) c.offsets = w.yields.offsets_left ∙ rw (passed w zero) in
      record {
        done = zero;
        bytes = bytes;
        fewer = fewer;
        stream = omega (arith, length_is w zero, ap length s, length-append (Writers.stream_of c) (drop (length (Writers.stream_of c)) c.stream));
        offsets = omega (arith, table_length c, ap length o, length-append (Writers.offsets_of c) (drop (length (Writers.offsets_of c)) c.offsets));
      }

pub whole : (w : Wrote) → kept w (length w.stream) (length w.offsets) ≡ record { stream = w.stream; offsets = w.offsets; size = w.call.size; meant = w.call.samples }
whole w = ap₂ (λ s o. record { stream = s; offsets = o; size = w.call.size; meant = w.call.samples }) (take-length w.stream) (take-length w.offsets)
