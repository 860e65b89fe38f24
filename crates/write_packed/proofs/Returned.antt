-- Calls that have returned: one that checks a proposal is done exactly of those that are to be taken, and of what a call of the writer
-- made; what it took is decoded back by every call of a V0 decoder. Among others on one sample buffer it leaves 16-bit samples.
use Prim.Native.Nat.{ℕ, ◌≤◌}
use mathlib.Core.Path.{◌≡◌, refl, sym, ap, ◌∙◌}
use mathlib.Core.List.{List, ◌++◌}
use mathlib.Core.Option
use mathlib.Core.Option.{none, some}
use native.Mathlib.Omega.{arith}
use lib.Dec.{eqb}
use lib.ListN.{length, take, drop, replicate, length-take}
use lib.Seq.{take_at}
use Rattle.rules.specs.declared.answer.Answer.{Answer}
use Rattle.rules.specs.Frame.{cells}
use Rattle.rules.specs.Answer as Plain
use Rattle.rules.specs.Answer.{Decoder, done}
use Rattle.rules.proofs.Isolation.{Returned, Samples, Step, IsV0, left_below}
use Rattle.rules_clean.proofs.Lists as Clean-lists
use Rattle.write_rules.specs.declared.Written.{Written}
use Rattle.write_rules.specs.Calls as Writers
use Rattle.write_rules.proofs.CallLaws.{passed, table_length}
use Rattle.write_rules.proofs.Decoded.{done_passed}
use Rattle.write_packed.specs.Proposal.{Proposal, frame_of, asked, found, before, scratch_after, answer, Yields}
use Rattle.write_packed.proofs.Exactly.{Accepted, done_accepted, accepted_done}
use Rattle.write_packed.proofs.Written.{written_accepted}
use Rattle.write_packed.proofs.Decoded.{answer_alone, asked_of, answered_done, samples_back, map_back, clean_done}
use Rattle.rules.proofs.Tests.{by-test}

-- ── The statements ──

-- A call that has returned: what was proposed, the scratch as it found it, what it answered, and what it left.
pub record Checked : Type 0 where
  pub proposal : Proposal
  pub scratch : List ℕ
  pub answered : Answer
  pub left : List ℕ
  pub yields : Yields proposal scratch answered left

-- It is done exactly of the proposals that are to be taken.
pub record Exactly (c : Checked) : Type 0 where
  pub only : c.answered.number ≡ 0 → Accepted c.proposal c.scratch
  pub all : Accepted c.proposal c.scratch → c.answered ≡ done

-- A call of the writer that has returned.
pub record Wrote : Type 0 where
  pub call : Writers.Call
  pub answered : Written
  pub stream : List ℕ
  pub offsets : List ℕ
  pub yields : Writers.Yields call answered stream offsets

-- What it made, proposed: its stream and its table, cut to what was written, and whatever may follow the table.
abbrev pub made : Wrote → List ℕ → Proposal
made w others =
    record {
      stream = take w.answered.length w.stream;
      offsets = take w.call.size.height w.offsets ++ others;
      size = w.call.size;
      meant = w.call.samples;
    }

-- A decoder's call gives the samples meant, and a map that it was lent is all 0.
pub record Back (p : Proposal) (r : Returned) : Type 0 where
  pub answered : r.answered ≡ done
  pub samples : r.left.samples ≡ frame_of p ++ drop (cells p.size) r.found.samples
  pub map : (m : List ℕ) → r.found.map ≡ some m → r.left.map ≡ some (replicate (cells p.size) 0 ++ drop (cells p.size) m)

-- The claim: of calls that check proposals, of the writer's, of decoders' and of those for clean frames, each told by what it was.
-- The decoders' may be of any V0 decoder that is done or lent enough: directly, in two phases, in bands, for clean frames.
pub record Claim {C W D K : Type 0} (checked : C → Checked) (wrote : W → Wrote) (returned : D → Returned) (cleaned : K → Clean-lists.Checked) : Type 0 where
  pub exactly : (c : C) → Exactly (checked c)
  pub writer_taken : (w : W) (c : C) (others : List ℕ) → (wrote w).answered.answer.number ≡ 0 → (checked c).proposal ≡ made (wrote w) others
      → cells (wrote w).call.size ≤ length (checked c).scratch → (checked c).answered ≡ done
  pub decoded_back : (c : C) → (checked c).answered.number ≡ 0 → Samples (checked c).scratch → (r : D) (d : Decoder) → IsV0 d
      → (returned r).ask ≡ asked_of d (checked c).proposal → Plain.refusal (returned r).ask (Plain.lengths (returned r).found) ≡ 0
      → Samples (returned r).found.samples → Back (checked c).proposal (returned r)
  pub clean_takes : (c : C) → (checked c).answered.number ≡ 0 → Samples (checked c).scratch → (k : K) → (cleaned k).ask ≡ asked (checked c).proposal
      → Plain.refusal (cleaned k).ask (Plain.lengths (Plain.buffers (cleaned k).samples (cleaned k).map none)) ≡ 0 → (cleaned k).answered ≡ done
  -- The answer rests on the proposal and on how much scratch is lent, and not on what the scratch held.
  pub alone : (c d : C) → (checked c).proposal ≡ (checked d).proposal → length (checked c).scratch ≡ length (checked d).scratch
      → Samples (checked c).scratch → Samples (checked d).scratch → (checked c).answered ≡ (checked d).answered

-- ── Exactly ──

pub exactly : (c : Checked) → Exactly c
exactly c =
    record {
      only = λ e. done_accepted c.proposal c.scratch (sym (ap (λ a. a.number) c.yields.answered) ∙ e);
      all = λ a. c.yields.answered ∙ accepted_done c.proposal c.scratch a;
    }

-- ── What the writer makes ──

module _ (w : Wrote) (zero : w.answered.answer.number ≡ 0) where
  ok : Writers.write_refusal w.call ≡ 0
  ok = done_passed w.call (sym (ap (λ x. x.answer.number) w.yields.answered) ∙ zero)

  pub length_is : w.answered.length ≡ length (Writers.stream_of w.call)
  unfolding Writers.write_answer
  length_is = ap (λ x. x.length) w.yields.answered ∙ rw ok

  stream_is : take w.answered.length w.stream ≡ Writers.stream_of w.call
  unfolding Writers.stream_after Writers.unless_refused
  stream_is =
      ap (take w.answered.length) w.yields.stream_left
      ∙ rw ok (take_at (Writers.stream_of w.call) (drop (length (Writers.stream_of w.call)) w.call.stream) w.answered.length (sym length_is))

  offsets_are : take w.call.size.height w.offsets ≡ Writers.offsets_of w.call
  unfolding Writers.offsets_after Writers.unless_refused
  offsets_are =
      ap (take w.call.size.height) w.yields.offsets_left
      ∙ rw ok (take_at (Writers.offsets_of w.call) (drop (length (Writers.offsets_of w.call)) w.call.offsets) w.call.size.height (table_length w.call))

  pub writer_accepted : (others : List ℕ) (c : Checked) → c.proposal ≡ made w others → cells w.call.size ≤ length c.scratch → c.answered ≡ done
  writer_accepted others c e room =
      let q = passed w.call ok in
      let enough : cells w.call.size ≤ length w.call.samples = omega (arith, length-take (cells w.call.size) w.call.samples, q.enough) in
      c.yields.answered
      ∙ ap (λ p. answer p c.scratch) (e ∙ rw (stream_is, offsets_are))
      ∙ written_accepted w.call.size q.wide q.high w.call.samples enough q.dim others c.scratch room

-- ── What is taken is decoded back ──

module _ (c : Checked) (zero : c.answered.number ≡ 0) (low : Samples c.scratch) where
  accepted : Accepted c.proposal c.scratch
  accepted = (exactly c).only zero

  pub decoded_back : (r : Returned) (d : Decoder) → IsV0 d → r.ask ≡ asked_of d c.proposal → Plain.refusal r.ask (Plain.lengths r.found) ≡ 0
      → Samples r.found.samples → Back c.proposal r
  decoded_back r d v0 same lends below =
      let l = Plain.lengths r.found in
      let ok : Plain.refusal (asked_of d c.proposal) l ≡ 0 = rw same at lends in
      record {
        answered = r.yields.answered ∙ rw same (answered_done c.proposal c.scratch low accepted d v0 l ok);
        samples = r.yields.samples ∙ rw same (samples_back c.proposal c.scratch low accepted d v0 l ok r.found.samples refl below);
        map = λ m e. r.yields.map ∙ ap (Option.map (Plain.map_after r.ask l)) e ∙ ap some (rw same (map_back c.proposal c.scratch low accepted d v0 l ok m));
      }

  -- A call for clean frames takes it, too.
  pub clean_takes : (k : Clean-lists.Checked) → k.ask ≡ asked c.proposal → Plain.refusal k.ask (Plain.lengths (Plain.buffers k.samples k.map none)) ≡ 0
      → k.answered ≡ done
  clean_takes k same lends =
      let l = Plain.lengths (Plain.buffers k.samples k.map none) in
      let ok : Plain.refusal (asked c.proposal) l ≡ 0 = rw same at lends in
      k.yields.answered ∙ rw same (clean_done c.proposal c.scratch low accepted l ok)

-- ── What the answer rests on ──

alone : (c d : Checked) → c.proposal ≡ d.proposal → length c.scratch ≡ length d.scratch → Samples c.scratch → Samples d.scratch
    → c.answered ≡ d.answered
alone c d same long low low' =
    c.yields.answered ∙ answer_alone c.proposal c.scratch d.scratch long low low' ∙ ap (λ p. answer p d.scratch) same ∙ sym d.yields.answered

-- ── The claim ──

pub claim : {C W D K : Type 0} (checked : C → Checked) (wrote : W → Wrote) (returned : D → Returned) (cleaned : K → Clean-lists.Checked)
    → Claim checked wrote returned cleaned
claim checked wrote returned cleaned =
    record {
      exactly = λ c. exactly (checked c);
      writer_taken = λ w c others zero same room. writer_accepted (wrote w) zero others (checked c) same room;
      decoded_back = λ c zero low r d v0 same lends below. decoded_back (checked c) zero low (returned r) d v0 same lends below;
      clean_takes = λ c zero low k same lends. clean_takes (checked c) zero low (cleaned k) same lends;
      alone = λ c d same long low low'. alone (checked c) (checked d) same long low low';
    }

-- ── Among other calls ──

-- What it does to the scratch: nothing, or what the direct decoder does.
unfoldable pub step : Checked → Step
unfolding scratch_after
step c = record { found = c.scratch; left = c.left; below = λ b. rw c.yields.scratch_left (kept b) }
  where
    plain : Returned
    plain =
        record {
          ask = asked c.proposal;
          found = found c.scratch;
          answered = _;
          left = found (Plain.samples_after (asked c.proposal) (Plain.lengths (found c.scratch)) c.scratch);
          yields = record { answered = refl; samples = refl; map = refl; scratch = refl };
        }

    kept : Samples c.scratch → Samples (scratch_after c.proposal c.scratch)
    kept b = by-test (eqb (before c.proposal (length c.scratch)).number 0) (λ e. rw e (left_below plain b)) (λ e. rw e b)
