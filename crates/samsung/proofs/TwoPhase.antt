-- The two-phase entry equals the direct ones: called alike, with scratch long enough, they give the same number, row and samples. The
-- direct ones alone count missing words and make a map.
use mathlib.Core.Path.{◌≡◌, refl, sym, ap, ◌∙◌}
use mathlib.Core.Bool.{false}
use mathlib.Core.List.{List, ◌++◌}
use mathlib.Core.Option.{Option, none}
use Prim.Native.Nat.{ℕ, ◌≤◌}
use lib.Dec.{eqb}
use lib.ListN.{length, take, drop}
use lib.Seq.{length-take-le}
use borrow.Author.Tests.{le-ltb, eqb-true}
use Rattle.rules.specs.declared.answer.Answer.{Answer}
use Rattle.rules.specs.declared.answer.Size.{Size}
use Rattle.rules.specs.Frame.{cells}
use Rattle.rules.specs.Answer.{direct, two_phase, Ask, lent, lengths, too_small, short_samples, short_offsets, short_map, short_scratch, scratch_bytes, refusal, stream_answer, answer, frame_samples, unless_refused, samples_after}
use Rattle.rules.proofs.Refusals.{samples_enough}
use Rattle.rules.proofs.TwoPhase.{two_phase_direct}
use Rattle.rules.proofs.Isolation.{Returned}
use Rattle.rules.proofs.Tests.{by-test}
use Rattle.samsung.proofs.Isolation.{Call, returned}

-- ── The statement ──

-- What a direct call asks, asked in two phases.
abbrev pub in_two_phases : Ask → Ask
in_two_phases a = record { decoder = two_phase; stream = a.stream; offsets = a.offsets; size = a.size }

-- A direct call and a two-phase one: stream, offsets, size and old samples are equal, a map that the direct one is lent is long enough,
-- and so is the scratch. The two-phase decoder is lent no map.
pub record Paired (c d : Returned) : Type 0 where
  pub decoder : c.ask.decoder ≡ direct
  pub ask : d.ask ≡ in_two_phases c.ask
  pub samples : d.found.samples ≡ c.found.samples
  pub map : short_map (lengths c.found).map c.ask.size ≡ false
  pub no_map : (lengths d.found).map ≡ none
  pub scratch : scratch_bytes c.ask.size ≤ (lengths d.found).scratch

-- An answer without its count of missing words.
abbrev pub uncounted : Answer → Answer
uncounted r = record { number = r.number; row = r.row; filler = 0 }

-- They answer with the same number and row, the two-phase one without a count, and leave the same samples.
pub record SameFrame (c d : Returned) : Type 0 where
  pub answers : d.answered ≡ uncounted c.answered
  pub samples : d.left.samples ≡ c.left.samples

-- ── By the rules ──

module _ (a : Ask) (is : a.decoder ≡ direct) (n : ℕ) (m : Option ℕ) (long : short_map m a.size ≡ false) (k j : ℕ) (enough : scratch_bytes a.size ≤ k) where
  refusal_same : refusal (in_two_phases a) (lent n none k) ≡ refusal a (lent n m j)
  unfolding refusal too_small short_samples short_offsets short_map short_scratch
  refusal_same = rw (is, long, le-ltb k (scratch_bytes a.size) enough)

  answer_same : answer (in_two_phases a) (lent n none k) ≡ uncounted (answer a (lent n m j))
  unfolding answer stream_answer
  answer_same = rw refusal_same (by-test (eqb r 0) (λ e. rw e (rw is)) (λ e. rw e))
    where
      r : ℕ
      r = refusal a (lent n m j)

  samples_same : (buffer : List ℕ) → length buffer ≡ n → samples_after (in_two_phases a) (lent n none k) buffer ≡ samples_after a (lent n m j) buffer
  unfolding samples_after unless_refused frame_samples
  samples_same buffer e = rw refusal_same (by-test (eqb r 0)
      (λ q. rw q (let room : cells z ≤ length buffer = rw e (samples_enough a (lent n m j) (eqb-true r 0 q)) in
      ap (λ f. f ++ drop (cells z) buffer)
      (two_phase_direct a.stream a.offsets z (take (cells z) buffer) (length-take-le (cells z) buffer room)
      ∙ ap (λ k. frame_samples k a.stream a.offsets z (take (cells z) buffer)) (sym is))))
      (λ q. rw q))
    where
      z : Size
      z = a.size

      r : ℕ
      r = refusal a (lent n m j)

pub same_frame : (c d : Returned) → Paired c d → SameFrame c d
same_frame c d p =
    record {
      answers = d.yields.answered ∙ (λ i. answer (p.ask i) (lent (length (p.samples i)) (p.no_map i) k))
          ∙ answer_same c.ask p.decoder n m p.map k j p.scratch ∙ ap uncounted (sym c.yields.answered);
      samples = d.yields.samples ∙ (λ i. samples_after (p.ask i) (lent (length (p.samples i)) (p.no_map i) k) (p.samples i))
          ∙ samples_same c.ask p.decoder n m p.map k j p.scratch c.found.samples refl ∙ sym c.yields.samples;
    }
  where
    n : ℕ
    n = length c.found.samples

    m : Option ℕ
    m = (lengths c.found).map

    k : ℕ
    k = (lengths d.found).scratch

    j : ℕ
    j = (lengths c.found).scratch

-- ── Of the entries ──

pub entries_same : (c d : Call) → Paired (returned c) (returned d) → SameFrame (returned c) (returned d)
entries_same c d p = same_frame (returned c) (returned d) p
