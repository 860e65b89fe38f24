-- Decoding what a call of the V0 writer left: by either V0 decoder, over any buffer, with whatever lies past the stream and the last
-- offset, whole or cut there, it gives the samples that were lent, and no map byte is 1.
use Prim.Native.Nat.{ℕ, ◌^◌, ◌<◌, ◌≤◌}
use mathlib.Core.Path.{◌≡◌, refl, ap}
use mathlib.Core.List.{List, ◌++◌}
use lib.Dec.{eqb}
use lib.ListN.{length, take, drop}
use lib.Seq.{length-take-le}
use borrow.Author.Tests.{eqb-true}
use Rattle.rules.specs.Frame.{cells}
use Rattle.rules.specs.Answer.{Decoder, direct, two_phase, v2, Ask, Lent, done_with, done, refusal, stream_answer, answer, frame_samples, frame_marks, marks, unless_refused, samples_after, map_after}
use Rattle.rules.proofs.Cells.{All}
use Rattle.rules.proofs.Isolation.{IsV0, is_direct, is_two_phase}
use Rattle.rules.proofs.Refusals.{samples_enough}
use Rattle.rules.proofs.Missing.{frame_none}
use Rattle.rules.proofs.Tests.{by-test}
use Rattle.write_rules.specs.Calls.{Call, frame_of, stream_of, write_refusal, write_answer, stream_after, offsets_after}
use Rattle.write_rules.proofs.CallLaws.{write_holds}
use Rattle.write_rules.proofs.V0RoundTrip.{Holds}

-- A call that answers 0 was refused by no test.
pub done_passed : (c : Call) → (write_answer c).answer.number ≡ 0 → write_refusal c ≡ 0
unfolding write_answer
done_passed c = by-test (eqb (write_refusal c) 0) (λ e. rw e (λ q. eqb-true (write_refusal c) 0 e)) (λ e. rw e (λ q. q))

-- The first n bytes and k offsets that such a call left, asked for again.
abbrev pub again : Call → ℕ → ℕ → Decoder → Ask
again c n k d = record { decoder = d; stream = take n (stream_after c); offsets = take k (offsets_after c); size = c.size }

module _ (c : Call) (below : All (λ b. b < 256) c.stream) (fewer : length c.stream < 2 ^ 64) (ok : write_refusal c ≡ 0)
    (n k : ℕ) (long : length (stream_of c) ≤ n) (rows : c.size.height ≤ k) where
  pub back : Holds (take n (stream_after c)) (take k (offsets_after c)) c.size (frame_of c)
  back = write_holds c below fewer ok n k long rows

  samples_of : (d : Decoder) → IsV0 d → (old : List ℕ) → length old ≡ cells c.size
      → frame_samples d (take n (stream_after c)) (take k (offsets_after c)) c.size old ≡ frame_of c
  unfolding frame_samples
  samples_of direct is_direct old e = back.direct_back old e
  samples_of two_phase is_two_phase old e = back.two_phase_back old e
  samples_of v2 v0 old e = elim v0 [ ]

  marks_of : (d : Decoder) → IsV0 d → All (λ x. x ≡ 0) (marks (again c n k d))
  unfolding frame_marks
  marks_of direct is_direct = back.no_marks
  marks_of two_phase is_two_phase = back.no_marks
  marks_of v2 v0 = elim v0 [ ]

  answer_of : (d : Decoder) → IsV0 d → stream_answer d (take n (stream_after c)) (take k (offsets_after c)) c.size ≡ done
  unfolding stream_answer
  answer_of direct is_direct = ap done_with (frame_none (take n (stream_after c)) (take k (offsets_after c)) c.size back.no_filler)
  answer_of two_phase is_two_phase = refl
  answer_of v2 v0 = elim v0 [ ]

  module _ (d : Decoder) (v0 : IsV0 d) (l : Lent) (lends : refusal (again c n k d) l ≡ 0) where
    pub answered_done : answer (again c n k d) l ≡ done
    unfolding answer
    answered_done = rw lends (answer_of d v0)

    pub samples_back : (buffer : List ℕ) → length buffer ≡ l.samples → samples_after (again c n k d) l buffer ≡ frame_of c ++ drop (cells c.size) buffer
    unfolding samples_after unless_refused
    samples_back buffer e =
        let room : cells c.size ≤ length buffer = rw e (samples_enough (again c n k d) l lends) in
        rw lends (ap (λ f. f ++ drop (cells c.size) buffer) (samples_of d v0 (take (cells c.size) buffer) (length-take-le (cells c.size) buffer room)))

    -- The marks, which the map then holds, are all 0.
    pub no_marks_back : (m : List ℕ) → (map_after (again c n k d) l m ≡ marks (again c n k d) ++ drop (cells c.size) m) × All (λ x. x ≡ 0) (marks (again c n k d))
    unfolding map_after unless_refused
    no_marks_back m = (rw lends, marks_of d v0)
