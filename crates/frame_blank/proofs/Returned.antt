-- What a call that blanks does to each sample, once it has returned and is done: an unmarked one is as it was lent, a marked one is the
-- fill that was stated. One that is refused changes nothing.
use Prim.Native.Nat.{ℕ, ◌<◌}
use mathlib.Core.Bool.{true, false}
use mathlib.Core.Path.{◌≡◌, sym, ap, ◌∙◌}
use mathlib.Core.Logic.{◌≢◌}
use lib.ListN.{get_or}
use lib.Seq.{get_or-take}
use borrow.Author.Tests.{ne_eqb}
use Rattle.rules.specs.Frame.{cells}
use Rattle.frame_blank.specs.Blanking.{stated, marked, blanked}
use Rattle.frame_blank.specs.Calls.{frame_of, marks_of, refusal, blank_answer, unless_refused, samples_after, runs_after}
use Rattle.frame_blank.proofs.EachSample.{unmarked_kept, marked_filled}
use Rattle.frame_blank.proofs.Isolation.{Blanks, Done, frame_length, samples_are}

pub record MarkedAlone (b : Blanks) : Type 0 where
  pub unmarked : Done b → (i : ℕ) → i < cells b.call.size → marked (get_or b.call.map i 0) ≡ false → get_or b.samples i 0 ≡ get_or b.call.samples i 0
  pub filled : Done b → (v : ℕ) → b.call.fill ≡ stated v → (i : ℕ) → i < cells b.call.size → marked (get_or b.call.map i 0) ≡ true → get_or b.samples i 0 ≡ v
  pub kept : b.answered.answer.number ≢ 0 → (b.samples ≡ b.call.samples) × (b.runs ≡ b.call.runs)

module _ (b : Blanks) where
  abbrev n : ℕ
  n = cells b.call.size

  left_at : Done b → (i : ℕ) → i < n → get_or b.samples i 0 ≡ get_or (blanked b.call.fill b.call.size (frame_of b.call) (marks_of b.call)) i 0
  left_at done i l = sym (get_or-take n b.samples i 0 l) ∙ ap (λ f. get_or f i 0) (samples_are b done)

  byte_at : (i : ℕ) → i < n → get_or (marks_of b.call) i 0 ≡ get_or b.call.map i 0
  byte_at i l = get_or-take n b.call.map i 0 l

  refused : b.answered.answer.number ≢ 0 → refusal b.call ≢ 0
  unfolding blank_answer
  refused ne z = ne (ap (λ r. r.answer.number) b.yields.answered ∙ rw z)

  pub marked_alone : MarkedAlone b
  unfolding samples_after runs_after unless_refused
  marked_alone =
      record {
        unmarked = λ done i l e.
            left_at done i l
            ∙ unmarked_kept b.call.size (frame_of b.call) (marks_of b.call) (frame_length b done) i l b.call.fill (ap marked (byte_at i l) ∙ e)
            ∙ get_or-take n b.call.samples i 0 l;
        filled = λ done v fill i l e.
            left_at done i l
            ∙ ap (λ g. get_or (blanked g b.call.size (frame_of b.call) (marks_of b.call)) i 0) fill
            ∙ marked_filled b.call.size (frame_of b.call) (marks_of b.call) (frame_length b done) i l v (ap marked (byte_at i l) ∙ e);
        kept = λ ne.
            (b.yields.samples_left ∙ rw (ne_eqb (refusal b.call) 0 (refused ne)), b.yields.runs_left ∙ rw (ne_eqb (refusal b.call) 0 (refused ne)));
      }
