-- Calls that move a frame's samples between two lent buffers, once they have returned. Moved to planes and then back, or back and then
-- to planes, the first N samples are as they were. Such a call leaves 16-bit samples, where it read and found such.
use Prim.Native.Nat.{ℕ, ◌*◌, ◌<◌}
use mathlib.Core.Path.{◌≡◌, refl, sym, ap, ◌∙◌, subst₂}
use mathlib.Core.List.{List}
use lib.Dec.{eqb}
use lib.ListN.{length, take, drop}
use lib.Seq.{length-take-le, take_at}
use Rattle.rules.specs.declared.answer.Answer.{Answer}
use Rattle.rules.specs.declared.answer.Size.{Size}
use Rattle.rules.specs.Frame.{cells}
use Rattle.rules.proofs.Cells.{all_append, all_take, all_drop}
use Rattle.rules.proofs.Isolation.{Samples, Step}
use Rattle.rules.proofs.Tests.{by-test}
use Rattle.frame_planes.specs.Planes.{to_planes, from_planes}
use Rattle.frame_planes.proofs.Kept.{to_length, from_length, all_to, all_from}
use Rattle.frame_planes.proofs.Undone.{from_to_planes, to_from_planes}
use Rattle.entry_frames.specs.Moved.{size, refusal, answer, after}
use Rattle.entry_frames.proofs.MovedLaws.{Room, room}

-- ── The statements ──

-- What becomes of a frame's samples.
abbrev pub Way : Type 0
Way = Size → List ℕ → List ℕ

-- A call that has returned: its size, the buffer that it read, the one that it wrote as it found and left it, and what it answered.
pub record Moved (way : Way) : Type 0 where
  pub width : ℕ
  pub height : ℕ
  pub read : List ℕ
  pub found : List ℕ
  pub answered : Answer
  pub left : List ℕ
  pub answers : answered ≡ answer width height read found
  pub leaves : left ≡ after way width height read found

-- One call and then another of the same size, both done: the second reads the N samples that the first left.
pub record Then {way back : Way} (c : Moved way) (d : Moved back) : Type 0 where
  pub width : d.width ≡ c.width
  pub height : d.height ≡ c.height
  pub reads : take (c.width * c.height) d.read ≡ take (c.width * c.height) c.left
  pub done : c.answered.number ≡ 0
  pub done' : d.answered.number ≡ 0

-- The second left the N samples that the first read.
abbrev pub Undoes : {way back : Way} → Moved way → Moved back → Type 0
Undoes c d = take (c.width * c.height) d.left ≡ take (c.width * c.height) c.read

-- The claim: for calls to planes and for calls back, each told by what it was.
pub record Planes {T F : Type 0} (to : T → Moved to_planes) (from : F → Moved from_planes) : Type 0 where
  pub to_and_back : (c : T) (d : F) → Then (to c) (from d) → Undoes (to c) (from d)
  pub back_and_to : (c : F) (d : T) → Then (from c) (to d) → Undoes (from c) (to d)

-- ── A call that is done ──

-- A way keeps the number of samples.
abbrev AsMany : Way → Type 0
AsMany way = (z : Size) (f : List ℕ) → length f ≡ cells z → length (way z f) ≡ cells z

module _ {way : Way} (c : Moved way) (done : c.answered.number ≡ 0) where
  lent : Room c.width c.height c.read c.found
  lent = room refl (sym (ap (λ a. a.number) c.answers) ∙ done)

  frame_long : length (take (c.width * c.height) c.read) ≡ c.width * c.height
  frame_long = length-take-le (c.width * c.height) c.read lent.read_enough

  left_is : AsMany way → take (c.width * c.height) c.left ≡ way (size c.width c.height) (take (c.width * c.height) c.read)
  unfolding after
  left_is many =
      let n = c.width * c.height in
      let z = size c.width c.height in
      ap (take n) (c.leaves ∙ rw lent.none) ∙ take_at (way z (take n c.read)) (drop n c.found) n (many z (take n c.read) frame_long)

undone : {way back : Way} → AsMany way → AsMany back → ((z : Size) (f : List ℕ) → length f ≡ cells z → back z (way z f) ≡ f)
    → (c : Moved way) (d : Moved back) → Then c d → Undoes c d
undone {back = back} many many' undo c d t =
    let z = size c.width c.height in
    subst₂ (λ w h. take (w * h) d.left ≡ back (size w h) (take (w * h) d.read)) t.width t.height (left_is d t.done' many')
    ∙ ap (back z) (t.reads ∙ left_is c t.done many)
    ∙ undo z (take (c.width * c.height) c.read) (frame_long c t.done)

-- ── The claim ──

pub planes : {T F : Type 0} (to : T → Moved to_planes) (from : F → Moved from_planes) → Planes to from
planes to from =
    record {
      to_and_back = λ c d t. undone to_length from_length from_to_planes (to c) (from d) t;
      back_and_to = λ c d t. undone from_length to_length to_from_planes (from c) (to d) t;
    }

-- ── Among other calls on one sample buffer ──

-- A way that makes 16-bit samples of such.
abbrev pub Keeps : Way → Type 0
Keeps way = (z : Size) (f : List ℕ) → Samples f → Samples (way z f)

unfoldable pub moved_step : {way : Way} → Keeps way → (c : Moved way) → Samples c.read → Step
unfolding after
moved_step keeps c low = record {
  found = c.found;
  left = c.left;
  below = λ h. let n = c.width * c.height in rw c.leaves (by-test (eqb (refusal (size c.width c.height) (length c.read) (length c.found)) 0)
      (λ e. rw e (all_append (λ v. v < 65_536) (keeps (size c.width c.height) (take n c.read) (all_take (λ v. v < 65_536) n low)) (all_drop (λ v. v < 65_536) n h)))
      (λ e. rw e h));
}

unfoldable pub to_step : (c : Moved to_planes) → Samples c.read → Step
to_step = moved_step (λ z f h. all_to (λ v. v < 65_536) z h)

unfoldable pub from_step : (c : Moved from_planes) → Samples c.read → Step
from_step = moved_step (λ z f h. all_from (λ v. v < 65_536) z h)
