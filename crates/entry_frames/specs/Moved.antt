-- A call that moves a frame's samples out of one lent buffer into another. It is refused with 1 if width or height is above 16,384,
-- and then with 3 if either buffer has fewer than N samples; nothing is changed then. Else the first N samples of the one are
-- moved to the first N of the other, and what lies past them stays.
use Rattle.std.specs.Prelude.{ℕ, false, ◌||◌, cond, List, ◌++◌, ltb, eqb, length, take, drop}
use Rattle.rules.specs.declared.answer.Answer.{Answer}
use Rattle.rules.specs.declared.answer.Size.{Size}
use Rattle.rules.specs.Frame.{cells}
use Rattle.rules.specs.Answer.{refused, too_large, first_of}

abbrev pub size : ℕ → ℕ → Size
size w h = record { width = w; height = h }

-- The first refusal that holds, by the lengths of what is read and what is written; or 0.
unfoldable pub refusal : Size → ℕ → ℕ → ℕ
refusal z read written = first_of (too_large z) false (ltb read (cells z) || ltb written (cells z)) false

abbrev pub answer : ℕ → ℕ → List ℕ → List ℕ → Answer
answer w h from to = refused (refusal (size w h) (length from) (length to))

-- What a way of moving leaves in the buffer that is written.
unfoldable pub after : (Size → List ℕ → List ℕ) → ℕ → ℕ → List ℕ → List ℕ → List ℕ
after moved w h from to =
    let z = size w h in
    cond (eqb (refusal z (length from) (length to)) 0) (moved z (take (cells z) from) ++ drop (cells z) to) to
