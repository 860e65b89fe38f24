-- A call that blanks a frame: what it answers, and what it leaves in the buffers that are lent to it. The map is only read.
use Rattle.std.specs.Prelude.{ℕ, ◌*◌, Bool, cond, ◌≡◌, List, ◌++◌, ltb, eqb, length, take, drop}
use Rattle.rules.specs.declared.answer.Size.{Size}
use Rattle.rules.specs.Frame.{cells}
use Rattle.rules.specs.Answer.{done, refused as early, too_large}
use Rattle.frame_blank.specs.declared.Blanked.{Blanked}
use Rattle.frame_blank.specs.Blanking.{Fill, Run, count, bad_map, blanked, runs_of, numbers}

-- ── What is asked and lent ──

-- A size and a fill; samples and a map, of which the first N are looked at; and a list for the runs.
pub record Call : Type 0 where
  pub size : Size
  pub fill : Fill
  pub samples : List ℕ
  pub map : List ℕ
  pub runs : List ℕ

abbrev pub call : Fill → List ℕ → List ℕ → ℕ → ℕ → List ℕ → Call
call fill samples map w h runs =
    record { size = record { width = w; height = h }; fill = fill; samples = samples; map = map; runs = runs }

-- The frame's samples, its map bytes, and the runs that these make.
abbrev pub frame_of : Call → List ℕ
frame_of c = take (cells c.size) c.samples

abbrev pub marks_of : Call → List ℕ
marks_of c = take (cells c.size) c.map

abbrev pub found : Call → List Run
found c = runs_of c.size (marks_of c)

-- ── Refusals ──

-- 13: a run takes three numbers of the list.
unfoldable pub short_runs : Call → Bool
short_runs c = ltb (length c.runs) (3 * length (found c))

-- 1, 3 of the samples, 4 of the map, then 14, then 13: the first that holds, or 0.
unfoldable pub refusal : Call → ℕ
refusal c =
    cond (too_large c.size) 1
    (cond (ltb (length c.samples) (cells c.size)) 3
    (cond (ltb (length c.map) (cells c.size)) 4
    (cond (bad_map (marks_of c)) 14
    (cond (short_runs c) 13 0))))

-- ── What a call answers ──

-- A refusal has row 0, and nothing was set or listed.
abbrev pub refused : ℕ → Blanked
refused number = record { answer = early number; count = 0; runs = 0 }

-- Done comes with how many samples were set and how many runs they make.
abbrev pub blanked_done : ℕ → ℕ → Blanked
blanked_done count runs = record { answer = done; count = count; runs = runs }

unfoldable pub blank_answer : Call → Blanked
blank_answer c = cond (eqb (refusal c) 0) (blanked_done (count (marks_of c)) (length (found c))) (refused (refusal c))

-- ── What a call leaves ──

-- A refusal changes nothing.
unfoldable pub unless_refused : Call → List ℕ → List ℕ → List ℕ
unless_refused c new old = cond (eqb (refusal c) 0) new old

-- The samples past N never change.
unfoldable pub samples_after : Call → List ℕ
samples_after c =
    unless_refused c (blanked c.fill c.size (frame_of c) (marks_of c) ++ drop (cells c.size) c.samples) c.samples

-- The list past the runs never changes.
unfoldable pub runs_after : Call → List ℕ
runs_after c = unless_refused c (numbers (found c) ++ drop (3 * length (found c)) c.runs) c.runs

-- All that a call yields and leaves.
pub record Yields (c : Call) (r : Blanked) (samples runs : List ℕ) : Type 0 where
  pub answered : r ≡ blank_answer c
  pub samples_left : samples ≡ samples_after c
  pub runs_left : runs ≡ runs_after c
