-- What the functions ask of what they are lent, what the loops over bytes find, and what a row's call leaves.
use Rattle.std.specs.Prelude.{ℕ, zero, suc, ◌+◌, ◌-◌, ◌*◌, ◌≤◌, cond, ◌≡◌, List, [], ◌∷◌, ltb, length, get_or, Option, Some, None}
use Rattle.std.proofs.lemmas.List.Edits.{sets}
use Rattle.rules.specs.Limits.{most_side}
use Rattle.rules.specs.declared.answer.Size.{Size}
use Rattle.rules.specs.Frame.{cells}
use Rattle.frame_blank.specs.declared.Tally.{Tally}
use Rattle.frame_blank.specs.declared.Turns.{Turns}
use Rattle.frame_blank.specs.Blanking.{Fill, marked, stated, unstated, blank_row, Run, count, row_runs, runs_of, numbers}

-- How many samples are marked, and how many runs there are.
abbrev pub tally : List ℕ → List Run → Tally
tally m rs = record { marked = count m; runs = length rs }

-- How many unmarked bytes a list begins with.
unfoldable pub gap : List ℕ → ℕ
gap [] = 0
gap (b ∷ m) = cond (marked b) 0 (suc (gap m))

-- The fill that is asked for: a stated value, or none is stated.
unfoldable pub meant : Option ℕ → Fill
meant (Some v) = stated v
meant None = unstated

-- What lies so many columns to the left in a row; 0 if that is past its start.
unfoldable pub left_of : List ℕ → ℕ → ℕ → ℕ
left_of row c by = cond (ltb c by) 0 (get_or row (c - by) 0)

-- What a run is set to that starts at a column of a row, whose samples before it are set.
unfoldable pub turns : Option ℕ → List ℕ → ℕ → Turns
turns (Some v) row c = record { first = v; second = v }
turns None row c = record { first = left_of row c 2; second = left_of row c 1 }

-- Two values by turns.
unfoldable pub by_turns : ℕ → ℕ → ℕ → List ℕ
by_turns zero a b = []
by_turns (suc n) a b = a ∷ by_turns n b a

-- A frame's map, of a size within the limits.
pub record MapLent (z : Size) (map : List ℕ) : Type 0 where
  pub wide : z.width ≤ most_side
  pub high : z.height ≤ most_side
  pub read : length map ≡ cells z

-- A row's number, its samples and map bytes, and room in the list of runs from a place on.
pub record RowLent (row : ℕ) (samples map : List ℕ) (from : ℕ) (runs : List ℕ) : Type 0 where
  pub few : row ≤ most_side
  pub wide : length map ≤ most_side
  pub written : length samples ≡ length map
  pub room : from + 3 * length (row_runs row map) ≤ length runs

-- A row blanked and its runs listed: where the next row's go, the samples, and the list.
pub record RowBlanked (fill : Fill) (row : ℕ) (samples map : List ℕ) (from : ℕ) (runs : List ℕ) (next : ℕ) (samples' runs' : List ℕ) : Type 0 where
  pub place : next ≡ from + 3 * length (row_runs row map)
  pub samples_left : samples' ≡ blank_row fill samples map
  pub runs_left : runs' ≡ sets runs from (numbers (row_runs row map))

-- A frame and its map, and a list with room for its runs.
pub record FrameLent (z : Size) (samples map runs : List ℕ) : Type 0 where
  pub map_lent : MapLent z map
  pub written : length samples ≡ cells z
  pub room : 3 * length (runs_of z map) ≤ length runs
