-- Blanking (docs/RULES.md, "Blanking"): every marked sample is set to a fill. A map byte speaks of the sample at its place; a run is
-- as many marked samples of one row as follow each other, with nothing marked beside them. Rows and columns are counted from 0.
use Rattle.std.specs.Prelude.{ℕ, zero, suc, ◌+◌, Bool, true, false, ◌||◌, ◌&&◌, not, cond, List, [], ◌∷◌, ◌++◌, ltb, length, get_or, take, drop}
use Rattle.rules.specs.declared.answer.Size.{Size}
use Rattle.rules.specs.Frame.{tabulate}

-- ── What a map byte says ──

-- A byte that isn't 0 marks its sample: it rests on an old value, on filler, or on both.
unfoldable pub marked : ℕ → Bool
marked b = ltb 0 b

-- A byte that no map has: its two parts make 3 at most.
unfoldable pub strange : ℕ → Bool
strange b = ltb 3 b

unfoldable pub bad_map : List ℕ → Bool
bad_map [] = false
bad_map (b ∷ m) = strange b || bad_map m

-- 1 if a test holds, else 0.
unfoldable pub bit : Bool → ℕ
bit false = 0
bit true = 1

-- How many samples are marked.
unfoldable pub count : List ℕ → ℕ
count [] = 0
count (b ∷ m) = bit (marked b) + count m

-- ── The fill ──

-- What a marked sample is set to, by the samples and the map bytes of its row as they were lent, and its column.
abbrev pub Fill : Type 0
Fill = List ℕ → List ℕ → ℕ → ℕ

-- The fill is stated: it is the same everywhere.
abbrev pub stated : ℕ → Fill
stated v row map column = v

-- If none is stated it is the nearest sample to the left in the row, at a column of the same parity, that isn't marked: two columns
-- back, or that one's own fill if it is marked. If there is none it is 0. A sample that is set is never taken for what it was.
unfoldable pub unstated : Fill
unstated row map zero = 0
unstated row map (suc zero) = 0
unstated row map (suc (suc c)) = cond (marked (get_or map c 0)) (unstated row map c) (get_or row c 0)

-- ── Blanked samples ──

-- A row: every marked sample is its fill, the others stay.
unfoldable pub blank_row : Fill → List ℕ → List ℕ → List ℕ
blank_row fill row map = tabulate (length row) 0 (λ c. cond (marked (get_or map c 0)) (fill row map c) (get_or row c 0))

-- The next n rows of w samples; what lies past them stays.
unfoldable pub blank_rows : Fill → ℕ → ℕ → List ℕ → List ℕ → List ℕ
blank_rows fill w zero f m = f
blank_rows fill w (suc n) f m = blank_row fill (take w f) (take w m) ++ blank_rows fill w n (drop w f) (drop w m)

abbrev pub blanked : Fill → Size → List ℕ → List ℕ → List ℕ
blanked fill z f m = blank_rows fill z.width z.height f m

-- ── Runs ──

pub record Run : Type 0 where
  pub row : ℕ
  pub first : ℕ
  pub length : ℕ

abbrev pub run : ℕ → ℕ → ℕ → Run
run row first length = record { row = row; first = first; length = length }

-- How many marked bytes a list begins with.
unfoldable pub stretch : List ℕ → ℕ
stretch [] = 0
stretch (b ∷ m) = cond (marked b) (suc (stretch m)) 0

-- The runs that start at a row's column c or after it: one starts wherever a marked sample follows one that isn't marked, or none
-- (`joined` says that the sample before is marked), and goes on as long as samples are marked.
unfoldable pub runs_from : ℕ → Bool → ℕ → List ℕ → List Run
runs_from row joined c [] = []
runs_from row joined c (b ∷ m) =
    let rest = runs_from row (marked b) (suc c) m in
    cond (marked b && not joined) (run row c (stretch (b ∷ m)) ∷ rest) rest

abbrev pub row_runs : ℕ → List ℕ → List Run
row_runs row m = runs_from row false 0 m

-- Those of n rows of w samples, from a row on.
unfoldable pub rows_runs : ℕ → ℕ → ℕ → List ℕ → List Run
rows_runs w zero row m = []
rows_runs w (suc n) row m = row_runs row (take w m) ++ rows_runs w n (suc row) (drop w m)

-- Those of a frame, in reading order.
abbrev pub runs_of : Size → List ℕ → List Run
runs_of z m = rows_runs z.width z.height 0 m

-- Runs as numbers, three each: row, first column, length.
unfoldable pub numbers : List Run → List ℕ
numbers [] = []
numbers (r ∷ rs) = r.row ∷ r.first ∷ r.length ∷ numbers rs
