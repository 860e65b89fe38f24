-- Worked examples of calls that blank, as one list: what is lent, and what must be answered and left. `proofs/Examples.antt` proves
-- the one claim, that each is as stated.
use Rattle.std.specs.Prelude.{ℕ, List, [], ◌∷◌}
use Rattle.frame_blank.specs.declared.Blanked.{Blanked}
use Rattle.frame_blank.specs.Blanking.{stated, unstated}
use Rattle.frame_blank.specs.Calls.{Call, call, refused, blanked_done}

-- A call, what it answers, and its samples and its list afterwards.
pub record Example : Type 0 where
  pub asked : Call
  pub answered : Blanked
  pub samples : List ℕ
  pub runs : List ℕ

abbrev example : Call → Blanked → List ℕ → List ℕ → Example
example c r samples runs = record { asked = c; answered = r; samples = samples; runs = runs }

-- Samples, of which one lies past the frame of 4 by 2; a map whose first row is marked at its end and whose second at its start;
-- and a list.
abbrev frame : List ℕ
frame = 10 ∷ 11 ∷ 12 ∷ 13 ∷ 20 ∷ 21 ∷ 22 ∷ 23 ∷ 99 ∷ []

abbrev marks : List ℕ
marks = 1 ∷ 0 ∷ 1 ∷ 1 ∷ 1 ∷ 0 ∷ 0 ∷ 0 ∷ []

abbrev list : List ℕ
list = 7 ∷ 7 ∷ 7 ∷ 7 ∷ 7 ∷ 7 ∷ 7 ∷ 7 ∷ 7 ∷ 7 ∷ []

unfoldable pub examples : List Example
examples =
    -- A run ends with its row, though the next row begins marked; the list's last number and the last sample stay.
    example (call (stated 5) frame marks 4 2 list) (blanked_done 4 3)
    (5 ∷ 11 ∷ 5 ∷ 5 ∷ 5 ∷ 21 ∷ 22 ∷ 23 ∷ 99 ∷ []) (0 ∷ 0 ∷ 1 ∷ 0 ∷ 2 ∷ 2 ∷ 1 ∷ 0 ∷ 1 ∷ 7 ∷ [])
    -- No stated fill: nothing lies to the left of a row's first two columns, and 12 has only a marked one there; 13 takes 11.
    ∷ example (call unstated frame marks 4 2 list) (blanked_done 4 3)
    (0 ∷ 11 ∷ 0 ∷ 11 ∷ 0 ∷ 21 ∷ 22 ∷ 23 ∷ 99 ∷ []) (0 ∷ 0 ∷ 1 ∷ 0 ∷ 2 ∷ 2 ∷ 1 ∷ 0 ∷ 1 ∷ 7 ∷ [])
    -- The nearest of the column's parity, across marked ones; a row takes nothing from the one above.
    ∷ example (call unstated (10 ∷ 11 ∷ 12 ∷ 13 ∷ 14 ∷ 15 ∷ 20 ∷ 21 ∷ 22 ∷ 23 ∷ 24 ∷ 25 ∷ []) (0 ∷ 0 ∷ 1 ∷ 1 ∷ 1 ∷ 0 ∷ 1 ∷ 0 ∷ 0 ∷ 1 ∷ 1 ∷ 1 ∷ []) 6 2 list)
    (blanked_done 7 3) (10 ∷ 11 ∷ 10 ∷ 11 ∷ 10 ∷ 15 ∷ 0 ∷ 21 ∷ 22 ∷ 21 ∷ 22 ∷ 21 ∷ []) (0 ∷ 2 ∷ 3 ∷ 1 ∷ 0 ∷ 1 ∷ 1 ∷ 3 ∷ 3 ∷ 7 ∷ [])
    -- Nothing lies to the left of column 0, nor to that of column 1.
    ∷ example (call unstated (10 ∷ 11 ∷ []) (1 ∷ 1 ∷ []) 2 1 (7 ∷ 7 ∷ 7 ∷ [])) (blanked_done 2 1) (0 ∷ 0 ∷ []) (0 ∷ 0 ∷ 2 ∷ [])
    -- More rows than columns.
    ∷ example (call (stated 5) (10 ∷ 11 ∷ []) (0 ∷ 1 ∷ []) 1 2 (7 ∷ 7 ∷ 7 ∷ [])) (blanked_done 1 1) (10 ∷ 5 ∷ []) (1 ∷ 0 ∷ 1 ∷ [])
    -- A sample that holds the fill already is counted.
    ∷ example (call (stated 10) (10 ∷ 11 ∷ []) (1 ∷ 0 ∷ []) 2 1 (7 ∷ 7 ∷ 7 ∷ [])) (blanked_done 1 1) (10 ∷ 11 ∷ []) (0 ∷ 0 ∷ 1 ∷ [])
    -- Old values and filler alike are set, and make one run.
    ∷ example (call (stated 5) (10 ∷ 11 ∷ 12 ∷ 13 ∷ []) (0 ∷ 2 ∷ 3 ∷ 1 ∷ []) 4 1 (7 ∷ 7 ∷ 7 ∷ [])) (blanked_done 3 1) (10 ∷ 5 ∷ 5 ∷ 5 ∷ [])
    (0 ∷ 1 ∷ 3 ∷ [])
    -- A map without marks sets nothing and lists nothing; and a frame of no samples.
    ∷ example (call (stated 5) (10 ∷ 11 ∷ []) (0 ∷ 0 ∷ []) 1 2 []) (blanked_done 0 0) (10 ∷ 11 ∷ []) []
    ∷ example (call (stated 5) (10 ∷ []) (1 ∷ []) 0 9 (7 ∷ [])) (blanked_done 0 0) (10 ∷ []) (7 ∷ [])
    -- 13: the list is one number short. 14 comes before it, and 4 before 14, 3 before 4, 1 before 3.
    ∷ example (call (stated 5) (10 ∷ 11 ∷ []) (1 ∷ 0 ∷ []) 2 1 (7 ∷ 7 ∷ [])) (refused 13) (10 ∷ 11 ∷ []) (7 ∷ 7 ∷ [])
    ∷ example (call (stated 5) (10 ∷ 11 ∷ []) (1 ∷ 4 ∷ []) 2 1 []) (refused 14) (10 ∷ 11 ∷ []) []
    ∷ example (call (stated 5) (10 ∷ 11 ∷ []) (4 ∷ []) 2 1 []) (refused 4) (10 ∷ 11 ∷ []) []
    ∷ example (call (stated 5) (10 ∷ []) [] 2 1 []) (refused 3) (10 ∷ []) []
    ∷ example (call (stated 5) [] [] 16_385 1 []) (refused 1) [] []
    -- A byte past the frame is not looked at.
    ∷ example (call (stated 5) (10 ∷ []) (1 ∷ 9 ∷ []) 1 1 (7 ∷ 7 ∷ 7 ∷ [])) (blanked_done 1 1) (5 ∷ []) (0 ∷ 0 ∷ 1 ∷ [])
    ∷ []
