-- Worked examples of both ways, as one list. `proofs/Examples.antt` proves the one claim, that each frame's planes are those stated,
-- and that the way back from these is the frame.
use Rattle.std.specs.Prelude.{ℕ, List, [], ◌∷◌}
use Rattle.rules.specs.declared.answer.Size.{Size}

-- A frame and its planes.
pub record Example : Type 0 where
  pub size : Size
  pub frame : List ℕ
  pub planes : List ℕ

abbrev example : ℕ → ℕ → List ℕ → List ℕ → Example
example w h f p = record { size = record { width = w; height = h }; frame = f; planes = p }

-- The frames have their samples numbered; a sample's tens are its row.
unfoldable pub examples : List Example
examples =
    example 3 3 (00 ∷ 01 ∷ 02 ∷ 10 ∷ 11 ∷ 12 ∷ 20 ∷ 21 ∷ 22 ∷ []) (00 ∷ 02 ∷ 20 ∷ 22 ∷ 01 ∷ 21 ∷ 10 ∷ 12 ∷ 11 ∷ [])
    ∷ example 5 2 (00 ∷ 01 ∷ 02 ∷ 03 ∷ 04 ∷ 10 ∷ 11 ∷ 12 ∷ 13 ∷ 14 ∷ []) (00 ∷ 02 ∷ 04 ∷ 01 ∷ 03 ∷ 10 ∷ 12 ∷ 14 ∷ 11 ∷ 13 ∷ [])
    ∷ example 2 2 (00 ∷ 01 ∷ 10 ∷ 11 ∷ []) (00 ∷ 01 ∷ 10 ∷ 11 ∷ [])
    ∷ example 1 4 (00 ∷ 10 ∷ 20 ∷ 30 ∷ []) (00 ∷ 20 ∷ 10 ∷ 30 ∷ [])
    ∷ example 4 1 (00 ∷ 01 ∷ 02 ∷ 03 ∷ []) (00 ∷ 02 ∷ 01 ∷ 03 ∷ [])
    ∷ example 0 3 [] []
    ∷ example 3 0 [] []
    ∷ []
