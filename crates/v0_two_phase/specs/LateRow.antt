-- A row from row 2 on by both phases, one at once after the other.
use Rattle.std.specs.Prelude.{ℕ, ◌*◌, List, map}
use Rattle.rules.specs.Phases.{row_records, store_blocks, direction, predict_blocks, sample_stage}

-- Its residuals in their places, and then its predictions added, by its own directions.
abbrev pub late_row : List ℕ → ℕ → ℕ → ℕ → List ℕ → List ℕ
late_row s w row offset f =
    let rs = row_records s w row offset in
    predict_blocks sample_stage w row 0 (map direction rs) (store_blocks (row * w) w 0 rs f)
