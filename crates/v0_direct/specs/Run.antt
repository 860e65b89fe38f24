-- A run of inner blocks by position: which blocks it has, and what it does.
use Rattle.std.specs.Prelude.{ℕ, ◌+◌, ◌-◌, ◌*◌, ◌/◌, ◌%◌, ◌≤◌, Bool, cond, not, ◌&&◌, ◌≡◌, List, leb, ltb, eqb, length, replicate}
use Rattle.rules.specs.V0.{apply, order}
use Rattle.rules.specs.Map.{v0_marks}
use Rattle.rules.specs.declared.answer.Size.{Size}
use Rattle.rules.specs.declared.v0.V0Row.{V0Row}
use Rattle.read_window.specs.Window.{state_at, standing_in}
use Rattle.v0_parse.specs.Lengths.{Within}
use Rattle.v0_parse_window.specs.ByWindow.{Ahead, short}
use Rattle.v0_parse_window.specs.Run.{last_bit, run_length}
use Rattle.v0_cells.specs.Inner.{inner_ops}
use Rattle.v0_lanes.specs.Blocks.{predict_lanes}
use Rattle.v0_direct.specs.Block.{BlockRun}
use Rattle.v0_direct.specs.declared.run.Point.{Point}

-- Whether a block is an inner one: from row 2 on, after column 0 and inside its row.
unfoldable pub inner : Size → ℕ → ℕ → Bool
inner z row col = leb 2 row && (not (eqb col 0) && leb (col + 16) z.width)

-- Whether a run begins at a block: at an inner one, after short lengths, where the record stands in the stream and no word was missing.
unfoldable pub run_begins : List ℕ → Size → ℕ → ℕ → V0Row → Bool
run_begins s z row col st = inner z row col && (eqb st.bits.filler 0 && (short st.lengths && standing_in s st.bits 80))

-- The column after its last block: the block's own column where no run begins.
unfoldable pub run_end : List ℕ → Size → ℕ → ℕ → V0Row → ℕ
run_end s z row col st = col + 16 * cond (run_begins s z row col st) (run_length s (last_bit s st.bits) ((z.width - col) / 16) st) 0

-- ── A block that waits ──

-- A run that began at a column `from` has stored the residuals of the block before a column, if it has one there, as their lanes came:
-- the samples with that block's predictions, and the map with its marks.
unfoldable pub finished : Size → ℕ → ℕ → ℕ → Bool → List ℕ → List ℕ
finished z row from col up f = cond (ltb from col) (predict_lanes z.width (row * z.width + (col - 16)) up f) f

unfoldable pub finished_marks : Size → ℕ → ℕ → ℕ → Bool → List ℕ → List ℕ
finished_marks z row from col up m =
    cond (ltb from col) (apply v0_marks (inner_ops z.width (row * z.width + (col - 16)) up order (replicate 16 0)) m) m

-- ── What a run does ──

-- The row's state at a point, where no word was missing.
abbrev pub row_at : List ℕ → ℕ → Point → V0Row
row_at s base p = record { lengths = p.lengths; bits = state_at s base p.q 0 }

-- Blocks from one point to another. The record can be made again there: the word that it has fetched lies within 31 bits.
pub record RanAt (s : List ℕ) (base : ℕ) (z : Size) (row : ℕ) (p : Point) (out map : List ℕ) (p' : Point) (out' map' : List ℕ) : Type 0 where
  pub run : BlockRun s z row p.col (row_at s base p) out map p'.col (row_at s base p') out' map'
  pub after : p.col ≤ p'.col
  pub below : p'.col ≤ z.width
  pub whole : p'.col % 16 ≡ 0
  pub ahead : Ahead s base p'.q 31
  pub near : Within (15 + p'.col / 16) p'.lengths
  pub same_samples : length out' ≡ length out
  pub same_map : length map' ≡ length map
