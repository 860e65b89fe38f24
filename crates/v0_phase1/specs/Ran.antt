-- Blocks one after another, by the record and by position.
use Rattle.std.specs.Prelude.{ℕ, ◌+◌, ◌<◌, ◌≡◌, List, length}
use Rattle.rules.specs.V0.{blocks_in}
use Rattle.rules.specs.declared.v0.V0Row.{V0Row}
use Rattle.read_window.specs.Window.{state_at}
use Rattle.v0_parse_window.specs.ByWindow.{Ahead}
use Rattle.v0_phase1.specs.Parsed.{Parsed}
use Rattle.v0_phase1.specs.declared.run.Point.{Point}

-- Blocks from block k of a row on, each parsed from the state that the one before it left.
pub data Ran (s : List ℕ) (w k : ℕ) (st : V0Row) (out dirs : List ℕ) : (k' : ℕ) (st' : V0Row) (out' dirs' : List ℕ) → Type 0 where
  none : Ran s w k st out dirs k st out dirs
  also : {k₁ : ℕ} {st₁ st₂ : V0Row} {out₁ out₂ dirs₁ dirs₂ : List ℕ} → Ran s w k st out dirs k₁ st₁ out₁ dirs₁ → k₁ < blocks_in w → length out₂ ≡ length out₁
      → Parsed s st₁ w k₁ out₁ dirs₁ st₂ out₂ dirs₂ → Ran s w k st out dirs (k₁ + 1) st₂ out₂ dirs₂

-- The state of a row at a point, f words having been missing.
abbrev pub row_at : List ℕ → ℕ → ℕ → Point → V0Row
row_at s base f p = record { lengths = p.lengths; bits = state_at s base p.q f }

-- Blocks from one point to another, whatever was missing before. The record can be made again there: the word that it has fetched lies
-- within 31 bits.
pub record RanAt (s : List ℕ) (base w : ℕ) (p : Point) (out dirs : List ℕ) (p' : Point) (out' dirs' : List ℕ) : Type 0 where
  pub ahead : Ahead s base p'.q 31
  pub reads : (f : ℕ) → Ran s w p.k (row_at s base f p) out dirs p'.k (row_at s base f p') out' dirs'
