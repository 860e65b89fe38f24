-- Rows by position, of which the heads alone are read.
use Rattle.std.specs.Prelude.{ℕ, ◌+◌, ◌-◌, ◌*◌, ◌/◌, ◌%◌, ◌^◌, ◌≤◌, ◌<◌, min, Bool, true, cond, ◌&&◌, List, ◌≡◌, leb, eqb, length}
use Rattle.rules.specs.Limits.{most_side}
use Rattle.rules.specs.declared.answer.Size.{Size}
use Rattle.rules.specs.declared.v0.V0Row.{V0Row}
use Rattle.read_window.specs.Window.{Standing, standing_in, state_at}
use Rattle.v0_parse_window.specs.ByWindow.{Room, Ahead, HeadAt, last_start, short}
use Rattle.v0_parse_window.specs.Run.{last_bit, run_length}
use Rattle.v0_lanes.specs.Blocks.{head_after}
use Rattle.v0_lanes.specs.Lengths.{lengths_of, lengths_after, block_end}
use Rattle.v0_lanes.specs.declared.lengths.PackedHead.{PackedHead}
use Rattle.v0_direct.specs.declared.run.Run.{Run}
use Rattle.v0_clean.specs.OffsetsLent.{InRow}
use Rattle.v0_clean.specs.Row.{fault_from}
use Rattle.v0_clean.specs.Rows.{Four}
use Rattle.v0_clean.specs.declared.heads.OfFour.{OfFour}
use Rattle.v0_clean.specs.declared.heads.Track.{Track}
use Rattle.v0_clean.specs.declared.heads.Tracks.{Tracks}

-- ── One row ──

unfoldable pub all_four : Bool → Bool → Bool → Bool → Bool
all_four a b c d = a && (b && (c && d))

-- A row after its first block that can be followed by position, and whether it can.
pub record Ready (s : List ℕ) (p : Run) : Type 0 where
  pub first : p.col ≡ 16
  pub clear : p.state.bits.filler ≡ 0
  pub few : short p.state.lengths ≡ true
  pub standing : Standing s p.state.bits 80

abbrev pub ready : List ℕ → Run → Bool
ready s p = all_four (eqb p.col 16) (eqb p.state.bits.filler 0) (short p.state.lengths) (standing_in s p.state.bits 80)

-- The row's state by position, and the point at a column.
abbrev pub row_of : List ℕ → Track → V0Row
row_of s t = record { lengths = lengths_of t.lengths.bytes; bits = state_at s t.base t.q 0 }

abbrev pub point : List ℕ → ℕ → Track → Run
point s col t = record { col = col; state = row_of s t }

-- The record can be made again there: the word that it has fetched lies within 31 bits.
pub record Tracked (s : List ℕ) (t : Track) : Type 0 where
  pub ahead : Ahead s t.base t.q 31
  pub there : t.base ≤ length s
  pub last_is : t.last ≡ last_start (length s - t.base)

pub record TrackOf (s : List ℕ) (p : Run) (t : Track) : Type 0 where
  pub base_is : t.base ≡ p.state.bits.pos - 12
  pub tracked : Tracked s t
  pub is : p.state ≡ row_of s t

-- Where a head can be read.
pub record RoomAt (s : List ℕ) (t : Track) : Type 0 where
  pub room : Room s t.base t.q

abbrev pub NextHead : List ℕ → Track → PackedHead → Type 0
NextHead s t h = HeadAt s t.base t.q (lengths_of t.lengths.bytes) (head_after t.q h)

-- A row after a block whose residuals begin after a head.
pub record Moved (t : Track) (h : PackedHead) (t' : Track) : Type 0 where
  pub same_base : t'.base ≡ t.base
  pub same_last : t'.last ≡ t.last
  pub lengths_are : short (lengths_after h.sums) ≡ true → lengths_of t'.lengths.bytes ≡ lengths_after h.sums
  pub ends : t'.q ≡ block_end (t.q + h.size) t'.lengths.bytes

-- Blocks passed over from one column to another.
pub record PassedAt (s : List ℕ) (z : Size) (col : ℕ) (t : Track) (col' : ℕ) (t' : Track) : Type 0 where
  pub tracked : Tracked s t'
  pub after : col ≤ col'
  pub below : col' ≤ z.width + 15
  pub whole : col' % 16 ≡ 0
  pub same : (row : ℕ) → 2 ≤ row → InRow z row → fault_from s z row (point s col t) ≡ fault_from s z row (point s col' t')

-- ── Four rows ──

abbrev pub RowsReady : List ℕ → OfFour Run → Type 0
RowsReady s r = Four (Ready s r.a) (Ready s r.b) (Ready s r.c) (Ready s r.d)

abbrev pub all_ready : List ℕ → OfFour Run → Bool
all_ready s r = all_four (ready s r.a) (ready s r.b) (ready s r.c) (ready s r.d)

abbrev pub AllTracked : List ℕ → Tracks → Type 0
AllTracked s t = Four (Tracked s t.rows.a) (Tracked s t.rows.b) (Tracked s t.rows.c) (Tracked s t.rows.d)

pub record TracksOf (s : List ℕ) (r : OfFour Run) (t : Tracks) : Type 0 where
  pub col : t.col ≡ 16
  pub each : Four (TrackOf s r.a t.rows.a) (TrackOf s r.b t.rows.b) (TrackOf s r.c t.rows.c) (TrackOf s r.d t.rows.d)

abbrev pub RowsOf : List ℕ → Tracks → OfFour Run → Type 0
RowsOf s t r = Four (r.a ≡ point s t.col t.rows.a) (r.b ≡ point s t.col t.rows.b) (r.c ≡ point s t.col t.rows.c) (r.d ≡ point s t.col t.rows.d)

-- Whether the stream has room for a block of each, and whether all lengths after four heads are short.
abbrev pub roomy : Tracks → Bool
roomy t = all_four (leb t.rows.a.q t.rows.a.last) (leb t.rows.b.q t.rows.b.last) (leb t.rows.c.q t.rows.c.last) (leb t.rows.d.q t.rows.d.last)

abbrev pub all_short : OfFour PackedHead → Bool
all_short h = all_four (short (lengths_after h.a.sums)) (short (lengths_after h.b.sums)) (short (lengths_after h.c.sums)) (short (lengths_after h.d.sums))

abbrev pub TracksRoom : List ℕ → Tracks → Type 0
TracksRoom s t = Four (RoomAt s t.rows.a) (RoomAt s t.rows.b) (RoomAt s t.rows.c) (RoomAt s t.rows.d)

abbrev pub HeadsAt : List ℕ → Tracks → OfFour PackedHead → Type 0
HeadsAt s t h = Four (NextHead s t.rows.a h.a) (NextHead s t.rows.b h.b) (NextHead s t.rows.c h.c) (NextHead s t.rows.d h.d)

-- What is asked so that no sum is too large.
abbrev pub Near : Track → PackedHead → Type 0
Near t h = (t.q < 2 ^ 31) × (h.size ≤ 25)

abbrev pub HeadsNear : Tracks → OfFour PackedHead → Type 0
HeadsNear t h = Four (Near t.rows.a h.a) (Near t.rows.b h.b) (Near t.rows.c h.c) (Near t.rows.d h.d)

pub record AllMoved (t : Tracks) (h : OfFour PackedHead) (t' : Tracks) : Type 0 where
  pub col : t'.col ≡ t.col + 16
  pub each : Four (Moved t.rows.a h.a t'.rows.a) (Moved t.rows.b h.b t'.rows.b) (Moved t.rows.c h.c t'.rows.c) (Moved t.rows.d h.d t'.rows.d)

-- Four rows at a column after the first.
pub record TracksAt (s : List ℕ) (z : Size) (t : Tracks) : Type 0 where
  pub width : z.width ≤ most_side
  pub after : 0 < t.col
  pub below : t.col ≤ z.width + 15
  pub whole : t.col % 16 ≡ 0
  pub each : AllTracked s t

abbrev pub AllPassed : List ℕ → Size → Tracks → Tracks → Type 0
AllPassed s z t t' =
    Four (PassedAt s z t.col t.rows.a t'.col t'.rows.a) (PassedAt s z t.col t.rows.b t'.col t'.rows.b)
    (PassedAt s z t.col t.rows.c t'.col t'.rows.c) (PassedAt s z t.col t.rows.d t'.col t'.rows.d)

-- How many blocks a row goes on for from a column, and all four together.
abbrev pub blocks_on : List ℕ → Size → ℕ → Track → ℕ
blocks_on s z col t = run_length s (t.base * 8 + t.last) ((z.width - col) / 16) (row_of s t)

unfoldable pub least_on : List ℕ → Size → Tracks → ℕ
least_on s z t =
    min (min (blocks_on s z t.col t.rows.a) (blocks_on s z t.col t.rows.b)) (min (blocks_on s z t.col t.rows.c) (blocks_on s z t.col t.rows.d))

-- The same from points on: as far as the run of the one goes that ends first, where all are ready.
abbrev pub run_on : List ℕ → Size → Run → ℕ
run_on s z p = run_length s (last_bit s p.state.bits) ((z.width - p.col) / 16) p.state

unfoldable pub side_by_side : List ℕ → Size → OfFour Run → ℕ
side_by_side s z r =
    cond (all_ready s r) (min (min (run_on s z r.a) (run_on s z r.b)) (min (run_on s z r.c) (run_on s z r.d))) 0

abbrev pub RowsReach : List ℕ → Size → OfFour Run → OfFour Run → Type 0
RowsReach s z r r' =
    let n = 16 * side_by_side s z r in
    Four (r'.a.col ≡ r.a.col + n) (r'.b.col ≡ r.b.col + n) (r'.c.col ≡ r.c.col + n) (r'.d.col ≡ r.d.col + n)
