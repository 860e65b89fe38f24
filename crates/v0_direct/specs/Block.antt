-- One block, by the definitions of its samples: what it does to the frame, and what it leaves of the row's state.
use Rattle.std.specs.Prelude.{ℕ, ◌+◌, ◌*◌, ◌/◌, ◌%◌, ◌≤◌, ◌<◌, ◌≡◌, List}
use Rattle.rules.specs.V0.{Ops, apply, sample_kind, head, samples, predictor, order}
use Rattle.rules.specs.Reader.{has_filler}
use Rattle.rules.specs.Frame.{ended}
use Rattle.rules.specs.Map.{with_filler, v0_marks}
use Rattle.rules.specs.declared.answer.Size.{Size}
use Rattle.rules.specs.declared.reader.Bits.{Bits}
use Rattle.rules.specs.declared.v0.V0Row.{V0Row}
use Rattle.rules.specs.declared.v0.V0Head.{V0Head}
use Rattle.v0_parse.specs.Lengths.{Within}

-- The samples `cs` of the block at a column of a row, after the block's head.
abbrev pub samples_of : List ℕ → Size → ℕ → ℕ → V0Head → List ℕ → Bits → Ops
samples_of s z row col h cs b = samples s (row * z.width + col) h.row.lengths (predictor z row col h.up) cs b

-- Operations done to the samples and to the map, and the reader after them.
pub record Applied (x : Ops) (out map : List ℕ) (b : Bits) (out' map' : List ℕ) : Type 0 where
  pub reader : b ≡ x.bits
  pub samples : out' ≡ apply sample_kind x.ops out
  pub marks : map' ≡ apply v0_marks x.ops map

-- What a block does, by the state of the row before it.
unfoldable pub block_ops : List ℕ → Size → ℕ → ℕ → V0Row → Ops
block_ops s z row col st = samples_of s z row col (head s st) order (head s st).row.bits

-- The row's state after it.
unfoldable pub after_block : List ℕ → Size → ℕ → ℕ → V0Row → V0Row
after_block s z row col st = record { lengths = (head s st).row.lengths; bits = (block_ops s z row col st).bits }

-- A block decoded, from a row's state to the next: its operations done to the samples and to the map.
pub record Decoded (s : List ℕ) (z : Size) (row col : ℕ) (st : V0Row) (out map : List ℕ) (st' : V0Row) (out' map' : List ℕ) : Type 0 where
  pub state : st' ≡ after_block s z row col st
  pub samples : out' ≡ apply sample_kind (block_ops s z row col st).ops out
  pub marks : map' ≡ apply v0_marks (block_ops s z row col st).ops map

-- Blocks one after another, each decoded and ended, from a column and a row's state to others.
pub data BlockRun (s : List ℕ) (z : Size) (row : ℕ) : ℕ → V0Row → List ℕ → List ℕ → ℕ → V0Row → List ℕ → List ℕ → Type 0 where
  none : {col : ℕ} {st : V0Row} {out map : List ℕ} → BlockRun s z row col st out map col st out map
  also : {col col' : ℕ} {st st' st'' : V0Row} {out map out' map' out'' marked map'' : List ℕ} → BlockRun s z row col st out map col' st' out' map' → col' < z.width
      → Decoded s z row col' st' out' map' st'' out'' marked → map'' ≡ ended with_filler 0 (has_filler st''.bits) (row * z.width + col') marked
      → BlockRun s z row col st out map (col' + 16) st'' out'' map''

-- A run of blocks, at whose end the next block may begin.
pub record Ran (s : List ℕ) (z : Size) (row col : ℕ) (st : V0Row) (out map : List ℕ) (col' : ℕ) (st' : V0Row) (out' map' : List ℕ) : Type 0 where
  pub blocks : BlockRun s z row col st out map col' st' out' map'
  pub on : col ≤ col'
  pub whole : col' % 16 ≡ 0
  pub near : Within (15 + col' / 16) st'.lengths
