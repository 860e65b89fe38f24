-- Past the end of the stream every word is missing, and has ones alone. So a block there is always the same: direction 1, four
-- operations 3, four lengths 15, and sixteen residuals of 15 ones, which are −1: 265 bits.
use Rattle.std.specs.Prelude.{ℕ, ◌+◌, ◌-◌, ◌*◌, ◌/◌, ◌^◌, ◌<◌, min, true, List, ◌≡◌, pos, length, replicate}
use Rattle.rules.specs.Reader.{most_filler}
use Rattle.rules.specs.declared.reader.Bits.{Bits}
use Rattle.v0_parse.specs.declared.block.ReadBlock.{ReadBlock}

-- A state past the end: the bits that it holds are ones, and every word that a block fetches from here on is missing.
pub record PastEnd (s : List ℕ) (b : Bits) : Type 0 where
  pub ones : b.word ≡ 0xffff_ffff
  pub few : b.count < 32
  pub past : length s < b.pos + 4
  pub far : b.pos + 36 < 2 ^ 64
  pub held : b.filler < 2 ^ 64

-- The state k bits on: a word more is fetched for every 32 bits that are not held.
unfoldable pub ones_after : Bits → ℕ → Bits
ones_after b k =
    let words = (k - b.count + 31) / 32 in
    record { pos = b.pos + 4 * words; word = 0xffff_ffff; count = b.count + 32 * words - k; filler = min (b.filler + words) most_filler }

-- A block of ones.
unfoldable pub block_of_ones : Bits → ReadBlock
block_of_ones b = record { up = true; row = record { lengths = replicate 4 (pos 15); bits = ones_after b 265 }; residuals = replicate 16 65_535 }
