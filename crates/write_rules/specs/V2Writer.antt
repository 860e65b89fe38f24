-- The stream that the V2 writer makes of a frame whose width is a multiple of 16. Its blocks and rows are written as the V0
-- writer's are.
use Rattle.std.specs.Prelude.{ℕ, ◌+◌, ◌-◌, ◌*◌, ◌%◌, Bool, cond, List, [], ◌∷◌, ◌++◌, get_or, eqb}
use Rattle.rules.specs.declared.answer.Size.{Size}
use Rattle.rules.specs.V2.{field_widths, position}
use Rattle.write_rules.specs.Writer.{fields_bits, bytes, Coding, rows_bytes}

-- ── The header ──

-- Its fields: depth 14, which is written less 1, options 7, and 0 in all the others.
abbrev pub field_values : List ℕ
field_values = 0 ∷ 0 ∷ 13 ∷ 0 ∷ 0 ∷ 0 ∷ 0 ∷ 0 ∷ 7 ∷ 0 ∷ 0 ∷ 0 ∷ 0 ∷ []

unfoldable pub header_bits : List Bool
header_bits = fields_bits field_widths field_values

-- ── The frame ──

-- The base of sample i of the block at a column of a row, by motion 7: 0 at column 0, else one of the two samples before the
-- block. The frame f has w columns.
unfoldable pub base_of : ℕ → List ℕ → ℕ → ℕ → ℕ → ℕ
base_of w f row col i = cond (eqb col 0) 0 (get_or f (row * w + col - 2 + i % 2) 0)

-- Its difference modulo 65,536.
unfoldable pub difference : ℕ → List ℕ → ℕ → ℕ → ℕ → ℕ
difference w f row col i = (get_or f (row * w + col + i) 0 + 65_536 - base_of w f row col i) % 65_536

-- Differences in the order of the stream; a row is padded to 16 bytes.
abbrev pub differences : ℕ → List ℕ → Coding
differences w f = record { width = w; unit = 16; number = λ row col k. difference w f row col (position row k) }

-- The header, and then the rows.
unfoldable pub stream_for : Size → List ℕ → List ℕ
stream_for z f = bytes header_bits ++ rows_bytes (differences z.width f) z.height 0
