-- Where a sample of the exchanged frame is read, for code that only reads the lent samples.
use Rattle.std.specs.Prelude.{ℕ, ◌+◌, ◌-◌, ◌*◌, ◌%◌, ◌&&◌, cond, ltb, eqb}
use Rattle.rules.specs.declared.answer.Size.{Size}

-- The place, in the frame that is lent, of the sample at a row and column of the exchanged one: right of an even column in an even
-- row that has one below it, the sample below that column; and the other way round; else its own place.
unfoldable pub place_of : Size → ℕ → ℕ → ℕ
place_of z row col =
    let w = z.width in
    cond (eqb (row % 2) 0 && (eqb (col % 2) 1 && ltb (row + 1) z.height)) ((row + 1) * w + col - 1)
    (cond (eqb (row % 2) 1 && (eqb (col % 2) 0 && ltb (col + 1) w)) ((row - 1) * w + col + 1)
    (row * w + col))

-- So a row's even columns lie in one row of the lent frame and its odd columns in one: column c at c places past these.
unfoldable pub evens_start : ℕ → ℕ → ℕ
evens_start w row = cond (eqb (row % 2) 0) (row * w) ((row - 1) * w + 1)

unfoldable pub odds_start : Size → ℕ → ℕ
odds_start z row =
    let w = z.width in
    cond (eqb (row % 2) 0 && ltb (row + 1) z.height) ((row + 1) * w - 1) (row * w)
