-- Worked examples: where the words of a V2 frame lie, which row first fetches one that isn't wholly below p, and frames that differ
-- from the bound on.
use Rattle.std.specs.Prelude.{ℕ, Bool, cond, List, [], ◌∷◌, ◌++◌, map, replicate, take}
use Rattle.rules.specs.declared.answer.Size.{Size}
use Rattle.rules.specs.declared.reader.Bits.{Bits}
use Rattle.rules.specs.V0 as V0
use Rattle.rules.specs.V2 as V2
use Rattle.entry_late.specs.Late.{whole_pairs, header_bytes, fetched_past, first_past, state_after, none_refused}

-- What the definitions give, and what is stated.
pub record Example : Type 0 where
  pub given : List ℕ
  pub stated : List ℕ

abbrev example : List ℕ → List ℕ → Example
example given stated = record { given = given; stated = stated }

-- ── V2, 16 by 3 ──

abbrev three_rows : Size
three_rows = record { width = 16; height = 3 }

-- A header of depth 14 with options 1, 2 and 4, and the initial sample 100.
abbrev header : List ℕ
header = 0x00 ∷ 0x0D ∷ 0x00 ∷ 0x00 ∷ 0x00 ∷ 0x00 ∷ 0x00 ∷ 0x00 ∷ 0x00 ∷ 0x07 ∷ 0x00 ∷ 0x00 ∷ 0x64 ∷ 0x00 ∷ 0x00 ∷ 0x00 ∷ []

-- A row of one word: motion 7, and four lengths of 0. The next row starts at the next multiple of 16.
abbrev one_word : List ℕ
one_word = 0x00 ∷ 0x00 ∷ 0x80 ∷ 0x7F ∷ []

-- A row of three words: motion 7, the four remembered lengths of 4, and the differences 1, then 0.
abbrev three_words : List ℕ
three_words = 0x00 ∷ 0x00 ∷ 0x08 ∷ 0x00 ∷ replicate 8 0x00

-- Words at 0 to 12, at 16, at 32 and at 48.
abbrev stream : List ℕ
stream = header ++ one_word ++ replicate 12 0x00 ++ one_word ++ replicate 12 0x00 ++ one_word

-- Another row 2, from byte 48 on.
abbrev other_end : List ℕ
other_end = take 48 stream ++ three_words

-- Row 0 starts with motion 3 and meets refusal 5, having fetched the word at 16.
abbrev refused : List ℕ
refused = header ++ 0x00 ∷ 0x00 ∷ 0x00 ∷ 0x80 ∷ []

abbrev decoded : List ℕ → List ℕ
decoded s = V2.decoded s three_rows (replicate 48 7)

-- Rows of zeros alone: motion 7 and the remembered lengths, 7 in rows 0 and 1, which makes four words, and 4 in row 2, three.
abbrev zeros : List ℕ
zeros = header ++ replicate 48 0x00

-- A row that starts with motion 3, as row 1 and as row 2.
abbrev with_motion : ℕ → List ℕ
with_motion n = take n stream ++ 0x00 ∷ 0x00 ∷ 0x00 ∷ 0x80 ∷ replicate 12 0x00

-- A reader that stands at a position and holds no bit.
abbrev standing : ℕ → Bits
standing p = record { pos = p; word = 0; count = 0; filler = 0 }

abbrev of_bool : Bool → ℕ
of_bool b = cond b 1 0

-- Where the reader stands after n rows from row 0 on.
abbrev after : List ℕ → ℕ → ℕ
after s n =
    let x = V2.header s in
    (state_after s x.value 16 0 n x.bits).pos

-- Whether none of n rows from row 0 on was refused.
abbrev unrefused : List ℕ → ℕ → ℕ
unrefused s n =
    let x = V2.header s in
    of_bool (none_refused s x.value 16 0 n x.bits)

-- ── V0, 2 by 2 ──

-- The frame that offsets give over 7, 8, 9, 10.
abbrev two_rows : List ℕ → List ℕ
two_rows o =
    V0.decoded (0x00 ∷ 0x00 ∷ 0x00 ∷ 0x80 ∷ 0x18 ∷ 0x20 ∷ 0xA0 ∷ 0x7F ∷ 0x00 ∷ 0x00 ∷ 0x70 ∷ 0x00 ∷ []) o
    (record { width = 2; height = 2 }) (7 ∷ 8 ∷ 9 ∷ 10 ∷ [])

unfoldable pub examples : List Example
examples =
    -- The first row that fetches a word not wholly below p: row 0 has it up to 19, row 1 up to 35, row 2 up to 51, and then none has.
    example (map (λ p. first_past p stream three_rows) (16 ∷ 19 ∷ 20 ∷ 32 ∷ 35 ∷ 36 ∷ 51 ∷ 52 ∷ [])) (0 ∷ 0 ∷ 1 ∷ 1 ∷ 1 ∷ 2 ∷ 2 ∷ 3 ∷ [])
    -- By a stream of other bytes from 48 on it is the same for p = 48: row 2.
    ∷ example (map (λ p. first_past p other_end three_rows) (48 ∷ 59 ∷ 60 ∷ [])) (2 ∷ 2 ∷ 3 ∷ [])
    -- The header's words end where the reader stands after them.
    ∷ example (header_bytes ∷ (V2.header stream).bits.pos ∷ []) (16 ∷ 16 ∷ [])
    -- A reader that has gone from 16 to 20 fetched a word that ends at 20; one that stands where it stood fetched none.
    ∷ example (map (λ p. of_bool (fetched_past p (standing 16) (standing 20))) (19 ∷ 20 ∷ [])) (1 ∷ 0 ∷ [])
    ∷ example (of_bool (fetched_past 10 (standing 16) (standing 16)) ∷ []) (0 ∷ [])
    -- Each row is read by its own number, from the last one's end on; 5 comes in rows 0 and 1 alone, and then stays.
    ∷ example (map (after stream) (0 ∷ 1 ∷ 2 ∷ 3 ∷ [])) (16 ∷ 20 ∷ 36 ∷ 52 ∷ [])
    ∷ example (map (after zeros) (0 ∷ 1 ∷ 2 ∷ 3 ∷ [])) (16 ∷ 32 ∷ 48 ∷ 60 ∷ [])
    ∷ example (map (unrefused stream) (0 ∷ 1 ∷ 2 ∷ 3 ∷ [])) (1 ∷ 1 ∷ 1 ∷ 1 ∷ [])
    ∷ example (map (unrefused refused) (0 ∷ 1 ∷ 2 ∷ [])) (1 ∷ 0 ∷ 0 ∷ [])
    ∷ example (map (unrefused (with_motion 32)) (1 ∷ 2 ∷ 3 ∷ [])) (1 ∷ 0 ∷ 0 ∷ [])
    ∷ example (map (unrefused (with_motion 48)) (2 ∷ 3 ∷ [])) (1 ∷ 1 ∷ [])
    -- Rows 0 and 1 are the same, and row 2 differs.
    ∷ example (decoded stream) (replicate 48 100)
    ∷ example (decoded other_end) (replicate 32 100 ++ 101 ∷ replicate 15 100)
    -- A refusal in row 0 ends the frame: if its word lies below p, no row fetches one past p.
    ∷ example (map (λ p. first_past p refused three_rows) (19 ∷ 20 ∷ [])) (0 ∷ 3 ∷ [])
    -- V0: entry 1 differs, so no row stands, and row 0 does differ: the exchange brings a sample of row 1 there.
    ∷ example (map whole_pairs (0 ∷ 1 ∷ 2 ∷ 3 ∷ [])) (0 ∷ 0 ∷ 2 ∷ 2 ∷ [])
    ∷ example (take 2 (two_rows (0 ∷ 4 ∷ []))) (7 ∷ 131 ∷ [])
    ∷ example (take 2 (two_rows (0 ∷ 0 ∷ []))) (7 ∷ 7 ∷ [])
    ∷ []
