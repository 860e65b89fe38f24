-- Pinned examples of specs/Reader.antt and specs/Frame.antt, by the definition's name.
use Prim.Native.Nat.{ℕ, ◌+◌, ◌-◌, ◌*◌, ◌^◌}
use mathlib.Core.Bool.{true, false}
use mathlib.Core.Path.{refl}
use mathlib.Core.List.{List, [], ◌∷◌, ◌++◌, map}
use lib.IntN.{pos, negsuc}
use Rattle.rules.specs.declared.reader.Bits.{Bits}
use Rattle.std.specs.Prelude.{Option, Some, None}
use Rattle.rules.specs.Reader.{word_at, fetched, read_as, is_missing, most_filler, counted, has_filler, fresh, reset_at, held, first_bits, from_held, from_next, read, fields, four, signed, read_signed, modulo, read_residual}
use Rattle.rules.specs.Frame.{cells, tabulate, change_cells, ended}
use Rattle.rules.specs.Examples.{Example}
use Rattle.rules.proofs.Pins.Values.{is, are, Hold, of_bool, minus, of_ℤ, bits, of_bits, of_got, size, words}

-- Five bytes, and a state with six bits left.
abbrev five : List ℕ
five = 0x01 ∷ 0x02 ∷ 0x03 ∷ 0x04 ∷ 0x05 ∷ []

abbrev six : Bits
six = bits 4 0xD6 6 0

abbrev of_word : Option ℕ → List ℕ
of_word w = read_as w ∷ of_bool (is_missing w) ∷ []

abbrev pub examples : List Example
examples =
    -- word_at: the lowest byte first; 0 for a byte that isn't there
    is (word_at five 1) 0x05040302
    ∷ is (word_at [] 0) 0
    -- fetched: the last word that is there; one byte less, and none of its bytes are used
    ∷ are (of_word (fetched five 1)) (0x05040302 ∷ 0 ∷ [])
    ∷ are (of_word (fetched five 2)) (0xffff_ffff ∷ 1 ∷ [])
    -- fresh, reset_at: nothing buffered; the count of missing words stays, and comes from nowhere
    ∷ are (of_bits (fresh 9)) (9 ∷ 0 ∷ 0 ∷ 0 ∷ [])
    ∷ are (of_bits (reset_at (bits 1 2 3 7) 9)) (9 ∷ 0 ∷ 0 ∷ 7 ∷ [])
    ∷ are (of_bits (reset_at (bits 1 2 3 0) 9)) (9 ∷ 0 ∷ 0 ∷ 0 ∷ [])
    -- held: 31 bits at most
    ∷ is (held (bits 1 2 31 0)) 31
    ∷ is (held (bits 1 2 32 0)) 0
    -- counted: a word that is there, a missing one, and the greatest count, which stays
    ∷ are (counted 7 false ∷ counted 7 true ∷ counted 0 true ∷ []) (7 ∷ 8 ∷ 1 ∷ [])
    ∷ are (counted (most_filler - 1) true ∷ counted most_filler true ∷ counted most_filler false ∷ []) ((2 ^ 64 - 1) ∷ (2 ^ 64 - 1) ∷ (2 ^ 64 - 1) ∷ [])
    -- first_bits: of the low six bits 010110 of 11010110 the first three
    ∷ is (first_bits 0b1101_0110 6 3) 0b010
    -- from_held: the state keeps its word
    ∷ are (of_got (from_held six 2)) (0b01 ∷ 4 ∷ 0xD6 ∷ 4 ∷ 0 ∷ [])
    ∷ are (of_got (from_held (bits 4 0xD6 6 7) 6)) (0b01_0110 ∷ 4 ∷ 0xD6 ∷ 0 ∷ 7 ∷ [])
    ∷ are (of_got (from_held (bits 4 0xD6 40 7) 0)) (0 ∷ 4 ∷ 0xD6 ∷ 0 ∷ 7 ∷ [])
    -- from_next: six bits held, then five of the next word; the position goes round; a missing word is counted
    ∷ are (of_got (from_next six (Some 0x8765_4321) 11)) (0b010110_10000 ∷ 8 ∷ 0x8765_4321 ∷ 27 ∷ 0 ∷ [])
    ∷ are (of_got (from_next (bits (2 ^ 64 - 4) 0 0 0) None 1)) (1 ∷ 0 ∷ 0xffff_ffff ∷ 31 ∷ 1 ∷ [])
    ∷ are (of_got (from_next (bits (2 ^ 64 - 4) 0 0 7) None 32)) (0xffff_ffff ∷ 0 ∷ 0xffff_ffff ∷ 0 ∷ 8 ∷ [])
    ∷ are (of_got (from_next (bits (2 ^ 64 - 5) 0 0 7) (Some 1) 32)) (1 ∷ (2 ^ 64 - 1) ∷ 1 ∷ 0 ∷ 7 ∷ [])
    -- read: as many as are held, one more; none; 32, and 33 as 32
    ∷ are (of_got (read words six 6)) (0b01_0110 ∷ 4 ∷ 0xD6 ∷ 0 ∷ 0 ∷ [])
    ∷ are (of_got (read words six 7)) (0b010110_1 ∷ 8 ∷ 0x8765_4321 ∷ 31 ∷ 0 ∷ [])
    ∷ are (of_got (read words (fresh 4) 0)) (0 ∷ 4 ∷ 0 ∷ 0 ∷ 0 ∷ [])
    ∷ are (of_got (read words (bits 4 0xD6 31 0) 32)) (0x01AD ∷ 8 ∷ 0x8765_4321 ∷ 31 ∷ 0 ∷ [])
    ∷ are (of_got (read words (fresh 4) 33)) (0x8765_4321 ∷ 8 ∷ 0x8765_4321 ∷ 0 ∷ 0 ∷ [])
    ∷ are (of_got (read words (bits 4 0xD6 31 0) 33)) (0x01AD ∷ 8 ∷ 0x8765_4321 ∷ 31 ∷ 0 ∷ [])
    -- fields: of widths 1, 0 and 3; four: of one width, and the reader after them
    ∷ are (fields words (1 ∷ 0 ∷ 3 ∷ []) (fresh 0)).values (1 ∷ 0 ∷ 2 ∷ [])
    ∷ are (of_bits (fields words (1 ∷ 0 ∷ 3 ∷ []) (fresh 0)).bits) (4 ∷ 0xA000_0000 ∷ 28 ∷ 0 ∷ [])
    ∷ are (four words 4 (fresh 4)).value (8 ∷ 7 ∷ 6 ∷ 5 ∷ [])
    ∷ are (of_bits (four words 4 (fresh 4)).bits) (8 ∷ 0x8765_4321 ∷ 16 ∷ 0 ∷ [])
    -- signed: the highest bit counts below 0; read_signed: of 32 bits at most
    ∷ are (map of_ℤ (signed 4 7 ∷ signed 4 8 ∷ signed 4 15 ∷ signed 0 0 ∷ [])) (7 ∷ minus 8 ∷ minus 1 ∷ 0 ∷ [])
    ∷ are (of_ℤ (read_signed words (fresh 0) 2).value ∷ of_bits (read_signed words (fresh 0) 2).bits) (minus 2 ∷ 4 ∷ 0xA000_0000 ∷ 30 ∷ 0 ∷ [])
    ∷ is (of_ℤ (read_signed words (fresh 4) 33).value) (minus (2 ^ 32 - 0x8765_4321))
    -- modulo 65,536, on both sides of 0; read_residual: the same of what is read
    ∷ are (map modulo (pos 65_535 ∷ pos 65_536 ∷ negsuc 0 ∷ negsuc 65_535 ∷ negsuc 65_536 ∷ [])) (65_535 ∷ 0 ∷ 65_535 ∷ 0 ∷ 65_535 ∷ [])
    ∷ are ((read_residual words (fresh 0) 2).value ∷ of_bits (read_residual words (fresh 0) 2).bits) (65_534 ∷ 4 ∷ 0xA000_0000 ∷ 30 ∷ 0 ∷ [])
    ∷ is (read_residual words (fresh 4) 33).value 0x4321
    -- has_filler: at every count but 0
    ∷ are (map (λ n. of_bool (has_filler (bits 1 2 3 n))) (0 ∷ 1 ∷ 2 ∷ (2 ^ 64 - 1) ∷ [])) (0 ∷ 1 ∷ 1 ∷ 1 ∷ [])
    -- Frame: width times height; values from an index on
    ∷ is (cells (size 3 5)) 15
    ∷ are (tabulate 3 5 (λ i. i * i)) (25 ∷ 36 ∷ 49 ∷ [])
    -- change_cells: so many from a place on; ended: sixteen, where there was filler, and none past the frame
    ∷ are (change_cells (λ a. a + 10) 7 2 1 (1 ∷ 2 ∷ 3 ∷ 4 ∷ [])) (1 ∷ 12 ∷ 13 ∷ 4 ∷ [])
    ∷ are (ended (λ a. a + 10) 7 true 2 (tabulate 19 0 (λ i. i))) (0 ∷ 1 ∷ tabulate 16 12 (λ i. i) ++ (18 ∷ []))
    ∷ are (ended (λ a. a + 10) 7 true 2 (1 ∷ 2 ∷ 3 ∷ 4 ∷ [])) (1 ∷ 2 ∷ 13 ∷ 14 ∷ [])
    ∷ are (ended (λ a. a + 10) 7 false 2 (1 ∷ 2 ∷ 3 ∷ 4 ∷ [])) (1 ∷ 2 ∷ 3 ∷ 4 ∷ [])
    ∷ []

pub examples_hold : Hold examples
unfolding fetched counted held read fields four signed read_signed modulo read_residual tabulate change_cells
examples_hold = refl
