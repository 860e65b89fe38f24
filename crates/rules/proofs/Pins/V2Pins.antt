-- Pinned examples of specs/V2.antt and specs/References.antt, by the definition's name.
use Prim.Native.Nat.{ℕ, ◌+◌, ◌-◌, ◌*◌, ◌^◌}
use mathlib.Core.Bool.{true, false}
use mathlib.Core.Path.{refl}
use mathlib.Core.List.{List, [], ◌∷◌, ◌++◌, map}
use lib.ListN.{get_or, replicate}
use lib.IntN.{ℤ, pos, negsuc}
use Rattle.rules.specs.declared.reader.Bits.{Bits}
use Rattle.rules.specs.declared.v2.V2Hdr.{V2Hdr}
use Rattle.rules.specs.declared.reader.Taken.{Taken}
use Rattle.rules.specs.declared.v2.V2Row.{V2Row}
use Rattle.rules.specs.V2.{V2Block}
use Rattle.rules.specs.V2.{Next, EarlyMotion, Outside, LongDifference}
use Rattle.rules.specs.Reader.{fresh, fetched, counted, held, read, fields, four, signed, read_signed}
use Rattle.rules.specs.Frame.{tabulate, change_cells}
use Rattle.rules.specs.V2.{Kind, field_widths, header, top, option_1, option_2, option_4, aligned, fresh_row, fresh_mode, scale_steps, rescaled, read_scale, read_motion, Base, given, copied, averaged, repeated, motion_offsets, motion_averages, reference, referred, base, refers_before, base_refusal, lengths_bit, colour, read_length, Moded, length_step, lengths_from, no_lengths, flagged_lengths, read_lengths, position, Differences, difference_step, differences_from, read_differences, Block, number, state_after, Tail, tail, based_tail, read_block, Row, then, blocks, read_row, Frame, then_rows, rows, read_frame, base_cell, block_cells, write, apply, frame, average, value, hold, sample, sample_kind, decoded}
use Rattle.rules.specs.References.{outside, strays, any_strays, tested_refusal}
use Rattle.rules.specs.Examples.{Example}
use Rattle.rules.proofs.Pins.Values.{is, are, Hold, of_bool, minus, of_ℤ, bits, of_bits, of_got, size, words}

-- ── How values are written ──

abbrev of_header : Taken V2Hdr → List ℕ
of_header x = x.value.depth ∷ x.value.options ∷ x.value.initial ∷ of_bits x.bits

abbrev of_scale : Taken ℤ → List ℕ
of_scale x = of_ℤ x.value ∷ of_bits x.bits

-- A base: 0 and a number, 1 and a place, 2 and the two places of an average.
abbrev of_base : Base → List ℕ
of_base (given v) = 0 ∷ v ∷ []
of_base (copied p) = 1 ∷ p ∷ []
of_base (averaged p q) = 2 ∷ p ∷ q ∷ []

unfoldable pub of_mode : List (List ℕ) → List ℕ
of_mode [] = []
of_mode (p ∷ ps) = p ++ of_mode ps

-- Four lengths, whether one was too long, the reader, and what is remembered.
abbrev of_moded : Moded → List ℕ
of_moded x = x.lengths.four ++ (of_bool x.lengths.long ∷ of_bits x.lengths.bits) ++ of_mode x.mode

abbrev of_differences : Differences → List ℕ
of_differences x = map of_ℤ x.values ++ of_bits x.bits

-- An outcome: its number, after 0 motion and scale, and the reader.
abbrev of_outcome : V2Block → List ℕ
of_outcome (Next b st) = 0 ∷ st.motion ∷ of_ℤ st.scale ∷ of_bits b
of_outcome (EarlyMotion b) = 5 ∷ of_bits b
of_outcome (Outside b) = 6 ∷ of_bits b
of_outcome (LongDifference b) = 7 ∷ of_bits b

abbrev of_tail : Tail → List ℕ
of_tail x = of_outcome x.outcome ++ of_mode x.mode ++ map of_ℤ x.differences

-- A block: whether there was filler, place, scale, the bases of samples 0 and 1, and the differences.
abbrev of_block : Block → List ℕ
of_block b = of_bool b.filler ∷ b.place ∷ of_ℤ b.scale ∷ of_base (b.base 0) ++ of_base (b.base 1) ++ map of_ℤ b.differences

abbrev a_block : ℕ → Block
a_block place = record { place = place; scale = pos 0; base = given; differences = []; filler = false }

abbrev state : ℕ → ℕ → V2Row
state motion scale = record { motion = motion; scale = pos scale }

abbrev block_at : ℕ → List Block → Block
block_at i bs = get_or bs i (a_block 0)

-- A row: number, reader, and the places of its blocks. A frame: number, row, missing words, and the places.
abbrev of_row : Row → List ℕ
of_row q = q.number ∷ of_bits q.bits ++ map (λ b. b.place) q.blocks

abbrev of_frame : Frame → List ℕ
of_frame x = x.answer.number ∷ x.answer.row ∷ x.answer.filler ∷ map (λ b. b.place) x.blocks

-- ── What they are given ──

abbrev hdr : ℕ → V2Hdr
hdr options = record { depth = 8; options = options; initial = 300 }

abbrev zeros : List ℕ
zeros = 0 ∷ 0 ∷ 0 ∷ 0 ∷ []

abbrev mode : List (List ℕ)
mode = (1 ∷ 2 ∷ []) ∷ (3 ∷ 9 ∷ []) ∷ (5 ∷ 6 ∷ []) ∷ []

abbrev flags : List ℕ
flags = 0 ∷ 3 ∷ 1 ∷ 2 ∷ []

abbrev four_lengths : List ℕ
four_lengths = 2 ∷ 4 ∷ 3 ∷ 1 ∷ []

abbrev no_differences : Differences
no_differences = record { values = replicate 16 (pos 0); bits = fresh 4 }

-- What follows a block; a row, and the rows below it.
abbrev rest : Bits → V2Row → Row
rest b st = record { blocks = a_block 20 ∷ []; number = st.motion; bits = b }

abbrev a_row : ℕ → ℕ → Row
a_row n missing = record { blocks = a_block 10 ∷ []; number = n; bits = bits 0 0 0 missing }

abbrev below : Frame
below = record { blocks = a_block 30 ∷ []; answer = record { number = 9; row = 4; filler = 5 } }

-- Each sample is the one after it in the frame, and difference i is 2 i.
abbrev shifted : ℕ → Block
shifted place = record { place = place; scale = pos 0; base = λ i. copied (i + 1); differences = tabulate 16 0 (λ i. pos (2 * i)); filler = true }

-- A header with each field another; a bit 0, flags 0, 3, 1, 2 and lengths; a block; two blocks; two of which
-- the second has a length that is too long; a row; a frame of three rows.
abbrev header_bytes : List ℕ
header_bytes = 0x9A ∷ 0x5B ∷ 0x34 ∷ 0x12 ∷ 0x12 ∷ 0xF0 ∷ 0xDE ∷ 0xBC ∷ 0x89 ∷ 0x76 ∷ 0x56 ∷ 0x34 ∷ 0x2C ∷ 0x81 ∷ 0xCD ∷ 0xAB ∷ []

abbrev flag_bytes : List ℕ
flag_bytes = 0x00 ∷ 0x00 ∷ 0x3C ∷ 0x1B ∷ []

abbrev block_bytes : List ℕ
block_bytes = 0xA7 ∷ 0xF6 ∷ 0x6C ∷ 0x8C ∷ []

abbrev two_blocks : List ℕ
two_blocks = 0x97 ∷ 0x12 ∷ 0xDD ∷ 0x2E ∷ 0x6A ∷ 0xAE ∷ 0xB9 ∷ 0x4B ∷ 0xAE ∷ 0x8D ∷ 0x2F ∷ 0x9F ∷ []

abbrev long_second : List ℕ
long_second = 0x5B ∷ 0xFF ∷ 0xAD ∷ 0x5C ∷ 0x2D ∷ 0xFB ∷ 0x8B ∷ 0xB8 ∷ 0x20 ∷ 0xB6 ∷ 0x11 ∷ 0x9C ∷ []

abbrev row_bytes : List ℕ
row_bytes = 0x00 ∷ 0x00 ∷ 0x00 ∷ 0x00 ∷ 0x00 ∷ 0x00 ∷ 0x00 ∷ 0x00 ∷ 0x00 ∷ 0x00 ∷ 0x00 ∷ 0x00 ∷ 0x00 ∷ 0x00 ∷ 0x00 ∷ 0x00 ∷ 0x6C ∷ 0xA0 ∷ 0xA2 ∷ 0x2A ∷ 0x38 ∷ 0x1B ∷ 0xA8 ∷ 0x86 ∷ 0xF4 ∷ 0xBE ∷ 0xD5 ∷ 0x1B ∷ 0x63 ∷ 0x0A ∷ 0x22 ∷ 0x59 ∷ []

abbrev pub frame_bytes : List ℕ
frame_bytes = 0x00 ∷ 0x08 ∷ 0x00 ∷ 0x00 ∷ 0x00 ∷ 0x00 ∷ 0x00 ∷ 0x00 ∷ 0x00 ∷ 0x00 ∷ 0x00 ∷ 0x00 ∷ 0x2C ∷ 0x01 ∷ 0x00 ∷ 0x00 ∷ 0x23 ∷ 0xFF ∷ 0x06 ∷ 0xC0 ∷ 0xA9 ∷ 0x70 ∷ 0x67 ∷ 0x10 ∷ 0x00 ∷ 0x00 ∷ 0x00 ∷ 0x00 ∷ 0x00 ∷ 0x00 ∷ 0x00 ∷ 0x00 ∷ 0xBB ∷ 0x1D ∷ 0x72 ∷ 0x63 ∷ 0x00 ∷ 0x00 ∷ 0xED ∷ 0x76 ∷ 0x00 ∷ 0x00 ∷ 0x00 ∷ 0x00 ∷ 0x00 ∷ 0x00 ∷ 0x00 ∷ 0x00 ∷ 0x42 ∷ 0x60 ∷ 0xFE ∷ 0x91 ∷ 0x00 ∷ 0x4A ∷ 0x4E ∷ 0xEE ∷ 0x00 ∷ 0x00 ∷ 0x00 ∷ 0x00 ∷ 0x00 ∷ 0x00 ∷ 0x00 ∷ 0x00 ∷ []

-- A kind of cell in which differences change nothing, and filler adds n.
abbrev low_kind : ℕ → Kind ℕ
low_kind n = record { constant = λ v. v; average = λ a b. a; adjust = λ scale d a. a; filled = λ a. a + n }

-- ── The list ──

abbrev pub examples : List Example
examples =
    -- field_widths, header: fields 2, 8 and 12 count
    are field_widths (16 ∷ 4 ∷ 4 ∷ 8 ∷ 16 ∷ 16 ∷ 16 ∷ 4 ∷ 4 ∷ 16 ∷ 8 ∷ 2 ∷ 14 ∷ [])
    ∷ are (of_header (header header_bytes)) (12 ∷ 6 ∷ 300 ∷ 16 ∷ 0xABCD_812C ∷ 0 ∷ 0 ∷ [])
    -- top; options 1, 2 and 4, of all options
    ∷ are (map (λ d. top (record { depth = d; options = 0; initial = 0 })) (1 ∷ 8 ∷ 16 ∷ [])) (1 ∷ 255 ∷ 65_535 ∷ [])
    ∷ are (tabulate 16 0 (λ o. of_bool (option_1 (hdr o)))) (0 ∷ 1 ∷ 0 ∷ 1 ∷ 0 ∷ 1 ∷ 0 ∷ 1 ∷ 0 ∷ 1 ∷ 0 ∷ 1 ∷ 0 ∷ 1 ∷ 0 ∷ 1 ∷ [])
    ∷ are (tabulate 16 0 (λ o. of_bool (option_2 (hdr o)))) (0 ∷ 0 ∷ 1 ∷ 1 ∷ 0 ∷ 0 ∷ 1 ∷ 1 ∷ 0 ∷ 0 ∷ 1 ∷ 1 ∷ 0 ∷ 0 ∷ 1 ∷ 1 ∷ [])
    ∷ are (tabulate 16 0 (λ o. of_bool (option_4 (hdr o)))) (0 ∷ 0 ∷ 0 ∷ 0 ∷ 1 ∷ 1 ∷ 1 ∷ 1 ∷ 0 ∷ 0 ∷ 0 ∷ 0 ∷ 1 ∷ 1 ∷ 1 ∷ 1 ∷ [])
    -- aligned: at a multiple, past one, before one, round the end; the count of missing words stays
    ∷ are (of_bits (aligned (bits 32 5 6 0))) (32 ∷ 0 ∷ 0 ∷ 0 ∷ [])
    ∷ are (of_bits (aligned (bits 33 5 6 7))) (48 ∷ 0 ∷ 0 ∷ 7 ∷ [])
    ∷ are (of_bits (aligned (bits 47 5 6 0))) (48 ∷ 0 ∷ 0 ∷ 0 ∷ [])
    ∷ are (of_bits (aligned (bits (2 ^ 64 - 1) 5 6 7))) (0 ∷ 0 ∷ 0 ∷ 7 ∷ [])
    ∷ are (of_bits (aligned (bits (2 ^ 63 + 1) 5 6 0))) ((2 ^ 63 + 16) ∷ 0 ∷ 0 ∷ 0 ∷ [])
    -- fresh_row; fresh_mode: 7 up to row 1, then 4
    ∷ are (fresh_row.motion ∷ of_ℤ fresh_row.scale ∷ []) (7 ∷ 0 ∷ [])
    ∷ are (of_mode (fresh_mode 1)) (7 ∷ 7 ∷ 7 ∷ 7 ∷ 7 ∷ 7 ∷ [])
    ∷ are (of_mode (fresh_mode 2)) (4 ∷ 4 ∷ 4 ∷ 4 ∷ 4 ∷ 4 ∷ [])
    -- scale_steps; rescaled: codes 0 to 3
    ∷ are (map of_ℤ scale_steps) (0 ∷ minus 2 ∷ 2 ∷ [])
    ∷ are (of_scale (rescaled (0x00 ∷ 0x00 ∷ 0x00 ∷ 0x00 ∷ []) (pos 1) (fresh 0))) (1 ∷ 4 ∷ 0 ∷ 30 ∷ 0 ∷ [])
    ∷ are (of_scale (rescaled (0x00 ∷ 0x00 ∷ 0x00 ∷ 0x40 ∷ []) (pos 1) (fresh 0))) (minus 1 ∷ 4 ∷ 0x4000_0000 ∷ 30 ∷ 0 ∷ [])
    ∷ are (of_scale (rescaled (0x00 ∷ 0x00 ∷ 0x00 ∷ 0x80 ∷ []) (pos 1) (fresh 0))) (3 ∷ 4 ∷ 0x8000_0000 ∷ 30 ∷ 0 ∷ [])
    ∷ are (of_scale (rescaled (0x00 ∷ 0x00 ∷ 0x14 ∷ 0xE0 ∷ []) (pos 1) (fresh 0))) (2053 ∷ 4 ∷ 0xE014_0000 ∷ 18 ∷ 0 ∷ [])
    -- read_scale: at a multiple of 64 with option 4 clear
    ∷ are (of_scale (read_scale words (hdr 3) 0 (pos 9) (fresh 0))) (11 ∷ 4 ∷ 0xA000_0000 ∷ 30 ∷ 0 ∷ [])
    ∷ are (of_scale (read_scale words (hdr 3) 64 (pos 9) (fresh 0))) (11 ∷ 4 ∷ 0xA000_0000 ∷ 30 ∷ 0 ∷ [])
    ∷ are (of_scale (read_scale words (hdr 3) 16 (pos 9) (fresh 0))) (9 ∷ 0 ∷ 0 ∷ 0 ∷ 0 ∷ [])
    ∷ are (of_scale (read_scale words (hdr 3) 63 (pos 9) (fresh 0))) (9 ∷ 0 ∷ 0 ∷ 0 ∷ 0 ∷ [])
    ∷ are (of_scale (read_scale words (hdr 4) 64 (pos 9) (fresh 0))) (9 ∷ 0 ∷ 0 ∷ 0 ∷ 0 ∷ [])
    -- read_motion: with option 2 a bit, else a bit and 3 more or none
    ∷ are (of_got (read_motion words (hdr 2) 4 (fresh 0))) (3 ∷ 4 ∷ 0xA000_0000 ∷ 31 ∷ 0 ∷ [])
    ∷ are (of_got (read_motion zeros (hdr 2) 4 (fresh 0))) (7 ∷ 4 ∷ 0 ∷ 31 ∷ 0 ∷ [])
    ∷ are (of_got (read_motion words (hdr 5) 4 (fresh 0))) (4 ∷ 4 ∷ 0xA000_0000 ∷ 31 ∷ 0 ∷ [])
    ∷ are (of_got (read_motion (0 ∷ 0 ∷ 0 ∷ 0x50 ∷ []) (hdr 5) 4 (fresh 0))) (5 ∷ 4 ∷ 0x5000_0000 ∷ 28 ∷ 0 ∷ [])
    -- repeated: the initial sample at column 0; then the first of the two before the block for even i, the second for odd
    ∷ are (of_base (repeated (hdr 0) 20 3 0 3)) (0 ∷ 300 ∷ [])
    ∷ are (of_base (repeated (hdr 0) 20 3 16 2)) (1 ∷ 74 ∷ [])
    ∷ are (of_base (repeated (hdr 0) 20 3 16 3)) (1 ∷ 75 ∷ [])
    -- motion_offsets, motion_averages
    ∷ are (map of_ℤ motion_offsets) (minus 4 ∷ minus 2 ∷ minus 2 ∷ 0 ∷ 0 ∷ 2 ∷ 4 ∷ [])
    ∷ are (map of_bool motion_averages) (0 ∷ 0 ∷ 1 ∷ 0 ∷ 1 ∷ 0 ∷ 0 ∷ [])
    -- reference: two rows up where row + i is odd; else one, and a column to the right for even i, to the left for odd
    ∷ is (of_ℤ (reference 100 4 32 0 3)) 231
    ∷ is (of_ℤ (reference 100 4 32 0 2)) 331
    ∷ is (of_ℤ (reference 100 5 32 6 2)) 338
    ∷ is (of_ℤ (reference 100 5 32 6 3)) 438
    ∷ is (of_ℤ (reference 100 2 0 0 1)) (minus 3)
    -- a motion that the tables don't have has offset 0 and doesn't average
    ∷ are (of_ℤ (reference 100 4 32 7 3) ∷ of_ℤ (reference 100 4 32 7 2) ∷ of_base (referred 100 4 32 7 3)) (235 ∷ 335 ∷ 1 ∷ 235 ∷ [])
    -- referred: motion 2 averages, 3 copies; base: motion 7 repeats
    ∷ are (of_base (referred 100 4 32 2 3)) (2 ∷ 233 ∷ 235 ∷ [])
    ∷ are (of_base (referred 100 4 32 3 3)) (1 ∷ 235 ∷ [])
    ∷ are (of_base (base (hdr 0) 100 4 32 7 3)) (1 ∷ 431 ∷ [])
    ∷ are (of_base (base (hdr 0) 100 4 32 6 3)) (1 ∷ 239 ∷ [])
    -- outside: below 0; at N, and with what an average takes beside it
    ∷ are (map (λ p. of_bool (outside 10 0 p)) (negsuc 0 ∷ pos 0 ∷ pos 9 ∷ pos 10 ∷ [])) (1 ∷ 0 ∷ 0 ∷ 1 ∷ [])
    ∷ are (map (λ p. of_bool (outside 10 2 p)) (pos 7 ∷ pos 8 ∷ [])) (0 ∷ 1 ∷ [])
    -- strays: sample 3 of motion 4 refers to 235 and 237, of motion 3 to 235 alone
    ∷ is (of_bool (strays 238 100 4 32 4 3)) 0
    ∷ is (of_bool (strays 237 100 4 32 4 3)) 1
    ∷ is (of_bool (strays 236 100 4 32 3 3)) 0
    ∷ is (of_bool (strays 235 100 4 32 3 3)) 1
    ∷ is (of_bool (strays 236 100 4 32 7 3)) 0
    -- any_strays: samples 0, 1 and 2 refer to 333, 233 and 335
    ∷ is (of_bool (any_strays 334 100 4 32 3 2 0)) 0
    ∷ is (of_bool (any_strays 336 100 4 32 3 2 1)) 0
    ∷ is (of_bool (any_strays 335 100 4 32 3 2 1)) 1
    ∷ is (of_bool (any_strays 335 100 4 32 3 1 1)) 0
    ∷ is (of_bool (any_strays 335 100 4 32 3 1 2)) 1
    ∷ is (of_bool (any_strays 0 100 4 32 3 0 1)) 0
    -- base_refusal: none for motion 7; 5 in rows 0 and 1; 6 where the block refers to before the frame
    ∷ are (map (λ m. base_refusal 0 32 m) (7 ∷ 3 ∷ []) ++ map (λ m. base_refusal 1 0 m) (7 ∷ 0 ∷ [])) (0 ∷ 5 ∷ 0 ∷ 5 ∷ [])
    ∷ are (map (λ m. base_refusal 2 0 m) (0 ∷ 1 ∷ 2 ∷ 3 ∷ 7 ∷ [])) (6 ∷ 6 ∷ 6 ∷ 0 ∷ 0 ∷ [])
    ∷ are (base_refusal 2 16 0 ∷ base_refusal 3 0 0 ∷ []) (0 ∷ 0 ∷ [])
    -- refers_before: row 2, column 0, motions 0 to 2
    ∷ are (map (λ m. of_bool (refers_before 2 0 m)) (0 ∷ 2 ∷ 3 ∷ [])) (1 ∷ 1 ∷ 0 ∷ [])
    ∷ are (of_bool (refers_before 1 0 0) ∷ of_bool (refers_before 3 0 0) ∷ of_bool (refers_before 2 1 0) ∷ []) (0 ∷ 0 ∷ 0 ∷ [])
    -- tested_refusal: none for motion 7; 5 before 6; 6 for sample 0 alone (below 0) and for sample 15 alone (at N)
    ∷ are (tested_refusal 0 100 0 32 7 ∷ tested_refusal 0 100 1 32 3 ∷ tested_refusal 0 100 2 32 3 ∷ []) (0 ∷ 5 ∷ 6 ∷ [])
    ∷ are (tested_refusal 999 3 3 0 0 ∷ tested_refusal 446 100 5 32 3 ∷ tested_refusal 447 100 5 32 3 ∷ tested_refusal 348 100 4 32 3 ∷ []) (6 ∷ 6 ∷ 0 ∷ 0 ∷ [])
    ∷ is (tested_refusal 349 100 4 33 3) 0
    -- lengths_bit: with option 1 nothing is read
    ∷ are (of_got (lengths_bit words (hdr 1) (fresh 0))) (0 ∷ 0 ∷ 0 ∷ 0 ∷ 0 ∷ [])
    ∷ are (of_got (lengths_bit words (hdr 6) (fresh 0))) (1 ∷ 4 ∷ 0xA000_0000 ∷ 31 ∷ 0 ∷ [])
    -- colour: of odd rows, of even rows
    ∷ are (tabulate 4 0 (colour 3)) (0 ∷ 0 ∷ 1 ∷ 1 ∷ [])
    ∷ are (tabulate 4 0 (colour 2)) (2 ∷ 2 ∷ 0 ∷ 0 ∷ [])
    -- read_length: flags 0 to 3; one more and one less go round
    ∷ are (of_got (read_length words 0 5 (fresh 0))) (5 ∷ 0 ∷ 0 ∷ 0 ∷ 0 ∷ [])
    ∷ are (of_got (read_length words 1 5 (fresh 0))) (6 ∷ 0 ∷ 0 ∷ 0 ∷ 0 ∷ [])
    ∷ are (of_got (read_length words 1 0x7fff_ffff (fresh 0))) (0x8000_0000 ∷ 0 ∷ 0 ∷ 0 ∷ 0 ∷ [])
    ∷ are (of_got (read_length words 1 0xffff_ffff (fresh 0))) (0 ∷ 0 ∷ 0 ∷ 0 ∷ 0 ∷ [])
    ∷ are (of_got (read_length words 2 5 (fresh 0))) (4 ∷ 0 ∷ 0 ∷ 0 ∷ 0 ∷ [])
    ∷ are (of_got (read_length words 2 0 (fresh 0))) (0xFFFF_FFFF ∷ 0 ∷ 0 ∷ 0 ∷ 0 ∷ [])
    ∷ are (of_got (read_length words 3 5 (fresh 0))) (10 ∷ 4 ∷ 0xA000_0000 ∷ 28 ∷ 0 ∷ [])
    -- length_step: the second remembered becomes the first, the new one the second; too long above depth + 1; 0 for what isn't there
    ∷ are (of_moded (length_step words 3 1 flags 2 (no_lengths mode (fresh 0)))) (0 ∷ 0 ∷ 4 ∷ 0 ∷ 0 ∷ 0 ∷ 0 ∷ 0 ∷ 0 ∷ 1 ∷ 2 ∷ 9 ∷ 4 ∷ 5 ∷ 6 ∷ [])
    ∷ are (of_moded (length_step words 2 1 flags 2 (no_lengths mode (fresh 0)))) (0 ∷ 0 ∷ 4 ∷ 0 ∷ 1 ∷ 0 ∷ 0 ∷ 0 ∷ 0 ∷ 1 ∷ 2 ∷ 9 ∷ 4 ∷ 5 ∷ 6 ∷ [])
    ∷ are (of_moded (length_step words 9 2 flags 1 (no_lengths mode (fresh 0)))) (0 ∷ 10 ∷ 0 ∷ 0 ∷ 0 ∷ 4 ∷ 0xA000_0000 ∷ 28 ∷ 0 ∷ 1 ∷ 2 ∷ 3 ∷ 9 ∷ 6 ∷ 10 ∷ [])
    ∷ are (of_moded (length_step words 9 1 [] 0 (no_lengths ((5 ∷ []) ∷ []) (fresh 0)))) (5 ∷ 0 ∷ 0 ∷ 0 ∷ 0 ∷ 0 ∷ 0 ∷ 0 ∷ 0 ∷ 0 ∷ 5 ∷ [])
    ∷ are (of_moded (length_step words 9 1 flags 0 (no_lengths ([] ∷ []) (fresh 0)))) (0 ∷ 0 ∷ 0 ∷ 0 ∷ 0 ∷ 0 ∷ 0 ∷ 0 ∷ 0 ∷ 0 ∷ 0 ∷ [])
    -- lengths_from: three from number 1 on; up to the first that is too long
    ∷ are (of_moded (lengths_from words 9 1 flags 3 1 (no_lengths mode (fresh 0)))) (0 ∷ 10 ∷ 4 ∷ 8 ∷ 0 ∷ 4 ∷ 0xA000_0000 ∷ 28 ∷ 0 ∷ 2 ∷ 10 ∷ 4 ∷ 8 ∷ 5 ∷ 6 ∷ [])
    ∷ are (of_moded (lengths_from words 3 1 flags 3 1 (no_lengths mode (fresh 0)))) (0 ∷ 10 ∷ 0 ∷ 0 ∷ 1 ∷ 4 ∷ 0xA000_0000 ∷ 28 ∷ 0 ∷ 2 ∷ 10 ∷ 3 ∷ 9 ∷ 5 ∷ 6 ∷ [])
    ∷ are (of_moded (lengths_from words 9 1 flags 0 1 (no_lengths mode (fresh 0)))) (0 ∷ 0 ∷ 0 ∷ 0 ∷ 0 ∷ 0 ∷ 0 ∷ 0 ∷ 0 ∷ 1 ∷ 2 ∷ 3 ∷ 9 ∷ 5 ∷ 6 ∷ [])
    -- no_lengths
    ∷ are (of_moded (no_lengths mode (fresh 9))) (0 ∷ 0 ∷ 0 ∷ 0 ∷ 0 ∷ 9 ∷ 0 ∷ 0 ∷ 0 ∷ 1 ∷ 2 ∷ 3 ∷ 9 ∷ 5 ∷ 6 ∷ [])
    -- flagged_lengths, read_lengths: with option 1; after a bit 0; none after a bit 1
    ∷ are (of_moded (flagged_lengths flag_bytes 8 1 mode (read flag_bytes (fresh 0) 1).bits)) (1 ∷ 7 ∷ 4 ∷ 8 ∷ 0 ∷ 4 ∷ 0x1B3C_0000 ∷ 19 ∷ 0 ∷ 1 ∷ 7 ∷ 4 ∷ 8 ∷ 5 ∷ 6 ∷ [])
    ∷ are (of_moded (read_lengths flag_bytes (hdr 1) 1 mode (read flag_bytes (fresh 0) 1).bits)) (1 ∷ 7 ∷ 4 ∷ 8 ∷ 0 ∷ 4 ∷ 0x1B3C_0000 ∷ 19 ∷ 0 ∷ 1 ∷ 7 ∷ 4 ∷ 8 ∷ 5 ∷ 6 ∷ [])
    ∷ are (of_moded (read_lengths flag_bytes (hdr 0) 1 mode (fresh 0))) (1 ∷ 7 ∷ 4 ∷ 8 ∷ 0 ∷ 4 ∷ 0x1B3C_0000 ∷ 19 ∷ 0 ∷ 1 ∷ 7 ∷ 4 ∷ 8 ∷ 5 ∷ 6 ∷ [])
    ∷ are (of_moded (read_lengths words (hdr 0) 1 mode (fresh 0))) (0 ∷ 0 ∷ 0 ∷ 0 ∷ 0 ∷ 4 ∷ 0xA000_0000 ∷ 31 ∷ 0 ∷ 1 ∷ 2 ∷ 3 ∷ 9 ∷ 5 ∷ 6 ∷ [])
    -- position: of even rows, of odd rows
    ∷ are (tabulate 16 0 (position 2)) (0 ∷ 2 ∷ 4 ∷ 6 ∷ 8 ∷ 10 ∷ 12 ∷ 14 ∷ 1 ∷ 3 ∷ 5 ∷ 7 ∷ 9 ∷ 11 ∷ 13 ∷ 15 ∷ [])
    ∷ are (tabulate 16 0 (position 3)) (1 ∷ 3 ∷ 5 ∷ 7 ∷ 9 ∷ 11 ∷ 13 ∷ 15 ∷ 0 ∷ 2 ∷ 4 ∷ 6 ∷ 8 ∷ 10 ∷ 12 ∷ 14 ∷ [])
    -- difference_step: number 5 has the second length, and stands at position 10 in an even row
    ∷ are (of_differences (difference_step words 2 four_lengths 5 no_differences)) (0 ∷ 0 ∷ 0 ∷ 0 ∷ 0 ∷ 0 ∷ 0 ∷ 0 ∷ 0 ∷ 0 ∷ minus 8 ∷ 0 ∷ 0 ∷ 0 ∷ 0 ∷ 0 ∷ 8 ∷ 0x8765_4321 ∷ 28 ∷ 0 ∷ [])
    ∷ are (of_differences (difference_step words 2 [] 5 no_differences)) (0 ∷ 0 ∷ 0 ∷ 0 ∷ 0 ∷ 0 ∷ 0 ∷ 0 ∷ 0 ∷ 0 ∷ 0 ∷ 0 ∷ 0 ∷ 0 ∷ 0 ∷ 0 ∷ 4 ∷ 0 ∷ 0 ∷ 0 ∷ [])
    -- differences_from: two from number 7 on; read_differences: all, in an odd row
    ∷ are (of_differences (differences_from words 2 four_lengths 2 7 no_differences)) (0 ∷ 3 ∷ 0 ∷ 0 ∷ 0 ∷ 0 ∷ 0 ∷ 0 ∷ 0 ∷ 0 ∷ 0 ∷ 0 ∷ 0 ∷ 0 ∷ minus 8 ∷ 0 ∷ 8 ∷ 0x8765_4321 ∷ 25 ∷ 0 ∷ [])
    ∷ are (of_differences (read_differences words 3 four_lengths (fresh 4))) (1 ∷ minus 2 ∷ 0 ∷ 0 ∷ 3 ∷ 1 ∷ minus 1 ∷ minus 1 ∷ minus 1 ∷ 6 ∷ minus 1 ∷ 5 ∷ minus 1 ∷ 4 ∷ minus 1 ∷ 3 ∷ 12 ∷ 0xFFFF_FFFF ∷ 24 ∷ 1 ∷ [])
    -- number
    ∷ are (number (Next (fresh 0) fresh_row) ∷ number (EarlyMotion (fresh 0)) ∷ number (Outside (fresh 0)) ∷ number (LongDifference (fresh 0)) ∷ []) (0 ∷ 5 ∷ 6 ∷ 7 ∷ [])
    -- state_after: the reader of each
    ∷ are (map (λ o. (state_after o).pos) (Next (fresh 1) fresh_row ∷ EarlyMotion (fresh 2) ∷ Outside (fresh 3) ∷ LongDifference (fresh 4) ∷ [])) (1 ∷ 2 ∷ 3 ∷ 4 ∷ [])
    -- tail: differences, or 7 with the reader after the length at fault
    ∷ are (of_tail (tail flag_bytes (hdr 0) 1 (state 3 9) mode (fresh 0))) (0 ∷ 3 ∷ 9 ∷ 12 ∷ 0xFFFF_FFFF ∷ 3 ∷ 2 ∷ 1 ∷ 7 ∷ 4 ∷ 8 ∷ 5 ∷ 6 ∷ minus 1 ∷ minus 1 ∷ minus 1 ∷ 0 ∷ minus 1 ∷ 0 ∷ minus 1 ∷ 0 ∷ minus 1 ∷ 0 ∷ minus 1 ∷ 0 ∷ minus 1 ∷ 63 ∷ minus 1 ∷ minus 1 ∷ [])
    ∷ are (of_outcome (tail flag_bytes (record { depth = 3; options = 0; initial = 0 }) 1 (state 3 9) mode (fresh 0)).outcome) (7 ∷ 4 ∷ 0x1B3C_0000 ∷ 19 ∷ 0 ∷ [])
    -- based_tail: 5 and 6 read nothing more and remember nothing more
    ∷ are (of_tail (based_tail flag_bytes (hdr 0) 1 32 (state 3 9) mode (fresh 0))) (5 ∷ 0 ∷ 0 ∷ 0 ∷ 0 ∷ 1 ∷ 2 ∷ 3 ∷ 9 ∷ 5 ∷ 6 ∷ [])
    ∷ are (of_tail (based_tail flag_bytes (hdr 0) 2 0 (state 2 9) mode (fresh 0))) (6 ∷ 0 ∷ 0 ∷ 0 ∷ 0 ∷ 1 ∷ 2 ∷ 3 ∷ 9 ∷ 5 ∷ 6 ∷ [])
    ∷ are (of_tail (based_tail flag_bytes (hdr 0) 3 32 (state 3 9) mode (fresh 0))) (0 ∷ 3 ∷ 9 ∷ 12 ∷ 0xFFFF_FFFF ∷ 3 ∷ 2 ∷ 1 ∷ 7 ∷ 4 ∷ 8 ∷ 5 ∷ 6 ∷ minus 1 ∷ minus 1 ∷ minus 1 ∷ 0 ∷ minus 1 ∷ 0 ∷ minus 1 ∷ 0 ∷ minus 1 ∷ 0 ∷ minus 1 ∷ 0 ∷ minus 1 ∷ 63 ∷ minus 1 ∷ minus 1 ∷ [])
    -- read_block: scale code 2, motion 3, then as above; the place, scale, bases and differences of the block
    ∷ are (of_outcome (read_block block_bytes (hdr 0) 100 3 64 (fresh 0) (state 7 9) mode).outcome ++ of_mode (read_block block_bytes (hdr 0) 100 3 64 (fresh 0) (state 7 9) mode).mode) (0 ∷ 3 ∷ 11 ∷ 16 ∷ 0xFFFF_FFFF ∷ 29 ∷ 3 ∷ 1 ∷ 7 ∷ 4 ∷ 8 ∷ 5 ∷ 6 ∷ [])
    ∷ are (of_block (read_block block_bytes (hdr 0) 100 3 64 (fresh 0) (state 7 9) mode).block) (1 ∷ 364 ∷ 11 ∷ 1 ∷ 164 ∷ 1 ∷ 264 ∷ minus 1 ∷ minus 1 ∷ minus 1 ∷ 0 ∷ minus 1 ∷ minus 1 ∷ minus 1 ∷ minus 1 ∷ minus 1 ∷ 41 ∷ minus 1 ∷ minus 1 ∷ minus 1 ∷ minus 1 ∷ minus 1 ∷ minus 1 ∷ [])
    -- then: a block and what follows it; a refusal's block isn't written, and its number and reader stay
    ∷ are (of_row (then (Next (fresh 4) (state 3 9)) (a_block 10) rest)) (3 ∷ 4 ∷ 0 ∷ 0 ∷ 0 ∷ 10 ∷ 20 ∷ [])
    ∷ are (of_row (then (EarlyMotion (fresh 4)) (a_block 10) rest)) (5 ∷ 4 ∷ 0 ∷ 0 ∷ 0 ∷ [])
    ∷ are (of_row (then (Outside (fresh 4)) (a_block 10) rest)) (6 ∷ 4 ∷ 0 ∷ 0 ∷ 0 ∷ [])
    ∷ are (of_row (then (LongDifference (fresh 4)) (a_block 10) rest)) (7 ∷ 4 ∷ 0 ∷ 0 ∷ 0 ∷ [])
    -- blocks: two from column 48 on; the second has the first's state, lengths and reader; none
    ∷ are (of_row (blocks two_blocks (hdr 0) 100 3 2 48 (fresh 0) (state 7 2) mode)) (0 ∷ 12 ∷ 0x9F2F_8DAE ∷ 3 ∷ 0 ∷ 348 ∷ 364 ∷ [])
    ∷ are (of_block (block_at 1 (blocks two_blocks (hdr 0) 100 3 2 48 (fresh 0) (state 7 2) mode).blocks)) (0 ∷ 364 ∷ 1768 ∷ 2 ∷ 162 ∷ 164 ∷ 2 ∷ 262 ∷ 264 ∷ 2 ∷ minus 1 ∷ minus 1 ∷ minus 2 ∷ 1 ∷ minus 2 ∷ minus 3 ∷ 1 ∷ 83 ∷ 3 ∷ minus 27 ∷ minus 3 ∷ minus 15 ∷ minus 2 ∷ minus 75 ∷ 3 ∷ [])
    ∷ are (of_row (blocks two_blocks (hdr 0) 100 3 0 48 (fresh 5) (state 7 2) mode)) (0 ∷ 5 ∷ 0 ∷ 0 ∷ 0 ∷ [])
    ∷ are (of_row (blocks long_second (hdr 0) 100 3 2 48 (fresh 0) (state 7 2) mode)) (7 ∷ 4 ∷ 0x5CAD_FF5B ∷ 8 ∷ 0 ∷ 348 ∷ [])
    -- read_row: two whole blocks of 33 columns, at the next multiple of 16
    ∷ are (of_row (read_row row_bytes (hdr 0) 33 2 (bits 7 5 6 0))) (0 ∷ 32 ∷ 0x5922_0A63 ∷ 10 ∷ 0 ∷ 66 ∷ 82 ∷ [])
    ∷ are (of_block (block_at 0 (read_row row_bytes (hdr 0) 33 2 (bits 7 5 6 0)).blocks)) (0 ∷ 66 ∷ 0 ∷ 0 ∷ 300 ∷ 0 ∷ 300 ∷ 1 ∷ 3 ∷ 2 ∷ 2 ∷ minus 4 ∷ minus 3 ∷ 0 ∷ 0 ∷ 3 ∷ 0 ∷ 3 ∷ minus 2 ∷ 1 ∷ minus 2 ∷ 0 ∷ 3 ∷ [])
    ∷ are (of_block (block_at 1 (read_row row_bytes (hdr 0) 33 2 (bits 7 5 6 0)).blocks)) (0 ∷ 82 ∷ 0 ∷ 1 ∷ 80 ∷ 1 ∷ 81 ∷ minus 1 ∷ 1 ∷ minus 3 ∷ 6 ∷ 2 ∷ 4 ∷ minus 2 ∷ minus 8 ∷ minus 1 ∷ minus 2 ∷ minus 2 ∷ 0 ∷ minus 1 ∷ 0 ∷ minus 3 ∷ minus 2 ∷ [])
    -- then_rows: 5 to 7 before 8, with any count; 8 at every count but 0, and keeps the row; else the rows below follow
    ∷ are (of_frame (then_rows 3 (a_row 6 2) below)) (6 ∷ 3 ∷ 2 ∷ 10 ∷ [])
    ∷ are (of_frame (then_rows 3 (a_row 6 0) below)) (6 ∷ 3 ∷ 0 ∷ 10 ∷ [])
    ∷ are (of_frame (then_rows 3 (a_row 0 1) below)) (8 ∷ 3 ∷ 1 ∷ 10 ∷ [])
    ∷ are (of_frame (then_rows 3 (a_row 0 2) below)) (8 ∷ 3 ∷ 2 ∷ 10 ∷ [])
    ∷ are (of_frame (then_rows 3 (a_row 0 0) below)) (9 ∷ 4 ∷ 5 ∷ 10 ∷ 30 ∷ [])
    -- rows: each at the next multiple of 16, its own number; read_frame: the header, then all rows
    ∷ are (of_frame (rows frame_bytes (hdr 0) 17 2 1 (fresh 32))) (0 ∷ 0 ∷ 0 ∷ 17 ∷ 34 ∷ [])
    ∷ are (of_frame (rows frame_bytes (hdr 0) 17 0 1 (bits 0 0 0 7))) (0 ∷ 0 ∷ 7 ∷ [])
    ∷ are (of_frame (rows frame_bytes (hdr 0) 17 3 2 (fresh 48))) (8 ∷ 3 ∷ 1 ∷ 34 ∷ 51 ∷ [])
    ∷ are (of_frame (read_frame frame_bytes (size 17 3))) (0 ∷ 0 ∷ 0 ∷ 0 ∷ 17 ∷ 34 ∷ [])
    ∷ are (of_frame (read_frame frame_bytes (size 17 4))) (8 ∷ 3 ∷ 1 ∷ 0 ∷ 17 ∷ 34 ∷ 51 ∷ [])
    -- base_cell: a number, a cell, an average; 0 past the frame
    ∷ are (map (base_cell (sample_kind 255) (10 ∷ 20 ∷ 31 ∷ [])) (given 7 ∷ copied 1 ∷ averaged 1 2 ∷ copied 3 ∷ averaged 2 3 ∷ averaged 3 2 ∷ averaged 0 3 ∷ averaged 3 0 ∷ [])) (7 ∷ 20 ∷ 26 ∷ 0 ∷ 16 ∷ 16 ∷ 5 ∷ 5 ∷ [])
    -- block_cells: each of the sixteen from the frame as it was, with its own difference; apply: they are written at the block's place
    ∷ are (block_cells (sample_kind 255) (tabulate 19 1 (λ i. i)) (shifted 2)) (2 ∷ 5 ∷ 8 ∷ 11 ∷ 14 ∷ 17 ∷ 20 ∷ 23 ∷ 26 ∷ 29 ∷ 32 ∷ 35 ∷ 38 ∷ 41 ∷ 44 ∷ 47 ∷ [])
    ∷ are (block_cells (sample_kind 255) [] (a_block 0)) (0 ∷ 1 ∷ 2 ∷ 3 ∷ 4 ∷ 5 ∷ 6 ∷ 7 ∷ 8 ∷ 9 ∷ 10 ∷ 11 ∷ 12 ∷ 13 ∷ 14 ∷ 15 ∷ [])
    ∷ are (apply (sample_kind 255) (shifted 2 ∷ []) (tabulate 19 1 (λ i. i))) (1 ∷ 2 ∷ 2 ∷ 5 ∷ 8 ∷ 11 ∷ 14 ∷ 17 ∷ 20 ∷ 23 ∷ 26 ∷ 29 ∷ 32 ∷ 35 ∷ 38 ∷ 41 ∷ 44 ∷ 47 ∷ 19 ∷ [])
    ∷ are (apply (sample_kind 255) (shifted 2 ∷ shifted 3 ∷ []) (tabulate 19 1 (λ i. i))) (1 ∷ 2 ∷ 2 ∷ 2 ∷ 4 ∷ 9 ∷ 14 ∷ 19 ∷ 24 ∷ 29 ∷ 34 ∷ 39 ∷ 44 ∷ 49 ∷ 54 ∷ 59 ∷ 64 ∷ 69 ∷ 74 ∷ [])
    -- write: filler changes the sixteen cells that are written, if there was any
    ∷ are (write (low_kind 7) (shifted 2) (tabulate 19 1 (λ i. i))) (1 ∷ 2 ∷ tabulate 16 9 (λ i. i) ++ (19 ∷ []))
    ∷ are (write (low_kind 7) (a_block 1) (50 ∷ 50 ∷ 50 ∷ [])) (50 ∷ 0 ∷ 1 ∷ [])
    -- average; value; hold; sample_kind
    ∷ are (average 4 7 ∷ average 4 6 ∷ []) (6 ∷ 5 ∷ [])
    ∷ are (of_ℤ (value 100 (pos 3) (pos 2)) ∷ of_ℤ (value 3 (negsuc 6) (pos 1)) ∷ of_ℤ (value 3 (negsuc 1) (negsuc 1)) ∷ []) (117 ∷ minus 17 ∷ 7 ∷ [])
    ∷ are (map (hold 255) (negsuc 0 ∷ pos 0 ∷ pos 255 ∷ pos 256 ∷ [])) (0 ∷ 0 ∷ 255 ∷ 255 ∷ [])
    ∷ are ((sample_kind 9).constant 300 ∷ (sample_kind 9).average 4 7 ∷ sample 255 (pos 2) (pos 3) 100 ∷ (sample_kind 9).filled 300 ∷ []) (300 ∷ 6 ∷ 117 ∷ 300 ∷ [])
    -- decoded: a frame of 17 by 3, whose last row averages the two above it; the last sample of each row stays
    ∷ are (decoded frame_bytes (size 17 3) (tabulate 51 500 (λ i. i))) (304 ∷ 298 ∷ 295 ∷ 301 ∷ 304 ∷ 301 ∷ 298 ∷ 298 ∷ 310 ∷ 301 ∷ 289 ∷ 301 ∷ 304 ∷ 301 ∷ 307 ∷ 301 ∷ 516 ∷ 298 ∷ 355 ∷ 298 ∷ 355 ∷ 298 ∷ 355 ∷ 298 ∷ 355 ∷ 298 ∷ 298 ∷ 298 ∷ 298 ∷ 298 ∷ 298 ∷ 298 ∷ 298 ∷ 533 ∷ 372 ∷ 307 ∷ 342 ∷ 298 ∷ 347 ∷ 302 ∷ 339 ∷ 292 ∷ 300 ∷ 303 ∷ 300 ∷ 298 ∷ 300 ∷ 303 ∷ 418 ∷ 297 ∷ 550 ∷ [])
    ∷ []

pub examples_hold : Hold examples
unfolding fetched counted held read fields four signed read_signed tabulate change_cells of_mode header top aligned fresh_mode rescaled read_scale read_motion repeated reference referred base outside strays any_strays tested_refusal refers_before base_refusal lengths_bit colour read_length length_step lengths_from flagged_lengths read_lengths position difference_step differences_from read_differences tail based_tail read_block then blocks read_row then_rows rows read_frame base_cell block_cells write apply frame average value hold decoded
examples_hold = refl
