-- Worked examples of the definitions: a fault of each number, which comes first, and where 17 means nothing for the map.
use Prim.Native.Nat.{ℕ}
use mathlib.Core.Bool.{Bool, true, false}
use mathlib.Core.Path.{◌≡◌, refl}
use mathlib.Core.List.{List, [], ◌∷◌, ◌++◌, map}
use lib.IntN.{ℤ, pos, negsuc}
use lib.ListN.{replicate}
use Rattle.rules.specs.declared.answer.Answer.{Answer}
use Rattle.rules.specs.declared.answer.Size.{Size}
use Rattle.rules.specs.declared.v0.V0Head.{V0Head}
use Rattle.rules.specs.Reader.{fetched, counted, held, read, fields, four, signed, modulo, read_residual}
use Rattle.rules.specs.Frame.{change_cells}
use Rattle.rules.specs.V0.{fresh_row, operated, operate, head, bounded, predictor, length_of, length_bits, residual_bits, sample, samples, blocks, row_blocks, rows, put, apply, write, write_all, swap, exchange_columns, exchange_rows, exchange, frame}
use Rattle.rules.specs.Map.{v0_map}
use Rattle.rules.specs.V0 as V0
use Rattle.rules.specs.Answer as Plain
use Rattle.rules_clean.specs.Verdict.{fits, all_fit, first_fault, block_fault, blocks_fault, row_fault, rows_verdict, verdict}
use Rattle.rules_clean.specs.Clean as Clean
use Rattle.rules_clean.specs.Examples.{defined, examples}

abbrev told : Answer → List ℕ
told v = v.number ∷ v.row ∷ v.filler ∷ []

abbrev size : ℕ → ℕ → Size
size w h = record { width = w; height = h }

-- ── A block ──

pub lengths_that_fit : map fits (negsuc 0 ∷ pos 0 ∷ pos 16 ∷ pos 17 ∷ []) ≡ false ∷ true ∷ true ∷ false ∷ []
unfolding fits
lengths_that_fit = refl

pub all_four : map all_fit ((pos 0 ∷ pos 16 ∷ []) ∷ (pos 17 ∷ pos 0 ∷ []) ∷ (pos 0 ∷ pos 17 ∷ []) ∷ []) ≡ true ∷ false ∷ false ∷ []
unfolding fits all_fit
all_four = refl

pub in_sequence : first_fault true true true ∷ first_fault false true true ∷ first_fault false false true ∷ first_fault false false false ∷ [] ≡ 17 ∷ 18 ∷ 19 ∷ 0 ∷ []
unfolding first_fault
in_sequence = refl

abbrev head_of : Bool → ℤ → V0Head
head_of up l = record { up = up; row = record { lengths = pos 0 ∷ pos 0 ∷ pos 0 ∷ l ∷ []; bits = record { pos = 0; word = 0; count = 0; filler = 1 } } }

-- Direction 1 is a fault in rows 0 and 1 alone. The filler is that at the block's end.
pub block_faults : map (λ row. block_fault row (head_of true (pos 17)) (record { pos = 0; word = 0; count = 0; filler = 0 })) (0 ∷ 1 ∷ 2 ∷ []) ≡ 17 ∷ 17 ∷ 18 ∷ []
unfolding block_fault first_fault fits all_fit
block_faults = refl

pub ends : map (λ n. block_fault 2 (head_of true (pos 16)) (record { pos = 0; word = 0; count = 0; filler = n })) (0 ∷ 1 ∷ []) ≡ 0 ∷ 19 ∷ []
unfolding block_fault first_fault fits all_fit
ends = refl

-- ── Frames ──

-- A block with four lengths 0: of direction 0, and of direction 1.
abbrev down : List ℕ
down = 0x00 ∷ 0x00 ∷ 0x80 ∷ 0x7F ∷ []

abbrev up : List ℕ
up = 0x00 ∷ 0x00 ∷ 0x80 ∷ 0xFF ∷ []

-- Two blocks with lengths 0, of direction 0, and 0 and then 1.
abbrev down_down : List ℕ
down_down = 0x00 ∷ 0x00 ∷ 0x80 ∷ 0x7F ∷ 0x00 ∷ 0x00 ∷ 0x00 ∷ 0x00 ∷ []

abbrev down_up : List ℕ
down_up = 0x40 ∷ 0x00 ∷ 0x80 ∷ 0x7F ∷ replicate 4 0

-- Three blocks: lengths 0; each one less; and direction 1.
abbrev below : List ℕ
below = 0x2A ∷ 0x00 ∷ 0x80 ∷ 0x7F ∷ 0x00 ∷ 0x00 ∷ 0x00 ∷ 0xA0 ∷ []

-- Three blocks whose first length is 15, 16 and 17.
abbrev above : List ℕ
above =
    (0x00 ∷ 0x00 ∷ 0xF8 ∷ 0x7F ∷ []) ++ replicate 5 0 ++ (0x01 ∷ []) ++ replicate 13 0 ++ (0x80 ∷ []) ++ replicate 8 0

-- Direction 1 and lengths kept: two words.
abbrev late : List ℕ
late = 0x00 ∷ 0x00 ∷ 0x00 ∷ 0x80 ∷ replicate 4 0

-- No columns; no rows; a block with all lengths 0; direction 1 in row 2; lengths up to 16; and row 2 of width 1, where eight samples are
-- skipped and read nothing, so that two words are enough.
pub taken : map told (
    verdict [] (0 ∷ []) (size 0 1)
    ∷ verdict [] [] (size 1 0)
    ∷ verdict down (0 ∷ []) (size 1 1)
    ∷ verdict (down ++ up) (0 ∷ 0 ∷ 4 ∷ []) (size 1 3)
    ∷ verdict above (0 ∷ []) (size 32 1)
    ∷ verdict (down ++ late) (0 ∷ 0 ∷ 4 ∷ []) (size 1 3)
    ∷ []
    ) ≡ replicate 6 (0 ∷ 0 ∷ 0 ∷ [])
unfolding verdict rows_verdict row_fault blocks_fault block_fault first_fault fits all_fit fresh_row operated operate head bounded predictor length_of length_bits residual_bits sample samples fetched counted held read fields four signed modulo read_residual
taken = refl

-- 17: in row 0; in its second block; in row 1.
pub upward : map told (
    verdict up (0 ∷ []) (size 1 1)
    ∷ verdict down_up (0 ∷ []) (size 17 1)
    ∷ verdict (down ++ up) (0 ∷ 4 ∷ []) (size 2 2)
    ∷ []
    ) ≡ (17 ∷ 0 ∷ 0 ∷ []) ∷ (17 ∷ 0 ∷ 0 ∷ []) ∷ (17 ∷ 1 ∷ 0 ∷ []) ∷ []
unfolding verdict rows_verdict row_fault blocks_fault block_fault first_fault fits all_fit fresh_row operated operate head bounded predictor length_of length_bits residual_bits sample samples fetched counted held read fields four signed modulo read_residual
upward = refl

-- 18: below 0, before the next block's 17; 17 in the third block.
pub outside : map told (verdict below (0 ∷ []) (size 33 1) ∷ verdict above (0 ∷ []) (size 33 1) ∷ []) ≡ (18 ∷ 0 ∷ 0 ∷ []) ∷ (18 ∷ 0 ∷ 0 ∷ []) ∷ []
unfolding verdict rows_verdict row_fault blocks_fault block_fault first_fault fits all_fit fresh_row operated operate head bounded predictor length_of length_bits residual_bits sample samples fetched counted held read fields four signed modulo read_residual
outside = refl

-- A block with four lengths 1, of direction 0, and no more than its first word.
abbrev ones : List ℕ
ones = 0x80 ∷ 0x88 ∷ 0x88 ∷ 0x7F ∷ []

-- 19: the head's word is there and those of its residuals aren't, before the next row's 17; no word at all, in row 2; and at width 1
-- all sixteen residuals are read, since none that takes 128 is skipped.
pub missing : map told (
    verdict (up ++ replicate 4 0) (4 ∷ 0 ∷ []) (size 1 2)
    ∷ verdict down (0 ∷ 0 ∷ 4 ∷ []) (size 1 3)
    ∷ verdict ones (0 ∷ []) (size 1 1)
    ∷ []
    ) ≡ (19 ∷ 0 ∷ 0 ∷ []) ∷ (19 ∷ 2 ∷ 0 ∷ []) ∷ (19 ∷ 0 ∷ 0 ∷ []) ∷ []
unfolding verdict rows_verdict row_fault blocks_fault block_fault first_fault fits all_fit fresh_row operated operate head bounded predictor length_of length_bits residual_bits sample samples fetched counted held read fields four signed modulo read_residual
missing = refl

-- ── 17 and the map ──

-- 17 in row 1 means no mark at width 2, where samples that spilled over from row 0 fill what is skipped.
pub filled_before : v0_map (down ++ up) (0 ∷ 4 ∷ []) (size 2 2) ≡ replicate 4 0
unfolding v0_map frame exchange exchange_rows exchange_columns swap rows row_blocks blocks write_all write apply put change_cells fresh_row operated operate head bounded predictor length_of length_bits residual_bits sample samples fetched counted held read fields four signed modulo read_residual
filled_before = refl

-- 17 in row 1 means no mark in the second block at width 17, whose one sample within the row isn't skipped.
pub none_skipped : (told (verdict (down_down ++ down_up) (0 ∷ 8 ∷ []) (size 17 2)) ≡ 17 ∷ 1 ∷ 0 ∷ [])
    × (v0_map (down_down ++ down_up) (0 ∷ 8 ∷ []) (size 17 2) ≡ replicate 34 0)
unfolding v0_map verdict rows_verdict row_fault blocks_fault block_fault first_fault fits all_fit frame exchange exchange_rows exchange_columns swap rows row_blocks blocks write_all write apply put change_cells fresh_row operated operate head bounded predictor length_of length_bits residual_bits sample samples fetched counted held read fields four signed modulo read_residual
none_skipped = (refl, refl)

-- ── Calls ──

pub calls_hold : map defined examples ≡ examples
unfolding examples Clean.answer Clean.samples_after Clean.map_after Plain.too_large Plain.too_small Plain.short_offsets Plain.short_samples Plain.short_map Plain.short_scratch Plain.first_of Plain.refusal Plain.frame_samples Plain.frame_marks Plain.unless_refused Plain.samples_after Plain.map_after V0.decoded v0_map verdict rows_verdict row_fault blocks_fault block_fault first_fault fits all_fit frame exchange exchange_rows exchange_columns swap rows row_blocks blocks write_all write apply put change_cells fresh_row operated operate head bounded predictor length_of length_bits residual_bits sample samples fetched counted held read fields four signed modulo read_residual
calls_hold = refl
