-- Pinned examples of specs/Answer.antt and specs/Limits.antt, by the definition's name.
use Prim.Native.Nat.{ℕ, ◌*◌}
use mathlib.Core.Bool.{true, false}
use mathlib.Core.Path.{refl}
use mathlib.Core.List.{List, [], ◌∷◌, ◌++◌, map}
use mathlib.Core.Option.{Option, none, some}
use lib.ListN.{replicate}
use Rattle.rules.specs.declared.answer.Answer.{Answer}
use Rattle.rules.specs.Reader.{fetched, counted, held, read, fields, four, signed, read_signed, modulo, read_residual}
use Rattle.rules.specs.Frame.{tabulate, change_cells}
use Rattle.rules.specs.V0 as V0
use Rattle.rules.specs.Phases as Phases
use Rattle.rules.specs.V2 as V2
use Rattle.rules.specs.Map.{either_part, v0_map, v2_map}
use Rattle.rules.specs.Limits.{most_sample, sample_bound}
use Rattle.rules.specs.Answer.{done_with, done, refused, Decoder, direct, two_phase, v2, Ask, ask, Lent, lent, too_large, too_small, short_offsets, short_samples, short_map, scratch_bytes, short_scratch, first_of, refusal, stream_answer, answer, frame_samples, frame_marks, marks, frame_scratch, unless_refused, samples_after, map_after, scratch_after, Buffers, buffers, lengths}
use Rattle.rules.specs.Examples.{Example}
use Rattle.rules.proofs.Pins.Values.{is, are, Hold, of_bool, size, rows_bytes, rows_offsets, cells_at}
use Rattle.rules.proofs.Pins.V2Pins.{frame_bytes}

abbrev of_answer : Answer → List ℕ
of_answer a = a.number ∷ a.row ∷ a.filler ∷ []

-- A frame of 3 by 4, by the V0 decoders; one that is refused by 3.
abbrev call : Decoder → Ask
call d = ask d rows_bytes rows_offsets 3 4

abbrev enough : Lent
enough = lent 12 none 2

abbrev too_few : Lent
too_few = lent 11 none 2

-- Its old samples, with two more behind them, and what is left of them.
abbrev old_samples : List ℕ
old_samples = tabulate 14 7 (λ i. i)

abbrev new_samples : List ℕ
new_samples = 7 ∷ 128 ∷ 9 ∷ 8 ∷ 128 ∷ 128 ∷ 122 ∷ 128 ∷ 120 ∷ 8 ∷ 128 ∷ 128 ∷ []

abbrev new_marks : List ℕ
new_marks = 1 ∷ 2 ∷ 1 ∷ 1 ∷ 2 ∷ 2 ∷ 2 ∷ 0 ∷ 2 ∷ 1 ∷ 0 ∷ 0 ∷ []

-- Samples, map and scratch, one after another. Lengths: of the samples, 1 and the map's or two zeros, and of the scratch.
abbrev list_of : Option (List ℕ) → List ℕ
list_of none = []
list_of (some xs) = xs

abbrev of_buffers : Buffers → List ℕ
of_buffers b = b.samples ++ list_of b.map ++ list_of b.scratch

abbrev of_option : Option ℕ → List ℕ
of_option none = 0 ∷ 0 ∷ []
of_option (some n) = 1 ∷ n ∷ []

abbrev of_lent : Lent → List ℕ
of_lent l = l.samples ∷ of_option l.map ++ (l.scratch ∷ [])

-- A V2 frame of the least size, 32 by 1: depth 14, options 4, initial sample 5; both blocks keep motion 7 and have no lengths.
abbrev least_bytes : List ℕ
least_bytes = 0 ∷ 13 ∷ replicate 7 0 ++ (4 ∷ 0 ∷ 0 ∷ 5 ∷ 0 ∷ 0 ∷ 0 ∷ []) ++ (0 ∷ 0 ∷ 0 ∷ 0xF0 ∷ [])

abbrev least : Ask
least = ask v2 least_bytes [] 32 1

-- What a V2 call of a size answers.
abbrev answered : ℕ → ℕ → List ℕ → List ℕ
answered w h s = of_answer (answer (ask v2 s [] w h) (lent (w * h) none 0))

-- A V2 frame of 32 by 1 whose first length is too long: the second, which would need a word that is missing, is not read.
abbrev long_length : List ℕ
long_length = replicate 9 0x00 ++ (0x01 ∷ []) ++ replicate 6 0x00 ++ (0xFF ∷ 0xFF ∷ 0x01 ∷ 0xC0 ∷ [])

abbrev pub examples : List Example
examples =
    -- done_with, done, refused; ask, lent: each argument in its place
    are (of_answer (done_with 7) ++ of_answer done ++ of_answer (refused 3)) (0 ∷ 0 ∷ 7 ∷ 0 ∷ 0 ∷ 0 ∷ 3 ∷ 0 ∷ 0 ∷ [])
    ∷ are ((ask v2 (1 ∷ []) (2 ∷ []) 3 4).stream ++ (ask v2 (1 ∷ []) (2 ∷ []) 3 4).offsets) (1 ∷ 2 ∷ [])
    ∷ are ((ask v2 (1 ∷ []) (2 ∷ []) 3 4).size.width ∷ (ask v2 (1 ∷ []) (2 ∷ []) 3 4).size.height ∷ []) (3 ∷ 4 ∷ [])
    ∷ are ((lent 5 none 6).samples ∷ (lent 5 none 6).scratch ∷ []) (5 ∷ 6 ∷ [])
    -- most_sample, sample_bound
    ∷ are (most_sample ∷ sample_bound ∷ []) (16_383 ∷ 16_384 ∷ [])
    -- too_large: above 16,384 either way
    ∷ are (map (λ z. of_bool (too_large z)) (size 16_384 16_384 ∷ size 16_385 0 ∷ size 0 16_385 ∷ [])) (0 ∷ 1 ∷ 1 ∷ [])
    -- too_small: V2 alone, below 32 wide or 1 high
    ∷ are (map (λ z. of_bool (too_small v2 z)) (size 32 1 ∷ size 31 1 ∷ size 32 0 ∷ [])) (0 ∷ 1 ∷ 1 ∷ [])
    ∷ are (of_bool (too_small direct (size 0 0)) ∷ of_bool (too_small two_phase (size 0 0)) ∷ []) (0 ∷ 0 ∷ [])
    -- short_offsets: V0 alone, one for each row
    ∷ are (map (λ h. of_bool (short_offsets direct (0 ∷ 0 ∷ []) (size 9 h))) (1 ∷ 2 ∷ 3 ∷ [])) (0 ∷ 0 ∷ 1 ∷ [])
    ∷ are (map (λ h. of_bool (short_offsets two_phase (0 ∷ 0 ∷ []) (size 9 h))) (1 ∷ 2 ∷ 3 ∷ [])) (0 ∷ 0 ∷ 1 ∷ [])
    ∷ is (of_bool (short_offsets v2 [] (size 9 3))) 0
    -- short_samples: samples or offsets
    ∷ are (map (λ n. of_bool (short_samples (call direct) (lent n none 0))) (11 ∷ 12 ∷ 13 ∷ [])) (1 ∷ 0 ∷ 0 ∷ [])
    ∷ is (of_bool (short_samples (ask direct [] [] 3 4) enough)) 1
    ∷ is (of_bool (short_samples (ask v2 [] [] 3 4) enough)) 0
    -- short_map: N bytes, where one is lent
    ∷ are (map (λ m. of_bool (short_map m (size 3 4))) (none ∷ some 11 ∷ some 12 ∷ [])) (0 ∷ 1 ∷ 0 ∷ [])
    -- scratch_bytes: two blocks to a row of 17, from row 2 on; short_scratch: two_phase alone
    ∷ are (map scratch_bytes (size 17 5 ∷ size 17 2 ∷ size 17 1 ∷ [])) (6 ∷ 0 ∷ 0 ∷ [])
    ∷ are (map (λ n. of_bool (short_scratch two_phase n (size 17 5))) (5 ∷ 6 ∷ 7 ∷ [])) (1 ∷ 0 ∷ 0 ∷ [])
    ∷ are (of_bool (short_scratch direct 0 (size 17 5)) ∷ of_bool (short_scratch v2 0 (size 17 5)) ∷ []) (0 ∷ 0 ∷ [])
    -- first_of: in number order
    ∷ are (first_of true true true true ∷ first_of false true true true ∷ first_of false false true true ∷ []) (1 ∷ 2 ∷ 3 ∷ [])
    ∷ are (first_of false false false true ∷ first_of false false false false ∷ []) (4 ∷ 0 ∷ [])
    -- refusal: 1, 2 and 3 before those after them; 4 for a map and for scratch; none
    ∷ is (refusal (ask v2 [] [] 16_385 0) (lent 0 (some 0) 0)) 1
    ∷ is (refusal (ask v2 [] [] 31 1) (lent 0 (some 0) 0)) 2
    ∷ is (refusal (call two_phase) (lent 11 (some 0) 0)) 3
    ∷ is (refusal (call direct) (lent 12 (some 11) 0)) 4
    ∷ is (refusal (call two_phase) (lent 12 none 1)) 4
    ∷ is (refusal (call two_phase) (lent 12 (some 12) 2)) 0
    -- stream_answer: V0 is done, and the direct decoder counts missing words; V2 as the stream has it
    ∷ are (of_answer (stream_answer direct frame_bytes (64 ∷ 0 ∷ 80 ∷ 4 ∷ []) (size 17 4))) (0 ∷ 0 ∷ 19 ∷ [])
    ∷ are (of_answer (stream_answer two_phase frame_bytes (64 ∷ 0 ∷ 80 ∷ 4 ∷ []) (size 17 4))) (0 ∷ 0 ∷ 0 ∷ [])
    ∷ are (of_answer (stream_answer v2 frame_bytes [] (size 17 4))) (8 ∷ 3 ∷ 1 ∷ [])
    -- answer: the row of 1 to 4 is 0; a V2 frame of no bytes meets 5 in row 0, one of sixteen zeros 8; one of the least size is done
    ∷ are (of_answer (answer (call direct) too_few)) (3 ∷ 0 ∷ 0 ∷ [])
    ∷ are (of_answer (answer (call direct) enough)) (0 ∷ 0 ∷ 1 ∷ [])
    ∷ are (of_answer (answer (ask v2 [] [] 646 436) (lent 281_656 none 0))) (5 ∷ 0 ∷ 5 ∷ [])
    ∷ are (of_answer (answer (ask v2 (replicate 16 0) [] 646 436) (lent 281_656 none 0))) (8 ∷ 0 ∷ 7 ∷ [])
    ∷ are (of_answer (answer least (lent 32 none 0))) (0 ∷ 0 ∷ 0 ∷ [])
    ∷ are (answered 32 1 long_length) (7 ∷ 0 ∷ 0 ∷ [])
    ∷ are (answered 32 1 []) (5 ∷ 0 ∷ 5 ∷ [])
    ∷ are (answered 31 1 [] ++ answered 32 0 []) (2 ∷ 0 ∷ 0 ∷ 2 ∷ 0 ∷ 0 ∷ [])
    -- frame_samples, frame_marks, frame_scratch: by each decoder
    ∷ are (frame_samples direct rows_bytes rows_offsets (size 3 4) (tabulate 12 7 (λ i. i))) new_samples
    ∷ are (frame_samples two_phase rows_bytes rows_offsets (size 3 4) (tabulate 12 7 (λ i. i))) new_samples
    ∷ are (cells_at (0 ∷ 16 ∷ 48 ∷ []) (frame_samples v2 frame_bytes [] (size 17 3) (tabulate 51 500 (λ i. i)))) (304 ∷ 516 ∷ 418 ∷ [])
    ∷ are (marks (call direct)) new_marks
    ∷ are (marks (call two_phase)) new_marks
    ∷ are (cells_at (0 ∷ 16 ∷ 48 ∷ []) (frame_marks v2 frame_bytes [] (size 17 3))) (0 ∷ 1 ∷ 1 ∷ [])
    ∷ are (frame_scratch two_phase rows_bytes rows_offsets (size 3 4)) (1 ∷ 0 ∷ [])
    ∷ are (frame_scratch direct rows_bytes rows_offsets (size 3 4) ++ frame_scratch v2 rows_bytes rows_offsets (size 3 4)) []
    -- unless_refused
    ∷ are (unless_refused (call direct) enough (1 ∷ []) (2 ∷ [])) (1 ∷ [])
    ∷ are (unless_refused (call direct) too_few (1 ∷ []) (2 ∷ [])) (2 ∷ [])
    -- samples_after, map_after, scratch_after: what lies past the frame's stays; after 1 to 4 all does
    ∷ are (samples_after (call direct) enough old_samples) (new_samples ++ (19 ∷ 20 ∷ []))
    ∷ are (samples_after (call direct) too_few old_samples) old_samples
    ∷ are (samples_after least (lent 33 none 0) (replicate 33 7)) (replicate 32 5 ++ (7 ∷ []))
    ∷ are (map_after (call direct) enough old_samples) (new_marks ++ (19 ∷ 20 ∷ []))
    ∷ are (map_after (call direct) too_few old_samples) old_samples
    ∷ are (scratch_after (call two_phase) enough (7 ∷ 8 ∷ 9 ∷ [])) (1 ∷ 0 ∷ 9 ∷ [])
    ∷ are (scratch_after (call two_phase) too_few (7 ∷ 8 ∷ 9 ∷ [])) (7 ∷ 8 ∷ 9 ∷ [])
    ∷ are (scratch_after (call direct) enough (7 ∷ 8 ∷ 9 ∷ [])) (7 ∷ 8 ∷ 9 ∷ [])
    -- buffers, lengths: each buffer in its place; scratch that is not lent has length 0
    ∷ are (of_buffers (buffers (1 ∷ []) (some (2 ∷ 3 ∷ [])) (some (4 ∷ 5 ∷ 6 ∷ [])))) (1 ∷ 2 ∷ 3 ∷ 4 ∷ 5 ∷ 6 ∷ [])
    ∷ are (of_lent (lengths (buffers (1 ∷ []) (some (2 ∷ 3 ∷ [])) (some (4 ∷ 5 ∷ 6 ∷ []))))) (1 ∷ 1 ∷ 2 ∷ 3 ∷ [])
    ∷ are (of_lent (lengths (buffers (1 ∷ []) none none))) (1 ∷ 0 ∷ 0 ∷ 0 ∷ [])
    ∷ []

pub examples_hold : Hold examples
unfolding fetched counted held read fields four signed read_signed modulo read_residual tabulate change_cells V0.fresh_row V0.operated V0.operate V0.head V0.bounded V0.predictor V0.length_of V0.length_bits V0.residual_bits V0.sample V0.samples V0.blocks V0.row_blocks V0.rows V0.rows_filler V0.frame_filler V0.put V0.apply V0.write V0.write_all V0.swap V0.exchange_columns V0.exchange_rows V0.exchange V0.frame V0.decoded Phases.residuals Phases.block_records Phases.row_records Phases.store_samples Phases.store_blocks Phases.phase_one Phases.directions Phases.late_predictor Phases.predict_samples Phases.predict_blocks Phases.phase_two Phases.scratch Phases.first_rows Phases.two_phase V2.header V2.top V2.aligned V2.fresh_mode V2.rescaled V2.read_scale V2.read_motion V2.repeated V2.reference V2.referred V2.base V2.refers_before V2.base_refusal V2.lengths_bit V2.colour V2.read_length V2.length_step V2.lengths_from V2.flagged_lengths V2.read_lengths V2.position V2.difference_step V2.differences_from V2.read_differences V2.tail V2.based_tail V2.read_block V2.then V2.blocks V2.read_row V2.then_rows V2.rows V2.read_frame V2.base_cell V2.block_cells V2.write V2.apply V2.frame V2.average V2.value V2.hold V2.decoded either_part v0_map v2_map too_large too_small short_offsets short_samples short_map short_scratch first_of refusal stream_answer answer frame_samples frame_marks frame_scratch unless_refused samples_after map_after scratch_after
examples_hold = refl
