-- Pinned examples of specs/Job.antt, by the definition's name.
use Prim.Native.Nat.{ℕ}
use mathlib.Core.Path.{refl}
use mathlib.Core.List.{List, [], ◌∷◌, ◌++◌, map}
use mathlib.Core.Option.{Option, none, some}
use lib.ListN.{take, replicate}
use Rattle.rules.specs.Reader as Reader
use Rattle.rules.specs.Frame.{tabulate, change_cells}
use Rattle.rules.specs.V0 as V0
use Rattle.rules.specs.Map as Map
use Rattle.rules.specs.Answer as Answer
use Rattle.rules.specs.Job.{most_input, most_samples, half_word_at, marked, job_size, stream_start, job_ask, job_lent, line, digits, decimal, fault, done_line, refused_line, samples_text, rows_text, answer_text, text}
use Rattle.rules.specs.Examples.{Example}
use Rattle.rules.proofs.Pins.Values.{is, are, Hold, of_bool}

-- An input with the mark, a version, width, height (two bytes each), and what follows them.
abbrev input : ℕ → ℕ → ℕ → ℕ → ℕ → ℕ → List ℕ → List ℕ
input v v' w w' h h' rest = 83 ∷ 77 ∷ 82 ∷ v ∷ v' ∷ w ∷ w' ∷ h ∷ h' ∷ rest

abbrev short_input : List ℕ
short_input = input 1 0 3 1 2 1 (1 ∷ 2 ∷ 3 ∷ 4 ∷ 5 ∷ [])

-- 2 by 2, offsets 1 and 2, then three bytes.
abbrev two_rows : List ℕ
two_rows = input 1 0 2 0 2 0 (1 ∷ 0 ∷ 0 ∷ 0 ∷ 2 ∷ 0 ∷ 0 ∷ 0 ∷ 7 ∷ 8 ∷ 9 ∷ [])

-- 2 by 1, offset 0, no stream: one row of two samples that keep their 0.
abbrev wide_input : List ℕ
wide_input = input 1 0 2 0 1 0 (replicate 4 0)

abbrev number_of : Option ℕ → ℕ
number_of none = 0
number_of (some n) = n

abbrev pub examples : List Example
examples =
    -- most_input, most_samples
    are (most_input ∷ most_samples ∷ []) (32_768 ∷ 8_192 ∷ [])
    -- half_word_at: the lower byte first; 0 for a byte that isn't there
    ∷ are (half_word_at (1 ∷ 2 ∷ 3 ∷ []) 1 ∷ half_word_at [] 0 ∷ []) (0x0302 ∷ 0 ∷ [])
    -- marked: "SMR" and version 1
    ∷ is (of_bool (marked short_input)) 1
    ∷ are (map (λ s. of_bool (marked s)) ((82 ∷ 77 ∷ 82 ∷ 1 ∷ []) ∷ (83 ∷ 78 ∷ 82 ∷ 1 ∷ []) ∷ (83 ∷ 77 ∷ 83 ∷ 1 ∷ []) ∷ [])) (0 ∷ 0 ∷ 0 ∷ [])
    ∷ are (map (λ s. of_bool (marked s)) ((84 ∷ 77 ∷ 82 ∷ 1 ∷ []) ∷ (83 ∷ 76 ∷ 82 ∷ 1 ∷ []) ∷ (83 ∷ 77 ∷ 81 ∷ 1 ∷ []) ∷ [])) (0 ∷ 0 ∷ 0 ∷ [])
    ∷ are (map (λ s. of_bool (marked s)) (input 0 0 0 0 0 0 [] ∷ input 2 0 0 0 0 0 [] ∷ input 1 1 0 0 0 0 [] ∷ [])) (0 ∷ 0 ∷ 0 ∷ [])
    ∷ are (map (λ s. of_bool (marked s)) ([] ∷ (83 ∷ []) ∷ (83 ∷ 77 ∷ []) ∷ (83 ∷ 77 ∷ 82 ∷ []) ∷ [])) (0 ∷ 0 ∷ 0 ∷ 0 ∷ [])
    -- job_size: 16 bits each; stream_start: after the offsets
    ∷ are ((job_size short_input).width ∷ (job_size short_input).height ∷ stream_start short_input ∷ []) (259 ∷ 258 ∷ 1041 ∷ [])
    -- job_ask: each offset by its 4 bytes, then the stream; job_lent: the buffers of the program
    ∷ are ((job_ask two_rows).offsets ++ (job_ask two_rows).stream) (1 ∷ 2 ∷ 7 ∷ 8 ∷ 9 ∷ [])
    ∷ are ((job_ask wide_input).size.width ∷ (job_ask wide_input).size.height ∷ (job_ask wide_input).offsets) (2 ∷ 1 ∷ 0 ∷ [])
    ∷ are (job_lent.samples ∷ number_of job_lent.map ∷ job_lent.scratch ∷ []) (8_192 ∷ 8_192 ∷ 0 ∷ [])
    -- line; digits: up to so many; decimal: up to 5
    ∷ are (line (65 ∷ [])) (65 ∷ 10 ∷ [])
    ∷ are (digits 5 9 ++ digits 5 10 ++ digits 2 57 ++ digits 0 7) (57 ∷ 49 ∷ 48 ∷ 53 ∷ 55 ∷ [])
    ∷ are (decimal 65_535 ++ decimal 123_456) (54 ∷ 53 ∷ 53 ∷ 51 ∷ 53 ∷ 50 ∷ 51 ∷ 52 ∷ 53 ∷ 54 ∷ [])
    -- fault, done_line, refused_line
    ∷ are (fault 3) (106 ∷ 111 ∷ 98 ∷ 32 ∷ 51 ∷ 10 ∷ [])
    ∷ are done_line (100 ∷ 111 ∷ 110 ∷ 101 ∷ 10 ∷ [])
    ∷ are (refused_line 7) (114 ∷ 101 ∷ 102 ∷ 117 ∷ 115 ∷ 101 ∷ 100 ∷ 32 ∷ 55 ∷ 10 ∷ [])
    -- samples_text: an asterisk after a sample whose byte isn't 0; as many as there are of both
    ∷ are (samples_text (12 ∷ 3 ∷ 4 ∷ 5 ∷ []) (1 ∷ 0 ∷ 2 ∷ 3 ∷ [])) (32 ∷ 49 ∷ 50 ∷ 42 ∷ 32 ∷ 51 ∷ 32 ∷ 52 ∷ 42 ∷ 32 ∷ 53 ∷ 42 ∷ [])
    ∷ are (samples_text (12 ∷ []) [] ++ samples_text [] (1 ∷ [])) []
    -- rows_text: two rows of two from row 9 on, of more samples and marks than they have
    ∷ are (rows_text 2 2 9 (1 ∷ 2 ∷ 3 ∷ 4 ∷ 5 ∷ []) (0 ∷ 0 ∷ 1 ∷ 0 ∷ 0 ∷ []))
    (57 ∷ 58 ∷ 32 ∷ 49 ∷ 32 ∷ 50 ∷ 10 ∷ 49 ∷ 48 ∷ 58 ∷ 32 ∷ 51 ∷ 42 ∷ 32 ∷ 52 ∷ 10 ∷ [])
    -- answer_text: refused by 1 (width 16,385, no rows); done, over samples that are 0 (a row that looks up, one sample)
    ∷ are (answer_text (input 1 0 1 64 0 0 [])) (refused_line 1)
    ∷ are (answer_text (input 1 0 1 0 1 0 (0 ∷ 0 ∷ 0 ∷ 0 ∷ 0 ∷ 0 ∷ 0 ∷ 128 ∷ []))) (done_line ++ (48 ∷ 58 ∷ 32 ∷ 48 ∷ 42 ∷ 10 ∷ []))
    ∷ are (answer_text wide_input) (done_line ++ (48 ∷ 58 ∷ 32 ∷ 48 ∷ 42 ∷ 32 ∷ 48 ∷ 42 ∷ 10 ∷ []))
    -- text: 3 for longer input, before 1 and 2; 32,768 bytes are not
    ∷ are (text (replicate 32_769 0)) (fault 3)
    ∷ are (text (replicate 32_768 0)) (fault 1)
    -- 2 for fewer than 9 bytes, before 1; 1 before 2 for a table that is cut
    ∷ are (text (replicate 8 0)) (fault 2)
    ∷ are (text (replicate 9 0)) (fault 1)
    ∷ are (text (input 2 0 1 0 1 0 [])) (fault 1)
    ∷ are (text (input 1 0 1 0 1 0 (0 ∷ 0 ∷ 0 ∷ []))) (fault 2)
    ∷ are (text (input 1 0 1 0 1 0 (0 ∷ 0 ∷ 0 ∷ 0 ∷ []))) (done_line ++ (48 ∷ 58 ∷ 32 ∷ 48 ∷ 42 ∷ 10 ∷ []))
    -- 2 before 3 for more than 8,192 samples; 8,192 are not
    ∷ are (text (input 1 0 1 32 1 0 (0 ∷ 0 ∷ 0 ∷ []))) (fault 2)
    ∷ are (text (input 1 0 1 32 1 0 (0 ∷ 0 ∷ 0 ∷ 0 ∷ []))) (fault 3)
    ∷ are (take 5 (text (input 1 0 0 32 1 0 (0 ∷ 0 ∷ 0 ∷ 0 ∷ [])))) done_line
    ∷ []

pub examples_hold : Hold examples
unfolding marked digits samples_text rows_text answer_text text tabulate change_cells Reader.fetched Reader.counted Reader.held Reader.read Reader.fields Reader.four Reader.signed Reader.modulo Reader.read_residual V0.fresh_row V0.operated V0.operate V0.head V0.bounded V0.predictor V0.length_of V0.length_bits V0.residual_bits V0.sample V0.samples V0.blocks V0.row_blocks V0.rows V0.rows_filler V0.frame_filler V0.put V0.apply V0.write V0.write_all V0.swap V0.exchange_columns V0.exchange_rows V0.exchange V0.frame V0.decoded Map.v0_map Answer.too_large Answer.too_small Answer.short_offsets Answer.short_samples Answer.short_map Answer.short_scratch Answer.first_of Answer.refusal Answer.stream_answer Answer.answer Answer.frame_samples Answer.frame_marks Answer.unless_refused Answer.samples_after Answer.map_after
examples_hold = refl
