-- Worked calls of the V0 decoder in bands, as one list: what is asked and lent, and what is answered and left. `proofs/Examples.antt`
-- proves the one claim, that in each the definitions give what is stated.
use Rattle.std.specs.Prelude.{ℕ, List, [], ◌∷◌, ◌++◌, replicate}
use Rattle.rules.specs.declared.answer.Answer.{Answer}
use Rattle.rules.specs.Answer.{done, refused}
use Rattle.rules_bands.specs.Call.{Call, call, answer, samples_after, scratch_after}

-- A call, its answer, and its two buffers afterwards.
pub record Example : Type 0 where
  pub asked : Call
  pub answer : Answer
  pub samples : List ℕ
  pub scratch : List ℕ

-- The same call, with what the definitions give.
abbrev pub defined : Example → Example
defined e =
    record { asked = e.asked; answer = answer e.asked; samples = samples_after e.asked; scratch = scratch_after e.asked }

abbrev decoded : Call → List ℕ → List ℕ → Example
decoded c samples scratch = record { asked = c; answer = done; samples = samples; scratch = scratch }

abbrev unchanged : Call → ℕ → Example
unchanged c number = record { asked = c; answer = refused number; samples = c.samples; scratch = c.scratch }

-- ── Streams ──

-- Four rows of two blocks, of 16 bytes each, with directions 1 and 0, 0 and 1, 1 and 1, 0 and 0.
abbrev stream : List ℕ
stream =
    3 ∷ 25 ∷ 153 ∷ 255 ∷ 93 ∷ 125 ∷ 113 ∷ 31 ∷ 83 ∷ 72 ∷ 200 ∷ 191 ∷ 0 ∷ 192 ∷ 235 ∷ 123 ∷ 3 ∷ 25 ∷ 153 ∷ 127 ∷ 100 ∷ 43 ∷ 164 ∷ 255 ∷ 72 ∷ 72 ∷ 200 ∷ 127 ∷ 0 ∷ 64 ∷ 215 ∷ 128
    ∷ 21 ∷ 25 ∷ 153 ∷ 255 ∷ 232 ∷ 222 ∷ 204 ∷ 16 ∷ 70 ∷ 72 ∷ 200 ∷ 127 ∷ 0 ∷ 128 ∷ 12 ∷ 23 ∷ 17 ∷ 25 ∷ 153 ∷ 127 ∷ 96 ∷ 170 ∷ 60 ∷ 174 ∷ 94 ∷ 72 ∷ 200 ∷ 191 ∷ 0 ∷ 192 ∷ 108 ∷ 143 ∷ []

-- 17 by 7: five late rows, which two bands of two and three rows cut. The offsets, the samples, and the directions of rows 2 to 6.
abbrev offsets : List ℕ
offsets = 48 ∷ 48 ∷ 0 ∷ 16 ∷ 32 ∷ 48 ∷ 0 ∷ []

abbrev samples : List ℕ
samples =
    129 ∷ 129 ∷ 128 ∷ 128 ∷ 126 ∷ 126 ∷ 125 ∷ 125 ∷ 127 ∷ 127 ∷ 128 ∷ 128 ∷ 129 ∷ 129 ∷ 127 ∷ 127 ∷ 128
    ∷ 124 ∷ 124 ∷ 125 ∷ 125 ∷ 130 ∷ 130 ∷ 124 ∷ 124 ∷ 127 ∷ 127 ∷ 128 ∷ 128 ∷ 128 ∷ 128 ∷ 129 ∷ 129 ∷ 128
    ∷ 129 ∷ 128 ∷ 129 ∷ 129 ∷ 122 ∷ 127 ∷ 128 ∷ 127 ∷ 126 ∷ 127 ∷ 126 ∷ 127 ∷ 128 ∷ 129 ∷ 125 ∷ 128 ∷ 126
    ∷ 125 ∷ 124 ∷ 128 ∷ 129 ∷ 129 ∷ 130 ∷ 126 ∷ 126 ∷ 125 ∷ 127 ∷ 127 ∷ 128 ∷ 126 ∷ 126 ∷ 128 ∷ 128 ∷ 126
    ∷ 129 ∷ 129 ∷ 131 ∷ 128 ∷ 123 ∷ 126 ∷ 129 ∷ 125 ∷ 127 ∷ 127 ∷ 128 ∷ 128 ∷ 127 ∷ 129 ∷ 129 ∷ 127 ∷ 126
    ∷ 121 ∷ 124 ∷ 126 ∷ 125 ∷ 128 ∷ 130 ∷ 123 ∷ 124 ∷ 124 ∷ 127 ∷ 128 ∷ 128 ∷ 126 ∷ 128 ∷ 128 ∷ 129 ∷ 128
    ∷ 129 ∷ 122 ∷ 129 ∷ 129 ∷ 122 ∷ 127 ∷ 128 ∷ 125 ∷ 126 ∷ 122 ∷ 126 ∷ 127 ∷ 128 ∷ 124 ∷ 125 ∷ 127 ∷ 126 ∷ []

abbrev directions : List ℕ
directions = 1 ∷ 0 ∷ 0 ∷ 1 ∷ 1 ∷ 1 ∷ 0 ∷ 0 ∷ 1 ∷ 0 ∷ []

-- 33 by 4: one band, and blocks of 32 columns, each of which has two blocks of the stream, but the last, which has one.
abbrev wide_stream : List ℕ
wide_stream =
    166 ∷ 144 ∷ 144 ∷ 127 ∷ 196 ∷ 127 ∷ 11 ∷ 194 ∷ 63 ∷ 40 ∷ 102 ∷ 68 ∷ 0 ∷ 6 ∷ 2 ∷ 226 ∷ 160 ∷ 144 ∷ 144 ∷ 255 ∷ 196 ∷ 63 ∷ 135 ∷ 6 ∷ 223 ∷ 59 ∷ 74 ∷ 68
    ∷ 220 ∷ 15 ∷ 4 ∷ 228 ∷ 0 ∷ 0 ∷ 0 ∷ 96 ∷ 188 ∷ 144 ∷ 144 ∷ 127 ∷ 196 ∷ 63 ∷ 144 ∷ 143 ∷ 223 ∷ 16 ∷ 106 ∷ 68 ∷ 241 ∷ 11 ∷ 4 ∷ 228 ∷ 0 ∷ 0 ∷ 0 ∷ 32 ∷ []

abbrev wide_samples : List ℕ
wide_samples =
    129 ∷ 129 ∷ 127 ∷ 127 ∷ 126 ∷ 126 ∷ 129 ∷ 129 ∷ 128 ∷ 128 ∷ 128 ∷ 128 ∷ 128 ∷ 128 ∷ 127 ∷ 127 ∷ 126 ∷ 126 ∷ 127 ∷ 127 ∷ 126 ∷ 126 ∷ 127 ∷ 127 ∷ 126 ∷ 126 ∷ 127 ∷ 127 ∷ 127 ∷ 127 ∷ 127 ∷ 127 ∷ 128
    ∷ 127 ∷ 127 ∷ 127 ∷ 127 ∷ 128 ∷ 128 ∷ 126 ∷ 126 ∷ 128 ∷ 128 ∷ 128 ∷ 128 ∷ 128 ∷ 128 ∷ 128 ∷ 128 ∷ 128 ∷ 128 ∷ 127 ∷ 127 ∷ 128 ∷ 128 ∷ 128 ∷ 128 ∷ 128 ∷ 128 ∷ 128 ∷ 128 ∷ 127 ∷ 127 ∷ 127 ∷ 127 ∷ 128
    ∷ 129 ∷ 130 ∷ 128 ∷ 128 ∷ 127 ∷ 127 ∷ 129 ∷ 129 ∷ 127 ∷ 127 ∷ 128 ∷ 128 ∷ 128 ∷ 128 ∷ 128 ∷ 128 ∷ 125 ∷ 128 ∷ 127 ∷ 128 ∷ 126 ∷ 127 ∷ 126 ∷ 128 ∷ 125 ∷ 127 ∷ 127 ∷ 128 ∷ 127 ∷ 128 ∷ 127 ∷ 128 ∷ 128
    ∷ 129 ∷ 126 ∷ 128 ∷ 128 ∷ 128 ∷ 128 ∷ 129 ∷ 126 ∷ 128 ∷ 127 ∷ 127 ∷ 127 ∷ 127 ∷ 127 ∷ 128 ∷ 128 ∷ 127 ∷ 127 ∷ 127 ∷ 127 ∷ 127 ∷ 127 ∷ 128 ∷ 128 ∷ 128 ∷ 127 ∷ 128 ∷ 127 ∷ 127 ∷ 127 ∷ 127 ∷ 127 ∷ 129 ∷ []

-- ── The list ──

-- A call of 17 by 7 with two samples and a scratch byte more than it needs, by a cut and a list; and with so many samples and bytes.
abbrev of_cut : ℕ → ℕ → List ℕ → Call
of_cut bands block_width steps = call stream offsets 17 7 (replicate 121 7) (replicate 11 9) bands block_width steps

abbrev lent : ℕ → ℕ → Call
lent n scratch = call stream offsets 17 7 (replicate n 7) (replicate scratch 9) 0 0 []

abbrev two_bands : Call
two_bands = of_cut 2 16 (0 ∷ 2 ∷ 1 ∷ 3 ∷ [])

unfoldable pub examples : List Example
examples =
    -- Done, by two sequences, and by one block a band; what lies past N and past the directions stays.
    decoded two_bands (samples ++ (7 ∷ 7 ∷ [])) (directions ++ (9 ∷ []))
    ∷ decoded (of_cut 2 16 (0 ∷ 1 ∷ 2 ∷ 3 ∷ [])) (samples ++ (7 ∷ 7 ∷ [])) (directions ++ (9 ∷ []))
    ∷ decoded (of_cut 1 32 (0 ∷ [])) (samples ++ (7 ∷ 7 ∷ [])) (directions ++ (9 ∷ []))
    ∷ decoded (call wide_stream (36 ∷ 36 ∷ 0 ∷ 16 ∷ []) 33 4 (replicate 132 7) (replicate 6 9) 1 32 (0 ∷ 1 ∷ [])) wide_samples (0 ∷ 1 ∷ 1 ∷ 1 ∷ 0 ∷ 0 ∷ [])
    -- 1 by 8: three bands, and more late rows than columns.
    ∷ decoded (call stream (48 ∷ 48 ∷ 0 ∷ 16 ∷ 32 ∷ 48 ∷ 0 ∷ 16 ∷ []) 1 8 (replicate 8 7) (replicate 6 9) 3 16 (0 ∷ 1 ∷ 2 ∷ [])) (129 ∷ 129 ∷ 129 ∷ 128 ∷ 129 ∷ 129 ∷ 129 ∷ 128 ∷ []) (1 ∷ 0 ∷ 1 ∷ 0 ∷ 1 ∷ 0 ∷ [])
    -- No late rows, and no columns: the empty list.
    ∷ decoded (call (0 ∷ 0 ∷ 128 ∷ 127 ∷ []) (0 ∷ 0 ∷ []) 1 2 (7 ∷ 7 ∷ 7 ∷ []) (9 ∷ []) 1 16 []) (128 ∷ 128 ∷ 7 ∷ []) (9 ∷ [])
    ∷ decoded (call [] (replicate 7 0) 0 7 (7 ∷ []) (9 ∷ []) 2 16 []) (7 ∷ []) (9 ∷ [])
    -- 12: a list that is short or long, that has no block's number, or a step that isn't ready.
    ∷ unchanged (of_cut 2 16 (0 ∷ 2 ∷ 1 ∷ [])) 12
    ∷ unchanged (of_cut 2 16 (0 ∷ 2 ∷ 1 ∷ 3 ∷ 3 ∷ [])) 12
    ∷ unchanged (of_cut 2 16 (0 ∷ 2 ∷ 1 ∷ 4 ∷ [])) 12
    ∷ unchanged (of_cut 2 16 (0 ∷ 2 ∷ 3 ∷ 1 ∷ [])) 12
    ∷ unchanged (call [] (replicate 7 0) 0 7 (7 ∷ []) (9 ∷ []) 2 16 (0 ∷ [])) 12
    -- 11 before 12: no band, a band too many, no width, and one that is no multiple of 16.
    ∷ unchanged (of_cut 0 16 (0 ∷ [])) 11
    ∷ unchanged (of_cut 3 16 (0 ∷ [])) 11
    ∷ unchanged (of_cut 2 0 (0 ∷ [])) 11
    ∷ unchanged (of_cut 2 24 (0 ∷ [])) 11
    -- 4 before 11: scratch a byte short. 3 before 4: a sample short, an offset short. 1 before 3.
    ∷ unchanged (lent 119 9) 4
    ∷ unchanged (lent 118 9) 3
    ∷ unchanged (call stream (replicate 6 0) 17 7 (replicate 119 7) (replicate 9 9) 0 0 []) 3
    ∷ unchanged (call [] [] 16_385 7 [] [] 0 0 []) 1
    ∷ []
