-- Worked examples: frames, and the V2 streams that they become, as one list. `proofs/V2Frames.antt` proves the one claim, that the
-- definition gives what is stated.
use Rattle.std.specs.Prelude.{ℕ, List, [], ◌∷◌, ◌++◌, replicate}
use Rattle.rules.specs.declared.answer.Size.{Size}
use Rattle.write_rules.specs.V2Writer.{stream_for}

pub record Example : Type 0 where
  pub size : Size
  pub samples : List ℕ
  pub stream : List ℕ

-- The same frame, with what the definition gives.
abbrev pub defined : Example → Example
defined e = record { size = e.size; samples = e.samples; stream = stream_for e.size e.samples }

abbrev size : ℕ → ℕ → Size
size w h = record { width = w; height = h }

abbrev header : List ℕ
header = 0 ∷ 13 ∷ 0 ∷ 0 ∷ 0 ∷ 0 ∷ 0 ∷ 0 ∷ 0 ∷ 7 ∷ 0 ∷ 0 ∷ 0 ∷ 0 ∷ 0 ∷ 0 ∷ []

-- 32 by 1. The second block's differences are 0, so are its lengths, and the row is padded.
abbrev flat : Example
flat =
    record {
      size = size 32 1;
      samples = 1 ∷ 16_383 ∷ replicate 30 3;
      stream =
          header
          ++ (150 ∷ 249 ∷ 153 ∷ 127 ∷ 255 ∷ 191 ∷ 109 ∷ 219 ∷ 12 ∷ 0 ∷ 6 ∷ 0 ∷ 191 ∷ 109 ∷ 27 ∷ 0
          ∷ 0 ∷ 0 ∷ 0 ∷ 192 ∷ replicate 12 0);
    }

-- 16 by 2. The second row's odd samples come first, and its lengths are 15, which 16,383 takes in two's complement.
abbrev odd_row : Example
odd_row =
    record {
      size = size 16 2;
      samples = 1 ∷ 2 ∷ replicate 14 3 ++ replicate 15 16_383 ++ (0 ∷ []);
      stream =
          header
          ++ (150 ∷ 153 ∷ 153 ∷ 127 ∷ 219 ∷ 166 ∷ 109 ∷ 219 ∷ 0 ∷ 0 ∷ 128 ∷ 109 ∷ 0 ∷ 0 ∷ 0 ∷ 0 ∷ [])
          ++ (191 ∷ 255 ∷ 255 ∷ 127 ∷ 255 ∷ 254 ∷ 127 ∷ 255 ∷ 255 ∷ 251 ∷ 255 ∷ 253 ∷ 255 ∷ 239 ∷ 255 ∷ 247
          ∷ 255 ∷ 63 ∷ 0 ∷ 192 ∷ 253 ∷ 255 ∷ 254 ∷ 127 ∷ 247 ∷ 255 ∷ 251 ∷ 255 ∷ 223 ∷ 255 ∷ 239 ∷ 255
          ∷ 0 ∷ 0 ∷ 128 ∷ 255 ∷ replicate 12 0);
    }

-- 32 by 2. Each block after the first of its row is predicted from the two samples before it, in row 1 as in row 0.
abbrev two_blocks : Example
two_blocks =
    record {
      size = size 32 2;
      samples =
          5 ∷ 16_383 ∷ 0 ∷ 1 ∷ replicate 12 7 ++ (7 ∷ 7 ∷ 7 ∷ 8 ∷ replicate 11 6) ++ (9 ∷ 100 ∷ 200 ∷ replicate 14 100)
          ++ (100 ∷ 101 ∷ 102 ∷ 103 ∷ 104 ∷ 105 ∷ 106 ∷ 107 ∷ 108 ∷ 109 ∷ 110 ∷ 111 ∷ 112 ∷ 113 ∷ 114 ∷ 115 ∷ []);
      stream =
          header
          ++ (40 ∷ 122 ∷ 162 ∷ 127 ∷ 191 ∷ 187 ∷ 187 ∷ 59 ∷ 0 ∷ 2 ∷ 0 ∷ 255 ∷ 187 ∷ 59 ∷ 0 ∷ 28
          ∷ 140 ∷ 68 ∷ 252 ∷ 187 ∷ 128 ∷ 254 ∷ 127 ∷ 252 ∷ replicate 8 0)
          ++ (50 ∷ 68 ∷ 204 ∷ 127 ∷ 35 ∷ 67 ∷ 134 ∷ 12 ∷ 35 ∷ 35 ∷ 35 ∷ 35 ∷ 35 ∷ 35 ∷ 35 ∷ 35
          ∷ 35 ∷ 35 ∷ 35 ∷ 35 ∷ 77 ∷ 20 ∷ 21 ∷ 253 ∷ 192 ∷ 107 ∷ 43 ∷ 93 ∷ 56 ∷ 166 ∷ 144 ∷ 145 ∷ []);
    }

unfoldable pub examples : List Example
examples = flat ∷ odd_row ∷ two_blocks ∷ []
