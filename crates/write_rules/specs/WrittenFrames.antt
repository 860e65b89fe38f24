-- Worked examples: calls of the V0 writer, with what each answers and leaves, as one list. `proofs/WrittenFrames.antt` proves the
-- one claim, that in each the definitions give what is stated.
use Rattle.std.specs.Prelude.{ℕ, List, [], ◌∷◌, replicate}
use Rattle.write_rules.specs.declared.Written.{Written}
use Rattle.write_rules.specs.Calls.{Call, call, refused, written, write_answer, stream_after, offsets_after}

-- A call, its answer, and the buffers that it leaves.
pub record Example : Type 0 where
  pub asked : Call
  pub answer : Written
  pub stream : List ℕ
  pub offsets : List ℕ

-- The same call, with what the definitions give.
abbrev pub defined : Example → Example
defined e = record { asked = e.asked; answer = write_answer e.asked; stream = stream_after e.asked; offsets = offsets_after e.asked }

-- A call that changes nothing.
abbrev unchanged : Call → ℕ → Example
unchanged c number = record { asked = c; answer = refused number; stream = c.stream; offsets = c.offsets }

-- 3 by 2. Each row is one block of 16 columns, 13 of them past the row's end, so that its lengths 1 and 3 are 0, and each row is
-- padded. The samples 16,383 and 128 change places. The sample past N is above 16,383 and isn't looked
-- at. Each buffer is longer than what is written, and keeps its end.
abbrev small : Example
small =
    record {
      asked = call (0 ∷ 16_383 ∷ 127 ∷ 128 ∷ 5 ∷ 16_000 ∷ 65_535 ∷ []) 3 2 (replicate 26 7) (8 ∷ 8 ∷ 8 ∷ []);
      answer = written 24;
      stream =
          64 ∷ 0 ∷ 192 ∷ 127 ∷ 0 ∷ 0 ∷ 128 ∷ 127
          ∷ 63 ∷ 64 ∷ 248 ∷ 127 ∷ 0 ∷ 0 ∷ 124 ∷ 127 ∷ 40 ∷ 4 ∷ 0 ∷ 0 ∷ 0 ∷ 0 ∷ 0 ∷ 0 ∷ 7 ∷ 7 ∷ [];
      offsets = 0 ∷ 8 ∷ 8 ∷ [];
    }

-- 5 by 3, an odd size: the last column and the last row keep their places.
abbrev odd : Example
odd =
    record {
      asked =
          call
          (128 ∷ 129 ∷ 130 ∷ 131 ∷ 132 ∷ 120 ∷ 121 ∷ 122 ∷ 123 ∷ 124 ∷ 128 ∷ 128 ∷ 127 ∷ 127 ∷ 5 ∷ []) 5 3 (replicate 24 0) (0 ∷ 0 ∷ 0 ∷ []);
      answer = written 24;
      stream =
          1 ∷ 32 ∷ 160 ∷ 127 ∷ 0 ∷ 0 ∷ 69 ∷ 32
          ∷ 23 ∷ 32 ∷ 152 ∷ 127 ∷ 0 ∷ 0 ∷ 216 ∷ 4 ∷ 0 ∷ 8 ∷ 192 ∷ 127 ∷ 32 ∷ 128 ∷ 194 ∷ 127 ∷ [];
      offsets = 0 ∷ 8 ∷ 16 ∷ [];
    }

-- 17 by 1: the second block is predicted from the sample two columns before it.
abbrev two_blocks : Example
two_blocks =
    record {
      asked =
          call
          (128 ∷ 128 ∷ 128 ∷ 128 ∷ 128 ∷ 128 ∷ 128 ∷ 128 ∷ 128 ∷ 128 ∷ 128 ∷ 128 ∷ 128 ∷ 128 ∷ 128 ∷ 1 ∷ 1 ∷ []) 17 1 (replicate 16 0) (0 ∷ []);
      answer = written 16;
      stream = 0 ∷ 4 ∷ 128 ∷ 127 ∷ 191 ∷ 64 ∷ 0 ∷ 0 ∷ 64 ∷ 32 ∷ 0 ∷ 224 ∷ 0 ∷ 0 ∷ 0 ∷ 0 ∷ [];
      offsets = 0 ∷ [];
    }

-- Width 0: each row has no bytes.
abbrev no_columns : Example
no_columns = record { asked = call [] 0 2 (7 ∷ []) (8 ∷ 8 ∷ 8 ∷ []); answer = written 0; stream = 7 ∷ []; offsets = 0 ∷ 0 ∷ 8 ∷ [] }

unfoldable pub examples : List Example
examples =
    small
    ∷ odd
    ∷ two_blocks
    ∷ no_columns
    ∷ unchanged (call [] 16_385 1 [] []) 1
    ∷ unchanged (call [] 0 16_385 [] []) 1
    ∷ unchanged (call (16_384 ∷ []) 2 1 (replicate 8 7) (8 ∷ [])) 3
    ∷ unchanged (call (128 ∷ 16_384 ∷ []) 2 1 [] []) 9
    ∷ unchanged (call (16_383 ∷ 128 ∷ []) 2 1 (replicate 11 7) (8 ∷ [])) 10
    ∷ unchanged (call (128 ∷ []) 1 1 (replicate 8 7) []) 10
    ∷ []
