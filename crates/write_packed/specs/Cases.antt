-- Worked examples: proposals, with what is answered and what the scratch then holds, as one list. `proofs/Cases.antt` proves the
-- one claim, that in each the definitions give what is stated.
use Rattle.std.specs.Prelude.{ℕ, List, [], ◌∷◌, ◌++◌, length, replicate}
use Rattle.rules.specs.declared.answer.Answer.{Answer}
use Rattle.rules.specs.Answer.{done, refused}
use Rattle.rules_clean.specs.Verdict.{fault_at}
use Rattle.write_packed.specs.Proposal.{Proposal, proposal, answer, scratch_after}

-- A proposal and the scratch lent, the answer, and the scratch left.
pub record Example : Type 0 where
  pub proposed : Proposal
  pub scratch : List ℕ
  pub answer : Answer
  pub left : List ℕ

-- The same, with what the definitions give.
abbrev pub defined : Example → Example
defined e =
    record {
      proposed = e.proposed;
      scratch = e.scratch;
      answer = answer e.proposed e.scratch;
      left = scratch_after e.proposed e.scratch;
    }

-- One whose frame was decoded over scratch samples that held 7, of which two more than it needs are lent; and one that changes nothing.
abbrev decoded : Proposal → List ℕ → Answer → Example
decoded p frame a = record { proposed = p; scratch = replicate (length frame) 7 ++ (7 ∷ 7 ∷ []); answer = a; left = frame ++ (7 ∷ 7 ∷ []) }

abbrev unchanged : Proposal → List ℕ → Answer → Example
unchanged p scratch a = record { proposed = p; scratch = scratch; answer = a; left = scratch }

-- ── Streams ──

-- 3 by 2, as the writer makes it.
abbrev small : List ℕ
small =
    64 ∷ 0 ∷ 192 ∷ 127 ∷ 0 ∷ 0 ∷ 128 ∷ 127
    ∷ 63 ∷ 64 ∷ 248 ∷ 127 ∷ 0 ∷ 0 ∷ 124 ∷ 127 ∷ 40 ∷ 4 ∷ 0 ∷ 0 ∷ 0 ∷ 0 ∷ 0 ∷ 0 ∷ []

-- 1 by 3, samples 200, 300, 300. Row 2 takes the sample above it: 4 bytes, where the writer's take 8.
abbrev upward : List ℕ
upward = 36 ∷ 0 ∷ 192 ∷ 127 ∷ 0 ∷ 0 ∷ 0 ∷ 0 ∷ 43 ∷ 0 ∷ 200 ∷ 127 ∷ 0 ∷ 0 ∷ 0 ∷ 0 ∷ 0 ∷ 0 ∷ 128 ∷ 255 ∷ []

-- A block with four lengths 0: of direction 0, every sample of it 128, and of direction 1.
abbrev down : List ℕ
down = 0 ∷ 0 ∷ 128 ∷ 127 ∷ []

abbrev up : List ℕ
up = 0 ∷ 0 ∷ 128 ∷ 255 ∷ []

-- Two blocks with lengths 0; and lengths 0, then each one less.
abbrev down_down : List ℕ
down_down = 0 ∷ 0 ∷ 128 ∷ 127 ∷ 0 ∷ 0 ∷ 0 ∷ 0 ∷ []

abbrev below : List ℕ
below = 42 ∷ 0 ∷ 128 ∷ 127 ∷ 0 ∷ 0 ∷ 0 ∷ 0 ∷ []

-- ── The list ──

-- Taken: what the writer makes, with more samples and offsets lent than count; a shorter stream; and rows that share their bytes, with
-- a table that is longer than the stream.
abbrev taken : List Example
taken =
    decoded (proposal small (0 ∷ 8 ∷ 8 ∷ []) 3 2 (0 ∷ 16_383 ∷ 127 ∷ 128 ∷ 5 ∷ 16_000 ∷ 16_384 ∷ [])) (0 ∷ 16_383 ∷ 127 ∷ 128 ∷ 5 ∷ 16_000 ∷ []) done
    ∷ decoded (proposal upward (0 ∷ 8 ∷ 16 ∷ []) 1 3 (200 ∷ 300 ∷ 300 ∷ [])) (200 ∷ 300 ∷ 300 ∷ []) done
    ∷ decoded (proposal down (replicate 20 0) 1 3 (128 ∷ 128 ∷ 128 ∷ [])) (128 ∷ 128 ∷ 128 ∷ []) done
    ∷ unchanged (proposal [] [] 5 0 []) [] done
    ∷ []

-- 1; 3 of the samples meant, before 9; 9, before 3 of the scratch and 17; 3 of the scratch, and of the offsets, before 17.
abbrev early : List Example
early =
    unchanged (proposal [] [] 16_385 1 []) [] (refused 1)
    ∷ unchanged (proposal [] [] 0 16_385 []) [] (refused 1)
    ∷ unchanged (proposal up (0 ∷ []) 2 1 (16_384 ∷ [])) (7 ∷ 7 ∷ []) (refused 3)
    ∷ unchanged (proposal up (0 ∷ []) 2 1 (128 ∷ 16_384 ∷ [])) (7 ∷ []) (refused 9)
    ∷ unchanged (proposal up [] 2 1 (128 ∷ 16_384 ∷ [])) (7 ∷ 7 ∷ []) (refused 9)
    ∷ unchanged (proposal up (0 ∷ []) 2 1 (128 ∷ 128 ∷ [])) (7 ∷ []) (refused 3)
    ∷ unchanged (proposal up [] 2 1 (128 ∷ 128 ∷ [])) (7 ∷ 7 ∷ []) (refused 3)
    ∷ []

-- 17, 18 and 19 with their rows, row 0 among them, and the first that comes before 21.
abbrev unclean : List Example
unclean =
    unchanged (proposal (up ++ (0 ∷ [])) (0 ∷ []) 1 1 (128 ∷ [])) (7 ∷ []) (fault_at 0 17)
    ∷ unchanged (proposal (down ++ up ++ (0 ∷ [])) (0 ∷ 4 ∷ []) 1 2 (128 ∷ 128 ∷ [])) (7 ∷ 7 ∷ []) (fault_at 1 17)
    ∷ unchanged (proposal (down_down ++ below) (0 ∷ 8 ∷ []) 17 2 (replicate 34 128)) (replicate 34 7) (fault_at 1 18)
    ∷ unchanged (proposal down (0 ∷ 0 ∷ 4 ∷ []) 1 3 (128 ∷ 128 ∷ 128 ∷ [])) (7 ∷ 7 ∷ 7 ∷ []) (fault_at 2 19)
    ∷ []

-- 21: a byte more than the writer's; and a stream that is longer, of another frame.
abbrev long : List Example
long =
    unchanged (proposal (down ++ (0 ∷ [])) (0 ∷ []) 1 1 (128 ∷ [])) (7 ∷ []) (refused 21)
    ∷ unchanged (proposal upward (0 ∷ 8 ∷ 16 ∷ []) 1 3 (128 ∷ 128 ∷ 128 ∷ [])) (7 ∷ 7 ∷ 7 ∷ []) (refused 21)
    ∷ []

-- 20: the last sample, and the first.
abbrev other : List Example
other =
    decoded (proposal upward (0 ∷ 8 ∷ 16 ∷ []) 1 3 (200 ∷ 300 ∷ 301 ∷ [])) (200 ∷ 300 ∷ 300 ∷ []) (refused 20)
    ∷ decoded (proposal down (0 ∷ []) 1 1 (129 ∷ [])) (128 ∷ []) (refused 20)
    ∷ []

unfoldable pub examples : List Example
examples = taken ++ early ++ unclean ++ long ++ other
