-- Worked calls of the V0 decoder for clean frames, as one list: what is asked and lent, and what is answered and left.
-- `proofs/Examples.antt` proves the one claim, that in each the definitions give what is stated.
use Rattle.std.specs.Prelude.{ℕ, List, [], ◌∷◌, ◌++◌, replicate}
use Rattle.std.proofs.Math.Option
use Rattle.std.proofs.Math.Option.{Option, none, some}
use Rattle.rules.specs.declared.answer.Answer.{Answer}
use Rattle.rules.specs.Answer.{done, refused, Ask, ask, direct, Buffers, buffers, lengths}
use Rattle.rules_clean.specs.Verdict.{fault_at}
use Rattle.rules_clean.specs.Clean.{answer, samples_after, map_after}

-- A call and the buffers that it finds, its answer, and the buffers afterwards.
pub record Example : Type 0 where
  pub asked : Ask
  pub found : Buffers
  pub answer : Answer
  pub samples : List ℕ
  pub map : Option (List ℕ)

-- The same call, with what the definitions give.
abbrev pub defined : Example → Example
defined e =
    let l = lengths e.found in
    record {
      asked = e.asked;
      found = e.found;
      answer = answer e.asked l;
      samples = samples_after e.asked l e.found.samples;
      map = Option.map (map_after e.asked l) e.found.map;
    }

-- A frame that is taken, over two samples and a map byte more than it needs.
abbrev taken : List ℕ → List ℕ → ℕ → ℕ → List ℕ → List ℕ → Example
taken s offsets w h samples map =
    record {
      asked = ask direct s offsets w h;
      found = buffers (replicate 12 7) (some (replicate 11 9)) none;
      answer = done;
      samples = samples;
      map = some map;
    }

-- One that isn't: nothing is changed.
abbrev unchanged : List ℕ → List ℕ → ℕ → ℕ → ℕ → Option (List ℕ) → Answer → Example
unchanged s offsets w h n map a =
    record { asked = ask direct s offsets w h; found = buffers (replicate n 7) map none; answer = a; samples = replicate n 7; map = map }

-- ── Streams ──

-- 3 by 2, as the writer makes it.
abbrev small : List ℕ
small =
    64 ∷ 0 ∷ 192 ∷ 127 ∷ 0 ∷ 0 ∷ 128 ∷ 127
    ∷ 63 ∷ 64 ∷ 248 ∷ 127 ∷ 0 ∷ 0 ∷ 124 ∷ 127 ∷ 40 ∷ 4 ∷ 0 ∷ 0 ∷ 0 ∷ 0 ∷ 0 ∷ 0 ∷ []

-- 1 by 3: row 2 takes the sample above it.
abbrev upward : List ℕ
upward = 36 ∷ 0 ∷ 192 ∷ 127 ∷ 0 ∷ 0 ∷ 0 ∷ 0 ∷ 43 ∷ 0 ∷ 200 ∷ 127 ∷ 0 ∷ 0 ∷ 0 ∷ 0 ∷ 0 ∷ 0 ∷ 128 ∷ 255 ∷ []

-- A block with four lengths 0, of direction 0 and of direction 1; and two blocks, of lengths 0 and of one less.
abbrev down : List ℕ
down = 0 ∷ 0 ∷ 128 ∷ 127 ∷ []

abbrev up : List ℕ
up = 0 ∷ 0 ∷ 128 ∷ 255 ∷ []

abbrev below : List ℕ
below = 42 ∷ 0 ∷ 128 ∷ 127 ∷ 0 ∷ 0 ∷ 0 ∷ 0 ∷ []

-- ── The list ──

unfoldable pub examples : List Example
examples =
    -- Taken: the map is all 0, and what lies past N stays.
    taken small (0 ∷ 8 ∷ 8 ∷ []) 3 2 (0 ∷ 16_383 ∷ 127 ∷ 128 ∷ 5 ∷ 16_000 ∷ replicate 6 7) (replicate 6 0 ++ replicate 5 9)
    ∷ taken upward (0 ∷ 8 ∷ 16 ∷ []) 1 3 (200 ∷ 300 ∷ 300 ∷ replicate 9 7) (replicate 3 0 ++ replicate 8 9)
    -- Taken with no map lent, and with no row.
    ∷ record {
      asked = ask direct down (0 ∷ []) 1 1;
      found = buffers (7 ∷ 7 ∷ []) none none;
      answer = done;
      samples = 128 ∷ 7 ∷ [];
      map = none;
    }
    ∷ unchanged [] [] 1 0 2 (some (9 ∷ [])) done
    -- 17, 18 and 19, each with its row; with 17 and no map, too.
    ∷ unchanged (down ++ up) (0 ∷ 4 ∷ []) 1 2 3 (some (replicate 3 9)) (fault_at 1 17)
    ∷ unchanged up (0 ∷ []) 1 1 2 none (fault_at 0 17)
    ∷ unchanged below (0 ∷ []) 17 1 17 (some (replicate 17 9)) (fault_at 0 18)
    ∷ unchanged down (0 ∷ 0 ∷ 4 ∷ []) 1 3 3 (some (replicate 3 9)) (fault_at 2 19)
    -- 4, 3 of the samples and of the offsets, and 1, each before 17 and before those after it.
    ∷ unchanged up (0 ∷ []) 2 1 2 (some (9 ∷ [])) (refused 4)
    ∷ unchanged up (0 ∷ []) 2 1 1 (some (9 ∷ [])) (refused 3)
    ∷ unchanged up [] 2 1 2 (some (9 ∷ 9 ∷ [])) (refused 3)
    ∷ unchanged up [] 16_385 1 0 (some []) (refused 1)
    ∷ []
