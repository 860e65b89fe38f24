-- A call of the V0 decoder for clean frames: it is the direct decoder's, with the verdict on clean frames after its refusals 1, 3
-- and 4 and before anything is written.
use Rattle.std.specs.Prelude.{ℕ, Bool, cond, ◌≡◌, List, eqb}
use Rattle.std.proofs.Math.Option
use Rattle.rules.specs.declared.answer.Answer.{Answer}
use Rattle.rules.specs.Answer as Plain
use Rattle.rules_clean.specs.Verdict.{verdict}

-- 17, 18 and 19 come after the plain call's 1, 3 and 4. No filler was fetched if the frame is taken, and none is counted if not.
unfoldable pub answer : Plain.Ask → Plain.Lent → Answer
answer a l =
    let first = Plain.refusal a l in
    cond (eqb first 0) (verdict a.stream a.offsets a.size) (Plain.refused first)

-- Whether the frame is taken.
abbrev pub taken : Plain.Ask → Plain.Lent → Bool
taken a l = eqb (answer a l).number 0

-- A frame that is taken leaves what the plain call leaves, any other changes nothing.
unfoldable pub samples_after : Plain.Ask → Plain.Lent → List ℕ → List ℕ
samples_after a l buffer = cond (taken a l) (Plain.samples_after a l buffer) buffer

unfoldable pub map_after : Plain.Ask → Plain.Lent → List ℕ → List ℕ
map_after a l buffer = cond (taken a l) (Plain.map_after a l buffer) buffer

-- The outcome of a call that asks a over samples, and a map where one is lent: what it answers, and what it leaves.
pub record Yields (a : Plain.Ask) (found : Plain.Buffers) (r : Answer) (left : Plain.Buffers) : Type 0 where
  pub answered : r ≡ answer a (Plain.lengths found)
  pub samples : left.samples ≡ samples_after a (Plain.lengths found) found.samples
  pub map : left.map ≡ Option.map (map_after a (Plain.lengths found)) found.map
