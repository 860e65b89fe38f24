-- A call of the V0 decoder in bands, for every input. It is the plain two-phase call, with a cut and a list of steps; it makes no
-- map. Its own refusals, 11 and 12, come after the plain call's 1 to 4 and before anything is written.
use Rattle.std.specs.Prelude.{ℕ, cond, ◌≡◌, List, ◌++◌, eqb, length, take, drop}
use Rattle.std.proofs.Math.Option.{none, some}
use Rattle.rules.specs.declared.answer.Answer.{Answer}
use Rattle.rules.specs.Frame.{cells}
use Rattle.rules.specs.Phases.{scratch}
use Rattle.rules.specs.Answer as Plain
use Rattle.rules_bands.specs.declared.Cut.{Cut}
use Rattle.rules_bands.specs.Bands.{sized, cut, fits, good, in_bands}

-- What a call asks for, and the samples and the scratch that it is lent, as it finds them.
pub record Call : Type 0 where
  pub stream : List ℕ
  pub offsets : List ℕ
  pub cut : Cut
  pub steps : List ℕ
  pub samples : List ℕ
  pub scratch : List ℕ

-- A call by its arguments, in their sequence.
abbrev pub call : List ℕ → List ℕ → ℕ → ℕ → List ℕ → List ℕ → ℕ → ℕ → List ℕ → Call
call s offsets w h samples scratch bands block_width steps =
    record {
      stream = s;
      offsets = offsets;
      cut = cut (sized w h) bands block_width;
      steps = steps;
      samples = samples;
      scratch = scratch;
    }

-- The plain two-phase call: what it asks for, and its buffers.
abbrev pub plain : Call → Plain.Ask
plain c = record { decoder = Plain.two_phase; stream = c.stream; offsets = c.offsets; size = c.cut.size }

abbrev pub buffers : List ℕ → List ℕ → Plain.Buffers
buffers samples scratch = Plain.buffers samples none (some scratch)

abbrev pub lengths : Call → Plain.Lent
lengths c = Plain.lengths (buffers c.samples c.scratch)

-- 11: a cut that doesn't fit; then 12: a list that isn't good.
unfoldable pub list_refusal : Cut → List ℕ → ℕ
list_refusal c steps = cond (fits c) (cond (good c steps) 0 12) 11

-- They come after the plain call's 1 to 4.
unfoldable pub refusal : Call → ℕ
refusal c =
    let first = Plain.refusal (plain c) (lengths c) in
    cond (eqb first 0) (list_refusal c.cut c.steps) first

-- Every number comes with row 0, and V0 is done if none is given.
unfoldable pub answer : Call → Answer
answer c = Plain.refused (refusal c)

-- The samples; those from N on never change, and where a number is given none does.
unfoldable pub samples_after : Call → List ℕ
samples_after c =
    let n = cells c.cut.size in
    let new = in_bands c.stream c.offsets c.cut c.steps (take n c.samples) in
    cond (eqb (refusal c) 0) (new ++ drop n c.samples) c.samples

-- The scratch, as the plain call leaves it.
unfoldable pub scratch_after : Call → List ℕ
scratch_after c =
    let new = scratch c.stream c.offsets c.cut.size in
    cond (eqb (refusal c) 0) (new ++ drop (length new) c.scratch) c.scratch

-- What a call yields: its answer, and the samples and the scratch as it leaves them.
pub record Yields (c : Call) (r : Answer) (out dirs : List ℕ) : Type 0 where
  pub answered : r ≡ answer c
  pub samples : out ≡ samples_after c
  pub scratch : dirs ≡ scratch_after c
