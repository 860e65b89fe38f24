-- What is lent of a buffer that some calls do without: nothing, or so many elements.
use Rattle.std.specs.Prelude.{ℕ, Bool, false, ◌||◌, ltb, Option, Some, None}
use Rattle.rules.specs.declared.answer.Size.{Size}
use Rattle.rules.specs.Frame.{cells}
use Rattle.rules.specs.Answer.{first_of, too_large, scratch_bytes}

-- Whether it is lent and less than needed.
unfoldable pub short : Option ℕ → ℕ → Bool
short None n = false
short (Some m) n = ltb m n

-- The first of refusals 1 to 4 that holds, or 0, of a size, whether it is too small, how many samples are lent, and what is lent of
-- offsets, map and scratch.
abbrev pub first_refusal : Size → Bool → ℕ → Option ℕ → Option ℕ → Option ℕ → ℕ
first_refusal z small samples offsets map scratch =
    first_of (too_large z) small (ltb samples (cells z) || short offsets z.height) (short map (cells z) || short scratch (scratch_bytes z))
