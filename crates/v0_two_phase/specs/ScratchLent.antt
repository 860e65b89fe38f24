-- What the decoder is lent.
use Rattle.std.specs.Prelude.{ℕ, ◌≤◌, List, [], length}
use Rattle.rules.specs.Answer.{scratch_bytes}
use Rattle.rules.specs.declared.answer.Size.{Size}
use Rattle.v0_direct.specs.FrameLent as Direct

-- What a call of the decoder is lent, once refusals 1, 3 and 4 are passed.
pub record ScratchLent (z : Size) (offsets out dirs : List ℕ) : Type 0 where
  pub frame : Direct.FrameLent z offsets out []
  pub directions_lent : scratch_bytes z ≤ length dirs
