-- `bytes_of_scratch` meets its contract: below row 2 there is no byte.
use native.Mathlib.Omega.{arith}
use Rattle.entry_refusals.proofs.RefusalLaws.{no_late_rows, scratch_fits}
use Rattle.entry_refusals.proofs.bytes_of_scratch.Goals as goal

pub returns-then-size-lt2 : goal.returns-then-size-lt2
returns-then-size-lt2 c = no_late_rows _ _ c.if-size-lt2.true

pub overflow_mul-result : goal.overflow_mul-result
overflow_mul-result c = rw c.blocks_in.ensures (omega (arith, scratch_fits _ _ c.requires.0 c.requires.1))

pub returns : goal.returns
returns c = rw c.blocks_in.ensures
