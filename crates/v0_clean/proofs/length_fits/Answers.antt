-- Both tests are the rule's, by the sign of the length.
use mir.ValLaws.{to_z-of_z}
use mir.Syntax.{w32}
use Rattle.v0_clean.proofs.BlockLaws.{fits_high, fits_low}
use Rattle.v0_clean.proofs.length_fits.Goals as goal

pub returns-then-length-ge0 : goal.returns-then-length-ge0
returns-then-length-ge0 c = let l = c.args.length in let e = to_z-of_z w32 l c.ranges.length in rw e (fits_high l (rw e at c.if-length-ge0.true))

pub returns-else-length-ge0 : goal.returns-else-length-ge0
returns-else-length-ge0 c = let l = c.args.length in let e = to_z-of_z w32 l c.ranges.length in rw e (fits_low l (rw e at c.if-length-ge0.false))
