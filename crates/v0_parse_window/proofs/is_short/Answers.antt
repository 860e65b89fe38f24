-- The first test decides, or leaves it to the second; the length has gone through 32 bits.
use Rattle.std.proofs.Common.{◌∙◌, w32}
use mir.ValLaws.{to_z-of_z}
use Rattle.v0_parse_window.proofs.GroupLaws.{short_below, short_from_0}
use Rattle.v0_parse_window.proofs.is_short.Goals as goal

pub returns-then-length-ge0 : goal.returns-then-length-ge0
returns-then-length-ge0 c =
    let l = c.args.length in let e = to_z-of_z w32 l c.ranges.length in
    rw e (short_from_0 l (rw e at c.if-length-ge0.true))

pub returns-else-length-ge0 : goal.returns-else-length-ge0
returns-else-length-ge0 c =
    let l = c.args.length in let e = to_z-of_z w32 l c.ranges.length in
    c.if-length-ge0.false ∙ short_below l (rw e at c.if-length-ge0.false)
