-- Two fields from the top of each of two windows, one of which begins where the other ends.
use Rattle.std.proofs.Common.{pow_pos}
use Rattle.v0_parse_window.proofs.GroupLaws.{long_made}
use Rattle.v0_parse_window.proofs.four_long_at.Goals as goal

pub nonzero_div-b : goal.nonzero_div-b
nonzero_div-b c = rw c.power.ensures (pow_pos _)

pub nonzero_div-d : goal.nonzero_div-d
nonzero_div-d c = rw c.power-2.ensures (pow_pos _)

pub nonzero_div-b-2 : goal.nonzero_div-b-2
nonzero_div-b-2 c = rw c.power-3.ensures (pow_pos _)

pub nonzero_div-d-2 : goal.nonzero_div-d-2
nonzero_div-d-2 c = rw c.power-4.ensures (pow_pos _)

pub returns : goal.returns
returns c =
    long_made c.args.src.now c.args.base c.args.q c.args.n _ _ _ _ _ _ _ _ _ _ c.requires.0 c.requires.1.0 c.window.ensures c.window-2.ensures
    c.power.ensures c.power-2.ensures c.power-3.ensures c.power-4.ensures
    c.low.ensures c.low-2.ensures c.low-3.ensures c.low-4.ensures
