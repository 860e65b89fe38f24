-- Four fields up to the end of a window: each is cut after those behind it are moved out.
use Rattle.std.proofs.Common.{pow_pos}
use Rattle.read_window.proofs.WindowLaws.{four_made}
use Rattle.read_window.proofs.four.four_at.Goals as goal

pub nonzero_div-c : goal.nonzero_div-c
nonzero_div-c g c = rw c.power.ensures (pow_pos _)

pub nonzero_div-b : goal.nonzero_div-b
nonzero_div-b g c = rw c.power-2.ensures (pow_pos _)

pub nonzero_div-a : goal.nonzero_div-a
nonzero_div-a g c = rw c.power-3.ensures (pow_pos _)

pub returns : goal.returns
returns g c =
    four_made (g.T.Cut.number c.args.n) c.args.src.now c.args.base c.args.q c.args.n _ _ _ _ c.requires.0 c.requires.1.0 c.window-d.ensures c.power.ensures c.power-2.ensures c.power-3.ensures
    c.low.ensures c.low-2.ensures c.low-3.ensures c.low-4.ensures
