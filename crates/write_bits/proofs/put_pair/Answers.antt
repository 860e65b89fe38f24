-- One write of twice the bits writes both.
use mathlib.Core.Path.{ap, ◌∙◌}
use Rattle.write_rules.specs.Pending.{put_state, put_out}
use Rattle.write_bits.proofs.Laws.{pair_law}
use Rattle.write_bits.proofs.put_pair.Goals as goal

pub returns : goal.returns
returns c =
    let a = c.args in
    let e = pair_law a.n a.a a.b _ c.pair.ensures in
    let w = c.put.ensures in
    (w.0 ∙ ap (put_state a.p) e, w.1 ∙ ap (put_out a.out.now a.p) e)
