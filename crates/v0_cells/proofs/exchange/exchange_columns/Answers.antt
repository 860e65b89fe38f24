use Rattle.std.proofs.Common.{◌≡◌, ◌+◌, ◌*◌, arith}
use native.Mathlib.Nat.{add-zero}
use Rattle.v0_cells.proofs.ExchangeLaws.{pairing_begun, pairing_on, paired}
use Rattle.v0_cells.proofs.exchange.exchange_columns.Goals as goal

pub loop-pair-init : goal.loop-pair-init
loop-pair-init g c = rw add-zero (pairing_begun _ _ _ _ _ _ c.requires.columns)

pub loop-pair-preserved : goal.loop-pair-preserved
loop-pair-preserved g c =
    let l = c.loop-pair in
    let e : c.args.from + 2 * (l.pair + 1) ≡ c.args.from + 2 * l.pair + 2 = omega arith in
    rw e (pairing_on _ _ _ _ _ _ _ _ _ (omega arith) c.exchange_two.ensures l.invariant)

pub returns : goal.returns
returns g c = paired _ _ _ _ _ _ _ _ (omega arith) c.loop-pair.invariant
