-- Each byte has its place, and four stores are a word's bytes.
use mathlib.Core.Path.{ap}
use native.Mathlib.Omega.{arith}
use lib.ListN.{get_or, length-set}
use Rattle.write_bits.proofs.Laws.{stored}
use Rattle.write_bits.proofs.store.Goals as goal

pub bounds-out-at-2 : goal.bounds-out-at-2
bounds-out-at-2 c = rw length-set (omega arith)

pub bounds-out-at-3 : goal.bounds-out-at-3
bounds-out-at-3 c = rw (length-set, length-set) (omega arith)

pub bounds-out-at-4 : goal.bounds-out-at-4
bounds-out-at-4 c = rw (length-set, length-set, length-set) (omega arith)

pub returns : goal.returns
returns c =
    let e = c.to_le_bytes-bytes.ensures in
    stored c.args.out.now c.args.at c.args.x _ _ _ _ (ap (λ l. get_or l 0 0) e) (ap (λ l. get_or l 1 0) e) (ap (λ l. get_or l 2 0) e) (ap (λ l. get_or l 3 0) e)
