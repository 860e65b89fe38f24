use Prim.Native.Nat.{◌*◌, ◌/◌}
use mathlib.Core.Path.{◌≡◌}
use native.Mathlib.Omega.{arith}
use Rattle.write_rules.proofs.PendingLaws.{wrote}
use Rattle.write_bits.proofs.Laws.{begun, room, going_on, gone}
use Rattle.write_bits.proofs.put_numbers.Goals as goal

pub loop-k-init : goal.loop-k-init
loop-k-init c = begun c.args.lengths c.args.d c.args.out.now c.args.p c.requires.0 (omega arith)

pub put_pair-q-requires : goal.put_pair-q-requires
put_pair-q-requires c =
    let a = c.args in
    let l = c.loop-k in
    let half : 2 * l.k / 4 ≡ l.k / 2 = omega arith in
    (l.invariant.wrote.count_small, c.requires.1.each (l.k / 2), rw half at (room a.lengths a.d a.out.now l.out a.p l.q (2 * l.k) l.invariant (omega arith) c.requires.2))

pub loop-k-preserved : goal.loop-k-preserved
loop-k-preserved c =
    let a = c.args in
    let l = c.loop-k in
    let half : 2 * l.k / 4 ≡ l.k / 2 = omega arith in
    going_on a.lengths a.d a.out.now l.out a.p l.q (2 * l.k) l.invariant _ _ _ (omega arith) (omega arith) (rw half (wrote c.put_pair-q.ensures))

pub shape_of-out : goal.shape_of-out
shape_of-out c = c.loop-k.invariant.wrote.length_is

pub returns : goal.returns
returns c = let a = c.args in let l = c.loop-k in let w = gone a.lengths a.d a.out.now l.out a.p l.q (2 * l.k) l.invariant (omega arith) in (w.state, w.stored)
