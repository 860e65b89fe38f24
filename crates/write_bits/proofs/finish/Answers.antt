use mathlib.Core.Path.{◌∙◌}
use native.Mathlib.Omega.{arith}
use lib.Dec.{lit≤}
use lib.ListN.{length}
use Rattle.write_rules.proofs.PendingLaws.{wrote}
use Rattle.write_bits.proofs.Padding.{zeros_wrote, word_done, padding_begun, word_fits, padding_on, pos_more, padding_gone, end_same, finish_law, word_room, some_unit}
use Rattle.write_bits.proofs.finish.Goals as goal

pub to_word-q-requires : goal.to_word-q-requires
to_word-q-requires c = let a = c.args in (c.requires.1, word_room a.p (length a.out.now) c.requires.0 c.requires.2 c.requires.3)

pub loop-q-init : goal.loop-q-init
loop-q-init c =
    let w = wrote c.to_word-q.ensures in
    padding_begun c.args.unit _ _ (word_done c.requires.1 w) (omega arith) (w.whole ∙ c.requires.2)

pub nonzero_rem-q : goal.nonzero_rem-q
nonzero_rem-q c = some_unit c.requires.0

pub put-q-requires : goal.put-q-requires
put-q-requires c =
    let a = c.args in
    let l = c.loop-q in
    let w = c.to_word-q in (
      l.invariant.wrote.count_small,
      lit≤ tt,
      omega (arith, word_fits c.requires.0 w.result _ l.out l.q l.invariant (λ e. omega arith), end_same c.requires.0 a.p a.out.now _ w.result c.requires.1 c.requires.2 (wrote w.ensures), l.invariant.none_waits, l.invariant.wrote.length_is, (wrote w.ensures).length_is, c.requires.3),
    )

pub loop-q-smaller : goal.loop-q-smaller
loop-q-smaller c =
    let l = c.loop-q in
    let w = c.to_word-q in
    let f = word_fits c.requires.0 w.result _ l.out l.q l.invariant (λ e. omega arith) in
    omega (arith, pos_more c.requires.0 w.result _ l.out l.q l.invariant _ _ (zeros_wrote 32 c.put-q.ensures), f)

pub loop-q-preserved : goal.loop-q-preserved
loop-q-preserved c =
    let l = c.loop-q in
    padding_on c.requires.0 c.to_word-q.result _ l.out l.q l.invariant _ _ (λ e. omega arith) (zeros_wrote 32 c.put-q.ensures)

pub shape_of-out : goal.shape_of-out
shape_of-out c = c.loop-q.invariant.wrote.length_is ∙ (wrote c.to_word-q.ensures).length_is

pub returns : goal.returns
returns c =
    let a = c.args in
    let l = c.loop-q in
    let w = c.to_word-q in
    let e = finish_law c.requires.0 a.p a.out.now _ w.result c.requires.1 c.requires.2 (wrote w.ensures) l.out l.q (padding_gone c.requires.0 w.result _ l.out l.q l.invariant (omega arith)) in
    (e.state, e.stored)
