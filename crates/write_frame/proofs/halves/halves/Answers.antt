use mathlib.Core.Path.{refl}
use native.Mathlib.Omega.{arith}
use lib.ListN.{length}
use Rattle.write_frame.specs.Frames.{by_halves}
use Rattle.write_frame.proofs.HalfLaws.{half_in, halves_on, found}
use Rattle.write_frame.proofs.halves.halves.Goals as goal

pub loop-k-init : goal.loop-k-init
loop-k-init c = record { most = omega arith; long = refl; before = λ j l. absurd (omega arith) }

pub overflow_add-start : goal.overflow_add-start
overflow_add-start c = let a = c.args in omega (arith, c.of_half-start.ensures, half_in c.loop-k.k a.first a.second (length a.samples.now) c.requires.0 c.requires.1)

pub offset_bounds-samples-start : goal.offset_bounds-samples-start
offset_bounds-samples-start c = let a = c.args in omega (arith, c.of_half-start.ensures, half_in c.loop-k.k a.first a.second (length a.samples.now) c.requires.0 c.requires.1)

pub bounds-samples-start : goal.bounds-samples-start
bounds-samples-start c = let a = c.args in omega (arith, c.of_half-start.ensures, half_in c.loop-k.k a.first a.second (length a.samples.now) c.requires.0 c.requires.1)

pub loop-k-preserved : goal.loop-k-preserved
loop-k-preserved c =
    let a = c.args in
    let l = c.loop-k in
    halves_on a.samples.now l.d a.first a.second a.p a.q l.k _ _ c.less.result (omega arith) c.of_half-start.ensures c.of_half-prediction.ensures c.less.ensures l.invariant

pub returns : goal.returns
returns c = let a = c.args in let l = c.loop-k in found (by_halves a.samples.now a.first a.second a.p a.q) l.d l.k (omega arith) l.invariant
