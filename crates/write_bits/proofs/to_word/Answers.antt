-- Zero bits to the word's end, none where nothing waits.
use mathlib.Core.Path.{refl}
use native.Mathlib.Omega.{arith}
use Rattle.write_bits.proofs.Padding.{word_none, word_law}
use Rattle.write_bits.proofs.to_word.Goals as goal

pub returns-then-p-eq0 : goal.returns-then-p-eq0
returns-then-p-eq0 c =
    let a = c.args in
    let w = word_none a.out.now a.p (omega arith) (omega arith) in
    (w.state, w.stored)

pub returns : goal.returns
returns c =
    let a = c.args in
    let w = word_law a.out.now _ a.p _ _ c.requires.0 (omega arith) refl c.put.ensures in
    (w.state, w.stored)
