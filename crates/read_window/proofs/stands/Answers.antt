-- The tests are those of the definition, in its order; where two differences are compared, the sums are.
use mathlib.Core.Path.{sym, ap, ◌∙◌}
use native.Mathlib.Omega.{arith}
use lib.Dec.{eqb}
use Rattle.read_window.proofs.WindowLaws.{stands_full, stands_early, stands_late, stands_word}
use Rattle.read_window.proofs.stands.Goals as goal

pub returns-then-bits-gt31 : goal.returns-then-bits-gt31
returns-then-bits-gt31 c = let a = c.args in sym (stands_full a.src.now a.bits a.more (omega arith))

pub returns-then-at-lt4 : goal.returns-then-at-lt4
returns-then-at-lt4 c = let a = c.args in sym (stands_early a.src.now a.bits a.more (omega arith) (omega arith))

pub returns-then-n-more : goal.returns-then-n-more
returns-then-n-more c = let a = c.args in sym (stands_late a.src.now a.bits a.more (omega arith) (omega arith) (omega arith))

pub returns-then-n-more-2 : goal.returns-then-n-more-2
returns-then-n-more-2 c = let a = c.args in sym (stands_late a.src.now a.bits a.more (omega arith) (omega arith) (omega arith))

pub returns : goal.returns
returns c = let a = c.args in
    rw c.from.ensures (ap (λ w. eqb w a.bits.word) c.word_there.ensures.0 ∙ sym (stands_word a.src.now a.bits a.more (omega arith) (omega arith) (omega arith)))
