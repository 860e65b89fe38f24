-- Adding half of 2^n and taking it off again, in a turn of 2^n, is the sign.
use Rattle.std.proofs.Common.{sym, ap, ◌∙◌, refl, arith}
use Rattle.rules.specs.Reader.{modulo}
use Rattle.read_window.proofs.SignLaws.{low_made, modulo_minus}
use Rattle.read_window.proofs.four.U16Cut.low.Goals as goal

pub nonzero_rem-result : goal.nonzero_rem-result
nonzero_rem-result c = (low_made 32 c.args.x c.args.n c.power-top.result _ (omega arith) c.requires c.power-top.ensures refl).some

pub overflow_add-result : goal.overflow_add-result
overflow_add-result c = let l = low_made 32 c.args.x c.args.n c.power-top.result _ (omega arith) c.requires c.power-top.ensures refl in record { fits = omega arith }

pub overflow_sub-result : goal.overflow_sub-result
overflow_sub-result c = let l = low_made 32 c.args.x c.args.n c.power-top.result _ (omega arith) c.requires c.power-top.ensures refl in omega arith

pub returns : goal.returns
returns c = let l = low_made 32 c.args.x c.args.n c.power-top.result _ (omega arith) c.requires c.power-top.ensures refl in sym (modulo_minus _ _ (omega arith)) ∙ ap modulo l.is
