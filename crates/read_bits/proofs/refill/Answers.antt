-- Each way leaves enough: with no word fetched what is held, else 32 bits more, and one more missing if the word is.
use Rattle.std.proofs.Common.{sym, ◌∙◌, arith, rules}
use Rattle.std.specs.Prelude.{Some, None}
use Rattle.rules.proofs.ReaderLaws.{counted_there}
use Rattle.read_bits.proofs.RefilledLaws.{enough_held, enough_next}
use Rattle.read_bits.proofs.refill.Goals as goal

pub returns-then-k-have : goal.returns-then-k-have
returns-then-k-have c = rw c.from.ensures (enough_held _ c.args.bits _ _ c.requires c.held_bits-have.ensures (omega arith))

pub returns-in-Some : goal.returns-in-Some
returns-in-Some c = enough_next _ c.args.bits _ _ c.requires c.held_bits-have.ensures (Some c.in-Some.word) _ _ (omega arith) (sym c.in-Some.is ∙ c.fetch.ensures) (search rules)
    (sym (counted_there _)) c.joined.ensures

pub returns-in-None : goal.returns-in-None
returns-in-None c = enough_next _ c.args.bits _ _ c.requires c.held_bits-have.ensures None _ _ (omega arith) (sym c.in-None.is ∙ c.fetch.ensures) (search rules)
    c.count_missing.ensures c.joined-in-None.ensures
