-- `refuse` meets its contract: the code's tests are the rules', in their order.
use mathlib.Core.Path.{sym, ap, ◌∙◌}
use native.Mathlib.Omega.{arith}
use borrow.Author.Tests.{lt-ltb, le-ltb}
use Rattle.rules.specs.Answer.{first_of}
use Rattle.entry_refusals.specs.Lending.{short}
use Rattle.entry_refusals.proofs.RefusalLaws.{cells_most, size_most}
use Rattle.entry_refusals.proofs.refuse.Goals as goal

pub returns-then-is_too_large : goal.returns-then-is_too_large
unfolding first_of
returns-then-is_too_large c = rw (sym c.is_too_large.ensures ∙ c.if-is_too_large.true)

pub returns-then-small : goal.returns-then-small
unfolding first_of
returns-then-small c = rw (sym c.is_too_large.ensures ∙ c.if-is_too_large.false, c.if-small.true)

pub overflow_mul-n : goal.overflow_mul-n
overflow_mul-n c =
    let m = size_most _ (sym c.is_too_large.ensures ∙ c.if-is_too_large.false) in
    omega (arith, cells_most _ _ m.0 m.1)

pub returns-then-samples-n : goal.returns-then-samples-n
unfolding first_of
returns-then-samples-n c = rw (sym c.is_too_large.ensures ∙ c.if-is_too_large.false, c.if-small.false, lt-ltb _ _ c.if-samples-n.true)

pub returns-then-is_short : goal.returns-then-is_short
unfolding first_of
returns-then-is_short c =
    rw (sym c.is_too_large.ensures ∙ c.if-is_too_large.false, c.if-small.false, le-ltb _ _ c.if-samples-n.false, sym c.is_short.ensures ∙ c.if-is_short.true)

pub returns-then-is_short-2 : goal.returns-then-is_short-2
unfolding first_of
returns-then-is_short-2 c =
    rw (sym c.is_too_large.ensures ∙ c.if-is_too_large.false, c.if-small.false, le-ltb _ _ c.if-samples-n.false, sym c.is_short.ensures ∙ c.if-is_short.false, sym c.is_short-2.ensures ∙ c.if-is_short-2.true)

pub bytes_of_scratch-requires : goal.bytes_of_scratch-requires
bytes_of_scratch-requires c =
    size_most _ (sym c.is_too_large.ensures ∙ c.if-is_too_large.false)

pub returns-then-is_short-3 : goal.returns-then-is_short-3
unfolding first_of
returns-then-is_short-3 c =
    rw (sym c.is_too_large.ensures ∙ c.if-is_too_large.false, c.if-small.false, le-ltb _ _ c.if-samples-n.false, sym c.is_short.ensures ∙ c.if-is_short.false, sym c.is_short-2.ensures ∙ c.if-is_short-2.false, sym (c.is_short-3.ensures ∙ ap (short _) c.bytes_of_scratch.ensures) ∙ c.if-is_short-3.true)

pub returns : goal.returns
unfolding first_of
returns c =
    rw (sym c.is_too_large.ensures ∙ c.if-is_too_large.false, c.if-small.false, le-ltb _ _ c.if-samples-n.false, sym c.is_short.ensures ∙ c.if-is_short.false, sym c.is_short-2.ensures ∙ c.if-is_short-2.false, sym (c.is_short-3.ensures ∙ ap (short _) c.bytes_of_scratch.ensures) ∙ c.if-is_short-3.false)
