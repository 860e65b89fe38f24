-- The tests in turn, in the sequence of their numbers.
use mathlib.Core.Path.{◌∙◌, sym}
use native.Mathlib.Omega.{arith}
use Rattle.v0_clean.proofs.BlockLaws.{fault_upward, fault_outside, fault_filler, fault_none}
use Rattle.v0_clean.proofs.check_block.Goals as goal

pub returns-then-is_early : goal.returns-then-is_early
returns-then-is_early c = let a = c.args in fault_upward a.row a.block a.block.row.bits (sym c.is_early.ensures ∙ c.if-is_early.true)

pub returns-then-not-lengths_fit : goal.returns-then-not-lengths_fit
returns-then-not-lengths_fit c = let a = c.args in fault_outside a.row a.block a.block.row.bits (sym c.is_early.ensures ∙ c.if-is_early.false) (sym c.lengths_fit.ensures ∙ c.if-not-lengths_fit.true)

pub returns-then-block-ne0 : goal.returns-then-block-ne0
returns-then-block-ne0 c = let a = c.args in fault_filler a.row a.block a.block.row.bits (sym c.is_early.ensures ∙ c.if-is_early.false) (sym c.lengths_fit.ensures ∙ c.if-not-lengths_fit.false) c.if-block-ne0.true

pub returns : goal.returns
returns c = let a = c.args in fault_none a.row a.block a.block.row.bits (sym c.is_early.ensures ∙ c.if-is_early.false) (sym c.lengths_fit.ensures ∙ c.if-not-lengths_fit.false) (omega arith)
