-- Each way gives what the rule's test of the operation gives; a 4-bit number fits.
use mathlib.Core.Path.{◌∙◌}
use native.Mathlib.Omega.{arith}
use mir.Facts.{to_z_pos}
use mir.ValLaws.{to_z-of_z}
use mir.Syntax.{w32}
use mir.Val.{SFits}
use lib.IntN.{pos}
use borrow.Author.Rules.{rules}
use Rattle.rules.proofs.ReaderLaws.{read_below}
use Rattle.v0_parse.proofs.HeadLaws.{length_read, length_stepped}
use Rattle.v0_parse.proofs.head.read_length.Goals as goal

pub overflow_cast-result : goal.overflow_cast-result
overflow_cast-result c = rw c.get-g.ensures (record { sfits = omega (arith, read_below c.args.src.now c.args.bits 4) })

pub returns-then-op-eq3 : goal.returns-then-op-eq3
returns-then-op-eq3 c =
    let fits : SFits w32 (pos c.get-g.result.value) = rw c.get-g.ensures (record { sfits = omega (arith, read_below c.args.src.now c.args.bits 4) }) in
    length_read _ _ c.args.length _ c.get-g.result _ (search rules) c.get-g.ensures (to_z_pos w32 {n = c.get-g.result.value} fits.sfits)

pub returns : goal.returns
returns c = length_stepped _ c.args.op c.args.length _ _ (search rules) (to_z-of_z w32 c.step.result (search rules) ∙ rw (to_z-of_z w32 c.args.length c.ranges.length) at c.step.ensures)
