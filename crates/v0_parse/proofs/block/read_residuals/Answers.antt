use mathlib.Core.Path.{refl}
use Prim.Native.Nat.{◌*◌}
use native.Mathlib.Omega.{arith}
use lib.IntN.{pos}
use lib.ListN.{get_or}
use mir.ValLaws.{to_z-of_z}
use mir.Syntax.{w32}
use borrow.Author.Rules.{rules}
use Rattle.v0_parse.proofs.BlockLaws.{fields_fit, reading_begun, reading_four, read_all}
use Rattle.v0_parse.proofs.block.read_residuals.Goals as goal

pub loop-j-init : goal.loop-j-init
loop-j-init c = reading_begun _ _ _ _ refl

pub residual_of-requires : goal.residual_of-requires
residual_of-requires c = fields_fit _ _ _ _ _ c.residual_length-n.ensures c.read_four-four.ensures 0

pub residual_of-requires-in-loop-j : goal.residual_of-requires-in-loop-j
residual_of-requires-in-loop-j c = fields_fit _ _ _ _ _ c.residual_length-n.ensures c.read_four-four.ensures 1

pub residual_of-requires-in-loop-j-2 : goal.residual_of-requires-in-loop-j-2
residual_of-requires-in-loop-j-2 c = fields_fit _ _ _ _ _ c.residual_length-n.ensures c.read_four-four.ensures 2

pub residual_of-requires-in-loop-j-3 : goal.residual_of-requires-in-loop-j-3
residual_of-requires-in-loop-j-3 c = fields_fit _ _ _ _ _ c.residual_length-n.ensures c.read_four-four.ensures 3

pub loop-j-preserved : goal.loop-j-preserved
loop-j-preserved c =
    let ls = c.args.head.row.lengths in
    let n-is = rw (to_z-of_z w32 (get_or ls c.loop-j.j (pos 0)) (search rules)) at c.residual_length-n.ensures in
    reading_four _ ls _ _ _ _ _ c.read_four-four.result _ _ _ _ (omega arith) n-is c.read_four-four.ensures c.residual_of.ensures c.residual_of-in-loop-j.ensures c.residual_of-in-loop-j-2.ensures c.residual_of-in-loop-j-3.ensures c.loop-j.invariant

pub returns : goal.returns
returns c = read_all _ _ _ c.loop-j.bits c.loop-j.residuals (4 * c.loop-j.j) c.args.head (omega arith) refl refl c.loop-j.invariant
