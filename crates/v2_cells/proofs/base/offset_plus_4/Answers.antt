-- The table is the rule's, and 4 more than each of its numbers is 0 to 8.
use Prim.Native.Nat.{ℕ}
use native.Mathlib.Omega.{arith}
use lib.IntN.{pos}
use mir.Syntax.{w64}
use mir.Val.{SFits}
use mir.ValLaws.{to_z-of_z}
use Rattle.rules.specs.Ranges.{offset_4}
use Rattle.rules.proofs.V2Places.{offset_most}
use Rattle.v2_cells.proofs.BaseLaws.{offset_code}
use Rattle.v2_cells.proofs.base.offset_plus_4.Goals as goal

small : (m : ℕ) → SFits w64 (pos (offset_4 m))
small m = record { sfits = omega (arith, offset_most m) }

pub overflow_add-result : goal.overflow_add-result
overflow_add-result c = let m = c.args.motion in rw (offset_code m) (small m)

pub overflow_cast-result-2 : goal.overflow_cast-result-2
overflow_cast-result-2 c = let m = c.args.motion in rw (offset_code m, to_z-of_z w64 (pos (offset_4 m)) (small m)) (tt, record { fits = omega (arith, offset_most m) })

pub returns : goal.returns
returns c = let m = c.args.motion in rw (offset_code m, to_z-of_z w64 (pos (offset_4 m)) (small m))
