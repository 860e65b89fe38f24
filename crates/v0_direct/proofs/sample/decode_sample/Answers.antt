-- The sample's operation, done to samples and to marks.
use Prim.Native.Nat.{◌+◌, ◌*◌, ◌/◌, ◌%◌}
use native.Mathlib.Omega.{arith}
use lib.IntN.{pos}
use lib.ListN.{get_or}
use mir.ValLaws.{to_z-of_z}
use mir.Syntax.{w32}
use borrow.Author.Rules.{rules}
use Rattle.rules.specs.V0.{length_of}
use Rattle.v0_cells.proofs.CellLaws.{row_fits}
use Rattle.v0_direct.proofs.SampleLaws.{sample_applied}
use Rattle.v0_direct.proofs.sample.decode_sample.Goals as goal

pub overflow_mul-place : goal.overflow_mul-place
overflow_mul-place c = record { fits = omega (arith, row_fits _ _ _ c.requires.0 c.args.at.row (omega arith)) }

pub overflow_add-place : goal.overflow_add-place
overflow_add-place c = record { fits = omega (arith, row_fits _ _ _ c.requires.0 c.args.at.row (omega arith)) }

pub overflow_add-place-2 : goal.overflow_add-place-2
overflow_add-place-2 c = record { fits = omega (arith, row_fits _ _ _ c.requires.0 c.args.at.row (omega arith)) }

pub returns : goal.returns
unfolding length_of
returns c = let l = get_or c.args.head.row.lengths (2 * (c.args.c % 2) + c.args.c / 8) (pos 0) in
    let en = rw (to_z-of_z w32 l (search rules)) at c.residual_bits-n.ensures in
    sample_applied _ c.args.at.size _ _ c.args.head c.args.c c.args.bits _ _ _ c.predict-from.ensures en c.read_residual-g.ensures _ _ _ _ c.put.ensures c.put-2.ensures
