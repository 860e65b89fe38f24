-- No refusal is met, so every reference is in the frame and none is below 0.
use mathlib.Core.Path.{◌≡◌}
use Prim.Native.Nat.{ℕ, ◌+◌, ◌*◌, ◌<◌}
use native.Mathlib.Omega.{arith}
use Rattle.v2_cells.specs.declared.V2Place.{V2Place}
use Rattle.v2_cells.specs.Places.{Placed, Inside}
use Rattle.v2_cells.proofs.BaseLaws.{low_row, each}
use Rattle.v2_cells.proofs.base.references_of.Goals as goal

-- The block lies within the samples up to its own end, and its motion is not 7.
inside : (at : V2Place) → Placed at → Inside (at.row * at.width + at.col + 16) at
inside at p = record { placed = p; room = omega arith }

other : (motion : ℕ) → motion < 7 → motion ≡ 7 → ⊥
other motion l e = omega (arith, l, e)

pub reference_plus_5-even-requires : goal.reference_plus_5-even-requires
reference_plus_5-even-requires c = record {
  placed = c.requires.placed;
  other = c.requires.other;
  rows_above = low_row (inside _ c.requires.placed) (other _ c.requires.other) c.requires.unrefused;
  first = omega arith;
}

pub overflow_sub-even : goal.overflow_sub-even
overflow_sub-even c = rw c.reference_plus_5-even.ensures (each (inside _ c.requires.placed) (other _ c.requires.other) c.requires.unrefused 0 (omega arith)).0

pub reference_plus_5-odd-requires : goal.reference_plus_5-odd-requires
reference_plus_5-odd-requires c = record {
  placed = c.requires.placed;
  other = c.requires.other;
  rows_above = low_row (inside _ c.requires.placed) (other _ c.requires.other) c.requires.unrefused;
  first = omega arith;
}

pub overflow_sub-odd : goal.overflow_sub-odd
overflow_sub-odd c = rw c.reference_plus_5-odd.ensures (each (inside _ c.requires.placed) (other _ c.requires.other) c.requires.unrefused 1 (omega arith)).0
