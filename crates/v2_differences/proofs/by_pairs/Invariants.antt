-- The loop's invariant: the differences from number 2 half on, two at a time, come to what all sixteen come to, in each row whose
-- positions the table's part has.
use Rattle.std.proofs.Common.{◌≡◌, ℕ, ◌-◌, ◌*◌}
use Rattle.rules.specs.V2.{differences_from}
use Rattle.v2_differences.specs.Positions.{row_positions}
use Rattle.v2_differences.proofs.by_pairs.Given as goal

abbrev pub invariant-loop-half : goal.invariant-loop-half
invariant-loop-half l =
    (row : ℕ) → l.positions.places ≡ row_positions row → differences_from l.src row l.lengths 16 0 (record { values = l.initial.values; bits = l.initial.at }) ≡ differences_from l.src row l.lengths (16 - 2 * l.half) (2 * l.half) (record { values = l.values; bits = l.at })
