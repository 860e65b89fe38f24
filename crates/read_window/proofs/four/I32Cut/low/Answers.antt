-- Adding half of 2^n and taking it off again, in a turn of 2^n, is the sign.
use Rattle.std.proofs.Common.{refl, ◌≡◌, ℕ, ◌/◌, ◌%◌, ◌^◌, ◌≤◌, ◌-ℤ◌, ◌∙◌, ap₂, mod-lt, arith, pow_pos, w32, to_z, SFits}
use mir.ValLaws.{to_z-of_z, to_z_pos}
use Rattle.rules.specs.Reader.{signed}
use Rattle.rules.proofs.ReaderLaws.{signed_mag}
use Rattle.read_window.proofs.SignLaws.{Low, low_made}
use Rattle.read_window.proofs.four.I32Cut.low.Goals as goal

-- The remainder without its half is the sign, and fits 32 bits.
difference : (x n p w : ℕ) → Low 16 x n p w → to_z w32 (w % p) -ℤ to_z w32 (p / 2) ≡ signed n (x % 2 ^ n)
difference x n p w l = ap₂ ◌-ℤ◌ (to_z_pos w32 (w % p) (omega arith)) (to_z_pos w32 (p / 2) (omega arith)) ∙ l.is

fits : (x n : ℕ) → n ≤ 16 → SFits w32 (signed n (x % 2 ^ n))
fits x n h = record { sfits = signed_mag 31 _ _ (omega arith) (mod-lt _ (pow_pos _)) }

pub nonzero_rem-result : goal.nonzero_rem-result
nonzero_rem-result c = (low_made 16 c.args.x c.args.n c.power-top.result _ (omega arith) c.requires c.power-top.ensures refl).some

pub overflow_cast-result : goal.overflow_cast-result
overflow_cast-result c =
    let l = low_made 16 c.args.x c.args.n c.power-top.result _ (omega arith) c.requires c.power-top.ensures refl in
    record { sfits = omega arith }

pub overflow_cast-result-2 : goal.overflow_cast-result-2
overflow_cast-result-2 c =
    let l = low_made 16 c.args.x c.args.n c.power-top.result _ (omega arith) c.requires c.power-top.ensures refl in
    record { sfits = omega arith }

pub overflow_sub-result : goal.overflow_sub-result
overflow_sub-result c =
    rw (difference _ _ _ _ (low_made 16 c.args.x c.args.n c.power-top.result _ (omega arith) c.requires c.power-top.ensures refl))
    (fits c.args.x c.args.n c.requires)

pub returns : goal.returns
returns c =
    rw (
      difference _ _ _ _ (low_made 16 c.args.x c.args.n c.power-top.result _ (omega arith) c.requires c.power-top.ensures refl),
      to_z-of_z w32 _ (fits c.args.x c.args.n c.requires),
    )
