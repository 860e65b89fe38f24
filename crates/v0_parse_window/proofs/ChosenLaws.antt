-- A choice by a product: no step of it leaves 32 signed bits.
use Rattle.std.proofs.Common.{◌≡◌, ℕ, zero, suc, ◌+◌, ◌<◌, ◌≤◌, Bool, true, false, cond, eqb, ℤ, pos, negsuc, ◌+ℤ◌, ◌-ℤ◌, ◌*ℤ◌, sym, ◌∙◌, subst, ap₂, arith, w32, SFits, to_z, of_z}
use lib.IntN.{one, +ℤ_idr, +ℤ_comm, -ℤ-+ℤ_cancel, zero-*ℤ, *ℤ_comm, *ℤ-one}
use lib.Signed.{mag}
use mir.ValLaws.{to_z-of_z}
use mir.Facts.{to_z_pos}
use Rattle.v0_parse.proofs.HeadLaws.{cond_mag, add_mag, sub_mag}

less_mag : (b a : ℤ) {m n : ℕ} → mag b ≤ m → mag a ≤ n → mag (b -ℤ a) ≤ m + n + 1
less_mag b (pos d) h l = omega (arith, sub_mag b d h)
less_mag b (negsuc d) h l = omega (arith, add_mag b (suc d) h)

times : (t : ℕ) (z : ℤ) → t < 2 → pos t *ℤ z ≡ cond (eqb t 1) z (pos 0)
unfolding one
times zero z h = zero-*ℤ z
times (suc zero) z h = *ℤ_comm (pos 1) z ∙ *ℤ-one z
times (suc (suc t)) z h = absurd (omega arith)

added : (u : Bool) (a b : ℤ) → a +ℤ cond u (b -ℤ a) (pos 0) ≡ cond u b a
added true a b = +ℤ_comm a (b -ℤ a) ∙ -ℤ-+ℤ_cancel b a
added false a b = +ℤ_idr a

-- As the code makes it, every number through 32 bits.
abbrev difference : ℤ → ℤ → ℤ
difference a b = to_z w32 (of_z w32 b) -ℤ to_z w32 (of_z w32 a)

abbrev product : ℕ → ℤ → ℤ → ℤ
product t a b = to_z w32 t *ℤ to_z w32 (of_z w32 (difference a b))

abbrev sum : ℕ → ℤ → ℤ → ℤ
sum t a b = to_z w32 (of_z w32 a) +ℤ to_z w32 (of_z w32 (product t a b))

module _ (t : ℕ) (a b : ℤ) (few : t < 2) (na : mag a ≤ 1_100) (nb : mag b ≤ 1_100) (fa : SFits w32 a) (fb : SFits w32 b) where
  difference_is : difference a b ≡ b -ℤ a
  difference_is = ap₂ ◌-ℤ◌ (to_z-of_z w32 b fb) (to_z-of_z w32 a fa)

  pub difference_fits : SFits w32 (difference a b)
  difference_fits = subst (SFits w32) (sym difference_is) (record { sfits = omega (arith, less_mag b a nb na) })

  product_is : product t a b ≡ cond (eqb t 1) (b -ℤ a) (pos 0)
  product_is =
      ap₂ ◌*ℤ◌ (to_z_pos w32 {n = t} (omega arith)) (to_z-of_z w32 (difference a b) difference_fits ∙ difference_is) ∙ times t (b -ℤ a) few

  pub product_fits : SFits w32 (product t a b)
  product_fits =
      let near : mag (cond (eqb t 1) (b -ℤ a) (pos 0)) ≤ 2_201 = cond_mag (eqb t 1) (b -ℤ a) (pos 0) (less_mag b a nb na) (omega arith) in
      subst (SFits w32) (sym product_is) (record { sfits = omega arith })

  sum_is : sum t a b ≡ cond (eqb t 1) b a
  sum_is = ap₂ ◌+ℤ◌ (to_z-of_z w32 a fa) (to_z-of_z w32 (product t a b) product_fits ∙ product_is) ∙ added (eqb t 1) a b

  pub sum_fits : SFits w32 (sum t a b)
  sum_fits =
      let near : mag (cond (eqb t 1) b a) ≤ 1_100 = cond_mag (eqb t 1) b a nb na in
      subst (SFits w32) (sym sum_is) (record { sfits = omega arith })

  pub chosen_is : to_z w32 (of_z w32 (sum t a b)) ≡ cond (eqb t 1) b a
  chosen_is = to_z-of_z w32 (sum t a b) sum_fits ∙ sum_is
