-- The tests are the rules' tests, in their order, and what a call that passes them may count on.
use mathlib.Core.Path.{◌≡◌, refl, sym, ◌∙◌}
use mathlib.Core.Bool.{Bool, true, false, ◌||◌}
use Prim.Native.Nat.{ℕ, ◌-◌, ◌*◌, ◌≤◌, ◌<◌}
use native.Mathlib.Omega.{arith}
use native.Mathlib.Nat.{mul-le-mul, mul-zero}
use lib.Dec.{ltb}
use borrow.Author.Tests.{ltb-false}
use Rattle.rules.specs.Limits.{most_side}
use Rattle.rules.specs.declared.answer.Size.{Size}
use Rattle.rules.specs.Frame.{cells}
use Rattle.rules.specs.V0.{blocks_in}
use Rattle.rules.specs.Answer.{too_large, scratch_bytes, first_of}
use Rattle.std.specs.Prelude.{Option, Some}
use Rattle.entry_refusals.specs.Lending.{short}
use Rattle.rules.proofs.Tests.{neither}

-- A frame within the limits has few enough samples.
pub cells_most : (w h : ℕ) → w ≤ most_side → h ≤ most_side → w * h ≤ 268_435_456
cells_most w h p q = mul-le-mul p q

-- A size that is not too large is within the limits.
pub size_most : (z : Size) → too_large z ≡ false → (z.width ≤ most_side) × (z.height ≤ most_side)
unfolding too_large
size_most z e = let q = neither _ _ e in (ltb-false _ _ q.0, ltb-false _ _ q.1)

-- What a call that is not refused may count on.
pub record Room (z : Size) (samples : ℕ) (offsets map scratch : Option ℕ) : Type 0 where
  pub wide : z.width ≤ most_side
  pub high : z.height ≤ most_side
  pub few : z.width * z.height ≤ 268_435_456
  pub samples_enough : cells z ≤ samples
  pub offsets_enough : short offsets z.height ≡ false
  pub map_enough : short map (cells z) ≡ false
  pub scratch_enough : short scratch (scratch_bytes z) ≡ false

first_zero : (t1 t2 t3 t4 : Bool) → first_of t1 t2 t3 t4 ≡ 0 → (t1 ≡ false) × ((t3 ≡ false) × (t4 ≡ false))
unfolding first_of
first_zero true t2 t3 t4 e = absurd (omega arith)
first_zero false true t3 t4 e = absurd (omega arith)
first_zero false false true t4 e = absurd (omega arith)
first_zero false false false true e = absurd (omega arith)
first_zero false false false false e = (refl, (refl, refl))

pub room : (z : Size) (small : Bool) (samples : ℕ) (offsets map scratch : Option ℕ) (k : ℕ)
    → k ≡ first_of (too_large z) small (ltb samples (cells z) || short offsets z.height) (short map (cells z) || short scratch (scratch_bytes z))
    → k ≡ 0 → Room z samples offsets map scratch
room z small samples offsets map scratch k e q =
    let f = first_zero _ _ _ _ (sym e ∙ q) in
    let s = neither _ _ f.1.0 in
    let l = neither _ _ f.1.1 in
    let m = size_most z f.0 in
    record {
      wide = m.0;
      high = m.1;
      few = cells_most z.width z.height m.0 m.1;
      samples_enough = ltb-false _ _ s.0;
      offsets_enough = s.1;
      map_enough = l.0;
      scratch_enough = l.1;
    }

-- A buffer that is lent and not short is long enough.
pub long_enough : (m n : ℕ) → short (Some m) n ≡ false → n ≤ m
unfolding short
long_enough m n e = ltb-false m n e

-- A frame of one row or none has no late rows; and the scratch's bytes fit.
pub no_late_rows : (n h : ℕ) → h < 2 → 0 ≡ n * (h - 2)
no_late_rows n h l = let e : h - 2 ≡ 0 = omega arith in rw (e, mul-zero)

pub scratch_fits : (w h : ℕ) → w ≤ most_side → h ≤ most_side → blocks_in w * (h - 2) ≤ 16_777_216
scratch_fits w h p q =
    let a : blocks_in w ≤ 1_024 = omega arith in
    let b : h - 2 ≤ most_side = omega arith in
    mul-le-mul a b
