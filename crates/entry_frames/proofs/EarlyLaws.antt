-- The tests of 1, 3 and 4, and those of an entry that come after them.
use mathlib.Core.Path.{◌≡◌, refl}
use mathlib.Core.Bool.{Bool, true, false, ◌||◌, cond}
use Prim.Native.Nat.{ℕ}
use lib.Dec.{ltb, eqb}
use Rattle.rules.specs.declared.answer.Size.{Size}
use Rattle.rules.specs.Frame.{cells}
use Rattle.rules.specs.Answer.{too_large, first_of, scratch_bytes}
use Rattle.entry_refusals.specs.Lending.{short}
use Rattle.std.specs.Prelude.{Option}
use Rattle.std.specs.Prelude.{None}

-- The tests, of a frame whose samples are lent, and its map or none.
abbrev pub early : Size → ℕ → Option ℕ → ℕ
early z samples map =
    first_of (too_large z) false (ltb samples (cells z) || short None z.height) (short map (cells z) || short None (scratch_bytes z))

-- The first of them that holds, or what the tests after them give.
pub early_then : (z : Size) (samples : ℕ) (map : Option ℕ) {k : ℕ} → k ≡ early z samples map → (rest : ℕ)
    → cond (too_large z) 1 (cond (ltb samples (cells z)) 3 (cond (short map (cells z)) 4 rest)) ≡ cond (eqb k 0) rest k
unfolding first_of short
early_then z samples map e rest = rw e (go (too_large z) (ltb samples (cells z)) (short map (cells z)))
  where
    go : (t1 t3 t4 : Bool) → let k = first_of t1 false (t3 || false) (t4 || false) in cond t1 1 (cond t3 3 (cond t4 4 rest)) ≡ cond (eqb k 0) rest k
    go true t3 t4 = refl
    go false true t4 = refl
    go false false true = refl
    go false false false = refl
