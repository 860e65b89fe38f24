-- Appending by parts: what is left to write, the room for it, and what is written when nothing is left.
use Prim.Native.Nat.{ℕ, suc, ◌+◌}
use mathlib.Core.Path.{◌≡◌, refl, sym, ap, ◌∙◌}
use mathlib.Core.List.{List, [], ◌∷◌, ◌++◌}
use native.Mathlib.Omega.{arith}
use native.Mathlib.Nat.{add-zero, add-suc, suc-add}
use lib.ListN.{length, length-append}
use lib.Seq.{length-sets}
use Rattle.job.specs.Written.{written, Room, Appends, Left}

-- ── The text ──

written_none : (t : List ℕ) (n : ℕ) → written t n [] ≡ t
unfolding written
written_none t n = refl

written_then : (xs ys t : List ℕ) (n : ℕ) → written (written t n xs) (n + length xs) ys ≡ written t n (xs ++ ys)
unfolding written
written_then [] ys t n = rw add-zero
written_then (x ∷ xs) ys t n = rw (add-suc, ← suc-add n (length xs)) (written_then xs ys _ (suc n))

pub length_written : (t : List ℕ) (n : ℕ) (xs : List ℕ) → length (written t n xs) ≡ length t
unfolding written
length_written t n xs = length-sets t n xs

pub same_length : {t : List ℕ} {n : ℕ} {xs t' : List ℕ} {r : ℕ} → Appends t n xs t' r → length t' ≡ length t
same_length {t} {n} {xs} a = ap length a.text ∙ length_written t n xs

pub appends_none : (t : List ℕ) (n : ℕ) → Appends t n [] t n
appends_none t n = record { text = sym (written_none t n); count = omega arith }

-- ── What is left ──

pub left_start : (t : List ℕ) (n : ℕ) (xs : List ℕ) → Left t n xs t n xs
left_start t n xs = record { text = refl; count = refl; same = refl }

module _ {t : List ℕ} {at : ℕ} {t₀ : List ℕ} {n : ℕ} {whole : List ℕ} where
  -- A part is written, and the others are left.
  pub left_step : {xs rest t' : List ℕ} {r : ℕ} → Left t at (xs ++ rest) t₀ n whole → Appends t at xs t' r → Left t' r rest t₀ n whole
  left_step {xs} {rest} l a =
      record {
        text = rw (a.text, a.count) (written_then xs rest t at) ∙ l.text;
        count = omega (arith, l.count, a.count, length-append xs rest);
        same = same_length a ∙ l.same;
      }

  -- What is left may be said in another way.
  pub left_as : {rest rest' : List ℕ} → rest ≡ rest' → Left t at rest t₀ n whole → Left t at rest' t₀ n whole
  left_as e l = rw (← e) l

  -- Nothing is left.
  pub left_end : Left t at [] t₀ n whole → Appends t₀ n whole t at
  left_end l = record { text = sym (written_none t at) ∙ l.text; count = omega (arith, l.count) }

  -- The last part is written.
  pub left_last : {xs t' : List ℕ} {r : ℕ} → Left t at xs t₀ n whole → Appends t at xs t' r → Appends t₀ n whole t' r
  left_last l a = record { text = a.text ∙ l.text; count = a.count ∙ l.count }

  -- There is room for what is left, and so for its first part.
  pub left_room : {rest : List ℕ} → Left t at rest t₀ n whole → Room t₀ n whole → Room t at rest
  left_room l r = record { fits = omega (arith, l.count, l.same, r.fits) }

  pub part_room : {xs : List ℕ} (rest : List ℕ) → Left t at (xs ++ rest) t₀ n whole → Room t₀ n whole → Room t at xs
  part_room {xs} rest l r = record { fits = omega (arith, l.count, l.same, r.fits, length-append xs rest) }
