-- Bits as a list, the highest first, and the numbers that they are: what `bits_of` and `number_of` keep.
use Prim.Native.Nat.{ℕ, zero, suc, ◌+◌, ◌*◌, ◌/◌, ◌%◌, ◌^◌, ◌<◌}
use mathlib.Core.Bool.{Bool, true, false, cond}
use mathlib.Core.Path.{◌≡◌, refl, sym, ap, ap₂, ◌∙◌}
use mathlib.Core.List.{List, [], ◌∷◌, ◌++◌}
use native.Mathlib.Omega.{arith}
use native.Mathlib.Nat.{mul-add-div_right, pow-suc, add_comm, add_assoc, add-mul, mul_comm, mul_assoc, zero-add, suc-add}
use lib.ListN.{length, take, drop, length-append}
use lib.Seq.{take_at, drop_at}
use lib.Dec.{eqb}
use lib.Pow.{pow_pos, pow-add, high, mod-pow-add, shr-shr}
use borrow.Author.Tests.{eqb-true, eqb-false}
use Rattle.write_rules.specs.Writer.{bits_of, number_of}
use Rattle.rules.proofs.Tests.{by-test}

-- The lowest bit of a number, and the number that a bit is.
abbrev odd : ℕ → Bool
odd x = eqb (x % 2) 1

abbrev bit : Bool → ℕ
bit b = cond b 1 0

pub bits_length : (k x : ℕ) → length (bits_of k x) ≡ k
unfolding bits_of
bits_length zero x = refl
bits_length (suc k) x = ap suc (bits_length k x)

pub number_below : (bs : List Bool) → number_of bs < 2 ^ length bs
unfolding number_of
number_below [] = omega arith
number_below (b ∷ bs) =
    let h = number_below bs in
    by-test b (λ e. rw (e, pow-suc 2 (length bs)) (omega arith)) (λ e. rw (e, pow-suc 2 (length bs)) (omega arith))

bit_odd : (x : ℕ) → bit (odd x) ≡ x % 2
bit_odd x =
    by-test (odd x)
    (λ e. rw e (let n = eqb-true (x % 2) 1 e in omega arith))
    (λ e. rw e (let n = eqb-false (x % 2) 1 e in omega arith))

-- A number's bits are the number, as far as they reach.
pub number_bits : (k x : ℕ) → number_of (bits_of k x) ≡ x % 2 ^ k
unfolding number_of bits_of
number_bits zero x = omega arith
number_bits (suc k) x =
    rw (bits_length k x, number_bits k x, bit_odd (x / 2 ^ k)) (sym (rw (← one_more k) (mod-pow-add x 1 k)))
  where
    one_more : (k : ℕ) → 1 + k ≡ suc k
    one_more k = omega arith

odd_high : (b : Bool) (k : ℕ) {y : ℕ} → y < 2 ^ k → odd ((bit b * 2 ^ k + y) / 2 ^ k) ≡ b
odd_high false k h = rw (high 0 k h)
odd_high true k h = rw (high 1 k h)

double : (x k : ℕ) → x * 2 ^ suc k ≡ (x * 2) * 2 ^ k
double x k = rw (pow-suc 2 k, mul_comm (2 ^ k) 2) (sym (mul_assoc x 2 (2 ^ k)))

-- What stands above the low k bits is not looked at.
pub bits_above : (k x y : ℕ) → bits_of k (x * 2 ^ k + y) ≡ bits_of k y
unfolding bits_of
bits_above zero x y = refl
bits_above (suc k) x y = rw (double x k) (ap₂ ◌∷◌ (rw (mul-add-div_right (pow_pos k) (x * 2) y, even_plus (y / 2 ^ k))) (bits_above k (x * 2) y))
  where
    even_plus : (q : ℕ) → (x * 2 + q) % 2 ≡ q % 2
    even_plus q = omega arith

-- A list's number has the list as its bits.
pub bits_number : (bs : List Bool) → bits_of (length bs) (number_of bs) ≡ bs
unfolding bits_of number_of
bits_number [] = refl
bits_number (b ∷ bs) = ap₂ ◌∷◌ (odd_high b (length bs) (number_below bs)) (bits_above (length bs) (bit b) (number_of bs) ∙ bits_number bs)

-- j + k bits are the j above and the k below.
pub bits_split : (j k x : ℕ) → bits_of (j + k) x ≡ bits_of j (x / 2 ^ k) ++ bits_of k x
unfolding bits_of
bits_split zero k x = rw (zero-add k)
bits_split (suc j) k x = rw (suc-add j k) (ap₂ ◌∷◌ (ap odd (ap (λ n. x / 2 ^ n) (add_comm j k) ∙ sym (shr-shr x k j))) (bits_split j k x))

-- Two numbers side by side.
pub bits_join : (j k x y : ℕ) → y < 2 ^ k → bits_of (j + k) (x * 2 ^ k + y) ≡ bits_of j x ++ bits_of k y
bits_join j k x y h = bits_split j k (x * 2 ^ k + y) ∙ ap₂ (λ a b. bits_of j a ++ b) (high x k h) (bits_above k x y)

-- What begins with k bits of a number has that number, and one rest.
pub bits_first : (k x y : ℕ) (xs ys : List Bool) → bits_of k x ++ xs ≡ bits_of k y ++ ys → x % 2 ^ k ≡ y % 2 ^ k
bits_first k x y xs ys e =
    sym (number_bits k x)
    ∙ ap number_of (sym (take_at (bits_of k x) xs k (bits_length k x)) ∙ ap (λ (l : List Bool). take k l) e ∙ take_at (bits_of k y) ys k (bits_length k y))
    ∙ number_bits k y

pub bits_rest : (k x y : ℕ) (xs ys : List Bool) → bits_of k x ++ xs ≡ bits_of k y ++ ys → xs ≡ ys
bits_rest k x y xs ys e = sym (drop_at (bits_of k x) xs k (bits_length k x)) ∙ ap (λ (l : List Bool). drop k l) e ∙ drop_at (bits_of k y) ys k (bits_length k y)

-- The number of two lists, one after the other.
pub number_append : (a b : List Bool) → number_of (a ++ b) ≡ number_of a * 2 ^ length b + number_of b
unfolding number_of
number_append [] b = omega arith
number_append (x ∷ a) b =
    rw (number_append a b, length-append a b, pow-add 2 (length a) (length b))
    (sym (ap (λ n. n + number_of b) (add-mul (bit x * 2 ^ length a) (number_of a) (2 ^ length b) ∙ ap (λ n. n + number_of a * 2 ^ length b) (mul_assoc (bit x) (2 ^ length a) (2 ^ length b)))
    ∙ add_assoc (bit x * (2 ^ length a * 2 ^ length b)) (number_of a * 2 ^ length b) (number_of b)))
