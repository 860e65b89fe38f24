-- Bits written in steps: one step after another is one step with the bits of both.
use Prim.Native.Nat.{ℕ, zero, suc, ◌+◌, ◌*◌, ◌/◌, ◌%◌, ◌^◌, ◌<◌, ◌≤◌}
use mathlib.Core.Bool.{Bool}
use mathlib.Core.Path.{◌≡◌, refl, sym, ap, ap₂, ◌∙◌}
use mathlib.Core.List.{List, [], ◌∷◌, ◌++◌, append_assoc}
use native.Mathlib.Omega.{arith}
use native.Mathlib.Nat.{mod-lt, add_assoc, add-mul, mul_assoc, mul_right_comm, suc-add, zero-add, div-add-mod', mul-add-mod_self_right}
use lib.Dec.{lit<}
use lib.ListN.{length, set, drop, length-append, length-drop}
use lib.Seq.{sets, length-sets, drop_at, drop-drop, take-append-le, drop-append-le}
use lib.Pow.{pow-add, split}
use Rattle.write_rules.specs.declared.Pending.{Pending}
use Rattle.write_rules.specs.Writer.{bits_of, number_of, words_bytes}
use Rattle.write_rules.specs.Pending.{bits_with, put_state, put_out}
use Rattle.write_rules.proofs.Ahead.{bits_far}
use Rattle.write_rules.proofs.BitLists.{bits_length, bits_number, bits_split, bits_join, number_below, number_append}
use Rattle.write_rules.proofs.WrittenBytes.{words_bytes_length}

-- ── Words ──

pub sets_append : (f vs ws : List ℕ) (i : ℕ) → sets f i (vs ++ ws) ≡ sets (sets f i vs) (i + length vs) ws
sets_append f [] ws i = let q : i ≡ i + 0 = omega arith in ap (λ j. sets f j ws) q
sets_append f (v ∷ vs) ws i =
    let q : suc i + length vs ≡ i + suc (length vs) = omega arith in
    sets_append (set f i v) vs ws (suc i) ∙ ap (λ j. sets (sets (set f i v) (suc i) vs) j ws) q

-- n words, and m more from where they end.
words_more : (n m : ℕ) (bs : List Bool) → words_bytes (n + m) bs ≡ words_bytes n bs ++ words_bytes m (drop (32 * n) bs)
unfolding words_bytes
words_more zero m bs = rw (zero-add m)
words_more (suc n) m bs =
    let e : 32 + 32 * n ≡ 32 * suc n = omega arith in
    rw (suc-add n m, words_more n m (drop 32 bs), drop-drop (32 * n) 32 bs, e)

-- What comes after n words does not matter to them.
words_first : (n : ℕ) (xs ys : List Bool) → 32 * n ≤ length xs → words_bytes n (xs ++ ys) ≡ words_bytes n xs
unfolding words_bytes
words_first zero xs ys h = refl
words_first (suc n) xs ys h =
    let left = length-drop 32 xs in
    rw (take-append-le 32 xs ys (omega arith), drop-append-le 32 xs ys (omega arith), words_first n (drop 32 xs) ys (omega arith))

-- The bits that wait, and some more, as one number's.
waiting_with : (c w : ℕ) (bs : List Bool) → bits_of c w ++ bs ≡ bits_of (c + length bs) (w * 2 ^ length bs + number_of bs)
waiting_with c w bs = sym (bits_join c (length bs) w (number_of bs) (number_below bs) ∙ ap (λ l. bits_of c w ++ l) (bits_number bs))

bits_cut : (k m x : ℕ) → k ≤ m → bits_of k (x % 2 ^ m) ≡ bits_of k x
bits_cut k m x h = sym (bits_far k m (x / 2 ^ m) (x % 2 ^ m) h) ∙ ap (bits_of k) (split x m)

-- ── Two steps ──

-- The low bits of a product do not depend on what stands above them.
low_again : (x k y m : ℕ) → (x % m * k + y) % m ≡ (x * k + y) % m
low_again x k y m =
    sym (ap (λ z. (z * k + y) % m) (sym (div-add-mod' x m))
    ∙ ap (λ z. (z + y) % m) (add-mul (x / m * m) (x % m) k ∙ ap (λ z. z + x % m * k) (mul_right_comm (x / m) m k))
    ∙ ap (λ z. z % m) (add_assoc (x / m * k * m) (x % m * k) y)
    ∙ mul-add-mod_self_right (x / m * k) m (x % m * k + y))

pub same_state : {a b c d e f : ℕ} → a ≡ d → b ≡ e → c ≡ f → ◌≡◌ {A = Pending} (record { pos = a; word = b; count = c }) (record { pos = d; word = e; count = f })
same_state p q r = rw (p, q, r)

module _ (p : Pending) (a b : List Bool) where
  -- What was written before, as one number, and how many words it fills.
  abbrev so_far : ℕ
  so_far = p.word * 2 ^ length a + number_of a

  abbrev full : ℕ
  full = bits_with p a / 32

  number_both : so_far * 2 ^ length b + number_of b ≡ p.word * 2 ^ length (a ++ b) + number_of (a ++ b)
  number_both =
      rw (length-append a b, number_append a b, pow-add 2 (length a) (length b))
      (ap (λ n. n + number_of b)
      (add-mul (p.word * 2 ^ length a) (number_of a) (2 ^ length b) ∙ ap (λ n. n + number_of a * 2 ^ length b) (mul_assoc p.word (2 ^ length a) (2 ^ length b)))
      ∙ add_assoc (p.word * (2 ^ length a * 2 ^ length b)) (number_of a * 2 ^ length b) (number_of b))

  pub state_both : put_state (put_state p a) b ≡ put_state p (a ++ b)
  unfolding put_state
  state_both =
      same_state
      (rw (length-append a b) (omega arith))
      (low_again so_far (2 ^ length b) (number_of b) (2 ^ 32) ∙ ap (λ n. n % 2 ^ 32) number_both)
      (rw (length-append a b) (omega arith))

  -- What waits after the first step is what its words leave of the bits.
  left_over : drop (32 * full) (bits_of p.count p.word ++ a) ≡ bits_of (bits_with p a % 32) (so_far % 2 ^ 32)
  left_over =
      let m : 32 * full + bits_with p a % 32 ≡ bits_with p a = omega arith in
      ap (drop (32 * full)) (waiting_with p.count p.word a ∙ ap (λ n. bits_of n so_far) (sym m) ∙ bits_split (32 * full) (bits_with p a % 32) so_far)
      ∙ drop_at (bits_of (32 * full) (so_far / 2 ^ (bits_with p a % 32))) (bits_of (bits_with p a % 32) so_far) (32 * full) (bits_length (32 * full) _)
      ∙ sym (bits_cut (bits_with p a % 32) 32 so_far (omega arith))

  fill : 32 * full ≤ length (bits_of p.count p.word ++ a)
  fill = omega (arith, length-append (bits_of p.count p.word) a, bits_length p.count p.word)

  pub out_both : (f : List ℕ) → put_out (put_out f p a) (put_state p a) b ≡ put_out f p (a ++ b)
  unfolding put_out put_state
  out_both f =
      let l = bits_of p.count p.word ++ a in
      let m = (bits_with p a % 32 + length b) / 32 in
      let e : full + m ≡ bits_with p (a ++ b) / 32 = rw (length-append a b) (omega arith) in
      ap (λ n. sets (sets f p.pos (words_bytes full l)) (p.pos + n) (words_bytes m (bits_of (bits_with p a % 32) (so_far % 2 ^ 32) ++ b))) (sym (words_bytes_length full l))
      ∙ sym (sets_append f (words_bytes full l) (words_bytes m (bits_of (bits_with p a % 32) (so_far % 2 ^ 32) ++ b)) p.pos)
      ∙ ap (sets f p.pos)
      (sym (ap₂ ◌++◌ (words_first full l b fill) (ap (words_bytes m) (drop-append-le (32 * full) l b fill ∙ ap (λ k. k ++ b) left_over)))
      ∙ sym (words_more full m (l ++ b))
      ∙ ap₂ words_bytes e (append_assoc (bits_of p.count p.word) a b))

-- ── What was written ──

-- Between two states, and two buffers, the bits bs were written; and what follows for the numbers.
pub record Wrote (out : List ℕ) (p : Pending) (bs : List Bool) (out' : List ℕ) (q : Pending) : Type 0 where
  pub state : q ≡ put_state p bs
  pub stored : out' ≡ put_out out p bs
  pub count_small : q.count < 32
  pub grown : 8 * q.pos + q.count ≡ 8 * p.pos + p.count + length bs
  pub whole : q.pos % 4 ≡ p.pos % 4
  pub length_is : length out' ≡ length out

pub wrote : {out out' : List ℕ} {p q : Pending} {bs : List Bool} → (q ≡ put_state p bs) × (out' ≡ put_out out p bs) → Wrote out p bs out' q
unfolding put_state put_out
wrote {out} {out'} {p} {q} {bs} (e, f) =
    record {
      state = e;
      stored = f;
      count_small = rw e (mod-lt (bits_with p bs) (lit< tt));
      grown = rw e (omega arith);
      whole = rw e (omega arith);
      length_is = rw f (length-sets out p.pos (words_bytes (bits_with p bs / 32) (bits_of p.count p.word ++ bs)));
    }

-- Nothing was written.
pub wrote_none : (out : List ℕ) (p : Pending) → p.count < 32 → p.word < 2 ^ 32 → Wrote out p [] out p
unfolding put_state put_out number_of words_bytes
wrote_none out p h l =
    let none : (p.count + 0) / 32 ≡ 0 = omega arith in
    let same : (p.word * 2 ^ 0 + 0) % 2 ^ 32 ≡ p.word = omega arith in
    wrote (same_state (omega arith) (sym same) (omega arith), rw none)

-- One after another.
pub wrote_both : {out out' out'' : List ℕ} {p q r : Pending} {a b : List Bool} → Wrote out p a out' q → Wrote out' q b out'' r → Wrote out p (a ++ b) out'' r
wrote_both {out} {out'} {out''} {p} {q} {r} {a} {b} f g =
    wrote (g.state ∙ ap (λ x. put_state x b) f.state ∙ state_both p a b, g.stored ∙ ap₂ (λ x y. put_out x y b) f.stored f.state ∙ out_both p a b out)
