-- What a reader of the rules may expect of the reader record. Only this file opens its definitions, besides the worked
-- examples and pins.
use mathlib.Core.Path.{◌≡◌, refl, sym, ap, ◌∙◌}
use mathlib.Core.Bool.{Bool, true, false, cond}
use mathlib.Core.List.{List, [], ◌∷◌, ◌++◌}
use Prim.Native.Nat.{ℕ, zero, suc, ◌+◌, ◌*◌, ◌-◌, ◌/◌, ◌%◌, ◌^◌, ◌≤◌, ◌<◌, min}
use native.Mathlib.Nat.{div-one, mod-eq_of_lt, one-mul, zero-mul, mul_assoc, mul-add-mod_self_right, div-eq_of_lt, div-eq_of_lt-le, mod-le, mod-lt}
use native.Mathlib.Omega.{arith}
use lib.Dec.{T, ltb, leb, ltb→lt}
use lib.IntN.{ℤ, pos, negsuc, ◌-ℤ◌}
use lib.ListN.{length, take, get_or, length-take}
use lib.Pow.{pow_pos, pow_mono, pow-add, high, field, shr-shr, mod-mod-pow}
use lib.Seq.{get_or-take, take-take}
use lib.Signed.{mag}
use borrow.Author.Tests.{le-leb, lt-leb, lt-ltb, le-ltb, ltb-true, ltb-false, leb-true, leb-false}
use Rattle.rules.specs.Reader.{word_at, fetched, read_as, is_missing, most_filler, counted, held, from_held, from_next, read, fields, four, signed, read_signed, modulo, read_residual}
use Rattle.rules.specs.declared.reader.Bits.{Bits}
use Rattle.rules.specs.declared.reader.Got.{Got}
use Rattle.std.specs.Prelude.{Some, None}
use Rattle.rules.proofs.Tests.{by-test}

-- ── Words ──

pub fetched_there : (s : List ℕ) (p : ℕ) → p + 4 ≤ length s → fetched s p ≡ Some (word_at s p)
unfolding fetched
fetched_there s p h = simp (le-leb _ _ h)

pub fetched_missing : (s : List ℕ) (p : ℕ) → length s < p + 4 → fetched s p ≡ None
unfolding fetched
fetched_missing s p h = simp (lt-leb _ _ h)

byte_agree : (s t : List ℕ) (q i : ℕ) → take q s ≡ take q t → i < q → get_or s i 0 ≡ get_or t i 0
byte_agree s t q i e h = sym (get_or-take q s i 0 h) ∙ ap (λ (l : List ℕ). get_or l i 0) e ∙ get_or-take q t i 0 h

-- Streams that agree in their first q bytes, both at least q long, have the same words there.
pub fetched_agree : (s t : List ℕ) (q p : ℕ) → take q s ≡ take q t → q ≤ length s → q ≤ length t → p + 4 ≤ q → fetched s p ≡ fetched t p
fetched_agree s t q p e hs ht h =
    let b0 = byte_agree s t q p e (omega arith) in
    let b1 = byte_agree s t q (p + 1) e (omega arith) in
    let b2 = byte_agree s t q (p + 2) e (omega arith) in
    let b3 = byte_agree s t q (p + 3) e (omega arith) in
    rw (fetched_there s p (omega arith), fetched_there t p (omega arith), b0, b1, b2, b3)

-- ── What a state holds ──

pub held_small : (b : Bits) → held b < 32
unfolding held
held_small b = kept (ltb b.count 32) b.count (ltb→lt b.count 32)
  where
    kept : (t : Bool) (x : ℕ) → (T t → x < 32) → cond t x 0 < 32
    kept true x h = h tt
    kept false x h = omega arith

pub held_is : (b : Bits) → b.count < 32 → held b ≡ b.count
unfolding held
held_is b h = simp (lt-ltb b.count 32 h)

pub held_none : (b : Bits) → 32 ≤ b.count → held b ≡ 0
unfolding held
held_none b h = simp (le-ltb b.count 32 h)

-- ── Missing words ──

-- What a count becomes: the same after a word that was there, one more after a missing one, and the greatest stays.
pub counted_there : (n : ℕ) → counted n false ≡ n
unfolding counted
counted_there n = refl

pub counted_missing : (n : ℕ) → n < most_filler → counted n true ≡ n + 1
unfolding counted
counted_missing n l = omega arith

pub counted_held : (n : ℕ) → n < 2 ^ 64 → most_filler ≤ n → counted n true ≡ n
unfolding counted
counted_held n l m = omega arith

-- After a missing word, whatever the count was.
pub counted_more : (n : ℕ) → counted n true ≡ min (n + 1) most_filler
unfolding counted
counted_more n = refl

-- A count that is 0 after a word was 0 before it, and the word was there.
pub counted_zero : (n : ℕ) (missing : Bool) → counted n missing ≡ 0 → (n ≡ 0) × (missing ≡ false)
unfolding counted
counted_zero n true e = absurd (omega arith)
counted_zero n false e = (e, refl)

-- ── Reading ──

pub read_held : (s : List ℕ) (b : Bits) (n : ℕ) → min n 32 ≤ held b → read s b n ≡ from_held b (min n 32)
unfolding read
read_held s b n h = simp (le-leb _ _ h)

pub read_next : (s : List ℕ) (b : Bits) (n : ℕ) → held b < min n 32 → read s b n ≡ from_next b (fetched s b.pos) (min n 32)
unfolding read
read_next s b n h = simp (lt-leb _ _ h)

pub read_capped : (s : List ℕ) (b : Bits) (n : ℕ) → read s b (min n 32) ≡ read s b n
unfolding read
read_capped s b n = let e : min (min n 32) 32 ≡ min n 32 = omega arith in rw e

-- What holds of both ways of reading holds of a read.
read_either : (P : Got → Type 0) (s : List ℕ) (b : Bits) (n : ℕ) → (min n 32 ≤ held b → P (from_held b (min n 32)))
    → (held b < min n 32 → P (from_next b (fetched s b.pos) (min n 32))) → P (read s b n)
read_either P s b n f g =
    by-test (leb (min n 32) (held b))
    (λ e. let h = leb-true (min n 32) (held b) e in rw (read_held s b n h) (f h))
    (λ e. let h = leb-false (min n 32) (held b) e in rw (read_next s b n h) (g h))

-- A read leaves at most 31 bits buffered, whatever state it began with.
pub read_count : (s : List ℕ) (b : Bits) (n : ℕ) → (read s b n).bits.count < 32
read_count s b n =
    read_either (λ g. g.bits.count < 32) s b n (λ h. omega (arith, held_small b)) (λ h. omega arith)

-- A read moves the position by one word at most.
pub read_pos : (s : List ℕ) (b : Bits) (n : ℕ) → (read s b n).bits.pos ≤ b.pos + 4
read_pos s b n = read_either (λ g. g.bits.pos ≤ b.pos + 4) s b n (λ h. omega arith) (λ h. mod-le (b.pos + 4) (2 ^ 64))

-- A value of n bits is below 2^n.
pub read_below : (s : List ℕ) (b : Bits) (n : ℕ) → (read s b n).value < 2 ^ min n 32
read_below s b n =
    read_either (λ g. g.value < 2 ^ min n 32) s b n (λ h. mod-lt _ (pow_pos (min n 32))) (λ h. mod-lt _ (pow_pos (min n 32)))

-- A read of 0 bits gives 0 and fetches nothing.
pub read_zero : (s : List ℕ) (b : Bits) → read s b 0 ≡ record { value = 0; bits = record { pos = b.pos; word = b.word; count = held b; filler = b.filler } }
read_zero s b =
    let k : min 0 32 ≡ 0 = omega arith in
    let c : held b - 0 ≡ held b = omega arith in
    let v : b.word / 2 ^ held b % 2 ^ 0 ≡ 0 = omega (arith, mod-lt (b.word / 2 ^ held b) (pow_pos 0)) in
    rw (read_held s b 0 (omega arith), k, c, v)

-- A count of missing words is never set back to 0 by a read.
pub read_kept : (s : List ℕ) (b : Bits) (n : ℕ) → (read s b n).bits.filler ≡ 0 → b.filler ≡ 0
read_kept s b n =
    read_either (λ g. g.bits.filler ≡ 0 → b.filler ≡ 0) s b n (λ h e. e)
    (λ h e. (counted_zero b.filler (is_missing (fetched s b.pos)) e).0)

-- The same state read on streams that agree in their first q bytes, where the word that it may fetch lies below q.
pub read_agree : (s t : List ℕ) (b : Bits) (n q : ℕ) → take q s ≡ take q t → q ≤ length s → q ≤ length t → b.pos + 4 ≤ q → read s b n ≡ read t b n
unfolding read
read_agree s t b n q e hs ht h = rw (fetched_agree s t q b.pos e hs ht h)

-- A word that is there in the first p bytes of a stream is the stream's.
fetched_prefix : (s : List ℕ) (p at : ℕ) → p ≤ length s → is_missing (fetched (take p s) at) ≡ false → fetched (take p s) at ≡ fetched s at
fetched_prefix s p at l m =
    by-test (leb (at + 4) p)
    (λ e. fetched_agree (take p s) s p at (take-take p p s (omega arith)) (omega (arith, len)) l (leb-true (at + 4) p e))
    (λ e. cc (fetched_missing (take p s) at (omega (arith, len, leb-false (at + 4) p e))))
  where
    len : length (take p s) ≡ p
    len = length-take p s ∙ omega arith

-- A read of the first p bytes of a stream after which no word was missing is the read of the whole stream.
pub read_prefix : (s : List ℕ) (p : ℕ) (b : Bits) (n : ℕ) → p ≤ length s → (read (take p s) b n).bits.filler ≡ 0 → read (take p s) b n ≡ read s b n
read_prefix s p b n l =
    read_either (λ g. g.bits.filler ≡ 0 → g ≡ read s b n) (take p s) b n (λ h e. sym (read_held s b n h))
    (λ h e. rw (fetched_prefix s p b.pos l (counted_zero b.filler (is_missing (fetched (take p s) b.pos)) e).1) (sym (read_next s b n h)))

-- ── A read split in two ──

low_part : (g v j : ℕ) → j ≤ 32 → (g * 2 ^ 32 + v) % 2 ^ j ≡ v % 2 ^ j
low_part g v j h =
    let n : 32 ≡ 32 - j + j = omega arith in
    let e : 2 ^ 32 ≡ 2 ^ (32 - j) * 2 ^ j = ap (λ (x : ℕ). 2 ^ x) n ∙ pow-add 2 (32 - j) j in
    ap (λ (x : ℕ). (g * x + v) % 2 ^ j) e ∙ ap (λ (x : ℕ). (x + v) % 2 ^ j) (sym (mul_assoc g (2 ^ (32 - j)) (2 ^ j)))
    ∙ mul-add-mod_self_right (g * 2 ^ (32 - j)) (2 ^ j) v

-- What stands above a word does not matter to a read of its own bits.
pub above : (g v c k : ℕ) → k + c ≤ 32 → (g * 2 ^ 32 + v) / 2 ^ c % 2 ^ k ≡ v / 2 ^ c % 2 ^ k
above g v c k h =
    sym (field (g * 2 ^ 32 + v) k c) ∙ ap (λ (x : ℕ). x / 2 ^ c) (low_part g v (k + c) h) ∙ field v k c

-- Bits that all lie in the first of two words.
in_first : (w v m : ℕ) → v < 2 ^ 32 → (w * 2 ^ 32 + v) / 2 ^ (32 + m) ≡ w / 2 ^ m
in_first w v m h = sym (shr-shr (w * 2 ^ 32 + v) 32 m) ∙ ap (λ (x : ℕ). x / 2 ^ m) (high w 32 h)

split_first : (x c a b : ℕ) → x / 2 ^ c % 2 ^ (a + b) / 2 ^ b ≡ x / 2 ^ (c + b) % 2 ^ a
split_first x c a b = field (x / 2 ^ c) a b ∙ ap (λ (y : ℕ). y % 2 ^ a) (shr-shr x c b)

split_second : (x c a b : ℕ) → x / 2 ^ c % 2 ^ (a + b) % 2 ^ b ≡ x / 2 ^ c % 2 ^ b
split_second x c a b = mod-mod-pow (x / 2 ^ c) a b

held_of : (s : List ℕ) (b : Bits) (n : ℕ) → n ≤ 32 → n ≤ held b → read s b n ≡ from_held b n
held_of s b n h l = let e : min n 32 ≡ n = omega arith in rw e at (read_held s b n (omega arith))

next_of : (s : List ℕ) (b : Bits) (n : ℕ) → n ≤ 32 → held b < n → read s b n ≡ from_next b (fetched s b.pos) n
next_of s b n h l = let e : min n 32 ≡ n = omega arith in rw e at (read_next s b n (omega arith))

-- A read of a + b bits, at most 32, is a read of a and then one of b: its value divided by 2^b is the first's, the remainder the
-- second's, and it leaves the state that the second leaves.
module _ (s : List ℕ) (st : Bits) (a b : ℕ) (fit : a + b ≤ 32) where
  abbrev Rest : Type 0
  Rest = read s (read s st a).bits b ≡ record { value = (read s st (a + b)).value % 2 ^ b; bits = (read s st (a + b)).bits }

  -- Both parts are held.
  rest_held : a + b ≤ held st → Rest
  rest_held h =
      let mid : Bits = (from_held st a).bits in
      let e : held mid ≡ held st - a = held_is mid (omega (arith, held_small st)) in
      let c : held st - a - b ≡ held st - (a + b) = omega arith in
      rw (
        held_of s st (a + b) fit h,
        held_of s st a (omega arith) (omega arith),
        held_of s mid b (omega arith) (omega (arith, e)),
        e,
        c,
        split_second st.word (held st - (a + b)) a b,
      )

  -- The first is held, the second needs the next word.
  rest_across : a ≤ held st → held st < a + b → Rest
  rest_across l h =
      let mid : Bits = (from_held st a).bits in
      let e : held mid ≡ held st - a = held_is mid (omega (arith, held_small st)) in
      let c : held st - a + 32 - b ≡ held st + 32 - (a + b) = omega arith in
      rw (
        next_of s st (a + b) fit h,
        held_of s st a (omega arith) l,
        next_of s mid b (omega arith) (omega (arith, e)),
        e,
        c,
        split_second (st.word * 2 ^ 32 + read_as (fetched s st.pos)) (held st + 32 - (a + b)) a b,
      )

  -- The next word is needed at once, and serves both.
  rest_next : held st < a → Rest
  rest_next h =
      let w : ℕ = read_as (fetched s st.pos) in
      let mid : Bits = (from_next st (fetched s st.pos) a).bits in
      let e : held mid ≡ held st + 32 - a = held_is mid (omega arith) in
      let c : held st + 32 - a - b ≡ held st + 32 - (a + b) = omega arith in
      rw (
        next_of s st (a + b) fit (omega arith),
        next_of s st a (omega arith) h,
        held_of s mid b (omega arith) (omega (arith, e)),
        e,
        c,
        split_second (st.word * 2 ^ 32 + w) (held st + 32 - (a + b)) a b,
        above st.word w (held st + 32 - (a + b)) b (omega arith),
      )

  pub read_split_rest : read s (read s st a).bits b ≡ record { value = (read s st (a + b)).value % 2 ^ b; bits = (read s st (a + b)).bits }
  read_split_rest =
      by-test (leb (a + b) (held st))
      (λ e. rest_held (leb-true (a + b) (held st) e))
      (λ e. by-test (leb a (held st))
      (λ f. rest_across (leb-true a (held st) f) (leb-false (a + b) (held st) e))
      (λ f. rest_next (leb-false a (held st) f)))

  -- Where a word is fetched, it must be one of 32 bits.
  pub read_split_first : (held st < a + b → read_as (fetched s st.pos) < 2 ^ 32) → (read s st (a + b)).value / 2 ^ b ≡ (read s st a).value
  read_split_first w =
      by-test (leb (a + b) (held st))
      (λ e. first_held (leb-true (a + b) (held st) e))
      (λ e. by-test (leb a (held st))
      (λ f. first_across (leb-true a (held st) f) (leb-false (a + b) (held st) e))
      (λ f. first_next (leb-false a (held st) f)))
    where
      first_held : a + b ≤ held st → (read s st (a + b)).value / 2 ^ b ≡ (read s st a).value
      first_held h =
          let c : held st - (a + b) + b ≡ held st - a = omega arith in
          rw (held_of s st (a + b) fit h, held_of s st a (omega arith) (omega arith), ← c) (split_first st.word (held st - (a + b)) a b)

      first_across : a ≤ held st → held st < a + b → (read s st (a + b)).value / 2 ^ b ≡ (read s st a).value
      first_across l h =
          let c : held st + 32 - (a + b) + b ≡ 32 + (held st - a) = omega arith in
          rw (
            next_of s st (a + b) fit h,
            held_of s st a (omega arith) l,
            split_first (st.word * 2 ^ 32 + read_as (fetched s st.pos)) (held st + 32 - (a + b)) a b,
            c,
            in_first st.word (read_as (fetched s st.pos)) (held st - a) (w h),
          )

      first_next : held st < a → (read s st (a + b)).value / 2 ^ b ≡ (read s st a).value
      first_next h =
          let c : held st + 32 - (a + b) + b ≡ held st + 32 - a = omega arith in
          rw (next_of s st (a + b) fit (omega arith), next_of s st a (omega arith) h, ← c)
          (split_first (st.word * 2 ^ 32 + read_as (fetched s st.pos)) (held st + 32 - (a + b)) a b)

-- ── Fields ──

pub fields_none : (s : List ℕ) (b : Bits) → fields s [] b ≡ record { values = []; bits = b }
unfolding fields
fields_none s b = refl

pub fields_more : (s : List ℕ) (n : ℕ) (ns : List ℕ) (b : Bits)
    → fields s (n ∷ ns) b ≡ record { values = (read s b n).value ∷ (fields s ns (read s b n).bits).values; bits = (fields s ns (read s b n).bits).bits }
unfolding fields
fields_more s n ns b = refl

-- Two fields are two reads.
pub fields_pair : (s : List ℕ) (m n : ℕ) (b : Bits)
    → fields s (m ∷ n ∷ []) b ≡ (let g = read s b m in let h = read s g.bits n in record { values = g.value ∷ h.value ∷ []; bits = h.bits })
unfolding fields
fields_pair s m n b = refl

-- A field of n bits is below 2^n.
pub fields_below : (s ns : List ℕ) (b : Bits) (i : ℕ) → get_or (fields s ns b).values i 0 < 2 ^ min (get_or ns i 0) 32
fields_below s [] b i = rw (fields_none s b) (pow_pos 0)
fields_below s (n ∷ ns) b zero = rw (fields_more s n ns b) (read_below s b n)
fields_below s (n ∷ ns) b (suc i) = rw (fields_more s n ns b) (fields_below s ns (read s b n).bits i)

-- ── Fields read at once ──

-- How many bits fields of some widths have together, and what a number of so many bits is cut into.
unfoldable pub total : List ℕ → ℕ
total [] = 0
total (n ∷ ns) = n + total ns

unfoldable pub cut : List ℕ → ℕ → List ℕ
cut [] v = []
cut (n ∷ ns) v = v / 2 ^ total ns % 2 ^ n ∷ cut ns v

cut_field : (v a l k : ℕ) → v % 2 ^ (a + (k + l)) / 2 ^ l % 2 ^ k ≡ v / 2 ^ l % 2 ^ k
cut_field v a l k =
    sym (field (v % 2 ^ (a + (k + l))) k l) ∙ ap (λ (x : ℕ). x / 2 ^ l) (mod-mod-pow v a (k + l)) ∙ field v k l

-- What stands above the fields does not matter to them.
cut_low : (a : ℕ) (ns : List ℕ) (v : ℕ) → cut ns (v % 2 ^ (a + total ns)) ≡ cut ns v
unfolding cut total
cut_low a [] v = refl
cut_low a (n ∷ ns) v =
    let e : a + (n + total ns) ≡ a + n + total ns = omega arith in
    rw (cut_field v a (total ns) n) (ap (λ x. v / 2 ^ total ns % 2 ^ n ∷ cut ns (v % 2 ^ x)) e ∙ ap (λ xs. v / 2 ^ total ns % 2 ^ n ∷ xs) (cut_low (a + n) ns v))

-- A read that ends within the word that the first part fetched, or that was held, fetches no other.
whole_rest : (s : List ℕ) (b : Bits) (n m : ℕ) → n + m ≤ 32 → (held b < n + m → read_as (fetched s b.pos) < 2 ^ 32)
    → held (read s b n).bits < m → read_as (fetched s (read s b n).bits.pos) < 2 ^ 32
whole_rest s b n m fit w =
    by-test (leb n (held b))
    (λ e. let l = leb-true n (held b) e in
    let mid : Bits = (from_held b n).bits in
    let c : held mid ≡ held b - n = held_is mid (omega (arith, held_small b)) in
    rw (held_of s b n (omega arith) l) (λ h. w (omega (arith, c))))
    (λ e. let l = leb-false n (held b) e in
    let mid : Bits = (from_next b (fetched s b.pos) n).bits in
    let c : held mid ≡ held b + 32 - n = held_is mid (omega arith) in
    rw (next_of s b n (omega arith) l) (λ h. absurd (omega (arith, c))))
  where
    Goal : Type 0
    Goal = held (read s b n).bits < m → read_as (fetched s (read s b n).bits.pos) < 2 ^ 32

-- Fields of at most 32 bits together are one read, cut.
pub fields_at_once : (s : List ℕ) (n : ℕ) (ns : List ℕ) (b : Bits) → n + total ns ≤ 32 → (held b < n + total ns → read_as (fetched s b.pos) < 2 ^ 32)
    → fields s (n ∷ ns) b ≡ record { values = cut (n ∷ ns) (read s b (n + total ns)).value; bits = (read s b (n + total ns)).bits }
unfolding cut total
fields_at_once s n [] b fit w =
    let e : n + 0 ≡ n = omega arith in
    let m : min n 32 ≡ n = omega arith in
    let l : (read s b n).value < 2 ^ n = rw m at (read_below s b n) in
    rw (fields_more s n [] b, fields_none s (read s b n).bits, e, div-one (read s b n).value, mod-eq_of_lt l)
fields_at_once s n (m ∷ ms) b fit w =
    let S = m + total ms in
    let z : 0 + S ≡ S = omega arith in
    let k : min n 32 ≡ n = omega arith in
    let l : (read s b n).value < 2 ^ n = rw k at (read_below s b n) in
    rw (
      fields_more s n (m ∷ ms) b,
      fields_at_once s m ms (read s b n).bits (omega arith) (whole_rest s b n S fit w),
      read_split_rest s b n S fit,
      read_split_first s b n S fit w,
      mod-eq_of_lt l,
    )
    (ap (λ xs. record { values = (read s b n).value ∷ xs; bits = (read s b (n + S)).bits }) (rw z at (cut_low 0 (m ∷ ms) (read s b (n + S)).value)))

-- ── Four fields of one width ──

pub four_fields : (s : List ℕ) (n : ℕ) (b : Bits) → four s n b ≡ record { value = (fields s (n ∷ n ∷ n ∷ n ∷ []) b).values; bits = (fields s (n ∷ n ∷ n ∷ n ∷ []) b).bits }
unfolding four
four_fields s n b = refl

-- Four fields are four reads.
pub four_reads : (s : List ℕ) (n : ℕ) (bits : Bits) (a b c d : Got) → a ≡ read s bits n → b ≡ read s a.bits n → c ≡ read s b.bits n → d ≡ read s c.bits n
    → record { value = a.value ∷ b.value ∷ c.value ∷ d.value ∷ []; bits = d.bits } ≡ four s n bits
unfolding four fields
four_reads s n bits a b c d ea eb ec ed = rw (← ea, ← eb, ← ec, ← ed)

-- Four fields are two pairs of reads.
pub four_pairs : (s : List ℕ) (n : ℕ) (b : Bits) → four s n b
    ≡ (let f = fields s (n ∷ n ∷ []) b in let e = fields s (n ∷ n ∷ []) f.bits in record { value = f.values ++ e.values; bits = e.bits })
unfolding four fields
four_pairs s n b = refl

pub four_values : (s : List ℕ) (n : ℕ) (b : Bits) → length (four s n b).value ≡ 4
unfolding four fields
four_values s n b = refl

pub four_below : (s : List ℕ) (n : ℕ) (b : Bits) (i : ℕ) → n ≤ 32 → get_or (four s n b).value i 0 < 2 ^ n
unfolding four fields
four_below s n b i l = each i
  where
    below : (c : Bits) → (read s c n).value < 2 ^ n
    below c = let m : min n 32 ≡ n = omega arith in rw m at (read_below s c n)

    each : (i : ℕ) → get_or (four s n b).value i 0 < 2 ^ n
    each zero = below _
    each (suc zero) = below _
    each (suc (suc zero)) = below _
    each (suc (suc (suc zero))) = below _
    each (suc (suc (suc (suc i)))) = pow_pos n

-- ── Two's complement ──

pub signed_low : (k v : ℕ) → v * 2 < 2 ^ k → signed k v ≡ pos v
unfolding signed
signed_low k v h = simp (lt-ltb (v * 2) (2 ^ k) h)

pub signed_high : (k v : ℕ) → 2 ^ k ≤ v * 2 → v < 2 ^ k → signed k v ≡ negsuc (2 ^ k - suc v)
unfolding signed
signed_high k v h l = simp (le-ltb (v * 2) (2 ^ k) h, lt-ltb v (2 ^ k) l)

-- A number of at most m + 1 bits lies in -2^m .. 2^m - 1.
pub signed_mag : (m k v : ℕ) → k ≤ suc m → v < 2 ^ k → mag (signed k v) < 2 ^ m
signed_mag m k v h l =
    by-test (ltb (v * 2) (2 ^ k))
    (λ e. let q = ltb-true (v * 2) (2 ^ k) e in rw (signed_low k v q) (omega (arith, top)))
    (λ e. let q = ltb-false (v * 2) (2 ^ k) e in rw (signed_high k v q l) (omega (arith, top)))
  where
    top : 2 ^ k ≤ 2 * 2 ^ m
    top = omega (arith, pow_mono h, pow-add 2 1 m)

-- A number less a greater one.
pub minus_more : (v t : ℕ) → v < t → pos v -ℤ pos t ≡ negsuc (t - suc v)
minus_more v zero h = let z : ◌≡◌ {A = ℕ} 0 1 = omega arith in cc
minus_more v (suc t) h = rw (lt-ltb v (suc t) h)

-- What two's complement takes off k bits v: the highest bit, moved down and up again, is 2^k or 0.
module _ (k v : ℕ) (fit : v < 2 ^ k) where
  pub sign_low : v * 2 < 2 ^ k → v * 2 / 2 ^ k * 2 ^ k ≡ 0
  sign_low h = rw (div-eq_of_lt h, zero-mul)

  pub sign_high : 2 ^ k ≤ v * 2 → v * 2 / 2 ^ k * 2 ^ k ≡ 2 ^ k
  sign_high h =
      let l : 1 * 2 ^ k ≤ v * 2 = omega arith in
      let u : v * 2 < (1 + 1) * 2 ^ k = omega arith in
      rw (div-eq_of_lt-le (2 ^ k) l u, one-mul)

  pub sign_most : v * 2 / 2 ^ k * 2 ^ k ≤ 2 ^ k
  sign_most =
      by-test (ltb (v * 2) (2 ^ k))
      (λ e. rw (sign_low (ltb-true (v * 2) (2 ^ k) e)) (omega arith))
      (λ e. rw (sign_high (ltb-false (v * 2) (2 ^ k) e)) (omega arith))

  pub signed_is : pos v -ℤ pos (v * 2 / 2 ^ k * 2 ^ k) ≡ signed k v
  signed_is =
      by-test (ltb (v * 2) (2 ^ k))
      (λ e. let q = ltb-true (v * 2) (2 ^ k) e in let z : v + 0 ≡ v = omega arith in rw (sign_low q, signed_low k v q) (ap pos z))
      (λ e. let q = ltb-false (v * 2) (2 ^ k) e in rw (sign_high q, signed_high k v q fit) (minus_more v (2 ^ k) fit))

  pub residual_is : k ≤ 32 → (2 ^ 32 + v - v * 2 / 2 ^ k * 2 ^ k) % 65_536 ≡ modulo (signed k v)
  unfolding modulo
  residual_is h =
      by-test (ltb (v * 2) (2 ^ k))
      (λ e. let q = ltb-true (v * 2) (2 ^ k) e in rw (sign_low q, signed_low k v q) (omega arith))
      (λ e. let q = ltb-false (v * 2) (2 ^ k) e in rw (sign_high q, signed_high k v q fit) (omega (arith, pow_mono h)))

pub modulo_below : (z : ℤ) → modulo z < 65_536
unfolding modulo
modulo_below (pos n) = omega arith
modulo_below (negsuc n) = omega arith

pub read_signed_is : (s : List ℕ) (b : Bits) (n : ℕ) → read_signed s b n ≡ record { value = signed (min n 32) (read s b n).value; bits = (read s b n).bits }
unfolding read_signed
read_signed_is s b n = refl

-- A number of at most m + 1 bits that is read lies in -2^m .. 2^m - 1.
pub read_signed_mag : (m : ℕ) (s : List ℕ) (b : Bits) (n : ℕ) → min n 32 ≤ suc m → mag (read_signed s b n).value < 2 ^ m
unfolding read_signed
read_signed_mag m s b n h = signed_mag m (min n 32) (read s b n).value h (read_below s b n)

pub read_residual_is : (s : List ℕ) (b : Bits) (n : ℕ) → read_residual s b n ≡ record { value = modulo (signed (min n 32) (read s b n).value); bits = (read s b n).bits }
unfolding read_residual
read_residual_is s b n = refl
