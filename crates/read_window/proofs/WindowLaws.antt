-- Reading by position is reading by the record: `read_at` says so of one read, `leaves` of the record after one that need not be
-- known, `fields_at` of several. `cut_at` cuts fields out of more bits, `window_is` makes 64 bits of three words, and `four_made`
-- cuts these into four.
use mathlib.Core.Path.{◌≡◌, sym, ap, subst, ◌∙◌}
use mathlib.Core.Bool.{true, false, ◌&&◌}
use mathlib.Core.List.{List, [], ◌∷◌}
use Prim.Native.Nat.{ℕ, zero, suc, ◌+◌, ◌*◌, ◌-◌, ◌/◌, ◌%◌, ◌^◌, ◌≤◌, ◌<◌, min}
use native.Mathlib.Nat.{div-one, add-mul, mul-mod_left, mul_assoc, mod-lt, mod-eq_of_lt}
use native.Mathlib.Omega.{arith}
use native.Mathlib.Numerals.{add-one}
use lib.Dec.{ltb, leb, eqb}
use lib.ListN.{length}
use lib.Pow.{pow_pos, pow-add, high, low, field, shl-shr, shl_exact, shr_mod, shr-shr, mod-pow-add}
use borrow.Author.Tests.{le-leb, lt-leb, lt-ltb, le-ltb, leb-true, leb-false, ltb-true, eqb-true}
use Rattle.std.specs.Prelude.{Some}
use Rattle.rules.specs.Reader.{word_at, fetched, held, read, fields}
use Rattle.rules.proofs.ReaderLaws.{fetched_there, counted_there, held_is, read_held, read_next, above, fields_none, fields_more}
use Rattle.rules.proofs.Tests.{both, by-test}
use Rattle.rules.specs.declared.reader.Bits.{Bits}
use Rattle.read_window.specs.Window.{bit, bits_from, state_at, Three, Window, FourAt, values_at, span, Narrow, also, stands_in, Stands, standing_in}

-- ── Bits ──

-- a + b bits are a bits and then b.
pub from_split : (s : List ℕ) (base q a b : ℕ) → bits_from s base q (a + b) ≡ bits_from s base q a * 2 ^ b + bits_from s base (q + a) b
unfolding bits_from
from_split s base q a zero =
    let e : a + 0 ≡ a = omega arith in
    rw e (omega arith)
from_split s base q a (suc b) =
    let e : a + suc b ≡ suc (a + b) = omega arith in
    let p : q + (a + b) ≡ q + a + b = omega arith in
    let t : 2 ^ suc b ≡ 2 ^ b * 2 = ap (λ (x : ℕ). 2 ^ x) (sym (add-one b)) ∙ pow-add 2 b 1 in
    rw (e, from_split s base q a b, p, t) (omega (arith, mul_assoc (bits_from s base q a) (2 ^ b) 2))

-- n bits are below 2^n.
pub from_below : (s : List ℕ) (base q n : ℕ) → bits_from s base q n < 2 ^ n
unfolding bits_from bit
from_below s base q zero = omega (arith, pow_pos 0)
from_below s base q (suc n) =
    let t : 2 ^ suc n ≡ 2 ^ n * 2 = ap (λ (x : ℕ). 2 ^ x) (sym (add-one n)) ∙ pow-add 2 n 1 in
    rw t (omega (arith, from_below s base q n))

-- Bits that lie in one word.
pub in_word : (s : List ℕ) (base i r k : ℕ) → r + k ≤ 32 → bits_from s base (i * 32 + r) k ≡ word_at s (base + i * 4) / 2 ^ (32 - r - k) % 2 ^ k
unfolding bits_from bit
in_word s base i r zero h = omega (arith, mod-lt (word_at s (base + i * 4) / 2 ^ (32 - r - 0)) (pow_pos 0))
in_word s base i r (suc k) h =
    let w : ℕ = word_at s (base + i * 4) in
    let c : ℕ = 31 - (r + k) in
    let n : (i * 32 + r + k) / 32 ≡ i = omega arith in
    let m : (i * 32 + r + k) % 32 ≡ r + k = omega arith in
    let d : 32 - r - k ≡ c + 1 = omega arith in
    let e : 32 - r - suc k ≡ c = omega arith in
    rw (n, m, in_word s base i r k (omega arith), d, e, ← add-one k, mod-pow-add (w / 2 ^ c) k 1, shr-shr w c 1)

-- ── Two words ──

-- The last c bits of a word, and the first m of the next.
across : (w v c m : ℕ) → m ≤ 32 → v < 2 ^ 32 → (w * 2 ^ 32 + v) / 2 ^ (32 - m) % 2 ^ (c + m) ≡ w % 2 ^ c * 2 ^ m + v / 2 ^ (32 - m) % 2 ^ m
across w v c m h l =
    let n : 32 - m + m ≡ 32 = omega arith in
    let y : ℕ = (w * 2 ^ 32 + v) / 2 ^ (32 - m) in
    let e : y / 2 ^ m ≡ w = shr-shr (w * 2 ^ 32 + v) (32 - m) m ∙ ap (λ (x : ℕ). (w * 2 ^ 32 + v) / 2 ^ x) n ∙ high w 32 l in
    rw (mod-pow-add y c m, e, above w v (32 - m) m (omega arith))

-- ── A read ──

-- The record whose word is number i from `base` on, with r of its bits read.
abbrev at_word : List ℕ → ℕ → ℕ → ℕ → ℕ → Bits
at_word s base i r f = record { pos = base + i * 4 + 4; word = word_at s (base + i * 4); count = 32 - r; filler = f }

state_is : (s : List ℕ) (base i r : ℕ) (f : ℕ) → 0 < r → r ≤ 32 → state_at s base (i * 32 + r) f ≡ at_word s base i r f
state_is s base i r f some few =
    let j : (i * 32 + r + 31) / 32 ≡ i + 1 = omega arith in
    let p : base + (i + 1) * 4 ≡ base + i * 4 + 4 = omega arith in
    let w : base + i * 4 + 4 - 4 ≡ base + i * 4 = omega arith in
    let c : (i + 1) * 32 - (i * 32 + r) ≡ 32 - r = omega arith in
    rw (j, p, w, c)

-- n bits that are held.
within : (s : List ℕ) (base i r n : ℕ) (f : ℕ) → 0 < r → r + n ≤ 32
    → read s (at_word s base i r f) n ≡ record { value = bits_from s base (i * 32 + r) n; bits = at_word s base i (r + n) f }
within s base i r n f some h =
    let cap : min n 32 ≡ n = omega arith in
    let holds : held (at_word s base i r f) ≡ 32 - r = held_is (at_word s base i r f) (omega arith) in
    let c : 32 - r - n ≡ 32 - (r + n) = omega arith in
    rw (read_held s (at_word s base i r f) n (omega (arith, holds)), cap, holds, in_word s base i r n h, c)

-- The bits of this word that are left, and m of the next.
on : (s : List ℕ) (base i r m : ℕ) (f : ℕ) → 0 < r → r ≤ 32 → 0 < m → m ≤ r → base + i * 4 + 8 ≤ length s → base + i * 4 + 8 < 2 ^ 64
    → word_at s (base + i * 4 + 4) < 2 ^ 32
    → read s (at_word s base i r f) (32 - r + m) ≡ record { value = bits_from s base (i * 32 + r) (32 - r + m); bits = at_word s base (i + 1) m f }
on s base i r m f some few more fit there far whole =
    let n : ℕ = 32 - r + m in
    let w : ℕ = word_at s (base + i * 4) in
    let v : ℕ = word_at s (base + i * 4 + 4) in
    let cap : min n 32 ≡ n = omega arith in
    let holds : held (at_word s base i r f) ≡ 32 - r = held_is (at_word s base i r f) (omega arith) in
    let next : fetched s (base + i * 4 + 4) ≡ Some v = fetched_there s (base + i * 4 + 4) (omega arith) in
    let p : (base + i * 4 + 4 + 4) % 2 ^ 64 ≡ base + (i + 1) * 4 + 4 = omega arith in
    let b : base + (i + 1) * 4 ≡ base + i * 4 + 4 = omega arith in
    let c : 32 - r + 32 - n ≡ 32 - m = omega arith in
    let first : bits_from s base (i * 32 + r) (32 - r) ≡ w % 2 ^ (32 - r) = all_left in
    let second : bits_from s base (i * 32 + r + (32 - r)) m ≡ v / 2 ^ (32 - m) % 2 ^ m = next_word in
    let value : (w * 2 ^ 32 + v) / 2 ^ (32 - m) % 2 ^ n ≡ bits_from s base (i * 32 + r) n
    = across w v (32 - r) m (omega arith) whole ∙ rw (from_split s base (i * 32 + r) (32 - r) m, first, second) in
    rw (read_next s (at_word s base i r f) n (omega (arith, holds)), cap, holds, next, c, p, counted_there f, value, b)
  where
    all_left : bits_from s base (i * 32 + r) (32 - r) ≡ word_at s (base + i * 4) % 2 ^ (32 - r)
    all_left =
        let z : 32 - r - (32 - r) ≡ 0 = omega arith in
        let d : word_at s (base + i * 4) / 2 ^ 0 ≡ word_at s (base + i * 4) = div-one (word_at s (base + i * 4)) in
        in_word s base i r (32 - r) (omega arith) ∙ rw (z, d)

    next_word : bits_from s base (i * 32 + r + (32 - r)) m ≡ word_at s (base + i * 4 + 4) / 2 ^ (32 - m) % 2 ^ m
    next_word =
        let e : i * 32 + r + (32 - r) ≡ (i + 1) * 32 + 0 = omega arith in
        let b : base + (i + 1) * 4 ≡ base + i * 4 + 4 = omega arith in
        let z : 32 - 0 - m ≡ 32 - m = omega arith in
        rw (e, in_word s base (i + 1) 0 m (omega arith), b, z)

-- What a read of n bits gives by the record that stands before bit q: the n bits from there on, and the record that stands n bits
-- on.
abbrev pub Reads : List ℕ → ℕ → ℕ → ℕ → ℕ → Type 0
Reads s base f q n = read s (state_at s base q f) n ≡ record { value = bits_from s base q n; bits = state_at s base (q + n) f }

reads_within : (s : List ℕ) (base i r n : ℕ) (f : ℕ) → 0 < r → r + n ≤ 32 → Reads s base f (i * 32 + r) n
reads_within s base i r n f some h =
    let a : i * 32 + r + n ≡ i * 32 + (r + n) = omega arith in
    rw (state_is s base i r f some (omega arith), a, state_is s base i (r + n) f (omega arith) h) (within s base i r n f some h)

reads_on : (s : List ℕ) (base i r m : ℕ) (f : ℕ) → 0 < r → r ≤ 32 → 0 < m → m ≤ r → base + i * 4 + 8 ≤ length s → base + i * 4 + 8 < 2 ^ 64
    → word_at s (base + i * 4 + 4) < 2 ^ 32 → Reads s base f (i * 32 + r) (32 - r + m)
reads_on s base i r m f some few more fit there far whole =
    let a : i * 32 + r + (32 - r + m) ≡ (i + 1) * 32 + m = omega arith in
    rw (state_is s base i r f some few, a, state_is s base (i + 1) m f more (omega arith)) (on s base i r m f some few more fit there far whole)

-- It does so if its words are there, and a word that it fetches has 32 bits.
reads_parts : (s : List ℕ) (base i r n : ℕ) (f : ℕ) → 0 < r → r ≤ 32 → n ≤ 32 → (32 < r + n → base + i * 4 + 8 ≤ length s) → base + i * 4 + 8 < 2 ^ 64
    → (32 < r + n → word_at s (base + i * 4 + 4) < 2 ^ 32) → Reads s base f (i * 32 + r) n
reads_parts s base i r n f some few fit there far whole =
    by-test (leb (r + n) 32)
    (λ t. reads_within s base i r n f some (leb-true (r + n) 32 t))
    (λ t. let h : 32 < r + n = leb-false (r + n) 32 t in
    let d : 32 - r + (r + n - 32) ≡ n = omega arith in
    subst (λ (x : ℕ). Reads s base f (i * 32 + r) x) d
    (reads_on s base i r (r + n - 32) f some few (omega arith) (omega arith) (there h) far (whole h)))

pub read_at : (s : List ℕ) (base q n : ℕ) (f : ℕ) → 0 < q → n ≤ 32 → base + (q + n + 31) / 32 * 4 ≤ length s → base + (q + n + 31) / 32 * 4 + 4 < 2 ^ 64
    → ((q + 31) / 32 * 32 < q + n → word_at s (base + (q + 31) / 32 * 4) < 2 ^ 32) → Reads s base f q n
read_at s base q n f some fit there far whole =
    let i : ℕ = (q + 31) / 32 - 1 in
    let r : ℕ = q - i * 32 in
    let e : i * 32 + r ≡ q = omega arith in
    let a : base + (q + 31) / 32 * 4 ≡ base + i * 4 + 4 = omega arith in
    subst (λ (x : ℕ). Reads s base f x n) e
    (reads_parts s base i r n f (omega arith) (omega arith) fit (λ h. omega arith) (omega arith) (λ h. rw a at (whole (omega arith))))

-- Whatever the bits are, the record after n of them stands n bits on.
pub leaves : (s : List ℕ) (base q n f : ℕ) → 0 < q → n ≤ 32 → base + (q + n + 31) / 32 * 4 ≤ length s → base + (q + n + 31) / 32 * 4 + 4 < 2 ^ 64
    → (read s (state_at s base q f) n).bits ≡ state_at s base (q + n) f
leaves s base q n f some fit there far = by-test (leb n (held b)) held_bits fetched_bits
  where
    b : Bits
    b = state_at s base q f

    cap : min n 32 ≡ n
    cap = omega arith

    holds : held b ≡ (q + 31) / 32 * 32 - q
    holds = held_is b (omega arith)

    held_bits : leb n (held b) ≡ true → (read s b n).bits ≡ state_at s base (q + n) f
    held_bits t =
        let h : n ≤ held b = leb-true n (held b) t in
        let words : (q + n + 31) / 32 ≡ (q + 31) / 32 = omega (arith, holds) in
        let count : (q + 31) / 32 * 32 - q - n ≡ (q + 31) / 32 * 32 - (q + n) = omega arith in
        rw (read_held s b n (omega arith), cap, holds, words, count)

    fetched_bits : leb n (held b) ≡ false → (read s b n).bits ≡ state_at s base (q + n) f
    fetched_bits t =
        let h : held b < n = leb-false n (held b) t in
        let words : (q + n + 31) / 32 ≡ (q + 31) / 32 + 1 = omega (arith, holds) in
        let count : (q + 31) / 32 * 32 - q + 32 - n ≡ ((q + 31) / 32 + 1) * 32 - (q + n) = omega arith in
        let on : (base + (q + 31) / 32 * 4 + 4) % 2 ^ 64 ≡ base + ((q + 31) / 32 + 1) * 4 = omega arith in
        let at : base + ((q + 31) / 32 + 1) * 4 - 4 ≡ base + (q + 31) / 32 * 4 = omega arith in
        rw (read_next s b n (omega arith), cap, holds, fetched_there s (base + (q + 31) / 32 * 4) (omega arith), words, on, at, counted_there f, count)

-- ── Fields ──

-- Fields one after another, if their words are there and have 32 bits.
pub fields_at : (s : List ℕ) (base q : ℕ) (f : ℕ) (ns : List ℕ) → 0 < q → Narrow ns → base + (q + span ns + 31) / 32 * 4 ≤ length s → base + (q + span ns + 31) / 32 * 4 + 4 < 2 ^ 64
    → ((j : ℕ) → q ≤ j * 32 → j * 32 < q + span ns → word_at s (base + j * 4) < 2 ^ 32)
    → fields s ns (state_at s base q f) ≡ record { values = values_at s base q ns; bits = state_at s base (q + span ns) f }
unfolding values_at span
fields_at s base q f [] some narrow there far whole =
    let e : q + 0 ≡ q = omega arith in
    rw (fields_none s (state_at s base q f), e)
fields_at s base q f (n ∷ ns) some (also fit narrow) there far whole =
    let e : q + (n + span ns) ≡ q + n + span ns = omega arith in
    rw (
      fields_more s n ns (state_at s base q f),
      read_at s base q n f some fit (omega arith) (omega arith) (λ h. whole ((q + 31) / 32) (omega arith) (omega arith)),
      fields_at s base (q + n) f ns (omega arith) narrow (omega arith) (omega arith) (λ j l m. whole j (omega arith) (omega arith)),
      e,
    )

-- ── Windows ──

-- k bits after a others, cut out of more.
pub cut_at : (s : List ℕ) (base q a k c : ℕ) → bits_from s base q (a + (k + c)) / 2 ^ c % 2 ^ k ≡ bits_from s base (q + a) k
cut_at s base q a k c =
    let v : ℕ = bits_from s base q (a + (k + c)) in
    let x : ℕ = bits_from s base (q + a) k in
    let l : v % 2 ^ (k + c) ≡ bits_from s base (q + a) (k + c)
    = rw (from_split s base q a (k + c)) (low (bits_from s base q a) (k + c) (from_below s base (q + a) (k + c))) in
    let h : bits_from s base (q + a) (k + c) / 2 ^ c ≡ x
    = rw (from_split s base (q + a) k c) (high x c (from_below s base (q + a + k) c)) in
    sym (field v k c) ∙ ap (λ (y : ℕ). y / 2 ^ c) l ∙ h

-- y moved up by r in 64 bits.
moved : (y r : ℕ) → r ≤ 64 → y * 2 ^ r % 2 ^ 64 ≡ y % 2 ^ (64 - r) * 2 ^ r
moved y r h =
    let n : 64 ≡ 64 - r + r = omega arith in
    let z : y * 2 ^ r % 2 ^ r ≡ 0 = mul-mod_left y (2 ^ r) in
    ap (λ (x : ℕ). y * 2 ^ r % 2 ^ x) n ∙ mod-pow-add (y * 2 ^ r) (64 - r) r ∙ rw (shl-shr y r, z) (omega arith)

-- The window's sum, of three words of 32 bits.
sum : (a b c r : ℕ) → a < 2 ^ 32 → b < 2 ^ 32 → c < 2 ^ 32 → r < 32
    → (a * 2 ^ 32 + b) * 2 ^ r % 2 ^ 64 + c * 2 ^ r % 2 ^ 64 / 2 ^ 32 ≡ a % 2 ^ (32 - r) * 2 ^ (32 + r) + (b * 2 ^ r + c / 2 ^ (32 - r))
sum a b c r ha hb hc h =
    let n : 64 - r ≡ 32 - r + 32 = omega arith in
    let m : 32 ≡ r + (32 - r) = omega arith in
    let high-words : (a * 2 ^ 32 + b) % 2 ^ (64 - r) ≡ a % 2 ^ (32 - r) * 2 ^ 32 + b
    = ap (λ (x : ℕ). (a * 2 ^ 32 + b) % 2 ^ x) n ∙ mod-pow-add (a * 2 ^ 32 + b) (32 - r) 32 ∙ rw (high a 32 hb, low a 32 hb) in
    let third : c * 2 ^ r / 2 ^ 32 ≡ c / 2 ^ (32 - r)
    = ap (λ (x : ℕ). c * 2 ^ r / 2 ^ x) m ∙ sym (shr-shr (c * 2 ^ r) r (32 - r)) ∙ ap (λ (x : ℕ). x / 2 ^ (32 - r)) (shl-shr c r) in
    rw (
      moved (a * 2 ^ 32 + b) r (omega arith),
      high-words,
      shl_exact 32 r 64 hc (omega arith),
      third,
      add-mul (a % 2 ^ (32 - r) * 2 ^ 32) b (2 ^ r),
      mul_assoc (a % 2 ^ (32 - r)) (2 ^ 32) (2 ^ r),
      ← pow-add 2 32 r,
    )
    (omega arith)

-- The 64 bits from bit r of word number i on.
window_parts : (s : List ℕ) (base i r : ℕ) → r < 32 → word_at s (base + i * 4) < 2 ^ 32 → word_at s (base + i * 4 + 4) < 2 ^ 32 → word_at s (base + i * 4 + 8) < 2 ^ 32
    → bits_from s base (i * 32 + r) 64
    ≡ word_at s (base + i * 4) % 2 ^ (32 - r) * 2 ^ (32 + r) + (word_at s (base + i * 4 + 4) * 2 ^ r + word_at s (base + i * 4 + 8) / 2 ^ (32 - r))
window_parts s base i r h ha hb hc =
    let n : 64 ≡ 32 - r + (32 + r) = omega arith in
    ap (λ (x : ℕ). bits_from s base (i * 32 + r) x) n
    ∙ rw (from_split s base (i * 32 + r) (32 - r) (32 + r), first, second_start, from_split s base ((i + 1) * 32 + 0) 32 r, second, third_start, third)
  where
    first : bits_from s base (i * 32 + r) (32 - r) ≡ word_at s (base + i * 4) % 2 ^ (32 - r)
    first =
        let z : 32 - r - (32 - r) ≡ 0 = omega arith in
        in_word s base i r (32 - r) (omega arith) ∙ rw (z, div-one (word_at s (base + i * 4)))

    second_start : i * 32 + r + (32 - r) ≡ (i + 1) * 32 + 0
    second_start = omega arith

    second : bits_from s base ((i + 1) * 32 + 0) 32 ≡ word_at s (base + i * 4 + 4)
    second =
        let b : base + (i + 1) * 4 ≡ base + i * 4 + 4 = omega arith in
        in_word s base (i + 1) 0 32 (omega arith) ∙ rw (b, div-one (word_at s (base + i * 4 + 4))) (mod-eq_of_lt hb)

    third_start : (i + 1) * 32 + 0 + 32 ≡ (i + 2) * 32 + 0
    third_start = omega arith

    third : bits_from s base ((i + 2) * 32 + 0) r ≡ word_at s (base + i * 4 + 8) / 2 ^ (32 - r)
    third =
        let b : base + (i + 2) * 4 ≡ base + i * 4 + 8 = omega arith in
        let m : r + (32 - r) ≡ 32 = omega arith in
        in_word s base (i + 2) 0 r (omega arith) ∙ rw b (shr_mod r (32 - r) (rw m hc))

pub window_is : (s : List ℕ) (base q : ℕ) → Three s (base + q / 32 * 4)
    → Window s base q
    ((word_at s (base + q / 32 * 4) * 2 ^ 32 + word_at s (base + q / 32 * 4 + 4)) * 2 ^ (q % 32) % 2 ^ 64 + word_at s (base + q / 32 * 4 + 8) * 2 ^ (q % 32) % 2 ^ 64 / 2 ^ 32)
window_is s base q t =
    let i : ℕ = q / 32 in
    let r : ℕ = q % 32 in
    let e : i * 32 + r ≡ q = omega arith in
    record {
      is = sum (word_at s (base + i * 4)) (word_at s (base + i * 4 + 4)) (word_at s (base + i * 4 + 8)) r t.first t.second t.third (omega arith)
          ∙ sym (window_parts s base i r (omega arith) t.first t.second t.third)
          ∙ ap (λ (x : ℕ). bits_from s base x 64) e;
      words = t;
    }

-- What `window` makes of three words.
module _ (s : List ℕ) (base q a b c : ℕ) (first : a ≡ word_at s (base + q / 32 * 4)) (second : b ≡ word_at s (base + q / 32 * 4 + 4))
    (third : c ≡ word_at s (base + q / 32 * 4 + 8)) (ha : a < 2 ^ 32) (hb : b < 2 ^ 32) (hc : c < 2 ^ 32) where
  pub window_of : Window s base q ((a * 2 ^ 32 + b) * 2 ^ (q % 32) % 2 ^ 64 + c * 2 ^ (q % 32) % 2 ^ 64 / 2 ^ 32)
  window_of =
      rw (first, second, third)
      (window_is s base q (record { first = rw first at ha; second = rw second at hb; third = rw third at hc }))

  pub window_fits : (a * 2 ^ 32 + b) * 2 ^ (q % 32) % 2 ^ 64 + c * 2 ^ (q % 32) % 2 ^ 64 / 2 ^ 32 < 2 ^ 64
  window_fits = rw window_of.is (from_below s base q 64)

-- k bits of a window, after a others.
pub in_window : (s : List ℕ) (base q v a k c : ℕ) → Window s base q v → a + (k + c) ≡ 64 → v / 2 ^ c % 2 ^ k ≡ bits_from s base (q + a) k
in_window s base q v a k c w e =
    ap (λ (x : ℕ). x / 2 ^ c % 2 ^ k) w.is ∙ ap (λ (x : ℕ). bits_from s base q x / 2 ^ c % 2 ^ k) (sym e) ∙ cut_at s base q a k c

-- Four fields of n bits each up to the end of a window: each is cut after those behind it are moved out.
module _ (s : List ℕ) (base q v : ℕ) (w : Window s base q v) where
  pub fields_end : (n a : ℕ) → a + 4 * n ≡ 64
      → (v / 2 ^ n / 2 ^ n / 2 ^ n % 2 ^ n ≡ bits_from s base (q + a) n)
      × ((v / 2 ^ n / 2 ^ n % 2 ^ n ≡ bits_from s base (q + a + n) n)
      × ((v / 2 ^ n % 2 ^ n ≡ bits_from s base (q + a + 2 * n) n) × (v % 2 ^ n ≡ bits_from s base (q + a + 3 * n) n)))
  fields_end n a e =
      let two : v / 2 ^ n / 2 ^ n ≡ v / 2 ^ (n + n) = shr-shr v n n in
      let three : v / 2 ^ (n + n) / 2 ^ n ≡ v / 2 ^ (n + n + n) = shr-shr v (n + n) n in
      let first : q + (a + n) ≡ q + a + n = omega arith in
      let second : q + (a + 2 * n) ≡ q + a + 2 * n = omega arith in
      let third : q + (a + 3 * n) ≡ q + a + 3 * n = omega arith in (
        rw (two, three) (in_window s base q v a n (n + n + n) w (omega arith)),
        (
          rw two (in_window s base q v (a + n) n (n + n) w (omega arith) ∙ rw first),
          (
            in_window s base q v (a + 2 * n) n n w (omega arith) ∙ rw second,
            ap (λ (x : ℕ). x % 2 ^ n) (sym (div-one v)) ∙ in_window s base q v (a + 3 * n) n 0 w (omega arith) ∙ rw third,
          ),
        ),
      )

  -- Two from the top of a window.
  pub pair_top : (n c : ℕ) → 2 * n + c ≡ 64 → (v / 2 ^ c / 2 ^ n % 2 ^ n ≡ bits_from s base q n) × (v / 2 ^ c % 2 ^ n ≡ bits_from s base (q + n) n)
  pair_top n c e =
      let one : v / 2 ^ c / 2 ^ n ≡ v / 2 ^ (c + n) = shr-shr v c n in
      let z : q + 0 ≡ q = omega arith in
      (rw one (in_window s base q v 0 n (c + n) w (omega arith) ∙ rw z), in_window s base q v n n c w (omega arith))

-- The words of a window are the three from its own on.
three_at : (s : List ℕ) (base i j : ℕ) → Three s (base + i * 4) → i ≤ j → j ≤ i + 2 → word_at s (base + j * 4) < 2 ^ 32
three_at s base i j t l m = subst (λ (x : ℕ). word_at s (base + x * 4) < 2 ^ 32) e (go (j - i) (omega arith))
  where
    e : i + (j - i) ≡ j
    e = omega arith

    go : (k : ℕ) → k ≤ 2 → word_at s (base + (i + k) * 4) < 2 ^ 32
    go zero h = let b : base + (i + 0) * 4 ≡ base + i * 4 = omega arith in rw b t.first
    go (suc zero) h = let b : base + (i + 1) * 4 ≡ base + i * 4 + 4 = omega arith in rw b t.second
    go (suc (suc zero)) h = let b : base + (i + 2) * 4 ≡ base + i * 4 + 8 = omega arith in rw b t.third
    go (suc (suc (suc k))) h = absurd (omega arith)

-- The words that at most 64 bits of a window lie in.
pub window_words : (s : List ℕ) (base q v : ℕ) → Window s base q v → (m : ℕ) → m ≤ 64 → (j : ℕ) → q ≤ j * 32 → j * 32 < q + m → word_at s (base + j * 4) < 2 ^ 32
window_words s base q v w m few j l h = three_at s base (q / 32) j w.words (omega arith) (omega arith)

-- The four fields that a window ends with, each moved down from the one after it.
pub four_made : {A : Type 0} (f : ℕ → A) (s : List ℕ) (base q n v p₁ p₂ p₃ : ℕ) {r₀ r₁ r₂ r₃ : A} → n ≤ 16 → 64 ≤ q → Window s base (q + 4 * n - 64) v
    → p₁ ≡ 2 ^ n → p₂ ≡ 2 ^ n → p₃ ≡ 2 ^ n → r₀ ≡ f (v / p₁ / p₂ / p₃ % 2 ^ n) → r₁ ≡ f (v / p₁ / p₂ % 2 ^ n) → r₂ ≡ f (v / p₁ % 2 ^ n) → r₃ ≡ f (v % 2 ^ n)
    → FourAt f s base q n (r₀ ∷ r₁ ∷ r₂ ∷ r₃ ∷ [])
four_made f s base q n v p₁ p₂ p₃ few late w e₁ e₂ e₃ f₀ f₁ f₂ f₃ =
    let start : q + 4 * n - 64 + (64 - 4 * n) ≡ q = omega arith in
    let t = rw start at (fields_end s base (q + 4 * n - 64) v w n (64 - 4 * n) (omega arith)) in
    record {
      whole = λ j l h. window_words s base (q + 4 * n - 64) v w 64 (omega arith) j (omega arith) (omega arith);
      are = rw (f₀, f₁, f₂, f₃, e₁, e₂, e₃, t.0, t.1.0, t.1.1.0, t.1.1.1);
    }

-- ── States ──

-- A state that stands in the stream is one by position.
pub stands_is : (s : List ℕ) (b : Bits) (more : ℕ) → stands_in s b more ≡ true → Stands s b more
unfolding stands_in
stands_is s b more e =
    let counts = both (ltb b.count 32) (leb 4 b.pos && (leb (b.pos - 4 + more) (length s) && eqb (word_at s (b.pos - 4)) b.word)) e in
    let starts = both (leb 4 b.pos) (leb (b.pos - 4 + more) (length s) && eqb (word_at s (b.pos - 4)) b.word) counts.1 in
    let ends = both (leb (b.pos - 4 + more) (length s)) (eqb (word_at s (b.pos - 4)) b.word) starts.1 in
    let few : b.count < 32 = ltb-true b.count 32 counts.0 in
    let fetched : 4 ≤ b.pos = leb-true 4 b.pos starts.0 in
    let word : word_at s (b.pos - 4) ≡ b.word = eqb-true (word_at s (b.pos - 4)) b.word ends.1 in
    let n : (32 - b.count + 31) / 32 ≡ 1 = omega arith in
    let at : b.pos - 4 + 1 * 4 ≡ b.pos = omega arith in
    let c : 1 * 32 - (32 - b.count) ≡ b.count = omega arith in
    record { fetched = fetched; there = leb-true (b.pos - 4 + more) (length s) ends.0; few = few; is = rw (n, at, c, word) }

-- Counted from two words before.
pub stands_back : (s : List ℕ) (b : Bits) (more : ℕ) → Stands s b more → 12 ≤ b.pos → b ≡ state_at s (b.pos - 12) (96 - b.count) b.filler
stands_back s b more x h =
    let few : b.count < 32 = x.few in
    let at : b.pos - 12 + (96 - b.count + 31) / 32 * 4 ≡ b.pos - 4 + (32 - b.count + 31) / 32 * 4 = omega arith in
    let c : (96 - b.count + 31) / 32 * 32 - (96 - b.count) ≡ (32 - b.count + 31) / 32 * 32 - (32 - b.count) = omega arith in
    x.is ∙ sym (rw (at, c))

-- What each test of `stands` decides, those before it having held.
module _ (s : List ℕ) (b : Bits) (more : ℕ) where
  pub stands_full : 32 ≤ b.count → stands_in s b more ≡ false
  unfolding stands_in
  stands_full h = simp (le-ltb _ _ h)

  pub stands_early : b.count < 32 → b.pos < 4 → stands_in s b more ≡ false
  unfolding stands_in
  stands_early few h = simp (lt-ltb _ _ few, lt-leb _ _ h)

  pub stands_late : b.count < 32 → 4 ≤ b.pos → length s < b.pos - 4 + more → stands_in s b more ≡ false
  unfolding stands_in
  stands_late few fetched h = simp (lt-ltb _ _ few, le-leb _ _ fetched, lt-leb _ _ h)

  pub stands_word : b.count < 32 → 4 ≤ b.pos → b.pos - 4 + more ≤ length s → stands_in s b more ≡ eqb (word_at s (b.pos - 4)) b.word
  unfolding stands_in
  stands_word few fetched h = simp (lt-ltb _ _ few, le-leb _ _ fetched, le-leb _ _ h)

  -- Before byte 12 nothing stands with two words before it; from there on what stands does.
  pub standing_early : b.pos < 12 → false ≡ standing_in s b more
  unfolding standing_in
  standing_early early = rw (lt-leb 12 b.pos early)

  pub standing_late : 12 ≤ b.pos → stands_in s b more ≡ standing_in s b more
  unfolding standing_in
  standing_late late = rw (le-leb 12 b.pos late)
