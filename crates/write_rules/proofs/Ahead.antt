-- The bits ahead of a reader, and what reading does to them: where the bits ahead begin with those of a number, reading so many
-- gives the number, leaves the rest ahead, and fetches no filler.
use Prim.Native.Nat.{ℕ, zero, suc, ◌+◌, ◌-◌, ◌*◌, ◌/◌, ◌%◌, ◌^◌, ◌<◌, ◌≤◌, min}
use mathlib.Core.Bool.{Bool}
use mathlib.Core.Path.{◌≡◌, refl, sym, ap, ap₂, ◌∙◌}
use mathlib.Core.List.{List, [], ◌∷◌, ◌++◌, append_assoc}
use native.Mathlib.Omega.{arith}
use native.Mathlib.Decide.{dec_le}
use native.Mathlib.Nat.{mod-eq_of_lt, mul_assoc, le-add_right}
use lib.ListN.{length, get_or, length-append}
use lib.Pow.{pow-add, split}
use Rattle.std.specs.Prelude.{Some}
use Rattle.rules.specs.declared.reader.Bits.{Bits}
use Rattle.rules.specs.Reader.{word_at, held, from_held, from_next, first_bits, read, fields}
use Rattle.rules.proofs.ReaderLaws.{fetched_there, counted_there, read_held, read_next, read_below, held_small, held_is, fields_none, fields_more}
use Rattle.rules.proofs.Cells.{Each, none, both}
use Rattle.write_rules.specs.Writer.{bits_of, fields_bits}
use Rattle.write_rules.proofs.BitLists.{bits_length, bits_above, bits_split, bits_join, bits_first, bits_rest}

-- A stream: bytes, and fewer than 2^64 of them.
pub record Stream (s : List ℕ) : Type 0 where
  pub bytes : (i : ℕ) → get_or s i 0 < 256
  pub fewer : length s < 2 ^ 64

-- The bits of n words from byte p on.
unfoldable pub words_from : List ℕ → ℕ → ℕ → List Bool
words_from s p zero = []
words_from s p (suc n) = bits_of 32 (word_at s p) ++ words_from s (p + 4) n

-- The bits ahead of a reader: those held, then those of the whole words that the stream still has.
unfoldable pub ahead : List ℕ → Bits → List Bool
ahead s b = bits_of (held b) b.word ++ words_from s b.pos ((length s - b.pos) / 4)

-- What a read is that needs no filler.
pub record Reads (s : List ℕ) (b : Bits) (n : ℕ) : Type 0 where
  pub bits_are : ahead s b ≡ bits_of n (read s b n).value ++ ahead s (read s b n).bits
  pub filler_is : (read s b n).bits.filler ≡ b.filler
  pub pos_is : (read s b n).bits.pos % 4 ≡ b.pos % 4
  pub pos_within : b.pos ≤ length s → (read s b n).bits.pos ≤ length s

pub words_length : (s : List ℕ) (p n : ℕ) → length (words_from s p n) ≡ 32 * n
unfolding words_from
words_length s p zero = refl
words_length s p (suc n) = length-append (bits_of 32 (word_at s p)) (words_from s (p + 4) n) ∙ ap₂ ◌+◌ (bits_length 32 (word_at s p)) (words_length s (p + 4) n) ∙ more
  where
    more : 32 + 32 * n ≡ 32 * suc n
    more = omega arith

pub ahead_length : (s : List ℕ) (b : Bits) → length (ahead s b) ≡ held b + 32 * ((length s - b.pos) / 4)
unfolding ahead
ahead_length s b =
    length-append (bits_of (held b) b.word) (words_from s b.pos ((length s - b.pos) / 4))
    ∙ ap₂ ◌+◌ (bits_length (held b) b.word) (words_length s b.pos ((length s - b.pos) / 4))

word_below : (s : List ℕ) → Stream s → (p : ℕ) → word_at s p < 2 ^ 32
word_below s st p =
    let a = st.bytes p in
    let b = st.bytes (p + 1) in
    let c = st.bytes (p + 2) in
    let d = st.bytes (p + 3) in
    omega arith

-- Bits look at a number modulo their power alone.
pub bits_low : (k x : ℕ) → bits_of k (x % 2 ^ k) ≡ bits_of k x
bits_low k x = sym (bits_above k (x / 2 ^ k) (x % 2 ^ k)) ∙ ap (bits_of k) (split x k)

pub bits_far : (k m x y : ℕ) → k ≤ m → bits_of k (x * 2 ^ m + y) ≡ bits_of k y
bits_far k m x y h = rw (apart, pow-add 2 (m - k) k, ← mul_assoc x (2 ^ (m - k)) (2 ^ k)) (bits_above k (x * 2 ^ (m - k)) y)
  where
    apart : m ≡ m - k + k
    apart = omega arith

-- The first k of c bits.
bits_taken : (c k x : ℕ) → k ≤ c → bits_of c x ≡ bits_of k (first_bits x c k) ++ bits_of (c - k) x
bits_taken c k x h =
    ap (λ n. bits_of n x) parts ∙ bits_split k (c - k) x ∙ ap (λ l. l ++ bits_of (c - k) x) (sym (bits_low k (x / 2 ^ (c - k))))
  where
    parts : c ≡ k + (c - k)
    parts = omega arith

-- With enough bits ahead a read takes the first of them, and the stream has each word that it fetches.
pub read_enough : (s : List ℕ) → Stream s → (b : Bits) (n : ℕ) → n ≤ 32 → n ≤ length (ahead s b) → Reads s b n
unfolding ahead words_from
read_enough s st b n h enough = go (dec_le n (held b))
  where
    least : min n 32 ≡ n
    least = omega arith

    words : List Bool
    words = words_from s b.pos ((length s - b.pos) / 4)

    go : Dec (n ≤ held b) → Reads s b n
    go (yes q) =
        record {
          bits_are = rw (is, same) (ap (λ l. l ++ words) (bits_taken (held b) n b.word q) ∙ append_assoc (bits_of n (first_bits b.word (held b) n)) (bits_of (held b - n) b.word) words);
          filler_is = rw is;
          pos_is = rw is;
          pos_within = λ l. rw is l;
        }
      where
        is : read s b n ≡ from_held b n
        is = let q' : min n 32 ≤ held b = omega arith in rw (read_held s b n q', least)

        same : held (from_held b n).bits ≡ held b - n
        same = held_is (from_held b n).bits (omega (arith, held_small b))
    go (no q) =
        record {
          bits_are = rw (is, same, moved, one_more)
              (sym (append_assoc (bits_of (held b) b.word) (bits_of 32 w) rest_of)
              ∙ ap (λ l. l ++ rest_of) (sym (bits_join (held b) 32 b.word w (word_below s st b.pos)) ∙ bits_taken (held b + 32) n (b.word * 2 ^ 32 + w) (omega arith) ∙ ap (λ l. bits_of n (first_bits (b.word * 2 ^ 32 + w) (held b + 32) n) ++ l) low)
              ∙ append_assoc (bits_of n (first_bits (b.word * 2 ^ 32 + w) (held b + 32) n)) (bits_of (held b + 32 - n) w) rest_of);
          filler_is = rw is (counted_there b.filler);
          pos_is = rw (is, moved) (omega arith);
          pos_within = λ l. rw (is, moved) there;
        }
      where
        there : b.pos + 4 ≤ length s
        there = let e = ahead_length s b in omega arith

        is : read s b n ≡ from_next b (Some (word_at s b.pos)) n
        is = let q' : held b < min n 32 = omega arith in rw (read_next s b n q', least, fetched_there s b.pos there)

        w : ℕ
        w = word_at s b.pos

        rest_of : List Bool
        rest_of = words_from s (b.pos + 4) ((length s - (b.pos + 4)) / 4)

        low : bits_of (held b + 32 - n) (b.word * 2 ^ 32 + w) ≡ bits_of (held b + 32 - n) w
        low = bits_far (held b + 32 - n) 32 b.word w (omega arith)

        same : held (from_next b (Some (word_at s b.pos)) n).bits ≡ held b + 32 - n
        same = held_is (from_next b (Some (word_at s b.pos)) n).bits (omega (arith, held_small b))

        moved : (b.pos + 4) % 2 ^ 64 ≡ b.pos + 4
        moved = let l : b.pos + 4 < 2 ^ 64 = omega (arith, st.fewer, there) in mod-eq_of_lt l

        one_more : (length s - b.pos) / 4 ≡ suc ((length s - (b.pos + 4)) / 4)
        one_more = omega (arith, there)

-- What reading n bits gives where the bits ahead begin with those of x.
pub record Gives (s : List ℕ) (b : Bits) (n : ℕ) (x : ℕ) (rest : List Bool) : Type 0 where
  pub value_is : (read s b n).value ≡ x % 2 ^ n
  pub ahead_is : ahead s (read s b n).bits ≡ rest
  pub filler_is : (read s b n).bits.filler ≡ b.filler
  pub pos_is : (read s b n).bits.pos % 4 ≡ b.pos % 4
  pub pos_within : b.pos ≤ length s → (read s b n).bits.pos ≤ length s

pub read_gives : (s : List ℕ) → Stream s → (b : Bits) (n : ℕ) (x : ℕ) (rest : List Bool) → n ≤ 32 → ahead s b ≡ bits_of n x ++ rest → Gives s b n x rest
read_gives s st b n x rest h e =
    record {
      value_is = sym (mod-eq_of_lt below) ∙ bits_first n v x (ahead s (read s b n).bits) rest (sym R.bits_are ∙ e);
      ahead_is = bits_rest n v x (ahead s (read s b n).bits) rest (sym R.bits_are ∙ e);
      filler_is = R.filler_is;
      pos_is = R.pos_is;
      pos_within = R.pos_within;
    }
  where
    v : ℕ
    v = (read s b n).value

    below : v < 2 ^ n
    below = let m : min n 32 ≡ n = omega arith in rw m at (read_below s b n)

    enough : n ≤ length (ahead s b)
    enough = rw (e, length-append (bits_of n x) rest, bits_length n x) (le-add_right n (length rest))

    R : Reads s b n
    R = read_enough s st b n h enough

-- ── What a reader sees ──

-- A reader at a whole word within the stream, that has fetched no filler and has these bits ahead.
pub record Sees (s : List ℕ) (b : Bits) (bs : List Bool) : Type 0 where
  pub ahead_is : ahead s b ≡ bs
  pub no_filler : b.filler ≡ 0
  pub whole : b.pos % 4 ≡ 0
  pub within : b.pos ≤ length s

-- Where it stands, by how many bits it has ahead.
pub pos_by_ahead : (s : List ℕ) (b : Bits) → b.pos % 4 ≡ 0 → b.pos ≤ length s → b.pos ≡ length s - length s % 4 - 4 * (length (ahead s b) / 32)
pos_by_ahead s b whole within =
    let e = ahead_length s b in
    let l = held_small b in
    let q : length (ahead s b) / 32 ≡ (length s - b.pos) / 4 = omega arith in
    rw q (omega arith)

-- A width of at most 32, and a number of so many bits.
pub record Field (n v : ℕ) : Type 0 where
  pub least : n ≤ 32
  pub below : v < 2 ^ n

module _ (s : List ℕ) (st : Stream s) where
  -- A number that a reader sees is what it reads.
  pub sees_value : (b : Bits) (n x : ℕ) (rest : List Bool) → n ≤ 32 → Sees s b (bits_of n x ++ rest) → (read s b n).value ≡ x % 2 ^ n
  sees_value b n x rest h q = (read_gives s st b n x rest h q.ahead_is).value_is

  -- After a number that it sees, a reader sees the rest.
  pub sees_next : (b : Bits) (n x : ℕ) (rest : List Bool) → n ≤ 32 → Sees s b (bits_of n x ++ rest) → Sees s (read s b n).bits rest
  sees_next b n x rest h q =
      let g = read_gives s st b n x rest h q.ahead_is in
      record {
        ahead_is = g.ahead_is;
        no_filler = g.filler_is ∙ q.no_filler;
        whole = g.pos_is ∙ q.whole;
        within = g.pos_within q.within;
      }

  -- The same for fields of the given widths.
  pub record SeesFields (ns vs : List ℕ) (b : Bits) (rest : List Bool) : Type 0 where
    pub values_are : (fields s ns b).values ≡ vs
    pub next_sees : Sees s (fields s ns b).bits rest

  pub sees_fields : {ns vs : List ℕ} → Each Field ns vs → (b : Bits) (rest : List Bool) → Sees s b (fields_bits ns vs ++ rest) → SeesFields ns vs b rest
  unfolding fields_bits
  sees_fields none b rest q = record { values_are = ap (λ f. f.values) (fields_none s b); next_sees = rw (fields_none s b) q }
  sees_fields (both {a = n} {b = v} {xs = ns} {ys = vs} h hs) b rest q =
      let m = sees_fields hs (read s b n).bits rest (sees_next b n v (fields_bits ns vs ++ rest) h.least q') in
      record {
        values_are = rw (fields_more s n ns b) (ap₂ ◌∷◌ (sees_value b n v (fields_bits ns vs ++ rest) h.least q' ∙ mod-eq_of_lt h.below) m.values_are);
        next_sees = rw (fields_more s n ns b) m.next_sees;
      }
    where
      q' : Sees s b (bits_of n v ++ (fields_bits ns vs ++ rest))
      q' = rw (← append_assoc (bits_of n v) (fields_bits ns vs) rest) q
