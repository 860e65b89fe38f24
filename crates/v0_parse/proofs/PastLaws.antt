-- Past the end a block is of ones: each read gives ones, and the state so many bits on.
use mathlib.Core.Path.{◌≡◌, refl, sym, ap, ◌∙◌}
use mathlib.Core.Bool.{true}
use mathlib.Core.List.{List, [], ◌∷◌}
use Prim.Native.Nat.{ℕ, ◌+◌, ◌*◌, ◌-◌, ◌/◌, ◌%◌, ◌^◌, ◌≤◌, ◌<◌, min}
use native.Mathlib.Omega.{arith}
use lib.Dec.{leb}
use lib.IntN.{ℤ, pos}
use lib.ListN.{length, replicate}
use lib.Pow.{pow_pos, pow_mono, high, low, high_ones}
use borrow.Author.Tests.{leb-true, leb-false}
use Rattle.std.specs.Prelude.{None}
use Rattle.rules.specs.Reader.{fetched, held, most_filler, read, four, signed, modulo}
use Rattle.rules.specs.V0.{operated, operate, head, length_bits}
use Rattle.rules.specs.declared.reader.Bits.{Bits}
use Rattle.rules.specs.declared.v0.V0Head.{V0Head}
use Rattle.rules.proofs.ReaderLaws.{fetched_missing, held_is, counted_more, read_held, read_next, four_reads, residual_is}
use Rattle.v0_parse.specs.Block.{whole_block}
use Rattle.v0_parse.specs.PastEnd.{PastEnd, ones_after, block_of_ones}
use Rattle.v0_parse.proofs.HeadLaws.{four_of}
use Rattle.v0_parse.proofs.BlockLaws.{reading_begun, reading_four, read_all, whole_read}
use Rattle.rules.proofs.Tests.{by-test}

-- ── One read ──

-- a + b ones are a ones and then b.
ones_split : (a b : ℕ) → 2 ^ (a + b) - 1 ≡ (2 ^ a - 1) * 2 ^ b + (2 ^ b - 1)
ones_split a b =
    let l : 0 < 2 ^ (a + b) = pow_pos (a + b) in
    let m : 0 < 2 ^ b = pow_pos b in
    let h : 2 ^ (a + b) - 2 ^ b ≡ (2 ^ a - 1) * 2 ^ b = high_ones a b in
    let g : 2 ^ b ≤ 2 ^ (a + b) = pow_grows a b in
    omega arith
  where
    pow_grows : (a b : ℕ) → 2 ^ b ≤ 2 ^ (a + b)
    pow_grows a b = let l : b ≤ a + b = omega arith in pow_mono l

-- Some of them are ones.
cut_ones : (m n c : ℕ) → n + c ≤ m → (2 ^ m - 1) / 2 ^ c % 2 ^ n ≡ 2 ^ n - 1
cut_ones m n c h =
    let a : ℕ = m - (n + c) in
    let e : m ≡ a + n + c = omega arith in
    let lc : 2 ^ c - 1 < 2 ^ c = omega (arith, pow_pos c) in
    let ln : 2 ^ n - 1 < 2 ^ n = omega (arith, pow_pos n) in
    rw (e, ones_split (a + n) c, high (2 ^ (a + n) - 1) c lc, ones_split a n, low (2 ^ a - 1) n ln)

-- How many words k bits take, c being held, and how many with n bits more.
abbrev words_of : ℕ → ℕ → ℕ
words_of c k = (k - c + 31) / 32

words_enough : (c k : ℕ) → k ≤ c + 32 * words_of c k
words_enough c k = omega arith

words_few : (c k : ℕ) → c < 32 → c + 32 * words_of c k < k + 32
words_few c k h = omega arith

same_words : (c k n : ℕ) → c < 32 → k + n ≤ c + 32 * words_of c k → words_of c (k + n) ≡ words_of c k
same_words c k n h l = omega arith

next_word : (c k n : ℕ) → c < 32 → n ≤ 32 → c + 32 * words_of c k < k + n → words_of c (k + n) ≡ words_of c k + 1
next_word c k n h few l = omega arith

nine_words : (c k : ℕ) → k ≤ 265 → words_of c k ≤ 9
nine_words c k l = omega arith

count_next : (c k n w : ℕ) → k ≤ c + 32 * w → c + 32 * w - k + 32 - n ≡ c + 32 * (w + 1) - (k + n)
count_next c k n w h = omega arith

-- Nine words do not take the position round.
place_next : (p w : ℕ) → p + 36 < 2 ^ 64 → w + 1 ≤ 9 → (p + 4 * w + 4) % 2 ^ 64 ≡ p + 4 * (w + 1)
place_next p w far few = omega arith

cut_fits : (n c : ℕ) → n ≤ 32 → c < 32 → n + (c + 32 - n) ≤ 64
cut_fits n c few h = omega arith

-- A count that is held stays so.
one_more : (n w most : ℕ) → min (min (n + w) most + 1) most ≡ min (n + (w + 1)) most
one_more n w most = omega arith

module _ (s : List ℕ) (b : Bits) (x : PastEnd s b) where
  -- The state itself is the one no bits on.
  begun : b ≡ ones_after b 0
  unfolding ones_after
  begun =
      let w : (0 - b.count + 31) / 32 ≡ 0 = omega arith in
      let p : b.pos + 4 * 0 ≡ b.pos = omega arith in
      let c : b.count + 32 * 0 - 0 ≡ b.count = omega arith in
      let f : min (b.filler + 0) most_filler ≡ b.filler = let h = x.held in omega arith in
      rw (w, p, c, f, ← x.ones)

  pub read_ones : (k n : ℕ) → n ≤ 32 → k + n ≤ 265 → read s (ones_after b k) n ≡ record { value = 2 ^ n - 1; bits = ones_after b (k + n) }
  unfolding ones_after
  read_ones k n few near = by-test (leb n count) (λ t. by_held (leb-true n count t)) (λ t. by_next (leb-false n count t))
    where
      words : ℕ
      words = (k - b.count + 31) / 32

      count : ℕ
      count = b.count + 32 * words - k

      state : Bits
      state = record { pos = b.pos + 4 * words; word = 0xffff_ffff; count = count; filler = min (b.filler + words) most_filler }

      less : count < 32
      less = let h = words_enough b.count k in let l = words_few b.count k x.few in omega arith

      holds : held state ≡ count
      holds = held_is state less

      cap : min n 32 ≡ n
      cap = omega arith

      missing : fetched s (b.pos + 4 * words) ≡ None
      missing = let h = x.past in fetched_missing s (b.pos + 4 * words) (omega arith)

      by_held : n ≤ count → read s state n ≡ record { value = 2 ^ n - 1; bits = ones_after b (k + n) }
      by_held h =
          let e = words_enough b.count k in
          let w : (k + n - b.count + 31) / 32 ≡ words = same_words b.count k n x.few (omega arith) in
          let c : count - n ≡ b.count + 32 * words - (k + n) = omega arith in
          rw (read_held s state n (omega (arith, holds)), cap, holds, cut_ones 32 n (count - n) (omega (arith, less)), w, c)

      by_next : count < n → read s state n ≡ record { value = 2 ^ n - 1; bits = ones_after b (k + n) }
      by_next h =
          let fetches : held state < min n 32 = rw (holds, cap) h in
          let w : (k + n - b.count + 31) / 32 ≡ words + 1 = next_word b.count k n x.few few (omega (arith, words_enough b.count k)) in
          let c : count + 32 - n ≡ b.count + 32 * (words + 1) - (k + n) = count_next b.count k n words (words_enough b.count k) in
          let p : (b.pos + 4 * words + 4) % 2 ^ 64 ≡ b.pos + 4 * (words + 1) = place_next b.pos words x.far (rw w at (nine_words b.count (k + n) near)) in
          let m : min (min (b.filler + words) most_filler + 1) most_filler ≡ min (b.filler + (words + 1)) most_filler = one_more b.filler words most_filler in
          rw (read_next s state n fetches, cap, holds, missing, counted_more (min (b.filler + words) most_filler), cut_ones 64 n (count + 32 - n) (cut_fits n count few less), w, c, p, m)

  -- ── A block ──

  four_ones : (k n : ℕ) → n ≤ 32 → k + 4 * n ≤ 265
      → four s n (ones_after b k) ≡ record { value = (2 ^ n - 1) ∷ (2 ^ n - 1) ∷ (2 ^ n - 1) ∷ (2 ^ n - 1) ∷ []; bits = ones_after b (k + 4 * n) }
  four_ones k n few near =
      let e : k + n + n + n + n ≡ k + 4 * n = omega arith in
      let r : (j : ℕ) → j + n ≤ 265 → record { value = 2 ^ n - 1; bits = ones_after b (j + n) } ≡ read s (ones_after b j) n = λ j l. sym (read_ones j n few l) in
      rw e at (sym (four_reads s n (ones_after b k) _ _ _ _ (r k (omega arith)) (r (k + n) (omega arith)) (r (k + n + n) (omega arith)) (r (k + n + n + n) (omega arith))))

  head_of_ones : (ls : List ℤ) → length ls ≡ 4 → head s (record { lengths = ls; bits = ones_after b 0 }) ≡ record { up = true; row = record { lengths = replicate 4 (pos 15); bits = ones_after b 25 } }
  unfolding head operate operated
  head_of_ones ls size =
      let r : (k : ℕ) → k + 4 ≤ 265 → read s (ones_after b k) 4 ≡ record { value = 15; bits = ones_after b (k + 4) } = λ k l. read_ones k 4 (omega arith) l in
      rw (
        four_of ls (pos 0) size,
        read_ones 0 1 (omega arith) (omega arith),
        four_ones 1 2 (omega arith) (omega arith),
        r 9 (omega arith),
        r 13 (omega arith),
        r 17 (omega arith),
        r 21 (omega arith),
      )

  pub past_whole : (ls : List ℤ) → length ls ≡ 4 → block_of_ones b ≡ whole_block s (record { lengths = ls; bits = b })
  unfolding block_of_ones length_bits
  past_whole ls size =
      let fs : List ℤ = replicate 4 (pos 15) in
      let y : V0Head = record { up = true; row = record { lengths = fs; bits = ones_after b 25 } } in
      let f : (k : ℕ) → k + 60 ≤ 265 → four s 15 (ones_after b k) ≡ record { value = 32_767 ∷ 32_767 ∷ 32_767 ∷ 32_767 ∷ []; bits = ones_after b (k + 60) }
      = λ k l. four_ones k 15 (omega arith) (omega arith) in
      let m : 65_535 ≡ modulo (signed 15 32_767) = residual_is 15 32_767 (omega arith) (omega arith) in
      let r₀ = reading_begun s fs (ones_after b 25) (replicate 16 0) refl in
      let r₁ = reading_four s fs (ones_after b 25) (ones_after b 25) _ 0 15 _ 65_535 65_535 65_535 65_535 (omega arith) refl (sym (f 25 (omega arith))) m m m m r₀ in
      let r₂ = reading_four s fs (ones_after b 25) (ones_after b 85) _ 1 15 _ 65_535 65_535 65_535 65_535 (omega arith) refl (sym (f 85 (omega arith))) m m m m r₁ in
      let r₃ = reading_four s fs (ones_after b 25) (ones_after b 145) _ 2 15 _ 65_535 65_535 65_535 65_535 (omega arith) refl (sym (f 145 (omega arith))) m m m m r₂ in
      let r₄ = reading_four s fs (ones_after b 25) (ones_after b 205) _ 3 15 _ 65_535 65_535 65_535 65_535 (omega arith) refl (sym (f 205 (omega arith))) m m m m r₃ in
      let read : y ≡ head s (record { lengths = ls; bits = b })
      = sym (head_of_ones ls size) ∙ ap (λ (z : Bits). head s (record { lengths = ls; bits = z })) (sym begun) in
      whole_read s (record { lengths = ls; bits = b }) y _ read (read_all s fs (ones_after b 25) (ones_after b 265) _ 16 y (omega arith) refl refl r₄)
