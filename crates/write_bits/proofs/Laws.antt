-- Laws of the packer, over plain numbers and lists.
use Prim.Native.Nat.{ℕ, zero, suc, ◌+◌, ◌-◌, ◌*◌, ◌/◌, ◌%◌, ◌^◌, ◌<◌, ◌≤◌, max}
use mathlib.Core.Bool.{Bool}
use mathlib.Core.Path.{◌≡◌, refl, sym, ap, ap₂, ◌∙◌}
use mathlib.Core.List.{List, [], ◌∷◌, ◌++◌, append-nil, append_assoc}
use native.Mathlib.Omega.{arith}
use native.Mathlib.Nat.{mod-lt, mul-le-mul_left}
use lib.ListN.{length, get_or, set, take, length-append}
use lib.Seq.{sets, take_at}
use lib.Arith.{digits_lt}
use lib.Count.{count_leading_zeros, leading_length}
use lib.Dec.{lit<}
use lib.Pow.{pow_pos, pow_mono}
use borrow.Author.Tests.{lt-ltb, le-ltb}
use Rattle.rules.specs.Frame.{tabulate}
use Rattle.rules.proofs.Cells.{all_get}
use Rattle.write_rules.specs.declared.Pending.{Pending}
use Rattle.write_rules.specs.Writer.{bits_of, number_of, fields_bits, run, word_bytes, words_bytes, smallest, lengths_for, length_for, block_bits}
use Rattle.write_rules.specs.Pending.{put_state, put_out}
use Rattle.write_rules.specs.Weight.{weight, Short}
use Rattle.write_rules.proofs.Ahead.{bits_low}
use Rattle.write_rules.proofs.BitLists as BitLists
use Rattle.write_rules.proofs.BitLists.{bits_length, bits_split, bits_join}
use Rattle.write_rules.proofs.BlockLength.{block_length_is}
use Rattle.write_rules.proofs.Blocks.{opening_widths, opening, lengths_most}
use Rattle.write_rules.proofs.PendingLaws.{same_state, Wrote, wrote_none, wrote_both}
use Rattle.write_rules.proofs.Smallest.{smallest_most}
use Rattle.write_rules.proofs.WeightLaws.{heaviest, weight_short, smallest_by_weight}
use Rattle.write_bits.specs.Block.{numbers, number_bits, numbers_bits, opening_number, Lengths}

-- A word and n more bits fit 64 bits.
pub join_fits : (a x n : ℕ) → a < 2 ^ 32 → n ≤ 32 → a * 2 ^ n + x % 2 ^ n < 2 ^ 64
join_fits a x n h l =
    let d : a * 2 ^ n + x % 2 ^ n < 2 ^ 32 * 2 ^ n = digits_lt h (mod-lt x (pow_pos n)) in
    let m : 2 ^ 32 * 2 ^ n ≤ 2 ^ 32 * 2 ^ 32 = mul-le-mul_left (2 ^ 32) (pow_mono l) in
    omega arith

-- Two numbers of n bits fit 32 bits.
pub pair_fits : (a b n : ℕ) → a < 2 ^ 16 → n < 16 → a * 2 ^ n + b % 2 ^ n < 2 ^ 32
pair_fits a b n h l =
    let d : a * 2 ^ n + b % 2 ^ n < 2 ^ 16 * 2 ^ n = digits_lt h (mod-lt b (pow_pos n)) in
    let le : n ≤ 16 = omega arith in
    let m : 2 ^ 16 * 2 ^ n ≤ 2 ^ 16 * 2 ^ 16 = mul-le-mul_left (2 ^ 16) (pow_mono le) in
    omega arith

-- Two numbers of n bits, written as one, are the bits of both.
pub pair_bits : (a b n : ℕ) → bits_of (2 * n) (a * 2 ^ n + b % 2 ^ n) ≡ bits_of n a ++ bits_of n b
pair_bits a b n =
    let e : 2 * n ≡ n + n = omega arith in
    rw e (bits_join n n a (b % 2 ^ n) (mod-lt b (pow_pos n)) ∙ ap (λ l. bits_of n a ++ l) (bits_low n b))

pub pair_law : (n a b x : ℕ) → x ≡ a * 2 ^ n + b % 2 ^ n → bits_of (2 * n) x ≡ bits_of n a ++ bits_of n b
pair_law n a b x e = rw e (pair_bits a b n)

-- Four stores are a word's bytes.
pub stored : (f : List ℕ) (at x a b c d : ℕ) → a ≡ x % 256 → b ≡ x / 256 % 256 → c ≡ x / 65_536 % 256 → d ≡ x / 16_777_216 % 256
    → set (set (set (set f at a) (at + 1) b) (at + 2) c) (at + 3) d ≡ sets f at (word_bytes x)
stored f at x a b c d p q r t =
    let one : at + 1 ≡ suc at = omega arith in
    let two : at + 2 ≡ suc (suc at) = omega arith in
    let three : at + 3 ≡ suc (suc (suc at)) = omega arith in
    rw (p, q, r, t, one, two, three)

-- The two ways of a step: the bits wait, ..
module _ (p : Pending) (n x : ℕ) where
  abbrev with : ℕ
  with = p.word * 2 ^ n + x % 2 ^ n

  word_is : (v : ℕ) → v ≡ with % 2 ^ 32 → v ≡ (p.word * 2 ^ length (bits_of n x) + number_of (bits_of n x)) % 2 ^ 32
  word_is v e = rw (bits_length n x, BitLists.number_bits n x) e

  pub put_waits : (v : ℕ) → p.count + n < 32 → v ≡ with % 2 ^ 32 → record { pos = p.pos; word = v; count = p.count + n } ≡ put_state p (bits_of n x)
  unfolding put_state
  put_waits v l e = same_state (rw (bits_length n x) (omega arith)) (word_is v e) (rw (bits_length n x) (omega arith))

  pub out_waits : (f : List ℕ) → p.count + n < 32 → f ≡ put_out f p (bits_of n x)
  unfolding put_out words_bytes
  out_waits f l = let none : (p.count + length (bits_of n x)) / 32 ≡ 0 = rw (bits_length n x) (omega arith) in rw none

  -- .. or the word is full.
  module _ (h : p.count < 32) (k : n ≤ 32) (l : 32 ≤ p.count + n) where
    pub put_full : (v : ℕ) → v ≡ with % 2 ^ 32 → record { pos = p.pos + 4; word = v; count = p.count + n - 32 } ≡ put_state p (bits_of n x)
    unfolding put_state
    put_full v e = same_state (rw (bits_length n x) (omega arith)) (word_is v e) (rw (bits_length n x) (omega arith))

    -- The first 32 of its bits.
    word_first : number_of (take 32 (bits_of p.count p.word ++ bits_of n x)) ≡ with / 2 ^ (p.count + n - 32) % 2 ^ 32
    word_first =
        let m = p.count + n - 32 in
        let e : 32 + m ≡ p.count + n = omega arith in
        let all : bits_of p.count p.word ++ bits_of n x ≡ bits_of 32 (with / 2 ^ m) ++ bits_of m with
        = sym (bits_join p.count n p.word (x % 2 ^ n) (mod-lt x (pow_pos n)) ∙ ap (λ b. bits_of p.count p.word ++ b) (bits_low n x))
        ∙ ap (λ i. bits_of i with) (sym e) ∙ bits_split 32 m with in
        ap (λ b. number_of (take 32 b)) all ∙ ap number_of (take_at (bits_of 32 (with / 2 ^ m)) (bits_of m with) 32 (bits_length 32 (with / 2 ^ m))) ∙ BitLists.number_bits 32 (with / 2 ^ m)

    pub out_full : (f f' : List ℕ) (v : ℕ) → v ≡ with / 2 ^ (p.count + n - 32) % 2 ^ 32 → f' ≡ sets f p.pos (word_bytes v) → f' ≡ put_out f p (bits_of n x)
    unfolding put_out words_bytes
    out_full f f' v e s =
        let one : (p.count + length (bits_of n x)) / 32 ≡ 1 = rw (bits_length n x) (omega arith) in
        s ∙ rw one (ap (λ y. sets f p.pos (word_bytes y)) (e ∙ sym word_first))

-- ── Lengths ──

pub weight_low : (d : ℕ) → d < 32_768 → 2 * d ≡ weight d
unfolding weight
weight_low d l = rw (lt-ltb d 32_768 l)

pub weight_high : (d : ℕ) → 32_768 ≤ d → 2 * (65_535 - d) + 1 ≡ weight d
unfolding weight
weight_high d l = rw (le-ltb d 32_768 l)

-- How many bits a number has.
bit_length : (m : ℕ) → m < 2 ^ 32 → (m < 2 ^ (32 - count_leading_zeros 32 m)) × (2 ^ (32 - count_leading_zeros 32 m) ≤ 2 * m + 1)
bit_length m h =
    let s = leading_length 32 m h in
    let is : 32 - count_leading_zeros 32 m ≡ s.0 = let e = s.1 in omega arith in
    rw is (s.2, s.3)

-- As many bits as the greatest weight has.
pub length_law : (a b c d : ℕ) → Short a → Short b → Short c → Short d
    → 32 - count_leading_zeros 32 (max (max (weight a) (weight b)) (max (weight c) (weight d))) ≡ smallest (a ∷ b ∷ c ∷ d ∷ [])
length_law a b c d sa sb sc sd =
    let most : heaviest a b c d sa.below sb.below sc.below sd.below < 2 ^ 15
    = omega (arith, weight_short a sa, weight_short b sb, weight_short c sc, weight_short d sd) in
    let s = bit_length (heaviest a b c d sa.below sb.below sc.below sd.below) (omega arith) in
    sym (smallest_by_weight a b c d sa.below sb.below sc.below sd.below _ most s.0 s.1)

-- A block's four.
pub lengths_law : (d : List ℕ) (i j k l : ℕ) → i ≡ smallest (get_or d 0 0 ∷ get_or d 1 0 ∷ get_or d 2 0 ∷ get_or d 3 0 ∷ [])
    → j ≡ smallest (get_or d 4 0 ∷ get_or d 5 0 ∷ get_or d 6 0 ∷ get_or d 7 0 ∷ []) → k ≡ smallest (get_or d 8 0 ∷ get_or d 9 0 ∷ get_or d 10 0 ∷ get_or d 11 0 ∷ [])
    → l ≡ smallest (get_or d 12 0 ∷ get_or d 13 0 ∷ get_or d 14 0 ∷ get_or d 15 0 ∷ []) → i ∷ j ∷ k ∷ l ∷ [] ≡ lengths_for (numbers d)
unfolding lengths_for
lengths_law d i j k l p q r s = rw (p, q, r, s)

-- ── A block ──

-- Its first 25 bits are its opening and its lengths.
nine : bits_of 9 255 ≡ fields_bits opening_widths opening
unfolding bits_of fields_bits
nine = refl

opening_of : (a b c d : ℕ) → a < 16 → b < 16 → c < 16 → d < 16
    → bits_of 25 (16_711_680 + a * 4_096 + b * 256 + c * 16 + d) ≡ fields_bits opening_widths opening ++ run (bits_of 4) (a ∷ b ∷ c ∷ d ∷ [])
unfolding run
opening_of a b c d la lb lc ld =
    let s : 16_711_680 + a * 4_096 + b * 256 + c * 16 + d ≡ 255 * 2 ^ 16 + (a * 2 ^ 12 + (b * 2 ^ 8 + (c * 2 ^ 4 + d))) = omega arith in
    ap (bits_of 25) s
    ∙ bits_join 9 16 255 (a * 2 ^ 12 + (b * 2 ^ 8 + (c * 2 ^ 4 + d))) (omega arith)
    ∙ ap₂ ◌++◌ nine
    (bits_join 4 12 a (b * 2 ^ 8 + (c * 2 ^ 4 + d)) (omega arith)
    ∙ ap (λ l. bits_of 4 a ++ l) (bits_join 4 8 b (c * 2 ^ 4 + d) (omega arith)
    ∙ ap (λ l. bits_of 4 b ++ l) (bits_join 4 4 c d (omega arith) ∙ ap (λ l. bits_of 4 c ++ l) (sym (append-nil (bits_of 4 d))))))

pub opening_law : (d : ℕ → ℕ) → bits_of 25 (opening_number (lengths_for d)) ≡ fields_bits opening_widths opening ++ run (bits_of 4) (lengths_for d)
unfolding lengths_for
opening_law d = opening_of _ _ _ _ (smallest_most _) (smallest_most _) (smallest_most _) (smallest_most _)

-- ── The loop over a block's numbers ──

run_snoc : (g : ℕ → List Bool) (n m : ℕ) → run g (tabulate (suc n) m (λ k. k)) ≡ run g (tabulate n m (λ k. k)) ++ g (m + n)
unfolding run tabulate
run_snoc g zero m = let e : m + 0 ≡ m = omega arith in rw e (append-nil (g m))
run_snoc g (suc n) m =
    let e : m + suc n ≡ suc m + n = omega arith in
    rw e (ap (λ l. g m ++ l) (run_snoc g n (suc m)) ∙ sym (append_assoc (g m) (run g (tabulate n (suc m) (λ k. k))) (g (suc m + n))))

-- What is written of fewer numbers is no longer.
run_prefix : (g : ℕ → List Bool) (k n : ℕ) → length (run g (tabulate k 0 (λ k. k))) ≤ length (run g (tabulate (k + n) 0 (λ k. k)))
run_prefix g k zero = let e : k + 0 ≡ k = omega arith in rw e (omega arith)
run_prefix g k (suc n) =
    let e : k + suc n ≡ suc (k + n) = omega arith in
    rw (e, run_snoc) (omega (arith, run_prefix g k n, length-append (run g (tabulate (k + n) 0 (λ k. k))) (g (0 + (k + n)))))

-- Two more numbers.
run_snoc_two : (g : ℕ → List Bool) (k : ℕ) → run g (tabulate (k + 2) 0 (λ k. k)) ≡ run g (tabulate k 0 (λ k. k)) ++ (g k ++ g (k + 1))
run_snoc_two g k =
    let two : k + 2 ≡ suc (suc k) = omega arith in
    let one : k + 1 ≡ suc k = omega arith in
    let here : 0 + k ≡ k = omega arith in
    let next : 0 + suc k ≡ suc k = omega arith in
    rw (two, one) (
    run_snoc g (suc k) 0
    ∙ ap₂ (λ l j. l ++ g j) (run_snoc g k 0 ∙ ap (λ j. run g (tabulate k 0 (λ k. k)) ++ g j) here) next
    ∙ append_assoc (run g (tabulate k 0 (λ k. k))) (g k) (g (suc k))
    )

-- The first k numbers have been written, and k is even.
pub record Going (ls d f : List ℕ) (p : Pending) (f' : List ℕ) (q : Pending) (k : ℕ) : Type 0 where
  pub most : k ≤ 16
  pub even : k % 2 ≡ 0
  pub wrote : Wrote f p (run (number_bits ls d) (tabulate k 0 (λ k. k))) f' q

pub begun : (ls d f : List ℕ) (p : Pending) → p.count < 32 → p.word < 2 ^ 32 → Going ls d f p f p 0
unfolding run tabulate
begun ls d f p h l = record { most = omega arith; even = refl; wrote = wrote_none f p h l }

-- The next two.
abbrev next_bits : (ls d : List ℕ) → ℕ → List Bool
next_bits ls d k = bits_of (get_or ls (k / 4) 0) (get_or d k 0) ++ bits_of (get_or ls (k / 4) 0) (get_or d (k + 1) 0)

-- They have one length.
next_run : (ls d : List ℕ) (k : ℕ) → k % 2 ≡ 0 → run (number_bits ls d) (tabulate (k + 2) 0 (λ k. k)) ≡ run (number_bits ls d) (tabulate k 0 (λ k. k)) ++ next_bits ls d k
next_run ls d k e =
    let same : (k + 1) / 4 ≡ k / 4 = omega arith in
    run_snoc_two (number_bits ls d) k
    ∙ ap (λ j. run (number_bits ls d) (tabulate k 0 (λ k. k)) ++ (number_bits ls d k ++ bits_of (get_or ls j 0) (get_or d (k + 1) 0))) same

module _ (ls d f f' : List ℕ) (p q : Pending) (k : ℕ) (g : Going ls d f p f' q k) where
  -- There is room for the next numbers.
  pub room : k < 16 → 8 * p.pos + p.count + length (numbers_bits ls d) ≤ 8 * length f → 8 * q.pos + q.count + 2 * get_or ls (k / 4) 0 ≤ 8 * length f'
  room l h =
      let n = get_or ls (k / 4) 0 in
      let all : k + 2 + (14 - k) ≡ 16 = omega (arith, g.even) in
      let m : length (run (number_bits ls d) (tabulate (k + 2) 0 (λ k. k))) ≤ length (numbers_bits ls d) = rw all at (run_prefix (number_bits ls d) (k + 2) (14 - k)) in
      let s : length (run (number_bits ls d) (tabulate (k + 2) 0 (λ k. k))) ≡ length (run (number_bits ls d) (tabulate k 0 (λ k. k))) + length (next_bits ls d k)
      = ap length (next_run ls d k g.even) ∙ length-append (run (number_bits ls d) (tabulate k 0 (λ k. k))) (next_bits ls d k) in
      let t : length (next_bits ls d k) ≡ length (bits_of n (get_or d k 0)) + length (bits_of n (get_or d (k + 1) 0)) = length-append (bits_of n (get_or d k 0)) (bits_of n (get_or d (k + 1) 0)) in
      omega (arith, g.wrote.grown, g.wrote.length_is, bits_length n (get_or d k 0), bits_length n (get_or d (k + 1) 0))

  -- With room for them, the next numbers are written.
  pub going_on : (f'' : List ℕ) (r : Pending) (next : ℕ) → next ≡ k + 2 → k < 16 → Wrote f' q (next_bits ls d k) f'' r → Going ls d f p f'' r next
  going_on f'' r next e l w =
      record {
        most = omega (arith, g.even);
        even = omega (arith, g.even);
        wrote = rw (e, next_run ls d k g.even) (wrote_both g.wrote w);
      }

  pub gone : 16 ≤ k → Wrote f p (run (number_bits ls d) (tabulate 16 0 (λ k. k))) f' q
  gone l = let e : k ≡ 16 = omega (arith, g.most) in rw e at g.wrote

-- ── The block ──

pub lengths_low : (d ls : List ℕ) → ls ≡ lengths_for (numbers d) → Lengths ls
lengths_low d ls e = rw e (record { each = λ j. all_get (λ l. l < 16) (lengths_most (numbers d)) j 0 (lit< tt) })

-- A block is 25 bits and its numbers.
pub block_parts_length : (d ls : List ℕ) → ls ≡ lengths_for (numbers d) → length (block_bits (numbers d)) ≡ 25 + length (numbers_bits ls d)
unfolding block_bits length_for
block_parts_length d ls e =
    let D = numbers d in
    rw e
    (length-append (fields_bits opening_widths opening ++ run (bits_of 4) (lengths_for D)) (numbers_bits (lengths_for D) d)
    ∙ ap (λ n. n + length (numbers_bits (lengths_for D) d)) (sym (ap length (opening_law D)) ∙ bits_length 25 (opening_number (lengths_for D))))

-- A block's length by its lengths.
pub block_length_law : (d ls : List ℕ) → ls ≡ lengths_for (numbers d) → 25 + 4 * (get_or ls 0 0 + get_or ls 1 0 + get_or ls 2 0 + get_or ls 3 0) ≡ length (block_bits (numbers d))
block_length_law d ls e = rw e (sym (block_length_is (numbers d)))

-- After the opening there is room for the numbers.
pub after_opening : (f f' : List ℕ) (p q : Pending) (x : ℕ) (d ls : List ℕ) → ls ≡ lengths_for (numbers d)
    → 8 * p.pos + p.count + length (block_bits (numbers d)) ≤ 8 * length f → Wrote f p (bits_of 25 x) f' q
    → 8 * q.pos + q.count + length (numbers_bits ls d) ≤ 8 * length f'
after_opening f f' p q x d ls e room w = omega (arith, w.grown, w.length_is, bits_length 25 x, block_parts_length d ls e)

-- The opening, and then the numbers, are a block.
pub block_wrote : (d : List ℕ) {f f' f'' : List ℕ} {p q r : Pending} (ls : List ℕ) (x : ℕ) → ls ≡ lengths_for (numbers d) → x ≡ opening_number ls
    → Wrote f p (bits_of 25 x) f' q → Wrote f' q (numbers_bits ls d) f'' r → Wrote f p (block_bits (numbers d)) f'' r
unfolding block_bits length_for
block_wrote d {f} {f'} {f''} {p} {q} {r} ls x e e' first rest =
    let all : Wrote f p (bits_of 25 x ++ numbers_bits ls d) f'' r = wrote_both first rest in
    rw (e', e, opening_law (numbers d)) at all
