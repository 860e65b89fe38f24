-- A reader that starts where bytes were written finds the bits that they were made of.
use Prim.Native.Nat.{ℕ, zero, suc, ◌+◌, ◌-◌, ◌*◌, ◌/◌, ◌%◌, ◌^◌, ◌<◌, ◌≤◌}
use mathlib.Core.Bool.{Bool, false}
use mathlib.Core.Path.{◌≡◌, refl, sym, ap, ap₂, ◌∙◌}
use mathlib.Core.List.{List, [], ◌∷◌, ◌++◌, append_assoc}
use native.Mathlib.Omega.{arith}
use native.Mathlib.Nat.{mod-lt, mod-eq_of_lt, div-div-eq-div-mul, div-add-mod'}
use lib.ListN.{length, take, drop, length-append, length-replicate, length-take, length-drop, take-append-drop}
use lib.Seq.{get_or-append_seam, get_or-append-add}
use lib.Dec.{lit<}
use Rattle.rules.specs.Reader.{fresh, word_at}
use Rattle.rules.proofs.Cells.{All, nil, more}
use Rattle.rules.proofs.ReaderLaws.{held_is}
use Rattle.write_rules.specs.Writer.{bits_of, number_of, padding, padded, word_bytes, words_bytes, bytes}
use Rattle.write_rules.proofs.BitLists.{number_below, bits_number}
use Rattle.write_rules.proofs.Ahead.{words_from, ahead, Sees}

pub words_bytes_length : (n : ℕ) (bs : List Bool) → length (words_bytes n bs) ≡ 4 * n
unfolding words_bytes
words_bytes_length zero bs = refl
words_bytes_length (suc n) bs = let e = words_bytes_length n (drop 32 bs) in omega arith

words_bytes_below : (n : ℕ) (bs : List Bool) → All (λ b. b < 256) (words_bytes n bs)
unfolding words_bytes
words_bytes_below zero bs = nil
words_bytes_below (suc n) bs =
    let x = number_of (take 32 bs) in
    more (mod-lt x (lit< tt)) (more (mod-lt (x / 256) (lit< tt)) (more (mod-lt (x / 65_536) (lit< tt)) (more (mod-lt (x / 16_777_216) (lit< tt)) (words_bytes_below n (drop 32 bs)))))

four_digits : (x a b c i j k : ℕ) → a * 256 + i ≡ x → b * 256 + j ≡ a → c * 256 + k ≡ b → i + j * 256 + k * 65_536 + c * 16_777_216 ≡ x
four_digits x a b c i j k p q r = omega arith

word_again : (x : ℕ) → x < 2 ^ 32 → x % 256 + x / 256 % 256 * 256 + x / 65_536 % 256 * 65_536 + x / 16_777_216 % 256 * 16_777_216 ≡ x
word_again x h =
    let a : x / 256 / 256 ≡ x / 65_536 = div-div-eq-div-mul x 256 256 in
    let b : x / 65_536 / 256 ≡ x / 16_777_216 = div-div-eq-div-mul x 65_536 256 in
    let c : x / 16_777_216 < 256 = omega arith in
    rw (mod-eq_of_lt c)
    (four_digits x (x / 256) (x / 65_536) (x / 16_777_216) (x % 256) (x / 256 % 256) (x / 65_536 % 256)
    (div-add-mod' x 256)
    (ap (λ y. y * 256 + x / 256 % 256) (sym a) ∙ div-add-mod' (x / 256) 256)
    (ap (λ y. y * 256 + x / 65_536 % 256) (sym b) ∙ div-add-mod' (x / 65_536) 256))

-- A word of a stream, by the four bytes that stand there.
word_here : (pre tail : List ℕ) (x : ℕ) → x < 2 ^ 32 → word_at (pre ++ (word_bytes x ++ tail)) (length pre) ≡ x
word_here pre tail x h =
    rw (
      get_or-append_seam pre (x % 256) (x / 256 % 256 ∷ x / 65_536 % 256 ∷ x / 16_777_216 % 256 ∷ tail) 0,
      get_or-append-add pre (word_bytes x ++ tail) 1 0,
      get_or-append-add pre (word_bytes x ++ tail) 2 0,
      get_or-append-add pre (word_bytes x ++ tail) 3 0,
    )
    (word_again x h)

first_word : (bs : List Bool) → 32 ≤ length bs → bits_of 32 (number_of (take 32 bs)) ≡ take 32 bs
first_word bs h = rw (thirty_two) at (bits_number (take 32 bs))
  where
    thirty_two : length (take 32 bs) ≡ 32
    thirty_two = let e = length-take 32 bs in omega arith

first_below : (bs : List Bool) → 32 ≤ length bs → number_of (take 32 bs) < 2 ^ 32
first_below bs h = rw thirty_two at (number_below (take 32 bs))
  where
    thirty_two : length (take 32 bs) ≡ 32
    thirty_two = let e = length-take 32 bs in omega arith

-- Words put anywhere in a stream are found there.
pub words_found : (n : ℕ) (bs : List Bool) (pre post : List ℕ) → length bs ≡ 32 * n → words_from (pre ++ (words_bytes n bs ++ post)) (length pre) n ≡ bs
unfolding words_from words_bytes
words_found zero [] pre post e = refl
words_found zero (b ∷ bs) pre post e = absurd (omega arith)
words_found (suc n) bs pre post e =
    ap₂ ◌++◌ (ap (bits_of 32) (ap (λ l. word_at l (length pre)) regroup ∙ word_here pre (words_bytes n (drop 32 bs) ++ post) x (first_below bs long)) ∙ first_word bs long)
    (ap₂ (λ (l : List ℕ) p. words_from l p n) regroup' after ∙ words_found n (drop 32 bs) (pre ++ word_bytes x) post (length-drop 32 bs ∙ omega arith))
    ∙ take-append-drop 32 bs
  where
    x : ℕ
    x = number_of (take 32 bs)

    long : 32 ≤ length bs
    long = omega arith

    regroup : pre ++ (word_bytes x ++ words_bytes n (drop 32 bs) ++ post) ≡ pre ++ (word_bytes x ++ (words_bytes n (drop 32 bs) ++ post))
    regroup = refl

    regroup' : pre ++ (word_bytes x ++ words_bytes n (drop 32 bs) ++ post) ≡ pre ++ word_bytes x ++ (words_bytes n (drop 32 bs) ++ post)
    regroup' = sym (append_assoc pre (word_bytes x) (words_bytes n (drop 32 bs) ++ post))

    after : length pre + 4 ≡ length (pre ++ word_bytes x)
    after = sym (length-append pre (word_bytes x))

words_join : (s : List ℕ) (p n m : ℕ) → words_from s p (n + m) ≡ words_from s p n ++ words_from s (p + 4 * n) m
unfolding words_from
words_join s p zero m =
    let here : 0 + m ≡ m = omega arith in
    let there : p + 4 * 0 ≡ p = omega arith in
    rw (here, there)
words_join s p (suc n) m =
    let here : suc n + m ≡ suc (n + m) = omega arith in
    let there : p + 4 + 4 * n ≡ p + 4 * suc n = omega arith in
    rw here (ap (λ l. bits_of 32 (word_at s p) ++ l) (words_join s (p + 4) n m ∙ ap (λ q. words_from s (p + 4) n ++ words_from s q m) there)
    ∙ sym (append_assoc (bits_of 32 (word_at s p)) (words_from s (p + 4) n) (words_from s (p + 4 * suc n) m)))

-- Bits are found at a byte: a reader that starts there sees them, and more after them.
pub record Found (s : List ℕ) (at : ℕ) (bs : List Bool) : Type 0 where
  pub rest : List Bool
  pub sees : Sees s (fresh at) (bs ++ rest)

pub bytes_found : (bs : List Bool) (pre post : List ℕ) → length bs % 32 ≡ 0 → length pre % 4 ≡ 0 → Found (pre ++ (bytes bs ++ post)) (length pre) bs
unfolding bytes ahead bits_of
bytes_found bs pre post words fourth =
    record {
      rest = words_from s (length pre + 4 * n) (length post / 4);
      sees =
          record {
            ahead_is = rw (held_is (fresh (length pre)) (lit< tt)) (ap (words_from s (length pre)) count ∙ words_join s (length pre) n (length post / 4)
                ∙ ap (λ l. l ++ words_from s (length pre + 4 * n) (length post / 4)) (words_found n bs pre post whole));
            no_filler = refl;
            whole = fourth;
            within = let e = length-append pre (words_bytes n bs ++ post) in omega arith;
          };
    }
  where
    n : ℕ
    n = length bs / 32

    s : List ℕ
    s = pre ++ (words_bytes n bs ++ post)

    whole : length bs ≡ 32 * n
    whole = omega arith

    count : (length s - length pre) / 4 ≡ n + length post / 4
    count =
        let e = length-append pre (words_bytes n bs ++ post) in
        let e' = length-append (words_bytes n bs) post in
        let e'' = words_bytes_length n bs in
        omega arith

-- ── How many bytes ──

pub bytes_length : (bs : List Bool) → length (bytes bs) ≡ 4 * (length bs / 32)
unfolding bytes
bytes_length bs = words_bytes_length (length bs / 32) bs

pub bytes_below : (bs : List Bool) → All (λ b. b < 256) (bytes bs)
unfolding bytes
bytes_below bs = words_bytes_below (length bs / 32) bs

pub padded_length : (n : ℕ) (bs : List Bool) → length (padded n bs) ≡ length bs + (n - length bs % n) % n
unfolding padded
padded_length n bs = length-append bs (padding n bs) ∙ ap (λ m. length bs + m) (length-replicate ((n - length bs % n) % n) false)
