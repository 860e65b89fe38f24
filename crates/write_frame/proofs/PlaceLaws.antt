-- Where a sample of the exchanged frame is read: by the starts of a row's even and odd columns, and always in the frame.
use Prim.Native.Nat.{ℕ, suc, ◌+◌, ◌-◌, ◌*◌, ◌/◌, ◌%◌, ◌<◌, ◌≤◌}
use mathlib.Core.Bool.{Bool, true, cond, ◌&&◌}
use mathlib.Core.Path.{◌≡◌, sym, ◌∙◌}
use mathlib.Core.Logic.{◌≢◌}
use mathlib.Core.List.{List}
use native.Mathlib.Omega.{arith}
use native.Mathlib.Nat.{mul-le-mul_right, mul-le-mul, mul_comm}
use lib.Dec.{eqb, ltb}
use lib.ListN.{length, get_or}
use borrow.Author.Tests.{ltb-true, ltb-false, lt-ltb, le-ltb, eqb-true, eqb-false, eq-eqb, ne_eqb}
use Rattle.rules.specs.V0.{sample_kind}
use Rattle.rules.proofs.Tests.{by-test, both}
use Rattle.write_rules.specs.Exchanged.{evens_start, odds_start, place_of}
use Rattle.write_rules.proofs.ExchangeAt.{exchange_place}
use Rattle.write_frame.specs.Frames.{BlockLent, size, exchanged}

pub product : (a w : ℕ) → a ≤ 16_384 → w ≤ 16_384 → a * w ≤ 268_435_456
product a w l m = mul-le-mul l m

pub frame_small : {w h row col : ℕ} {f : List ℕ} → BlockLent (size w h) row col f → length f ≤ 268_435_456
frame_small {w} {h} b = omega (arith, product w h b.place.wide b.place.high)

-- ── The starts ──

pub evens_even : (w row : ℕ) → row % 2 ≡ 0 → row * w ≡ evens_start w row
unfolding evens_start
evens_even w row a = rw (eq-eqb (row % 2) 0 a)

pub evens_odd : (w row : ℕ) → row % 2 ≢ 0 → (row - 1) * w + 1 ≡ evens_start w row
unfolding evens_start
evens_odd w row a = rw (ne_eqb (row % 2) 0 a)

pub odds_odd : (w h row : ℕ) → row % 2 ≡ 1 → row * w ≡ odds_start (size w h) row
unfolding odds_start
odds_odd w h row a = rw (ne_eqb (row % 2) 0 (λ e. omega arith))

pub odds_even : (w h row : ℕ) → row % 2 ≢ 1 → row + 1 < h → (row + 1) * w - 1 ≡ odds_start (size w h) row
unfolding odds_start
odds_even w h row a l = let b : row % 2 ≡ 0 = omega arith in rw (eq-eqb (row % 2) 0 b, lt-ltb (row + 1) h l)

pub odds_last : (w h row : ℕ) → h ≤ row + 1 → row * w ≡ odds_start (size w h) row
unfolding odds_start
odds_last w h row l = rw (le-ltb (row + 1) h l) (by-test (eqb (row % 2) 0) (λ e. rw e) (λ e. rw e))

-- ── Places ──

module _ (w h row col : ℕ) where
  -- Where an odd column is read.
  pub odds_place : col % 2 ≡ 1 → col < w → odds_start (size w h) row + col ≡ place_of (size w h) row col
  unfolding odds_start place_of
  odds_place a l = rw (eq-eqb (col % 2) 1 a, ne_eqb (col % 2) 0 (λ e. omega arith)) (by-test (eqb (row % 2) 0)
      (λ e₁. rw e₁ (by-test (ltb (row + 1) h) (λ f. rw f (omega arith)) (λ g. rw g (by-test (eqb (row % 2) 1) (λ f. rw f) (λ f. rw f)))))
      (λ g. rw g (by-test (eqb (row % 2) 1) (λ f. rw f) (λ f. rw f))))

  -- Where an even column is read that has one to its right.
  pub evens_place : col % 2 ≡ 0 → col + 1 < w → evens_start w row + col ≡ place_of (size w h) row col
  unfolding evens_start place_of
  evens_place a l =
      rw (ne_eqb (col % 2) 1 (λ e. omega arith), eq-eqb (col % 2) 0 a, lt-ltb (col + 1) w l) (by-test (eqb (row % 2) 0)
      (λ p. rw p (by-test (eqb (row % 2) 1) (λ q. rw q (absurd (omega (arith, eqb-true (row % 2) 0 p, eqb-true (row % 2) 1 q)))) (λ q. rw q)))
      (λ p. rw p (by-test (eqb (row % 2) 1)
      (λ q. rw q (omega arith))
      (λ q. rw q (absurd (eqb-false (row % 2) 0 p (let n = eqb-false (row % 2) 1 q in omega arith)))))))

  -- Where an even column is read that is the last.
  pub last_place : col % 2 ≢ 1 → w ≤ col + 1 → row * w + col ≡ place_of (size w h) row col
  unfolding place_of
  last_place a l = rw (ne_eqb (col % 2) 1 a, le-ltb (col + 1) w l) (by-test (eqb (row % 2) 0)
      (λ g. rw g (by-test (eqb (row % 2) 1) (λ f. rw f (by-test (eqb (col % 2) 0) (λ e. rw e) (λ e. rw e))) (λ e. rw e)))
      (λ g. rw g (by-test (eqb (row % 2) 1) (λ f. rw f (by-test (eqb (col % 2) 0) (λ e. rw e) (λ e. rw e))) (λ e. rw e))))

  -- Every place is in the frame.
  pub place_in : row < h → col < w → place_of (size w h) row col < w * h
  unfolding place_of
  place_in r c =
      by-test (eqb (row % 2) 0 && (eqb (col % 2) 1 && ltb (row + 1) h))
      (λ e. rw e (let l = ltb-true (row + 1) h (last (eqb (row % 2) 0) (eqb (col % 2) 1) (ltb (row + 1) h) e) in
      let next : suc (row + 1) * w ≤ h * w = mul-le-mul_right w l in
      omega (arith, mul_comm w h)))
      (λ e. rw e (by-test (eqb (row % 2) 1 && (eqb (col % 2) 0 && ltb (col + 1) w))
      (λ f. rw f (let l = ltb-true (col + 1) w (last (eqb (row % 2) 1) (eqb (col % 2) 0) (ltb (col + 1) w) f) in
      let up : (row - 1) * w ≤ row * w = mul-le-mul_right w (omega arith) in
      omega (arith, mul_comm w h, end)))
      (λ f. rw f (omega (arith, mul_comm w h, end)))))
    where
      last : (a b c : Bool) → (a && (b && c)) ≡ true → c ≡ true
      last a b c e = (both b c (both a (b && c) e).1).1

      end : suc row * w ≤ h * w
      end = mul-le-mul_right w r

-- What is read there is the exchanged frame's sample.
pub sample_is : (w h row col : ℕ) (f : List ℕ) (p : ℕ) → row < h → col < w → length f ≡ w * h → p ≡ place_of (size w h) row col
    → get_or f p 0 ≡ get_or (exchanged (size w h) f) (row * w + col) 0
sample_is w h row col f p r l e q = rw q (sym (exchange_place sample_kind (size w h) f e row col r l))

-- ── An inner block ──

-- The places of the block at a column, in the order of the stream: eight from one start on, and eight from the other.
module _ (w h row col : ℕ) (start : col % 16 ≡ 0) (inner : col + 16 ≤ w) where
  pub inner_place : (k evens odds : ℕ) → k < 16 → evens ≡ evens_start w row → odds ≡ odds_start (size w h) row
      → cond (ltb k 8) (evens + col) (odds + col + 1) + 2 * (k % 8) ≡ place_of (size w h) row (col + (2 * (k % 8) + k / 8))
  inner_place k evens odds l e o =
      by-test (ltb k 8)
      (λ q. rw q (let b = ltb-true k 8 q in
      let c-is : c ≡ 2 * k = omega arith in
      let s : evens + col + 2 * (k % 8) ≡ evens_start w row + (col + c) = omega arith in
      s ∙ evens_place w h row (col + c) (even_column k c c-is) (omega arith)))
      (λ q. rw q (let b = ltb-false k 8 q in
      let c-is : c ≡ 2 * (k - 8) + 1 = omega arith in
      let s : odds + col + 1 + 2 * (k % 8) ≡ odds_start (size w h) row + (col + c) = omega arith in
      s ∙ odds_place w h row (col + c) (odd_column (k - 8) c c-is) (omega arith)))
    where
      c : ℕ
      c = 2 * (k % 8) + k / 8

      even_column : (j c : ℕ) → c ≡ 2 * j → (col + c) % 2 ≡ 0
      even_column j c e = omega arith

      odd_column : (j c : ℕ) → c ≡ 2 * j + 1 → (col + c) % 2 ≡ 1
      odd_column j c e = omega arith
