-- A V2 block by its halves: in an even row its even samples come first, in an odd row its odd ones.
use Prim.Native.Nat.{ℕ, suc, ◌+◌, ◌-◌, ◌*◌, ◌%◌, ◌<◌, ◌≤◌}
use mathlib.Core.Bool.{Bool, true, false, cond}
use mathlib.Core.Path.{◌≡◌, refl, ap, ap₂, ◌∙◌}
use mathlib.Core.List.{List}
use native.Mathlib.Omega.{arith}
use native.Mathlib.Nat.{zero-add, mul_comm, mul-le-mul_right}
use lib.Dec.{eqb, ltb}
use lib.ListN.{length, get_or}
use borrow.Author.Tests.{ltb-true, ltb-false, eqb-true, eqb-false}
use Rattle.rules.specs.Frame.{tabulate}
use Rattle.rules.specs.V2.{position}
use Rattle.write_rules.specs.V2Writer.{base_of, difference}
use Rattle.write_frame.specs.Frames.{BlockLent, block_differences, by_halves, size}
use Rattle.write_frame.proofs.PlaceLaws.{frame_small}
use Rattle.write_frame.proofs.HalfLaws.{tabulate_get, tabulate_length, listed}
use Rattle.rules.proofs.Tests.{by-test}

-- Where difference k goes.
position_first : (row k : ℕ) → k < 8 → position row k ≡ 2 * (k % 8) + row % 2
unfolding position
position_first row k l =
    by-test (eqb (row % 2) 0)
    (λ e. rw e (let q = eqb-true (row % 2) 0 e in omega arith))
    (λ e. rw e (let q = eqb-false (row % 2) 0 e in omega arith))

position_second : (row k : ℕ) → 8 ≤ k → k < 16 → position row k ≡ 2 * (k % 8) + (1 - row % 2)
unfolding position
position_second row k l l' =
    by-test (eqb (row % 2) 0)
    (λ e. rw e (let q = eqb-true (row % 2) 0 e in omega arith))
    (λ e. rw e (let q = eqb-false (row % 2) 0 e in omega arith))

module _ {w h row col : ℕ} {f : List ℕ} (b : BlockLent (size w h) row col f) (inner : col + 16 ≤ w) where
  -- The block lies in the frame, and its places fit 64 bits.
  pub block_in : (row * w + col + 15 < length f) × (length f ≤ 268_435_456)
  block_in =
      let l : suc row * w ≤ h * w = mul-le-mul_right w b.place.row_in in
      (omega (arith, mul_comm w h), frame_small b)

  abbrev first : ℕ
  first = row * w + col + row % 2

  abbrev second : ℕ
  second = row * w + col + 1 - row % 2

  -- A sample less its base, which is the sample two places before its half.
  one : (start i r j p : ℕ) → r < 2 → i ≡ 2 * j + r → start ≡ row * w + col + r → p ≡ cond (eqb col 0) 0 (get_or f (start - 2) 0)
      → (get_or f (start + 2 * j) 0 + 65_536 - p) % 65_536 ≡ difference w f row col i
  unfolding difference base_of
  one start i r j p small is at e =
      ap₂ (λ x y. (get_or f x 0 + 65_536 - y) % 65_536) place (e ∙ by-test (eqb col 0)
      (λ z. rw z)
      (λ z. rw z (let n = eqb-false col 0 z in
      let m : i % 2 ≡ r = omega arith in
      let s : start - 2 ≡ row * w + col - 2 + i % 2 = omega (arith, m, at) in
      ap (λ x. get_or f x 0) s)))
    where
      place : start + 2 * j ≡ row * w + col + i
      place = omega arith

  pub differences_law : (p q : ℕ) (d : List ℕ) → p ≡ cond (eqb col 0) 0 (get_or f (first - 2) 0) → q ≡ cond (eqb col 0) 0 (get_or f (second - 2) 0)
      → d ≡ tabulate 16 0 (by_halves f first second p q) → d ≡ block_differences w f row col
  differences_law p q d ep eq e =
      listed (λ k. difference w f row col (position row k)) d (ap length e ∙ tabulate_length (by_halves f first second p q) 16 0)
      (λ k l. ap (λ x. get_or x k 0) e ∙ tabulate_get (by_halves f first second p q) 16 0 k l ∙ ap (by_halves f first second p q) (zero-add k) ∙ each k l (ltb k 8) refl)
    where
      each : (k : ℕ) → k < 16 → (t : Bool) → ltb k 8 ≡ t
          → (get_or f (cond t first second + 2 * (k % 8)) 0 + 65_536 - cond t p q) % 65_536 ≡ difference w f row col (position row k)
      each k l true c = one first (position row k) (row % 2) (k % 8) p (omega arith) (position_first row k (ltb-true k 8 c)) refl ep
      each k l false c = one second (position row k) (1 - row % 2) (k % 8) q (omega arith) (position_second row k (ltb-false k 8 c) l) (omega arith) eq
