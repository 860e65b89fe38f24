-- A sample's residual, and the sixteen of a block, over plain numbers and lists.
use Prim.Native.Nat.{ℕ, ◌+◌, ◌-◌, ◌*◌, ◌/◌, ◌%◌, ◌<◌, ◌≤◌}
use mathlib.Core.Bool.{Bool, true, false, cond}
use mathlib.Core.Path.{◌≡◌, refl, ap, ap₂, ◌∙◌}
use mathlib.Core.Logic.{◌≢◌}
use mathlib.Core.List.{List}
use native.Mathlib.Omega.{arith}
use native.Mathlib.Nat.{zero-add}
use lib.Dec.{eqb, ltb}
use lib.ListN.{length, get_or, set}
use borrow.Author.Tests.{ltb-true, ltb-false, lt-ltb, le-ltb, eqb-true, eqb-false, eq-eqb, ne_eqb}
use Rattle.rules.specs.Frame.{tabulate}
use Rattle.rules.specs.V0.{order, columns_back}
use Rattle.rules.proofs.Cells.{nil, more}
use Rattle.rules.proofs.Tests.{by-test}
use Rattle.write_rules.specs.Writer.{predicted, residual}
use Rattle.write_rules.specs.Exchanged.{evens_start, odds_start}
use Rattle.write_rules.proofs.Blocks.{each_of_run}
use Rattle.write_frame.specs.Frames.{BlockLent, size, exchanged, block_residuals, by_halves}
use Rattle.write_frame.proofs.HalfLaws.{tabulate_get, tabulate_length, listed, Finding, finding_on}
use Rattle.write_frame.proofs.PlaceLaws.{frame_small, sample_is, place_in, evens_place, odds_place, inner_place}

-- ── A residual ──

module _ (w row col c : ℕ) (g : List ℕ) where
  pub past_end : w ≤ col + c → 0 ≡ residual w g row col c
  unfolding residual
  past_end l = rw (le-ltb (col + c) w l)

  -- A sample less its prediction.
  pub residual_is : (a p r : ℕ) → col + c < w → a ≡ get_or g (row * w + (col + c)) 0 → p ≡ predicted w g row col c → r ≡ (a + 65_536 - p) % 65_536
      → r ≡ residual w g row col c
  unfolding residual
  residual_is a p r l e k q =
      let s : row * w + (col + c) ≡ row * w + col + c = omega arith in
      q ∙ rw (lt-ltb (col + c) w l) (ap₂ (λ x y. (x + 65_536 - y) % 65_536) (e ∙ ap (λ i. get_or g i 0) s) k)

  -- What it is predicted from: in the first block the constant, in the others a sample before the block.
  pub predicted_first : col ≡ 0 → 128 ≡ predicted w g row col c
  unfolding predicted
  predicted_first z = rw (eq-eqb col 0 z)

  pub predicted_later : (p : ℕ) → col % 16 ≡ 0 → col ≢ 0 → p ≡ get_or g (row * w + (col - 2 + c % 2)) 0 → p ≡ predicted w g row col c
  unfolding predicted
  predicted_later p whole n k =
      let t : row * w + (col - 2 + c % 2) ≡ row * w + col - columns_back c = omega arith in
      rw (ne_eqb col 0 n) (k ∙ ap (λ i. get_or g i 0) t)

  pub first_block : (a r : ℕ) → col + c < w → col ≡ 0 → a ≡ get_or g (row * w + (col + c)) 0 → r ≡ (a + 65_536 - 128) % 65_536 → r ≡ residual w g row col c
  first_block a r l z e q = residual_is a 128 r l e (predicted_first z) q

  pub later_block : (a p r : ℕ) → col + c < w → col % 16 ≡ 0 → col ≢ 0 → a ≡ get_or g (row * w + (col + c)) 0 → p ≡ get_or g (row * w + (col - 2 + c % 2)) 0
      → r ≡ (a + 65_536 - p) % 65_536 → r ≡ residual w g row col c
  later_block a p r l whole n e k q = residual_is a p r l e (predicted_later p whole n k) q

-- ── Sixteen of them ──

-- The order of the stream.
pub order_is : (k : ℕ) → k < 16 → 2 * (k % 8) + k / 8 ≡ get_or order k 0
unfolding tabulate
order_is k l = each_of_run (λ k. 2 * (k % 8) + k / 8 ≡ get_or order k 0) 16 0
    (more refl (more refl (more refl (more refl (more refl (more refl (more refl (more refl
    (more refl (more refl (more refl (more refl (more refl (more refl (more refl (more refl nil)))))))))))))))) k (omega arith) l

-- The residuals of the block at a column, in that order.
abbrev pub at_column : ℕ → List ℕ → ℕ → ℕ → ℕ → ℕ
at_column w g row col k = residual w g row col (get_or order k 0)

-- A residual that was asked for by its place in the order.
pub edge_on : (w : ℕ) (g : List ℕ) (row col : ℕ) (d : List ℕ) (k v : ℕ) → k < 16 → v ≡ residual w g row col (2 * (k % 8) + k / 8)
    → Finding (at_column w g row col) d k → Finding (at_column w g row col) (set d k v) (k + 1)
edge_on w g row col d k v l e r = finding_on (at_column w g row col) d k v l (e ∙ ap (residual w g row col) (order_is k l)) r

-- An inner block by its halves.
module _ {w h row col : ℕ} {f : List ℕ} (b : BlockLent (size w h) row col f) (inner : col + 16 ≤ w) where
  -- Each half lies in the frame.
  pub evens_in : {evens : ℕ} → evens ≡ evens_start w row → (evens + col + 14 < length f) × (length f ≤ 268_435_456)
  evens_in {evens} e =
      let s : evens + col + 14 ≡ evens_start w row + (col + 14) = omega arith in
      (omega (arith, s, evens_place w h row (col + 14) (omega arith) (omega arith), place_in w h row (col + 14) b.place.row_in (omega arith)), frame_small b)

  pub odds_in : {odds : ℕ} → odds ≡ odds_start (size w h) row → (odds + col + 1 + 14 < length f) × (length f ≤ 268_435_456)
  odds_in {odds} e =
      let s : odds + col + 1 + 14 ≡ odds_start (size w h) row + (col + 15) = omega arith in
      (omega (arith, s, odds_place w h row (col + 15) (omega arith) (omega arith), place_in w h row (col + 15) b.place.row_in (omega arith)), frame_small b)

module _ {w h row col : ℕ} {f : List ℕ} (b : BlockLent (size w h) row col f) (inner : col + 16 ≤ w) {evens odds : ℕ}
    (evens_are : evens ≡ evens_start w row) (odds_are : odds ≡ odds_start (size w h) row) where
  abbrev g : List ℕ
  g = exchanged (size w h) f

  abbrev first : ℕ
  first = evens + col

  abbrev second : ℕ
  second = odds + col + 1

  -- The prediction of a half, by the sample two places before its first.
  half_predicted : (start c p : ℕ) → (col ≢ 0 → get_or f (start - 2) 0 ≡ get_or g (row * w + (col - 2 + c % 2)) 0)
      → p ≡ cond (eqb col 0) 128 (get_or f (start - 2) 0) → p ≡ predicted w g row col c
  half_predicted start c p at e =
      by-test (eqb col 0)
      (λ z. (rw z at e) ∙ predicted_first w row col c g (eqb-true col 0 z))
      (λ z. let n = eqb-false col 0 z in predicted_later w row col c g p b.block n ((rw z at e) ∙ at n))

  evens_before : (c : ℕ) → c % 2 ≡ 0 → col ≢ 0 → get_or f (first - 2) 0 ≡ get_or g (row * w + (col - 2 + c % 2)) 0
  evens_before c e n =
      let s : first - 2 ≡ evens_start w row + (col - 2) = omega arith in
      let t : row * w + (col - 2) ≡ row * w + (col - 2 + c % 2) = omega arith in
      sample_is w h row (col - 2) f (first - 2) b.place.row_in (omega arith) b.whole (s ∙ evens_place w h row (col - 2) (omega arith) (omega arith))
      ∙ ap (λ i. get_or g i 0) t

  odds_before : (c : ℕ) → c % 2 ≡ 1 → col ≢ 0 → get_or f (second - 2) 0 ≡ get_or g (row * w + (col - 2 + c % 2)) 0
  odds_before c e n =
      let s : second - 2 ≡ odds_start (size w h) row + (col - 1) = omega arith in
      let t : row * w + (col - 1) ≡ row * w + (col - 2 + c % 2) = omega arith in
      sample_is w h row (col - 1) f (second - 2) b.place.row_in (omega arith) b.whole (s ∙ odds_place w h row (col - 1) (omega arith) (omega arith))
      ∙ ap (λ i. get_or g i 0) t

  pub inner_law : (even odd : ℕ) (d : List ℕ) → even ≡ cond (eqb col 0) 128 (get_or f (first - 2) 0) → odd ≡ cond (eqb col 0) 128 (get_or f (second - 2) 0)
      → d ≡ tabulate 16 0 (by_halves f first second even odd) → d ≡ block_residuals (size w h) f row col
  inner_law even odd d p q e =
      listed (at_column w g row col) d (ap length e ∙ tabulate_length (by_halves f first second even odd) 16 0)
      (λ k l. ap (λ x. get_or x k 0) e ∙ tabulate_get (by_halves f first second even odd) 16 0 k l ∙ ap (by_halves f first second even odd) (zero-add k) ∙ each k l)
    where
      each : (k : ℕ) → k < 16 → by_halves f first second even odd k ≡ at_column w g row col k
      each k l =
          residual_is w row col c g (get_or f (cond (ltb k 8) first second + 2 * (k % 8)) 0) (cond (ltb k 8) even odd) (by_halves f first second even odd k) (omega arith)
          (sample_is w h row (col + c) f (cond (ltb k 8) first second + 2 * (k % 8)) b.place.row_in (omega arith) b.whole (inner_place w h row col b.block inner k evens odds l evens_are odds_are))
          (prediction_is (ltb k 8) refl) refl
          ∙ ap (residual w g row col) (order_is k l)
        where
          c : ℕ
          c = 2 * (k % 8) + k / 8

          even_sample : (c j : ℕ) → c ≡ 2 * j → c % 2 ≡ 0
          even_sample c j e = omega arith

          odd_sample : (c j : ℕ) → c ≡ 2 * j + 1 → c % 2 ≡ 1
          odd_sample c j e = omega arith

          prediction_is : (t : Bool) → ltb k 8 ≡ t → cond t even odd ≡ predicted w g row col c
          prediction_is true t = let m = ltb-true k 8 t in let c-is : c ≡ 2 * k = omega arith in half_predicted first c even (evens_before c (even_sample c k c-is)) p
          prediction_is false t =
              let m = ltb-false k 8 t in
              let c-is : c ≡ 2 * (k - 8) + 1 = omega arith in
              half_predicted second c odd (odds_before c (odd_sample c (k - 8) c-is)) q
