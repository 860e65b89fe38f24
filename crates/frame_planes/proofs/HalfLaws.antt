-- Where a row's columns lie in the half of the planes that the rows of its parity make: side by side, and all inside.
use mathlib.Core.Path.{◌≡◌, refl, sym, ap, ap₂, ◌∙◌}
use mathlib.Core.List.{List, [], ◌∷◌, ◌++◌, flat_map, append_assoc, append-nil}
use Prim.Native.Nat.{ℕ, suc, ◌+◌, ◌-◌, ◌*◌, ◌≤◌, ◌<◌}
use native.Mathlib.Omega.{arith}
use native.Mathlib.Nat.{mul-le-mul, mul-le-mul_right, zero-mul}
use native.Mathlib.Numerals.{add-one}
use lib.ListN.{length, get_or, take, drop, length-drop, length-append, take-append-drop, drop_of_length-le}
use lib.Seq.{drop-drop, drop-cons, drop_at, drop-append-add, drop-append-le, take_at, take-add, take_all, take-take, take-append-le, length-take-le}
use borrow.Rule.Slice.PartMut.{mid_of, put_mid}
use Rattle.frame_planes.specs.Planes.{evens, odds, by_columns, even_count, odd_count, weave}
use Rattle.frame_planes.specs.PlanesLent.{RowOfHalf, evens_at, odds_at, put_at, row_put, row_taken}
use Rattle.frame_planes.proofs.Lists.{evens_length, odds_length}
use Rattle.frame_planes.proofs.Undone.{columns_all}

pub record Room (w rows k half : ℕ) : Type 0 where
  pub evens_fit : evens_at w k + even_count w ≤ rows * even_count w
  pub odds_fit : k * odd_count w + odd_count w ≤ rows * odd_count w
  pub all_fit : rows * even_count w + rows * odd_count w ≤ half
  pub most : rows * even_count w + rows * odd_count w ≤ 268_435_456

pub room : {w rows k half : ℕ} → RowOfHalf w rows k half → Room w rows k half
room {w} {rows} {k} {half} r =
    let e : suc k * even_count w ≤ rows * even_count w = mul-le-mul_right (even_count w) (omega (arith, r.below)) in
    let o : suc k * odd_count w ≤ rows * odd_count w = mul-le-mul_right (odd_count w) (omega (arith, r.below)) in
    let m : rows * w ≤ 16_384 * 16_384 = mul-le-mul r.few r.wide in
    record {
      evens_fit = omega arith;
      odds_fit = omega arith;
      all_fit = omega (arith, columns_all rows w, r.room);
      most = omega (arith, columns_all rows w);
    }

-- ── A row put ──

-- A part that comes back as long as it was lent.
part_put : (a n : ℕ) (l new : List ℕ) → length new ≡ n → put_mid a (a + n - a) l new ≡ put_at a new l
part_put a n l new q =
    let e : a + n - a ≡ length new = omega arith in
    ap (λ t. take a l ++ (new ++ t)) (drop-drop (a + n - a) a l ∙ ap (λ k. drop (a + k) l) e)

pub row_is_put : (row half : List ℕ) (rows k : ℕ) (xs ys : List ℕ) → xs ≡ evens (drop 0 row) → ys ≡ evens (drop 1 row)
    → put_mid (odds_at (length row) rows k) (odds_at (length row) rows k + odd_count (length row) - odds_at (length row) rows k)
    (put_mid (evens_at (length row) k) (evens_at (length row) k + even_count (length row) - evens_at (length row) k) half xs) ys
    ≡ row_put row rows k half
unfolding row_put
row_is_put row half rows k xs ys p q =
    rw (p, q)
    (part_put (odds_at (length row) rows k) (odd_count (length row)) (put_mid (evens_at (length row) k) (evens_at (length row) k + even_count (length row) - evens_at (length row) k) half (evens row)) (odds row) (odds_length row)
    ∙ ap (put_at (odds_at (length row) rows k) (odds row)) (part_put (evens_at (length row) k) (even_count (length row)) half (evens row) (evens_length row)))

pub row_is_taken : (half : List ℕ) (w rows k : ℕ) (new : List ℕ)
    → new ≡ weave (mid_of (evens_at w k) (evens_at w k + even_count w - evens_at w k) half) (mid_of (odds_at w rows k) (odds_at w rows k + odd_count w - odds_at w rows k) half)
    → new ≡ row_taken w rows k half
unfolding row_taken
row_is_taken half w rows k new p =
    let e : evens_at w k + even_count w - evens_at w k ≡ even_count w = omega arith in
    let o : odds_at w rows k + odd_count w - odds_at w rows k ≡ odd_count w = omega arith in
    rw (e, o) at p

-- ── Where others stand in the place of elements ──

module _ (a : ℕ) (new l : List ℕ) (h : a ≤ length l) where
  take_put : take (a + length new) (put_at a new l) ≡ take a l ++ new
  take_put =
      let e : length (take a l) ≡ a = length-take-le a l h in
      ap (take (a + length new)) (sym (append_assoc (take a l) new (drop (a + length new) l)))
      ∙ take_at (take a l ++ new) (drop (a + length new) l) (a + length new) (length-append (take a l) new ∙ ap (λ n. n + length new) e)

  take_before : (b : ℕ) → b ≤ a → take b (put_at a new l) ≡ take b l
  take_before b q =
      let e : length (take a l) ≡ a = length-take-le a l h in
      take-append-le b (take a l) (new ++ drop (a + length new) l) (omega arith) ∙ take-take b a l q

  put_length : a + length new ≤ length l → length (put_at a new l) ≡ length l
  put_length q =
      omega (arith, length-append (take a l) (new ++ drop (a + length new) l), length-append new (drop (a + length new) l), length-take-le a l h, length-drop (a + length new) l)

  drop_after : (b : ℕ) → a + length new ≤ b → drop b (put_at a new l) ≡ drop b l
  drop_after b q =
      let e : length (take a l) ≡ a = length-take-le a l h in
      let k = b - (a + length new) in
      let n : length (take a l ++ new) ≡ a + length new = length-append (take a l) new ∙ ap (λ m. m + length new) e in
      let i : b ≡ length (take a l ++ new) + k = omega arith in
      let j : a + length new + k ≡ b = omega arith in
      ap₂ (λ m x. drop m x) i (sym (append_assoc (take a l) new (drop (a + length new) l)))
      ∙ drop-append-add (take a l ++ new) (drop (a + length new) l) k
      ∙ drop-drop k (a + length new) l ∙ ap (λ m. drop m l) j

drop_put_at : (m a : ℕ) (new l : List ℕ) → m + a ≤ length l → drop m (put_at (m + a) new l) ≡ put_at a new (drop m l)
drop_put_at m a new l h =
    let e : length (take (m + a) l) ≡ m + a = length-take-le (m + a) l h in
    let t : drop m (take (m + a) l) ≡ take a (drop m l) = ap (drop m) (take-add m a l) ∙ drop_at (take m l) (take a (drop m l)) m (length-take-le m l (omega arith)) in
    let n : m + (a + length new) ≡ m + a + length new = omega arith in
    drop-append-le m (take (m + a) l) (new ++ drop (m + a + length new) l) (omega arith)
    ∙ ap₂ (λ x y. x ++ (new ++ y)) t (sym (drop-drop (a + length new) m l ∙ ap (λ k. drop k l) n))

-- ── All rows of one parity ──

-- The first k of n rows are put.
pub record Put (rs : List (List ℕ)) (w n : ℕ) (half₀ half : List ℕ) (k : ℕ) : Type 0 where
  pub below : k ≤ n
  pub kept : length half ≡ length half₀
  pub evens_are : take (k * even_count w) half ++ flat_map evens (drop k rs) ≡ flat_map evens rs
  pub odds_are : take (k * odd_count w) (drop (n * even_count w) half) ++ flat_map odds (drop k rs) ≡ flat_map odds rs

pub put_none : (rs : List (List ℕ)) (w n : ℕ) (half : List ℕ) → Put rs w n half half 0
put_none rs w n half =
    record { below = omega arith; kept = refl; evens_are = rw (zero-mul (even_count w)); odds_are = rw (zero-mul (odd_count w)) }

gathered : (columns : List ℕ → List ℕ) (row x t whole : List ℕ) (before rest : List (List ℕ)) → x ≡ t ++ columns row → before ≡ row ∷ rest
    → t ++ flat_map columns before ≡ whole → x ++ flat_map columns rest ≡ whole
unfolding flat_map
gathered columns row x t whole before rest e n p =
    ap (λ y. y ++ flat_map columns rest) e ∙ append_assoc t (columns row) (flat_map columns rest)
    ∙ sym (ap (λ y. t ++ flat_map columns y) n) ∙ p

pub put_more : {rs : List (List ℕ)} {w n : ℕ} {half₀ half : List ℕ} {k : ℕ} (row half' : List ℕ) → length rs ≡ n → n * w ≤ length half → k < n
    → row ≡ get_or rs k [] → length row ≡ w → half' ≡ row_put row n k half → Put rs w n half₀ half k → Put rs w n half₀ half' (k + 1)
unfolding row_put
put_more {rs} {w} {n} {half₀} {half} {k} row half' high fits h is wide e p =
    let ew = even_count w in
    let ow = odd_count w in
    let c = columns_all n w in
    let el : length (evens row) ≡ ew = evens_length row ∙ ap even_count wide in
    let ol : length (odds row) ≡ ow = odds_length row ∙ ap odd_count wide in
    let ke : suc k * ew ≤ n * ew = mul-le-mul_right ew (omega arith) in
    let ko : suc k * ow ≤ n * ow = mul-le-mul_right ow (omega arith) in
    let one = put_at (k * ew) (evens row) half in
    let two = put_at (n * ew + k * ow) (odds row) one in
    let is-two : half' ≡ two = rw wide at e in
    let one-length : length one ≡ length half = put_length (k * ew) (evens row) half (omega arith) (omega arith) in
    let two-length : length two ≡ length one = put_length (n * ew + k * ow) (odds row) one (omega arith) (omega arith) in
    let next : drop k rs ≡ row ∷ drop (k + 1) rs = rw (add-one k) (drop-cons rs k [] (omega arith) ∙ ap (λ r. r ∷ drop (suc k) rs) (sym is)) in
    let em : (k + 1) * ew ≡ k * ew + length (evens row) = omega arith in
    let om : (k + 1) * ow ≡ k * ow + length (odds row) = omega arith in
    let es : take ((k + 1) * ew) two ≡ take (k * ew) half ++ evens row =
    ap (λ m. take m two) em
    ∙ take_before (n * ew + k * ow) (odds row) one (omega arith) (k * ew + length (evens row)) (omega arith)
    ∙ take_put (k * ew) (evens row) half (omega arith) in
    let os : take ((k + 1) * ow) (drop (n * ew) two) ≡ take (k * ow) (drop (n * ew) half) ++ odds row =
    ap₂ (λ m x. take m x) om
    (drop_put_at (n * ew) (k * ow) (odds row) one (omega arith)
    ∙ ap (put_at (k * ow) (odds row)) (drop_after (k * ew) (evens row) half (omega arith) (n * ew) (omega arith)))
    ∙ take_put (k * ow) (odds row) (drop (n * ew) half) (omega (arith, length-drop (n * ew) half)) in
    rw is-two
    record {
      below = omega arith;
      kept = two-length ∙ one-length ∙ p.kept;
      evens_are = gathered evens row _ (take (k * ew) half) _ _ _ es next p.evens_are;
      odds_are = gathered odds row _ (take (k * ow) (drop (n * ew) half)) _ _ _ os next p.odds_are;
    }

pub put_all : {rs : List (List ℕ)} {w n : ℕ} {half₀ half : List ℕ} {k : ℕ} → length rs ≡ n → length half₀ ≡ n * w → n ≤ k
    → Put rs w n half₀ half k → half ≡ by_columns rs
unfolding by_columns flat_map
put_all {rs} {w} {n} {half₀} {half} {k} high fits h p =
    let e : k ≡ n = omega (arith, p.below) in
    let c = columns_all n w in
    let none : drop n rs ≡ [] = drop_of_length-le rs {i = n} (omega arith) in
    let es : take (n * even_count w) half ≡ flat_map evens rs = rw (e, none, append-nil) at p.evens_are in
    let os : take (n * odd_count w) (drop (n * even_count w) half) ≡ flat_map odds rs = rw (e, none, append-nil) at p.odds_are in
    sym (take-append-drop (n * even_count w) half)
    ∙ ap₂ (λ x y. x ++ y) es (sym (take_all (n * odd_count w) (drop (n * even_count w) half) (omega (arith, length-drop (n * even_count w) half, p.kept))) ∙ os)
