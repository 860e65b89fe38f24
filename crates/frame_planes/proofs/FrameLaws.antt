-- The rows of a frame, where they lie in it and in its planes.
use mathlib.Core.Path.{◌≡◌, refl, sym, ap, ap₂, ◌∙◌}
use mathlib.Core.List.{List, [], ◌∷◌, ◌++◌, flatten, append_assoc, append-nil}
use Prim.Native.Nat.{ℕ, zero, suc, ◌+◌, ◌-◌, ◌*◌, ◌/◌, ◌%◌, ◌≤◌, ◌<◌}
use native.Mathlib.Omega.{arith}
use native.Mathlib.Nat.{mul_comm, mul-le-mul, mul-le-mul_right, zero-mul, one-mul}
use native.Mathlib.Numerals.{add-one}
use lib.ListN.{length, get_or, take, drop, length-drop, length-append, drop_of_length-le}
use lib.Seq.{drop-drop, drop-cons, drop_at, take_at, take_all, length-take-le}
use borrow.Rule.Slice.PartMut.{mid_of, put_mid}
use Rattle.rules.specs.declared.answer.Size.{Size}
use Rattle.rules.specs.Frame.{cells}
use Rattle.frame_planes.specs.Planes.{evens, rows, rows_of, by_columns, to_planes, even_count, odd_count, weave, woven, from_columns, rows_back}
use Rattle.frame_planes.specs.PlanesLent.{Within, PlanesLent, RowOfHalf, row_taken, rows_with, HalfLent, RowLent}
use Rattle.frame_planes.proofs.Lists.{columns_get, columns_length, weave_length, weave_even, weave_odd}
use Rattle.frame_planes.proofs.Undone.{halves, rows_all, rows_length, woven_length}

-- A row of a frame within the limits.
pub row_room : (z : Size) (r : ℕ) → Within z → r < z.height → (r * z.width + z.width ≤ cells z) × (cells z ≤ 268_435_456)
row_room z r q h =
    let e : suc r * z.width ≤ z.height * z.width = mul-le-mul_right z.width (omega arith) in
    let m : z.width * z.height ≤ 16_384 * 16_384 = mul-le-mul q.wide q.high in
    (omega (arith, mul_comm z.width z.height), omega arith)

-- ── A frame's own rows ──

rows_get : (w n k : ℕ) (f : List ℕ) → k < n → get_or (rows w n f) k [] ≡ take w (drop (k * w) f)
unfolding rows
rows_get w zero k f h = absurd (omega arith)
rows_get w (suc n) zero f h = rw (zero-mul w)
rows_get w (suc n) (suc k) f h =
    let e : w + k * w ≡ suc k * w = omega arith in
    rows_get w n k (drop w f) (omega arith) ∙ ap (take w) (drop-drop (k * w) w f ∙ ap (λ i. drop i f) e)

-- Row k of one parity.
pub parity_row : (z : Size) (parity k : ℕ) (f : List ℕ) → 2 * k + parity < z.height
    → mid_of ((2 * k + parity) * z.width) ((2 * k + parity) * z.width + z.width - (2 * k + parity) * z.width) f
    ≡ get_or (evens (drop parity (rows z.width z.height f))) k []
parity_row z parity k f h =
    let e : (2 * k + parity) * z.width + z.width - (2 * k + parity) * z.width ≡ z.width = omega arith in
    rw e (sym (columns_get (rows z.width z.height f) parity k [] ∙ rows_get z.width z.height (2 * k + parity) f h))

pub parity_rows : (z : Size) (parity : ℕ) (f : List ℕ) → parity ≤ 1 → length (evens (drop parity (rows z.width z.height f))) ≡ rows_with parity z.height
parity_rows z parity f h = columns_length (rows z.width z.height f) parity h ∙ ap (λ n. (n + 1 - parity) / 2) (rows_length z.width z.height f)

-- ── The rows out of the planes ──

woven_get : (e o n k : ℕ) (p q : List ℕ) → k < n → get_or (woven e o n p q) k [] ≡ weave (take e (drop (k * e) p)) (take o (drop (k * o) q))
unfolding woven
woven_get e o zero k p q h = absurd (omega arith)
woven_get e o (suc n) zero p q h = rw (zero-mul e, zero-mul o)
woven_get e o (suc n) (suc k) p q h =
    let ee : e + k * e ≡ suc k * e = omega arith in
    let oo : o + k * o ≡ suc k * o = omega arith in
    woven_get e o n k (drop e p) (drop o q) (omega arith)
    ∙ ap₂ (λ x y. weave (take e x) (take o y)) (drop-drop (k * e) e p ∙ ap (λ i. drop i p) ee) (drop-drop (k * o) o q ∙ ap (λ i. drop i q) oo)

columns_back : (w n k : ℕ) (p : List ℕ) → k < n → get_or (from_columns w n p) k [] ≡ row_taken w n k p
unfolding row_taken
columns_back w n k p h =
    woven_get (even_count w) (odd_count w) n k p (drop (n * even_count w) p) h
    ∙ ap (λ y. weave (take (even_count w) (drop (k * even_count w) p)) (take (odd_count w) y)) (drop-drop (k * odd_count w) (n * even_count w) p)

module _ (z : Size) (p : List ℕ) where
  abbrev odd_half : List ℕ
  odd_half = drop (even_count z.height * z.width) p

  -- The rows of either parity.
  row_counts : (length (from_columns z.width (even_count z.height) p) ≡ even_count z.height)
      × (length (from_columns z.width (odd_count z.height) odd_half) ≡ odd_count z.height)
  row_counts = (woven_length _ _ (even_count z.height) _ _, woven_length _ _ (odd_count z.height) _ _)

  pub back_length : length (rows_back z p) ≡ z.height
  unfolding rows_back
  back_length = weave_length _ _ ∙ ap₂ ◌+◌ row_counts.0 row_counts.1 ∙ halves z.height

  back_even : (k : ℕ) → 2 * k < z.height → get_or (rows_back z p) (2 * k) [] ≡ row_taken z.width (even_count z.height) k p
  unfolding rows_back
  back_even k h = weave_even _ _ (omega (arith, row_counts)) (omega (arith, row_counts)) k [] ∙ columns_back z.width (even_count z.height) k p (omega arith)

  back_odd : (k : ℕ) → 2 * k + 1 < z.height → get_or (rows_back z p) (2 * k + 1) [] ≡ row_taken z.width (odd_count z.height) k odd_half
  unfolding rows_back
  back_odd k h = weave_odd _ _ (omega (arith, row_counts)) (omega (arith, row_counts)) k [] ∙ columns_back z.width (odd_count z.height) k odd_half (omega arith)

-- Where the half that has a row's parity starts.
abbrev pub start : Size → ℕ → ℕ
start z row = row % 2 * ((z.height + 1) / 2 * z.width)

-- It holds its rows, this one among them.
pub start_room : (z : Size) (row : ℕ) → row < z.height
    → (start z row + rows_with (row % 2) z.height * z.width ≤ cells z) × (row / 2 < rows_with (row % 2) z.height)
start_room z row h = go (row % 2) refl
  where
    go : (r : ℕ) → row % 2 ≡ r → (r * ((z.height + 1) / 2 * z.width) + rows_with r z.height * z.width ≤ cells z) × (row / 2 < rows_with r z.height)
    go zero e =
        let n : z.height + 1 - 0 ≡ z.height + 1 = omega arith in
        rw n (omega (arith, rows_all z.width z.height), omega arith)
    go (suc zero) e =
        let n : z.height + 1 - 1 ≡ z.height = omega arith in
        rw n (omega (arith, rows_all z.width z.height), omega arith)
    go (suc (suc r)) e = absurd (omega arith)

-- What there is to count on where a row is taken: its half, itself, both halves and the planes.
pub take_room : {z : Size} {row : ℕ} {planes to : List ℕ} → RowLent z row planes to
    → ((start z row + rows_with (row % 2) z.height * z.width ≤ cells z) × (row / 2 < rows_with (row % 2) z.height))
    × (((row * z.width + z.width ≤ cells z) × (cells z ≤ 268_435_456))
    × ((even_count z.height * z.width + odd_count z.height * z.width ≡ z.width * z.height) × (length planes ≡ cells z)))
take_room {z} {row} p = (start_room z row p.below, (row_room z row p.within p.below, (rows_all z.width z.height, p.read)))

pub row_back : (z : Size) (row : ℕ) (p : List ℕ) → row < z.height
    → row_taken z.width (rows_with (row % 2) z.height) (row / 2) (drop (start z row) p) ≡ get_or (rows_back z p) row []
row_back z row p h = go (row % 2) refl
  where
    go : (r : ℕ) → row % 2 ≡ r → row_taken z.width (rows_with r z.height) (row / 2) (drop (r * ((z.height + 1) / 2 * z.width)) p) ≡ get_or (rows_back z p) row []
    go zero e =
        let n : z.height + 1 - 0 ≡ z.height + 1 = omega arith in
        let k : 2 * (row / 2) ≡ row = omega arith in
        rw (n, zero-mul) (sym (back_even z p (row / 2) (omega arith)) ∙ ap (λ i. get_or (rows_back z p) i []) k)
    go (suc zero) e =
        let n : z.height + 1 - 1 ≡ z.height = omega arith in
        let k : 2 * (row / 2) + 1 ≡ row = omega arith in
        rw (n, one-mul) (sym (back_odd z p (row / 2) (omega arith)) ∙ ap (λ i. get_or (rows_back z p) i []) k)
    go (suc (suc r)) e = absurd (omega arith)

-- ── What the functions lend on ──

mid_length : (a n : ℕ) (l : List ℕ) → a + n ≤ length l → length (mid_of a (a + n - a) l) ≡ n
mid_length a n l h = let e : a + n - a ≡ n = omega arith in rw e (length-take-le n (drop a l) (omega (arith, length-drop a l)))

tail_lent : (a : ℕ) (l : List ℕ) → mid_of a (length l - a) l ≡ drop a l
tail_lent a l = take_all (length l - a) (drop a l) (omega (arith, length-drop a l))

module _ (z : Size) (parity k : ℕ) (samples half₀ half : List ℕ) (p : HalfLent z parity samples half₀) (h : k < rows_with parity z.height)
    (kept : length half ≡ length half₀) where
  pub parity_row_length : length (mid_of ((2 * k + parity) * z.width) ((2 * k + parity) * z.width + z.width - (2 * k + parity) * z.width) samples) ≡ z.width
  parity_row_length =
      let r = row_room z (2 * k + parity) p.within (omega (arith, p.bit)) in
      mid_length ((2 * k + parity) * z.width) z.width samples (omega (arith, p.read))

  pub put_lent : RowOfHalf (length (mid_of ((2 * k + parity) * z.width) ((2 * k + parity) * z.width + z.width - (2 * k + parity) * z.width) samples)) (rows_with parity z.height) k (length half)
  put_lent =
      rw parity_row_length
      record { wide = p.within.wide; few = omega (arith, p.within.high); below = h; room = omega (arith, p.written) }

module _ (z : Size) (row : ℕ) (planes to : List ℕ) (p : RowLent z row planes to) where
  pub take_lent : RowOfHalf (length to) (rows_with (row % 2) z.height) (row / 2) (length (mid_of (start z row) (length planes - start z row) planes))
  take_lent =
      let s = start_room z row p.below in
      rw (p.written, tail_lent (start z row) planes)
      record { wide = p.within.wide; few = omega (arith, p.within.high); below = s.1; room = omega (arith, length-drop (start z row) planes, p.read) }

  pub taken_back : (new : List ℕ)
      → new ≡ row_taken (length to) (rows_with (row % 2) z.height) (row / 2) (mid_of (start z row) (length planes - start z row) planes)
      → new ≡ get_or (rows_back z planes) row []
  taken_back new e = rw (p.written, tail_lent (start z row) planes, row_back z row planes p.below) at e

pub row_lent : (z : Size) (row : ℕ) (planes samples₀ samples : List ℕ) → PlanesLent z planes samples₀ → row < z.height → length samples ≡ length samples₀
    → RowLent z row planes (mid_of (row * z.width) (row * z.width + z.width - row * z.width) samples)
row_lent z row planes samples₀ samples p h kept =
    let r = row_room z row p.within h in
    record {
      within = p.within;
      below = h;
      read = p.read;
      written = mid_length (row * z.width) z.width samples (omega (arith, p.written));
    }

-- ── Half after half ──

module _ (z : Size) (samples planes : List ℕ) (p : PlanesLent z samples planes) where
  abbrev half : ℕ
  half = (z.height + 1) / 2 * z.width

  pub half_room : (half ≤ length planes) × (half ≤ 268_435_456)
  half_room =
      let m : z.width * z.height ≤ 16_384 * 16_384 = mul-le-mul p.within.wide p.within.high in
      (omega (arith, rows_all z.width z.height, p.written), omega (arith, rows_all z.width z.height))

  pub first_length : half ≡ length (take half planes)
  first_length = sym (length-take-le half planes half_room.0)

  pub first_lent : HalfLent z 0 samples (take half planes)
  first_lent =
      let e : z.height + 1 - 0 ≡ z.height + 1 = omega arith in
      record { within = p.within; bit = omega arith; read = p.read; written = rw e (sym first_length) }

  module _ (new : List ℕ) (kept : length new ≡ length (take half planes)) where
    new_length : length new ≡ half
    new_length = kept ∙ sym first_length

    pub second_room : half ≤ length (new ++ drop half planes)
    second_room = omega (arith, length-append new (drop half planes), new_length)

    second_part : mid_of half (length (new ++ drop half planes) - half) (new ++ drop half planes) ≡ drop half planes
    second_part = tail_lent half (new ++ drop half planes) ∙ drop_at new (drop half planes) half new_length

    pub second_lent : HalfLent z 1 samples (mid_of half (length (new ++ drop half planes) - half) (new ++ drop half planes))
    second_lent =
        let e : z.height + 1 - 1 ≡ z.height = omega arith in
        record {
          within = p.within;
          bit = omega arith;
          read = p.read;
          written = rw (second_part, e) (length-drop half planes ∙ omega (arith, rows_all z.width z.height, p.written));
        }

    pub both_halves : (newer : List ℕ) → new ≡ by_columns (evens (drop 0 (rows_of z samples))) → newer ≡ by_columns (evens (drop 1 (rows_of z samples)))
        → put_mid half (length (new ++ drop half planes) - half) (new ++ drop half planes) newer ≡ to_planes z samples
    unfolding to_planes
    both_halves newer e f =
        let none : drop (length (new ++ drop half planes) - half) (drop half (new ++ drop half planes)) ≡ [] =
        drop_of_length-le (drop half (new ++ drop half planes)) {i = length (new ++ drop half planes) - half} (omega (arith, length-drop half (new ++ drop half planes))) in
        ap₂ (λ x y. x ++ (newer ++ y)) (take_at new (drop half planes) half new_length) none
        ∙ ap (λ x. new ++ x) (append-nil newer) ∙ ap₂ (λ x y. x ++ y) e f

-- ── Row after row ──

-- The first r rows are written.
pub record Back (rs : List (List ℕ)) (w : ℕ) (f₀ f : List ℕ) (r : ℕ) : Type 0 where
  pub below : r ≤ length rs
  pub kept : length f ≡ length f₀
  pub rows_are : take (r * w) f ++ flatten (drop r rs) ≡ flatten rs

pub back_none : (rs : List (List ℕ)) (w : ℕ) (f : List ℕ) → Back rs w f f 0
back_none rs w f = record { below = omega arith; kept = refl; rows_are = rw (zero-mul w) }

pub back_more : {rs : List (List ℕ)} {w : ℕ} {f₀ f : List ℕ} {r : ℕ} (new : List ℕ) → r < length rs → r * w + w ≤ length f → length new ≡ w
    → new ≡ get_or rs r [] → Back rs w f₀ f r → Back rs w f₀ (put_mid (r * w) (r * w + w - r * w) f new) (r + 1)
unfolding flatten
back_more {rs} {w} {f₀} {f} {r} new h fits wide is b =
    let e : r * w + w - r * w ≡ w = omega arith in
    let m : (r + 1) * w ≡ r * w + w = omega arith in
    let t : length (take (r * w) f) ≡ r * w = length-take-le (r * w) f (omega arith) in
    let front : length (take (r * w) f ++ new) ≡ r * w + w = length-append (take (r * w) f) new ∙ ap₂ (λ x y. x + y) t wide in
    let rest = drop w (drop (r * w) f) in
    let all : put_mid (r * w) (r * w + w - r * w) f new ≡ (take (r * w) f ++ new) ++ rest = ap (λ k. put_mid (r * w) k f new) e ∙ sym (append_assoc (take (r * w) f) new rest) in
    let next : drop r rs ≡ new ∷ drop (r + 1) rs = rw (add-one r) (drop-cons rs r [] h ∙ ap (λ x. x ∷ drop (suc r) rs) (sym is)) in
    rw all
    record {
      below = omega arith;
      kept = length-append (take (r * w) f ++ new) rest ∙ omega (arith, front, length-drop w (drop (r * w) f), length-drop (r * w) f, b.kept);
      rows_are =
          ap (λ x. x ++ flatten (drop (r + 1) rs)) (ap (λ k. take k ((take (r * w) f ++ new) ++ rest)) m ∙ take_at (take (r * w) f ++ new) rest (r * w + w) front)
          ∙ append_assoc (take (r * w) f) new (flatten (drop (r + 1) rs))
          ∙ sym (ap (λ x. take (r * w) f ++ flatten x) next) ∙ b.rows_are;
    }

pub back_all : {rs : List (List ℕ)} {w : ℕ} {f₀ f : List ℕ} {r : ℕ} → length rs ≤ r → length f₀ ≤ length rs * w → Back rs w f₀ f r → f ≡ flatten rs
unfolding flatten
back_all {rs} {w} {f₀} {f} {r} h fits b =
    let e : r ≡ length rs = omega (arith, b.below) in
    let none : drop r rs ≡ [] = drop_of_length-le rs {i = r} h in
    let all : take (r * w) f ≡ f = rw e (take_all (length rs * w) f (omega (arith, b.kept))) in
    rw (none, append-nil, all) at b.rows_are
