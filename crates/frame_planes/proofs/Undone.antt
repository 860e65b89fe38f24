-- Each way undoes the other, on every frame of every size.
use mathlib.Core.Path.{◌≡◌, refl, sym, ap, ap₂, ◌∙◌}
use mathlib.Core.List.{List, [], ◌∷◌, ◌++◌, flatten, flat_map, append_assoc, append-nil}
use Prim.Native.Nat.{ℕ, zero, suc, ◌+◌, ◌*◌, ◌≤◌}
use native.Mathlib.Omega.{arith}
use native.Mathlib.Nat.{mul_comm, mul-add, add-mul, zero-mul}
use lib.ListN.{length, take, drop, length-drop, length-append, take-append-drop}
use lib.Seq.{length-take-le, take_at, drop_at, take-add, take_all}
use Rattle.rules.specs.declared.answer.Size.{Size}
use Rattle.rules.specs.Frame.{cells}
use Rattle.rules.proofs.Cells.{All, all_drop}
use Rattle.rules.proofs.Cells.All.{nil, more}
use Rattle.frame_planes.specs.Planes.{evens, odds, rows, by_columns, to_planes, even_count, odd_count, weave, woven, from_columns, rows_back, from_planes}
use Rattle.frame_planes.proofs.Lists.{evens_length, odds_length, weave_evens_odds, columns_weave, weave_length, all_evens, all_weave}

pub halves : (n : ℕ) → even_count n + odd_count n ≡ n
halves n = omega arith

-- Both halves of the columns are all columns, and both halves of the rows all rows.
pub columns_all : (n w : ℕ) → n * even_count w + n * odd_count w ≡ n * w
columns_all n w = sym (mul-add n (even_count w) (odd_count w)) ∙ ap (λ k. n * k) (halves w)

pub rows_all : (w h : ℕ) → even_count h * w + odd_count h * w ≡ w * h
rows_all w h = sym (add-mul (even_count h) (odd_count h) w) ∙ ap (λ k. k * w) (halves h) ∙ mul_comm h w

module _ {A : Type 0} where
  -- Rows of w samples each.
  abbrev pub Wide : ℕ → List (List A) → Type 0
  Wide w rs = All (λ r. length r ≡ w) rs

  -- ── A frame is its rows ──

  pub rows_length : (w n : ℕ) (f : List A) → length (rows w n f) ≡ n
  unfolding rows
  rows_length w zero f = refl
  rows_length w (suc n) f = ap suc (rows_length w n (drop w f))

  pub rows_wide : (w n : ℕ) (f : List A) → n * w ≤ length f → Wide w (rows w n f)
  unfolding rows
  rows_wide w zero f l = nil
  rows_wide w (suc n) f l =
      let t : length (take w f) ≡ w = length-take-le w f (omega arith) in
      more t (rows_wide w n (drop w f) (omega (arith, length-drop w f)))

  flatten_rows : (w n : ℕ) (f : List A) → length f ≡ n * w → flatten (rows w n f) ≡ f
  unfolding rows flatten
  flatten_rows w zero [] e = refl
  flatten_rows w zero (a ∷ f) e = absurd (omega arith)
  flatten_rows w (suc n) f e =
      ap (λ l. take w f ++ l) (flatten_rows w n (drop w f) (omega (arith, length-drop w f))) ∙ take-append-drop w f

  rows_flatten : (w : ℕ) {rs : List (List A)} → Wide w rs → rows w (length rs) (flatten rs) ≡ rs
  unfolding rows flatten
  rows_flatten w nil = refl
  rows_flatten w (more {a = r} {xs = rs} e es) =
      ap₂ (λ l m. l ∷ m) (take_at r (flatten rs) w e) (ap (rows w (length rs)) (drop_at r (flatten rs) w e) ∙ rows_flatten w es)

  -- ── Rows of one parity, by columns and back ──

  part_length : (part : List A → List A) (count : ℕ → ℕ) → ((r : List A) → length (part r) ≡ count (length r)) → (w : ℕ) {rs : List (List A)} → Wide w rs
      → length (flat_map part rs) ≡ length rs * count w
  unfolding flat_map
  part_length part count counted w nil = omega arith
  part_length part count counted w (more {a = r} {xs = rs} e es) =
      omega (arith, length-append (part r) (flat_map part rs), ap count e, counted r, part_length part count counted w es)

  pub by_columns_length : (w : ℕ) {rs : List (List A)} → Wide w rs → length (by_columns rs) ≡ length rs * w
  unfolding by_columns
  by_columns_length w {rs} ws =
      length-append (flat_map evens rs) (flat_map odds rs) ∙ ap₂ (λ a b. a + b) (part_length evens even_count evens_length w ws) (part_length odds odd_count odds_length w ws) ∙ columns_all (length rs) w

  -- Rows woven out of their own columns.
  woven_columns : (w : ℕ) {rs : List (List A)} → Wide w rs → (s t : List A)
      → woven (even_count w) (odd_count w) (length rs) (flat_map evens rs ++ s) (flat_map odds rs ++ t) ≡ rs
  unfolding woven flat_map
  woven_columns w nil s t = refl
  woven_columns w (more {a = r} {xs = rs} e es) s t =
      let le : length (evens r) ≡ even_count w = evens_length r ∙ ap even_count e in
      let lo : length (odds r) ≡ odd_count w = odds_length r ∙ ap odd_count e in
      rw (append_assoc (evens r) (flat_map evens rs) s, append_assoc (odds r) (flat_map odds rs) t, take_at (evens r) (flat_map evens rs ++ s) _ le, take_at (odds r) (flat_map odds rs ++ t) _ lo, drop_at (evens r) (flat_map evens rs ++ s) _ le, drop_at (odds r) (flat_map odds rs ++ t) _ lo)
      (ap₂ (λ l m. l ∷ m) (weave_evens_odds r) (woven_columns w es s t))

  from_by_columns : (w n : ℕ) {rs : List (List A)} → Wide w rs → length rs ≡ n → (t : List A) → from_columns w n (by_columns rs ++ t) ≡ rs
  unfolding by_columns
  from_by_columns w n {rs} ws e t =
      let d : length (flat_map evens rs) ≡ n * even_count w = part_length evens even_count evens_length w ws ∙ ap (λ k. k * even_count w) e in
      rw (append_assoc (flat_map evens rs) (flat_map odds rs) t, drop_at (flat_map evens rs) (flat_map odds rs ++ t) _ d, ← e) (woven_columns w ws (flat_map odds rs ++ t) t)

  -- Columns of woven rows.
  module _ (w : ℕ) where
    columns_woven : (n : ℕ) (p q : List A) → n * even_count w ≤ length p → n * odd_count w ≤ length q
        → (flat_map evens (woven (even_count w) (odd_count w) n p q) ≡ take (n * even_count w) p)
        × (flat_map odds (woven (even_count w) (odd_count w) n p q) ≡ take (n * odd_count w) q)
    unfolding woven flat_map
    columns_woven zero p q a b = rw (zero-mul (even_count w), zero-mul (odd_count w)) (refl, refl)
    columns_woven (suc n) p q a b =
        let e = length-take-le (even_count w) p (omega arith) in
        let o = length-take-le (odd_count w) q (omega arith) in
        let r = columns_weave (take (even_count w) p) (take (odd_count w) q) (omega arith) (omega arith) in
        let k = columns_woven n (drop (even_count w) p) (drop (odd_count w) q) (omega (arith, length-drop (even_count w) p)) (omega (arith, length-drop (odd_count w) q)) in
        (ap₂ ◌++◌ r.0 k.0 ∙ sym (take_more (even_count w) p), ap₂ ◌++◌ r.1 k.1 ∙ sym (take_more (odd_count w) q))
      where
        take_more : (i : ℕ) (l : List A) → take (suc n * i) l ≡ take i l ++ take (n * i) (drop i l)
        take_more i l = let m : suc n * i ≡ i + n * i = omega arith in ap (λ k. take k l) m ∙ take-add i (n * i) l

    woven_wide : (n : ℕ) (p q : List A) → n * even_count w ≤ length p → n * odd_count w ≤ length q → Wide w (woven (even_count w) (odd_count w) n p q)
    unfolding woven
    woven_wide zero p q a b = nil
    woven_wide (suc n) p q a b =
        let t : length (weave (take (even_count w) p) (take (odd_count w) q)) ≡ w =
        weave_length (take (even_count w) p) (take (odd_count w) q)
        ∙ ap₂ (λ x y. x + y) (length-take-le (even_count w) p (omega arith)) (length-take-le (odd_count w) q (omega arith)) ∙ halves w in
        more t (woven_wide n (drop (even_count w) p) (drop (odd_count w) q) (omega (arith, length-drop (even_count w) p)) (omega (arith, length-drop (odd_count w) q)))

  pub woven_length : (e o n : ℕ) (p q : List A) → length (woven e o n p q) ≡ n
  unfolding woven
  woven_length e o zero p q = refl
  woven_length e o (suc n) p q = ap suc (woven_length e o n (drop e p) (drop o q))

  -- What one plane and the next hold, where they have room for n rows.
  columns_room : (w n : ℕ) (p : List A) → n * w ≤ length p → (n * even_count w ≤ length p) × (n * odd_count w ≤ length (drop (n * even_count w) p))
  columns_room w n p l =
      let c = columns_all n w in (omega arith, omega (arith, length-drop (n * even_count w) p))

  by_from_columns : (w n : ℕ) (p : List A) → n * w ≤ length p → by_columns (from_columns w n p) ≡ take (n * w) p
  unfolding by_columns
  by_from_columns w n p l =
      let r = columns_room w n p l in
      let c = columns_woven w n _ _ r.0 r.1 in
      ap₂ ◌++◌ c.0 c.1
      ∙ sym (take-add (n * even_count w) (n * odd_count w) p) ∙ ap (λ k. take k p) (columns_all n w)

  pub from_columns_wide : (w n : ℕ) (p : List A) → n * w ≤ length p → Wide w (from_columns w n p)
  from_columns_wide w n p l = let r = columns_room w n p l in woven_wide w n _ _ r.0 r.1

  -- ── Both parities ──

  -- The planes' samples go back to where they were.
  pub from_to_planes : (z : Size) (f : List A) → length f ≡ cells z → from_planes z (to_planes z f) ≡ f
  unfolding to_planes rows_back
  from_to_planes z f e =
      let w = z.width in
      let h = z.height in
      let rs = rows w h f in
      let ws : Wide w rs = rows_wide w h f (omega (arith, mul_comm w h)) in
      let we : Wide w (evens rs) = all_evens _ ws in
      let wo : Wide w (odds rs) = all_evens _ (all_drop _ 1 ws) in
      let le : length (evens rs) ≡ even_count h = evens_length rs ∙ ap even_count (rows_length w h f) in
      let lo : length (odds rs) ≡ odd_count h = odds_length rs ∙ ap odd_count (rows_length w h f) in
      let d : length (by_columns (evens rs)) ≡ even_count h * w = by_columns_length w we ∙ ap (λ k. k * w) le in
      let first : from_columns w (even_count h) (by_columns (evens rs) ++ by_columns (odds rs)) ≡ evens rs = from_by_columns w _ we le (by_columns (odds rs)) in
      let second : from_columns w (odd_count h) (by_columns (odds rs)) ≡ odds rs = rw append-nil at (from_by_columns w (odd_count h) wo lo []) in
      ap flatten
      (ap₂ weave first (ap (from_columns w (odd_count h)) (drop_at (by_columns (evens rs)) (by_columns (odds rs)) _ d) ∙ second) ∙ weave_evens_odds rs)
      ∙ flatten_rows w h f (e ∙ mul_comm w h)

  -- The frame's samples make the planes that they came from.
  pub to_from_planes : (z : Size) (p : List A) → length p ≡ cells z → to_planes z (from_planes z p) ≡ p
  unfolding to_planes rows_back
  to_from_planes z p e =
      let w = z.width in
      let h = z.height in
      let n = even_count h in
      let m = odd_count h in
      let q = drop (n * w) p in
      let all = rows_all w h in
      let rest : length q ≡ m * w = length-drop (n * w) p ∙ omega arith in
      let us = from_columns w n p in
      let vs = from_columns w m q in
      let lu : length us ≡ n = woven_length _ _ n _ _ in
      let lv : length vs ≡ m = woven_length _ _ m _ _ in
      let wide : Wide w (weave us vs) = all_weave _ (from_columns_wide w n p (omega arith)) (from_columns_wide w m q (omega arith)) in
      let high : length (weave us vs) ≡ h = weave_length us vs ∙ ap₂ (λ x y. x + y) lu lv ∙ halves h in
      let rs : rows w h (flatten (weave us vs)) ≡ weave us vs = rw high at (rows_flatten w wide) in
      let c = columns_weave us vs (omega arith) (omega arith) in
      ap₂ (λ x y. by_columns x ++ by_columns y) (ap evens rs ∙ c.0) (ap odds rs ∙ c.1)
      ∙ ap₂ (λ x y. x ++ y) (by_from_columns w n p (omega arith)) (by_from_columns w m q (omega arith) ∙ take_all (m * w) q (omega arith))
      ∙ take-append-drop (n * w) p
