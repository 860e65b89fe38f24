-- Planes have as many samples as their frame, and what holds for each sample of the one holds for each of the other.
use Prim.Native.Nat.{ℕ, zero, suc, ◌+◌, ◌*◌}
use mathlib.Core.Path.{◌≡◌, ap, ap₂, ◌∙◌}
use mathlib.Core.List.{List, flatten, flat_map}
use native.Mathlib.Omega.{arith}
use native.Mathlib.Nat.{mul_comm}
use lib.ListN.{length, drop, length-append, length-drop}
use Rattle.rules.specs.declared.answer.Size.{Size}
use Rattle.rules.specs.Frame.{cells}
use Rattle.rules.proofs.Cells.{All, all_append, all_take, all_drop}
use Rattle.rules.proofs.Cells.All.{nil, more}
use Rattle.frame_planes.specs.Planes.{evens, odds, rows, by_columns, to_planes, even_count, odd_count, weave, woven, from_columns, rows_back, from_planes}
use Rattle.frame_planes.proofs.Lists.{evens_length, odds_length, weave_length, all_evens, all_weave}
use Rattle.frame_planes.proofs.Undone.{halves, rows_all, Wide, rows_length, rows_wide, by_columns_length, woven_length, from_columns_wide}

module _ {A : Type 0} where
  -- ── As many ──

  pub to_length : (z : Size) (f : List A) → length f ≡ cells z → length (to_planes z f) ≡ cells z
  unfolding to_planes
  to_length z f e =
      let w = z.width in
      let h = z.height in
      let rs = rows w h f in
      let ws : Wide w rs = rows_wide w h f (omega (arith, mul_comm w h)) in
      let first : length (by_columns (evens rs)) ≡ even_count h * w = by_columns_length w (all_evens _ ws) ∙ ap (λ k. k * w) (evens_length rs ∙ ap even_count (rows_length w h f)) in
      let second : length (by_columns (odds rs)) ≡ odd_count h * w = by_columns_length w (all_evens _ (all_drop _ 1 ws)) ∙ ap (λ k. k * w) (odds_length rs ∙ ap odd_count (rows_length w h f)) in
      length-append (by_columns (evens rs)) (by_columns (odds rs)) ∙ ap₂ (λ x y. x + y) first second ∙ rows_all w h

  flatten_length : (w : ℕ) {rs : List (List A)} → Wide w rs → length (flatten rs) ≡ length rs * w
  unfolding flatten
  flatten_length w nil = omega arith
  flatten_length w (more {a = r} {xs = rs} e es) = omega (arith, length-append r (flatten rs), e, flatten_length w es)

  pub from_length : (z : Size) (p : List A) → length p ≡ cells z → length (from_planes z p) ≡ cells z
  unfolding rows_back
  from_length z p e =
      let w = z.width in
      let h = z.height in
      let n = even_count h in
      let m = odd_count h in
      let q = drop (n * w) p in
      let all = rows_all w h in
      let rest : length q ≡ m * w = length-drop (n * w) p ∙ omega arith in
      let us = from_columns w n p in
      let vs = from_columns w m q in
      let wide : Wide w (weave us vs) = all_weave _ (from_columns_wide w n p (omega arith)) (from_columns_wide w m q (omega arith)) in
      let high : length (weave us vs) ≡ h = weave_length us vs ∙ ap₂ (λ x y. x + y) (woven_length _ _ n _ _) (woven_length _ _ m _ _) ∙ halves h in
      flatten_length w wide ∙ ap (λ k. k * w) high ∙ mul_comm h w

  -- ── Each sample ──

  module _ (P : A → Type 0) where
    all_rows : (w n : ℕ) {f : List A} → All P f → All (λ r. All P r) (rows w n f)
    unfolding rows
    all_rows w zero h = nil
    all_rows w (suc n) h = more (all_take P w h) (all_rows w n (all_drop P w h))

    all_flat : (part : List A → List A) → ((r : List A) → All P r → All P (part r)) → {rs : List (List A)} → All (λ r. All P r) rs → All P (flat_map part rs)
    unfolding flat_map
    all_flat part g nil = nil
    all_flat part g (more h hs) = all_append P (g _ h) (all_flat part g hs)

    all_columns : {rs : List (List A)} → All (λ r. All P r) rs → All P (by_columns rs)
    unfolding by_columns
    all_columns hs = all_append P (all_flat evens (λ r h. all_evens P h) hs) (all_flat odds (λ r h. all_evens P (all_drop P 1 h)) hs)

    pub all_to : (z : Size) {f : List A} → All P f → All P (to_planes z f)
    unfolding to_planes
    all_to z h =
        let hs = all_rows z.width z.height h in
        all_append P (all_columns (all_evens _ hs)) (all_columns (all_evens _ (all_drop _ 1 hs)))

    all_woven : (e o n : ℕ) {p q : List A} → All P p → All P q → All (λ r. All P r) (woven e o n p q)
    unfolding woven
    all_woven e o zero h k = nil
    all_woven e o (suc n) h k = more (all_weave P (all_take P e h) (all_take P o k)) (all_woven e o n (all_drop P e h) (all_drop P o k))

    all_flatten : {rs : List (List A)} → All (λ r. All P r) rs → All P (flatten rs)
    unfolding flatten
    all_flatten nil = nil
    all_flatten (more h hs) = all_append P h (all_flatten hs)

    pub all_from : (z : Size) {p : List A} → All P p → All P (from_planes z p)
    unfolding rows_back
    all_from z {p} h =
        let e = even_count z.width in
        let o = odd_count z.width in
        let n = even_count z.height in
        let k = all_drop P (n * z.width) h in
        all_flatten (all_weave _ (all_woven e o n h (all_drop P (n * e) h)) (all_woven e o (odd_count z.height) k (all_drop P (odd_count z.height * e) k)))
