-- Every second element, and two lists in turn: each undoes the other, and what stands where.
use mathlib.Core.Path.{◌≡◌, refl, sym, ap, ◌∙◌}
use mathlib.Core.List.{List, [], ◌∷◌}
use Prim.Native.Nat.{ℕ, zero, suc, ◌+◌, ◌-◌, ◌*◌, ◌/◌, ◌≤◌}
use native.Mathlib.Omega.{arith}
use native.Mathlib.Nat.{add_comm}
use lib.ListN.{length, get_or, drop, length-drop}
use lib.Seq.{get_or-drop}
use Rattle.rules.proofs.Cells.{All}
use Rattle.rules.proofs.Cells.All.{nil, more}
use Rattle.frame_planes.specs.Planes.{evens, odds, weave}

module _ {A : Type 0} where
  -- ── Every second ──

  pub evens_more : (a : A) (l : List A) → evens (a ∷ l) ≡ a ∷ odds l
  unfolding evens
  evens_more a [] = refl
  evens_more a (b ∷ l) = refl

  pub evens_length : (l : List A) → length (evens l) ≡ (length l + 1) / 2
  unfolding evens
  evens_length [] = omega arith
  evens_length (a ∷ []) = omega arith
  evens_length (a ∷ b ∷ l) = omega (arith, evens_length l)

  pub odds_length : (l : List A) → length (odds l) ≡ length l / 2
  unfolding evens
  odds_length [] = omega arith
  odds_length (a ∷ l) = omega (arith, evens_length l)

  pub evens_get : (l : List A) (k : ℕ) (d : A) → get_or (evens l) k d ≡ get_or l (2 * k) d
  unfolding evens
  evens_get [] k d = refl
  evens_get (a ∷ []) zero d = refl
  evens_get (a ∷ []) (suc k) d = let e : 2 * suc k ≡ suc (suc (2 * k)) = omega arith in rw e
  evens_get (a ∷ b ∷ l) zero d = refl
  evens_get (a ∷ b ∷ l) (suc k) d = let e : 2 * suc k ≡ suc (suc (2 * k)) = omega arith in rw e (evens_get l k d)

  -- Every second from the first place or the second on.
  pub columns_get : (l : List A) (first k : ℕ) (d : A) → get_or (evens (drop first l)) k d ≡ get_or l (2 * k + first) d
  columns_get l first k d = evens_get (drop first l) k d ∙ get_or-drop first l (2 * k) d ∙ ap (λ i. get_or l i d) (add_comm first (2 * k))

  pub columns_length : (l : List A) (first : ℕ) → first ≤ 1 → length (evens (drop first l)) ≡ (length l + 1 - first) / 2
  columns_length l first h = evens_length (drop first l) ∙ ap (λ n. (n + 1) / 2) (length-drop first l) ∙ omega arith

  -- ── In turn ──

  -- A list is its even places and its odd ones in turn.
  pub weave_evens_odds : (l : List A) → weave (evens l) (odds l) ≡ l
  unfolding evens weave
  weave_evens_odds [] = refl
  weave_evens_odds (a ∷ []) = refl
  weave_evens_odds (a ∷ b ∷ l) = rw (evens_more b l) (ap (λ m. a ∷ b ∷ m) (weave_evens_odds l))

  -- Of two lists in turn, of which the first has as many elements as the second or one more, the even places are the one and the
  -- odd ones the other.
  pub columns_weave : (l m : List A) → length m ≤ length l → length l ≤ length m + 1 → (evens (weave l m) ≡ l) × (odds (weave l m) ≡ m)
  unfolding evens weave
  columns_weave [] [] p q = (refl, refl)
  columns_weave [] (b ∷ m) p q = absurd (omega arith)
  columns_weave (a ∷ []) [] p q = (refl, refl)
  columns_weave (a ∷ b ∷ l) [] p q = absurd (omega arith)
  columns_weave (a ∷ l) (b ∷ m) p q =
      let r = columns_weave l m (omega arith) (omega arith) in (ap (λ k. a ∷ k) r.0, evens_more b (weave l m) ∙ ap (λ k. b ∷ k) r.1)

  module _ (l m : List A) (p : length m ≤ length l) (q : length l ≤ length m + 1) where
    pub weave_even : (k : ℕ) (d : A) → get_or (weave l m) (2 * k) d ≡ get_or l k d
    weave_even k d = sym (evens_get (weave l m) k d) ∙ ap (λ x. get_or x k d) (columns_weave l m p q).0

    pub weave_odd : (k : ℕ) (d : A) → get_or (weave l m) (2 * k + 1) d ≡ get_or m k d
    weave_odd k d = sym (columns_get (weave l m) 1 k d) ∙ ap (λ x. get_or x k d) (columns_weave l m p q).1

  pub weave_length : (l m : List A) → length (weave l m) ≡ length l + length m
  unfolding weave
  weave_length [] m = omega arith
  weave_length (a ∷ l) [] = omega arith
  weave_length (a ∷ l) (b ∷ m) = omega (arith, weave_length l m)

  -- ── What holds of every element ──

  pub all_evens : (P : A → Type 0) {l : List A} → All P l → All P (evens l)
  unfolding evens
  all_evens P nil = nil
  all_evens P (more a nil) = more a nil
  all_evens P (more a (more b ps)) = more a (all_evens P ps)

  pub all_weave : (P : A → Type 0) {l m : List A} → All P l → All P m → All P (weave l m)
  unfolding weave
  all_weave P nil qs = qs
  all_weave P (more p ps) nil = more p ps
  all_weave P (more p ps) (more q qs) = more p (more q (all_weave P ps qs))
