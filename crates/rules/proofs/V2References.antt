-- When a motion block refers to outside its frame: exactly at row 2, column 0, motion 0, 1 or 2, and there to before it. Every
-- other reference lies in the frame, since the highest one is at most row times width + 3. All of it holds at every size that
-- has room for a block.
use Prim.Native.Nat.{ℕ, zero, suc, ◌+◌, ◌-◌, ◌*◌, ◌%◌, ◌≤◌, ◌<◌}
use mathlib.Core.List.{[], ◌∷◌}
use mathlib.Core.Path.{◌≡◌, refl, sym, ◌∙◌}
use mathlib.Core.Bool.{true, false, ◌&&◌, cond}
use native.Mathlib.Decide.{ℕ_discrete}
use native.Mathlib.Nat.{mul-le-mul_right}
use native.Mathlib.Omega.{arith}
use lib.Dec.{eqb, ltb, lit≤}
use lib.IntN.{pos, negsuc, nat_abs, sub_ℕ, ◌+ℤ◌}
use borrow.Author.Tests.{lt-ltb, le-ltb, lt-leb, ltb-true, ltb-false, eqb-true}
use Rattle.rules.specs.declared.answer.Size.{Size}
use Rattle.rules.specs.Frame.{cells}
use Rattle.rules.specs.V2.{reference, refers_before, base_refusal}
use Rattle.rules.specs.References.{outside, strays, any_strays, tested_refusal}
use Rattle.rules.specs.Ranges.{offset_4, reference_5}
use Rattle.rules.proofs.Cells.{All, nil, more, all_get}
use Rattle.rules.proofs.Tests.{both, by-test, or_true}
use Rattle.rules.proofs.V2Places.{block_inside, further, reference_is, reference_row}

-- ── The highest reference ──

-- A reference at position p, with the place that averaging reads, is at most row times width + 3.
pub highest_reference : (w row col motion i p : ℕ) → 2 ≤ row → i < 16 → col + 16 ≤ w → reference w row col motion i ≡ pos p
    → p + further motion ≤ row * w + 3
highest_reference w row col motion i p two l fits e =
    let r = reference_5 w row col motion i in
    let at : cond (ltb r 5) (negsuc (5 - suc r)) (pos (r - 5)) ≡ pos p = sym (reference_is w row col motion i) ∙ e in
    by-test (ltb r 5)
    (λ h. let q : negsuc (5 - suc r) ≡ pos p = rw h at at in let z : ◌≡◌ {A = ℕ} 0 1 = cc in absurd (omega arith))
    (λ h. let q : pos (r - 5) ≡ pos p = rw h at at in let z : r - 5 ≡ p = cc in omega (arith, ltb-false r 5 h, reference_row w row col motion i two l fits))

-- ── The lowest ──

-- The offsets of motions 0, 1 and 2 are −4 and −2; the others' are not below 0.
offset_early : (motion : ℕ) → motion < 3 → offset_4 motion ≤ 2
unfolding offset_4
offset_early zero h = lit≤ tt
offset_early (suc zero) h = lit≤ tt
offset_early (suc (suc zero)) h = lit≤ tt
offset_early (suc (suc (suc m))) h = absurd (omega arith)

offset_late : (motion : ℕ) → 3 ≤ motion → 4 ≤ offset_4 motion
unfolding offset_4
offset_late zero h = absurd (omega arith)
offset_late (suc zero) h = absurd (omega arith)
offset_late (suc (suc zero)) h = absurd (omega arith)
offset_late (suc (suc (suc m))) h = all_get (λ z. 4 ≤ nat_abs (z +ℤ pos 4)) table m (pos 0) (lit≤ tt)
  where
    table : All (λ z. 4 ≤ nat_abs (z +ℤ pos 4)) (pos 0 ∷ pos 0 ∷ pos 2 ∷ pos 4 ∷ [])
    table = more (lit≤ tt) (more (lit≤ tt) (more (lit≤ tt) (more (lit≤ tt) nil)))

late_motion : (row col motion : ℕ) → refers_before row col motion ≡ false → row ≡ 2 → col ≡ 0 → 3 ≤ motion
unfolding refers_before
late_motion row col motion e er ec = ltb-false motion 3 (rw (er, ec) at e)

module _ (w row col motion : ℕ) (two : 2 ≤ row) (wide : 16 ≤ w) (column : col % 16 ≡ 0) (e : refers_before row col motion ≡ false) where
  -- No reference is below 0.
  pub reference_least : (i : ℕ) → 5 ≤ reference_5 w row col motion i
  unfolding reference_5
  reference_least i =
      by-test (eqb ((row + i) % 2) 1)
      (λ f. rw f (two_up (eqb-true ((row + i) % 2) 1 f) (ℕ_discrete row 2)))
      (λ f. rw f (omega (arith, up (row - 1) (omega arith))))
    where
      up : (k : ℕ) → 1 ≤ k → w ≤ k * w
      up k h = let q : 1 * w ≤ k * w = mul-le-mul_right w h in omega arith

      first : (row + i) % 2 ≡ 1 → row ≡ 2 → Dec (col ≡ 0) → 5 ≤ (row - 2) * w + col + i + offset_4 motion + 1
      first odd er (yes ec) = omega (arith, offset_late motion (late_motion row col motion e er ec))
      first odd er (no nc) = omega arith

      two_up : (row + i) % 2 ≡ 1 → Dec (row ≡ 2) → 5 ≤ (row - 2) * w + col + i + offset_4 motion + 1
      two_up odd (yes er) = first odd er (ℕ_discrete col 0)
      two_up odd (no nr) = omega (arith, up (row - 2) (omega arith))

  -- Each reference, with averaging, lies among n samples that hold the block.
  pub reference_inside : (n i : ℕ) → i < 16 → col + 16 ≤ w → row * w + col + 16 ≤ n
      → (5 ≤ reference_5 w row col motion i) × (reference_5 w row col motion i - 5 + further motion < n)
  reference_inside n i l fits room = (reference_least i, omega (arith, reference_least i, reference_row w row col motion i two l fits))

-- ── Number 6 ──

module _ (n w row col motion : ℕ) where
  strays_is : (i : ℕ) → strays n w row col motion i ≡ outside n (further motion) (sub_ℕ (reference_5 w row col motion i) 5)
  unfolding strays
  strays_is i = rw (reference_is w row col motion i)

  stray_low : (i : ℕ) → reference_5 w row col motion i < 5 → strays n w row col motion i ≡ true
  unfolding outside
  stray_low i l = rw (strays_is i, lt-ltb (reference_5 w row col motion i) 5 l)

  none_strays : (k i : ℕ) → ((j : ℕ) → j < i + k → strays n w row col motion j ≡ false) → any_strays n w row col motion k i ≡ false
  unfolding any_strays
  none_strays zero i h = refl
  none_strays (suc k) i h = rw (h i (omega arith)) (none_strays k (suc i) (λ j l. h j (omega arith)))

  inside_stays : (i : ℕ) → (5 ≤ reference_5 w row col motion i) × (reference_5 w row col motion i - 5 + further motion < n) → strays n w row col motion i ≡ false
  unfolding outside
  inside_stays i q = rw (strays_is i, le-ltb (reference_5 w row col motion i) 5 q.0) (lt-leb n (reference_5 w row col motion i - 5 + further motion) q.1)

  -- Sample 1 refers to before the frame.
  low : row ≡ 2 → col ≡ 0 → motion < 3 → reference_5 w row col motion 1 < 5
  unfolding reference_5
  low er ec h = rw (er, ec) (omega (arith, offset_early motion h))

  one_strays : row ≡ 2 → col ≡ 0 → motion < 3 → any_strays n w row col motion 16 0 ≡ true
  unfolding any_strays
  one_strays er ec h = rw (stray_low 1 (low er ec h)) (or_true (strays n w row col motion 0))

module _ (n w row col motion : ℕ) (two : 2 ≤ row) (fits : col + 16 ≤ w) (column : col % 16 ≡ 0) (room : row * w + col + 16 ≤ n) where
  -- A reference is outside exactly at row 2, column 0, motion 0, 1 or 2.
  pub strays_exactly : any_strays n w row col motion 16 0 ≡ refers_before row col motion
  unfolding refers_before
  strays_exactly =
      by-test (refers_before row col motion)
      (λ e. rw e (let p = both (eqb row 2) (eqb col 0 && ltb motion 3) e in
      let q = both (eqb col 0) (ltb motion 3) p.1 in
      one_strays n w row col motion (eqb-true row 2 p.0) (eqb-true col 0 q.0) (ltb-true motion 3 q.1)))
      (λ e. rw e (none_strays n w row col motion 16 0
      (λ j l. inside_stays n w row col motion j (reference_inside w row col motion two (omega arith) column e n j l fits room))))

-- So the rule is the test of all references, in every frame and at every block.
pub refusal_tested : (z : Size) (row col motion : ℕ) → row < z.height → col + 16 ≤ z.width → col % 16 ≡ 0
    → base_refusal row col motion ≡ tested_refusal (cells z) z.width row col motion
unfolding base_refusal tested_refusal
refusal_tested z row col motion below fits column =
    by-test (eqb motion 7)
    (λ e. rw e)
    (λ f. rw f (by-test (ltb row 2)
    (λ e. rw e)
    (λ e. rw e (rw (strays_exactly (cells z) z.width row col motion (ltb-false row 2 e) fits column (block_inside z row col below fits))))))
