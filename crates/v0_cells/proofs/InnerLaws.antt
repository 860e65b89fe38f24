-- An inner block: no sample of it is skipped, so that its operations are its residuals with their predictors.
use Rattle.std.proofs.Common.{◌≡◌, ℕ, suc, ◌+◌, ◌-◌, ◌*◌, ◌%◌, ◌<◌, ◌≤◌, Bool, true, false, List, [], ◌∷◌, ◌++◌, length, get_or, drop, set, sym, refl, ap, ◌∙◌, inl, inr, mul-le-mul_right, mul_comm, add-mul, mul-add, add-one, arith, drop-cons, ne_eqb}
use Rattle.rules.specs.Frame.{cells}
use Rattle.rules.specs.Phases.{late_predictor}
use Rattle.rules.specs.V0.{Kind, put, apply, predictor, limit, order, rows_up}
use Rattle.rules.specs.Map.{v0_marks}
use Rattle.rules.specs.declared.answer.Size.{Size}
use Rattle.rules.specs.declared.v0.Predictor.TheVariants.{Sample}
use Rattle.rules.specs.declared.v0.V0Op.{V0Op}
use Rattle.rules.proofs.Predictors.{predictor_late}
use Rattle.v0_cells.specs.Places.{Inner, Inside, Low, Whole}
use Rattle.v0_cells.specs.Inner.{source_of, inner_ops}
use Rattle.v0_cells.proofs.CellLaws.{product, apply_empty, ops_walk, Left, left_begun, left_on, left_none}

-- ── The source of a sample ──

pub rows_most : (w c : ℕ) → rows_up c * w ≤ 2 * w
rows_most w c = mul-le-mul_right w (omega arith)

module _ (w base c : ℕ) (above : 2 * w ≤ base) (fits : Low base) (l : c < 16) where
  pub up_fits : Low ((1 + c % 2) * w)
  up_fits = omega (arith, rows_most w c)

  pub up_before : (1 + c % 2) * w ≤ base + c
  up_before = omega (arith, rows_most w c)

pub source_up : (w base : ℕ) (up : Bool) (c : ℕ) → up ≡ true → base + c - (1 + c % 2) * w ≡ source_of w base up c
unfolding source_of
source_up w base up c e = rw e

pub source_left : (w base : ℕ) (up : Bool) (c : ℕ) → up ≡ false → base - (2 - c % 2) ≡ source_of w base up c
unfolding source_of
source_left w base up c e = rw e

row_split : (w row n : ℕ) → n ≤ row → (row - n) * w + n * w ≡ row * w
row_split w row n l = let e : row - n + n ≡ row = omega arith in sym (add-mul (row - n) n w) ∙ ap (λ m. m * w) e

-- From row 2 on and after column 0 that is its predictor.
pub late_source : (w row col : ℕ) (up : Bool) (c : ℕ) → 2 ≤ row → 0 < col → late_predictor w row col up c ≡ Sample (source_of w (row * w + col) up c)
unfolding late_predictor source_of
late_source w row col true c two after =
    let e : (row - rows_up c) * w + col + c ≡ row * w + col + c - rows_up c * w = omega (arith, row_split w row (rows_up c) (omega arith)) in ap Sample e
late_source w row col false c two after = rw (ne_eqb col 0 (λ e. omega arith))

-- ── The loop over the sixteen, for any kind of cell ──

pub record Putting (k : Kind ℕ) (w base : ℕ) (up : Bool) (vs f₀ f : List ℕ) (j : ℕ) : Type 0 where
  pub below : j ≤ 16
  pub left : Left (ops_walk k) (inner_ops w base up (drop j order) (drop j vs)) (inner_ops w base up order vs) f₀ f

module _ (k : Kind ℕ) (w base : ℕ) (up : Bool) (vs f₀ : List ℕ) where
  pub putting_begun : Putting k w base up vs f₀ f₀ 0
  putting_begun = record { below = omega arith; left = left_begun (ops_walk k) _ _ f₀ refl }

  pub putting_on : (f : List ℕ) (j c p v : ℕ) → j < 16 → length vs ≡ 16 → c ≡ get_or order j 0 → p ≡ source_of w base up c
      → v ≡ k.plus (get_or f p (k.constant 0)) (get_or vs j 0)
      → Putting k w base up vs f₀ f j → Putting k w base up vs f₀ (set f (base + c) v) (j + 1)
  unfolding inner_ops apply put
  putting_on f j c p v l n ec ep ev r =
      record { below = omega arith; left = left_on (ops_walk k) (op ∷ []) _ _ _ f₀ f (set f (base + c) v) first (rw (ev, ep)) r.left }
    where
      op : V0Op
      op = record { place = base + c; predictor = Sample (source_of w base up c); residual = get_or vs j 0 }

      first : inner_ops w base up (drop j order) (drop j vs) ≡ (op ∷ []) ++ inner_ops w base up (drop (j + 1) order) (drop (j + 1) vs)
      first = rw (add-one j, drop-cons order j 0 l, drop-cons vs j 0 (omega arith), ec)

  pub putting_done : (f : List ℕ) (j : ℕ) → 16 ≤ j → Putting k w base up vs f₀ f j → f ≡ apply k (inner_ops w base up order vs) f₀
  unfolding inner_ops
  putting_done f j l r =
      let e : j ≡ 16 = omega (arith, r.below) in
      let r' : Putting k w base up vs f₀ f 16 = rw e at r in
      left_none (ops_walk k) _ _ f₀ f refl r'.left

-- Its marks are the same by any residuals.
pub marks_alike : (w base : ℕ) (up : Bool) (cs vs ws f : List ℕ) → length vs ≡ length ws
    → apply v0_marks (inner_ops w base up cs vs) f ≡ apply v0_marks (inner_ops w base up cs ws) f
unfolding inner_ops apply put
marks_alike w base up [] vs ws f e = refl
marks_alike w base up (c ∷ cs) [] [] f e = refl
marks_alike w base up (c ∷ cs) [] (v ∷ ws) f e = absurd (omega arith)
marks_alike w base up (c ∷ cs) (v ∷ vs) [] f e = absurd (omega arith)
marks_alike w base up (c ∷ cs) (v ∷ vs) (u ∷ ws) f e =
    marks_alike w base up cs vs ws (set f (base + c) (get_or f (source_of w base up c) 0)) (omega arith)

-- ── Nothing is skipped ──

module _ {z : Size} {row col : ℕ} (i : Inner z row col) where
  -- The row above it, and the one above that, are before the block; the block is before the frame's end.
  two_rows : 2 * z.width ≤ row * z.width
  two_rows = mul-le-mul_right z.width i.late

  end : row * z.width + z.width ≤ z.width * z.height
  end =
      let h : suc row * z.width ≤ z.height * z.width = mul-le-mul_right z.width (omega (arith, i.frame.row_in)) in
      omega (arith, mul_comm z.width z.height)

  pub inner_inside : (f : List ℕ) → length f ≡ cells z → Inside z.width (row * z.width + col) f
  inner_inside f e =
      record {
        wide = omega (arith, i.inside);
        rows = omega (arith, two_rows);
        room = omega (arith, end, i.inside);
      }

  pub inner_fits : Low (row * z.width + col)
  inner_fits = omega (arith, product row z.width (omega (arith, i.frame.row_in, i.frame.height)) (omega (arith, i.frame.width)), i.frame.width, i.frame.col_in)

  limit_far : row * z.width + col + 16 ≤ limit z
  limit_far = omega (arith, end, i.inside, mul-add z.width z.height 7)

  pub inner_predictor : (up : Bool) (c : ℕ) → c < 16 → predictor z row col up c ≡ Sample (source_of z.width (row * z.width + col) up c)
  inner_predictor up c l =
      predictor_late z row col up c (λ e. i.late) (omega (arith, limit_far)) ∙ late_source z.width row col up c i.late i.after

-- ── Where a map is lent, and where not ──

pub lent_inside : {z : Size} {row col : ℕ} → Inner z row col → (f : List ℕ) → Whole z f → (length f ≡ 0 → ⊥) → Inside z.width (row * z.width + col) f
lent_inside i f (inl e) some = inner_inside i f e
lent_inside i f (inr e) some = absurd (some e)

pub not_lent : (k : Kind ℕ) (os : List V0Op) (f : List ℕ) → length f ≡ 0 → f ≡ apply k os f
not_lent k os [] e = sym (apply_empty k os)
not_lent k os (a ∷ f) e = absurd (omega arith)
