-- Four samples of an inner block, every other one, by one source and a step; and a block as four such groups.
use Rattle.std.proofs.Common.{◌≡◌, ℕ, ◌+◌, ◌*◌, ◌<◌, ◌≤◌, Bool, true, false, cond, List, [], ◌∷◌, get_or, set, refl, arith}
use Rattle.rules.specs.V0.{Kind, put, apply, order, rows_up, columns_back}
use Rattle.rules.specs.declared.v0.Predictor.TheVariants.{Sample}
use Rattle.v0_parse_window.specs.ByWindow.{residuals_of}
use Rattle.v0_parse_window.specs.declared.WindowHead.{WindowHead}
use Rattle.v0_parse_window.specs.declared.Plan.{Plan}
use Rattle.v0_parse_window.proofs.GroupLaws.{ByPosition, groups_are}
use Rattle.v0_cells.specs.Inner.{source_of, inner_ops}
use Rattle.v0_cells.proofs.InnerLaws.{rows_most}

-- ── Sources ──

rows_same : (c n : ℕ) → rows_up (c + 2 * n) ≡ rows_up c
rows_same c n = omega arith

back_same : (c n : ℕ) → columns_back (c + 2 * n) ≡ columns_back c
back_same c n = omega arith

module _ (w base : ℕ) (above : 2 * w ≤ base) where
  rows_before : (c : ℕ) → rows_up c * w ≤ base
  rows_before c = omega (arith, rows_most w c)

  -- The source of a sample twice n columns further lies n steps further.
  steps_on : (up : Bool) (c n p s : ℕ) → p ≡ source_of w base up c → s ≡ cond up 2 0 → p + n * s ≡ source_of w base up (c + 2 * n)
  unfolding source_of
  steps_on true c n p s e es = rw (e, es, rows_same c n) (omega (arith, rows_before c))
  steps_on false c n p s e es = rw (e, es, back_same c n) (omega arith)

  -- The fourth lies before the block's end.
  pub last_in : (up : Bool) (c p s : ℕ) → 0 < base → c + 6 < 16 → p ≡ source_of w base up c → s ≡ cond up 2 0 → p + 3 * s < base + 16
  unfolding source_of
  last_in true c p s some l e es = omega (arith, rows_before c)
  last_in false c p s some l e es = omega arith

-- ── Puts ──

module _ (k : Kind ℕ) (w base : ℕ) (up : Bool) where
  -- The sum of a source and a residual is a put.
  put_one : (c to p v : ℕ) (f f' : List ℕ) → to ≡ base + c → p ≡ source_of w base up c → f' ≡ set f to (k.plus (get_or f p (k.constant 0)) v)
      → f' ≡ put k (base + c) (Sample (source_of w base up c)) v f
  unfolding put
  put_one c to p v f f' et ep ef = rw (← et, ← ep) ef

  puts_four : (c₀ c₁ c₂ c₃ v₀ v₁ v₂ v₃ : ℕ) (f₀ f₁ f₂ f₃ f₄ : List ℕ)
      → f₁ ≡ put k (base + c₀) (Sample (source_of w base up c₀)) v₀ f₀
      → f₂ ≡ put k (base + c₁) (Sample (source_of w base up c₁)) v₁ f₁
      → f₃ ≡ put k (base + c₂) (Sample (source_of w base up c₂)) v₂ f₂
      → f₄ ≡ put k (base + c₃) (Sample (source_of w base up c₃)) v₃ f₃
      → f₄ ≡ apply k (inner_ops w base up (c₀ ∷ c₁ ∷ c₂ ∷ c₃ ∷ []) (v₀ ∷ v₁ ∷ v₂ ∷ v₃ ∷ [])) f₀
  unfolding inner_ops apply
  puts_four c₀ c₁ c₂ c₃ v₀ v₁ v₂ v₃ f₀ f₁ f₂ f₃ f₄ e₁ e₂ e₃ e₄ = rw (← e₁, ← e₂, ← e₃) e₄

  pub four_put : (c p s v₀ v₁ v₂ v₃ : ℕ) (f₀ f₁ f₂ f₃ f₄ : List ℕ) → 2 * w ≤ base → p ≡ source_of w base up c → s ≡ cond up 2 0
      → f₁ ≡ set f₀ (base + c) (k.plus (get_or f₀ p (k.constant 0)) v₀)
      → f₂ ≡ set f₁ (base + c + 2) (k.plus (get_or f₁ (p + s) (k.constant 0)) v₁)
      → f₃ ≡ set f₂ (base + c + 4) (k.plus (get_or f₂ (p + 2 * s) (k.constant 0)) v₂)
      → f₄ ≡ set f₃ (base + c + 6) (k.plus (get_or f₃ (p + 3 * s) (k.constant 0)) v₃)
      → f₄ ≡ apply k (inner_ops w base up (c ∷ (c + 2) ∷ (c + 4) ∷ (c + 6) ∷ []) (v₀ ∷ v₁ ∷ v₂ ∷ v₃ ∷ [])) f₀
  four_put c p s v₀ v₁ v₂ v₃ f₀ f₁ f₂ f₃ f₄ above ep es e₁ e₂ e₃ e₄ =
      let one : p + s ≡ source_of w base up (c + 2) = omega (arith, steps_on w base above up c 1 p s ep es) in
      puts_four _ _ _ _ _ _ _ _ f₀ f₁ f₂ f₃ f₄
      (put_one c _ p v₀ f₀ f₁ refl ep e₁)
      (put_one (c + 2) _ (p + s) v₁ f₁ f₂ (omega arith) one e₂)
      (put_one (c + 4) _ (p + 2 * s) v₂ f₂ f₃ (omega arith) (steps_on w base above up c 2 p s ep es) e₃)
      (put_one (c + 6) _ (p + 3 * s) v₃ f₃ f₄ (omega arith) (steps_on w base above up c 3 p s ep es) e₄)

  -- The four groups of a block that was read by position, one after another, are the block.
  pub groups_put : {s : List ℕ} {q : ℕ} {h : WindowHead} {p : Plan} {a b c d : List ℕ} → ByPosition s q h p a b c d → (f₀ f₁ f₂ f₃ f₄ : List ℕ)
      → f₁ ≡ apply k (inner_ops w base up (0 ∷ 2 ∷ 4 ∷ 6 ∷ []) (get_or a 0 0 ∷ get_or a 1 0 ∷ get_or a 2 0 ∷ get_or a 3 0 ∷ [])) f₀
      → f₂ ≡ apply k (inner_ops w base up (8 ∷ 10 ∷ 12 ∷ 14 ∷ []) (get_or b 0 0 ∷ get_or b 1 0 ∷ get_or b 2 0 ∷ get_or b 3 0 ∷ [])) f₁
      → f₃ ≡ apply k (inner_ops w base up (1 ∷ 3 ∷ 5 ∷ 7 ∷ []) (get_or c 0 0 ∷ get_or c 1 0 ∷ get_or c 2 0 ∷ get_or c 3 0 ∷ [])) f₂
      → f₄ ≡ apply k (inner_ops w base up (9 ∷ 11 ∷ 13 ∷ 15 ∷ []) (get_or d 0 0 ∷ get_or d 1 0 ∷ get_or d 2 0 ∷ get_or d 3 0 ∷ [])) f₃
      → f₄ ≡ apply k (inner_ops w base up order (residuals_of s q h)) f₀
  unfolding inner_ops apply
  groups_put x f₀ f₁ f₂ f₃ f₄ e₁ e₂ e₃ e₄ = rw (← groups_are x, ← e₁, ← e₂, ← e₃) e₄
