-- An inner block, whose every sample predicts from a sample before the block: its operations, and cells that are replaced as one.
use Rattle.std.specs.Prelude.{◌≡◌, ℕ, ◌+◌, ◌-◌, ◌*◌, ◌<◌, Bool, cond, ◌≢◌, List, [], ◌∷◌, length, slice_index_or}
use Rattle.rules.specs.V0.{Kind, rows_up, columns_back}
use Rattle.rules.specs.declared.v0.Predictor.TheVariants.{Sample}
use Rattle.rules.specs.declared.v0.V0Op.{V0Op}

-- Where sample c predicts from, by the place of the block's first sample: rows or columns before it.
unfoldable pub source_of : ℕ → ℕ → Bool → ℕ → ℕ
source_of w base up c = cond up (base + c - rows_up c * w) (base - columns_back c)

-- The operations on the samples `cs` by their residuals `vs`: none is skipped, and none takes 128.
unfoldable pub inner_ops : ℕ → ℕ → Bool → List ℕ → List ℕ → List V0Op
inner_ops w base up [] vs = []
inner_ops w base up (c ∷ cs) [] = []
inner_ops w base up (c ∷ cs) (v ∷ vs) =
    record { place = base + c; predictor = Sample (source_of w base up c); residual = v } ∷ inner_ops w base up cs vs

-- A frame whose n cells from a place on are new, and whose others are as they were.
pub record Replaced {A : Type 0} (k : Kind A) (base n : ℕ) (new : ℕ → A) (f₀ f : List A) : Type 0 where
  pub same_length : length f ≡ length f₀
  pub inside : (c : ℕ) → c < n → slice_index_or f (base + c) (k.constant 0) ≡ new c
  pub outside : (i : ℕ) → ((c : ℕ) → c < n → i ≢ base + c) → slice_index_or f i (k.constant 0) ≡ slice_index_or f₀ i (k.constant 0)
