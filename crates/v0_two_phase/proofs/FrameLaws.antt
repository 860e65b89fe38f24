-- A whole frame: the steps one after another are the two-phase decoder.
use mathlib.Core.Path.{◌≡◌, ap, ◌∙◌}
use mathlib.Core.List.{List}
use Prim.Native.Nat.{ℕ, ◌-◌, ◌*◌, ◌/◌}
use Rattle.rules.specs.V0.{exchange, exchange_rows, sample_kind}
use Rattle.rules.specs.Phases.{sample_stage, phase_one, phase_two, scratch, first_rows, two_phase}
use Rattle.rules.specs.declared.answer.Size.{Size}
use Rattle.v0_direct.specs.Freed.{freed_pairs}
use Rattle.v0_direct.proofs.FreedLaws.{freed_then_left}

module _ (s offsets : List ℕ) (z : Size) where
  abbrev late : ℕ
  late = z.height - 2

  abbrev phases : List ℕ → List ℕ
  phases f = phase_two sample_stage z.width late 2 (scratch s offsets z) (phase_one s offsets z.width late 2 f)

  pub samples_done : (from to : ℕ) (f₀ f₁ f₂ f₃ : List ℕ) → from ≡ freed_pairs z.height → to ≡ z.height / 2
      → f₁ ≡ first_rows sample_kind s offsets z f₀ → f₂ ≡ exchange_rows sample_kind z.width (freed_pairs z.height) 0 (phases f₁)
      → f₃ ≡ exchange_rows sample_kind z.width (to - from) (from * 2) f₂ → f₃ ≡ two_phase s offsets z f₀
  unfolding two_phase
  samples_done from to f₀ f₁ f₂ f₃ ef et e₁ e₂ e₃ =
      freed_then_left sample_kind z from to (phases f₁) f₂ f₃ ef et e₂ e₃ ∙ ap (λ f. exchange sample_kind z (phases f)) e₁
