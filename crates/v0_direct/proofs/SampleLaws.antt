-- A block by the literal rule: one sample's operation, and the loop over the sixteen.
use mathlib.Core.Path.{◌≡◌, refl, sym, ap, ◌∙◌}
use mathlib.Core.List.{List, [], ◌∷◌, ◌++◌}
use Prim.Native.Nat.{ℕ, ◌+◌, ◌*◌, ◌≤◌, ◌<◌}
use native.Mathlib.Omega.{arith}
use native.Mathlib.Numerals.{add-one}
use lib.ListN.{get_or, drop}
use lib.Seq.{drop-cons}
use Rattle.rules.specs.Reader.{read_residual}
use Rattle.rules.specs.V0.{Ops, put, apply, sample_kind, sample, samples, predictor, order, length_of, residual_bits}
use Rattle.rules.specs.Map.{v0_marks}
use Rattle.rules.specs.declared.answer.Size.{Size}
use Rattle.rules.specs.declared.reader.Bits.{Bits}
use Rattle.rules.specs.declared.reader.Taken.{Taken}
use Rattle.rules.specs.declared.v0.Predictor.{Predictor}
use Rattle.rules.specs.declared.v0.V0Head.{V0Head}
use Rattle.v0_direct.specs.Block.{samples_of, Applied}
use Rattle.v0_cells.proofs.CellLaws.{ops_walk, Left, left_begun, left_on, left_none}

-- ── One sample ──

module _ (s : List ℕ) (z : Size) (row col : ℕ) (h : V0Head) (c : ℕ) (b : Bits) (p : Predictor) (n : ℕ) (g : Taken ℕ)
    (ep : p ≡ predictor z row col h.up c) (en : n ≡ residual_bits p (length_of h.row.lengths c)) (eg : g ≡ read_residual s b n) where
  sample_is : samples_of s z row col h (c ∷ []) b ≡ record { ops = record { place = row * z.width + col + c; predictor = p; residual = g.value } ∷ []; bits = g.bits }
  unfolding samples sample
  sample_is = rw (← ep, ← en, ← eg)

  pub sample_applied : (out out' map map' : List ℕ) → out' ≡ put sample_kind (row * z.width + col + c) p g.value out
      → map' ≡ put v0_marks (row * z.width + col + c) p g.value map → Applied (samples_of s z row col h (c ∷ []) b) out map g.bits out' map'
  unfolding apply
  sample_applied out out' map map' eo em =
      rw sample_is (record { reader = refl; samples = eo; marks = em })

-- ── The sixteen ──

-- What is left from sample k of the stream on comes to the whole block.
pub record Sampling (s : List ℕ) (z : Size) (row col : ℕ) (h : V0Head) (b₀ b : Bits) (out₀ out map₀ map : List ℕ) (k : ℕ) : Type 0 where
  pub below : k ≤ 16
  pub bits_are : (samples_of s z row col h (drop k order) b).bits ≡ (samples_of s z row col h order b₀).bits
  pub samples_left : Left (ops_walk sample_kind) (samples_of s z row col h (drop k order) b).ops (samples_of s z row col h order b₀).ops out₀ out
  pub marks_left : Left (ops_walk v0_marks) (samples_of s z row col h (drop k order) b).ops (samples_of s z row col h order b₀).ops map₀ map

module _ (s : List ℕ) (z : Size) (row col : ℕ) (h : V0Head) (b₀ : Bits) (out₀ map₀ : List ℕ) where
  pub sampling_begun : Sampling s z row col h b₀ b₀ out₀ out₀ map₀ map₀ 0
  sampling_begun = record { below = omega arith; bits_are = refl; samples_left = left_begun (ops_walk sample_kind) _ _ out₀ refl; marks_left = left_begun (ops_walk v0_marks) _ _ map₀ refl }

  pub sampling_on : (b b' : Bits) (out out' map map' : List ℕ) (k c : ℕ) → k < 16 → c ≡ get_or order k 0
      → Applied (samples_of s z row col h (c ∷ []) b) out map b' out' map'
      → Sampling s z row col h b₀ b out₀ out map₀ map k → Sampling s z row col h b₀ b' out₀ out' map₀ map' (k + 1)
  unfolding samples
  sampling_on b b' out out' map map' k c l ec d r =
      record {
        below = omega arith;
        bits_are = sym (ap (λ x. x.bits) first) ∙ r.bits_are;
        samples_left = left_on (ops_walk sample_kind) one.ops _ _ _ out₀ out out' (ap (λ x. x.ops) first) d.samples r.samples_left;
        marks_left = left_on (ops_walk v0_marks) one.ops _ _ _ map₀ map map' (ap (λ x. x.ops) first) d.marks r.marks_left;
      }
    where
      one : Ops
      one = samples_of s z row col h (c ∷ []) b

      first : samples_of s z row col h (drop k order) b
          ≡ record { ops = one.ops ++ (samples_of s z row col h (drop (k + 1) order) b').ops; bits = (samples_of s z row col h (drop (k + 1) order) b').bits }
      first = rw (add-one k, drop-cons order k 0 l, d.reader, ec)

  pub sampled : (b : Bits) (out map : List ℕ) (k : ℕ) → 16 ≤ k → Sampling s z row col h b₀ b out₀ out map₀ map k
      → (b ≡ (samples_of s z row col h order b₀).bits) × ((out ≡ apply sample_kind (samples_of s z row col h order b₀).ops out₀) × (map ≡ apply v0_marks (samples_of s z row col h order b₀).ops map₀))
  unfolding samples
  sampled b out map k l r =
      let e : k ≡ 16 = omega (arith, r.below) in
      let r' : Sampling s z row col h b₀ b out₀ out map₀ map 16 = rw e at r in
      (r'.bits_are, (left_none (ops_walk sample_kind) _ _ out₀ out refl r'.samples_left, left_none (ops_walk v0_marks) _ _ map₀ map refl r'.marks_left))
