-- An inner block: its operations are those of all sixteen residuals, read in one go.
use mathlib.Core.Path.{◌≡◌, refl, sym, ap, ◌∙◌}
use mathlib.Core.Bool.{Bool, true, not, ◌&&◌}
use mathlib.Core.List.{List, [], ◌∷◌}
use Prim.Native.Nat.{ℕ, suc, ◌+◌, ◌*◌, ◌<◌}
use native.Mathlib.Omega.{arith}
use lib.Dec.{leb, eqb}
use lib.IntN.{ℤ}
use lib.ListN.{length, get_or, replicate}
use borrow.Author.Tests.{leb-true, eqb-false, not-true}
use Rattle.rules.proofs.Tests.{both}
use Rattle.rules.specs.Reader.{read_residual}
use Rattle.rules.specs.Phases.{residuals}
use Rattle.rules.specs.V0.{apply, sample_kind, sample, samples, head, predictor, order, length_of, length_bits, residual_bits}
use Rattle.rules.specs.Map.{v0_marks}
use Rattle.rules.specs.declared.answer.Size.{Size}
use Rattle.rules.specs.declared.reader.Bits.{Bits}
use Rattle.rules.specs.declared.v0.Predictor.{Predictor}
use Rattle.rules.specs.declared.v0.Predictor.TheVariants.{Sample}
use Rattle.rules.specs.declared.v0.V0Row.{V0Row}
use Rattle.v0_cells.specs.Places.{InFrame, Inner}
use Rattle.v0_parse.specs.Block.{with_residuals, whole_block}
use Rattle.v0_parse.specs.declared.block.ReadBlock.{ReadBlock}
use Rattle.v0_parse.proofs.OrderLaws.{order_below}
use Rattle.v0_direct.specs.Block.{block_ops, after_block, Decoded}
use Rattle.v0_direct.specs.Run.{inner}
use Rattle.v0_cells.specs.Inner.{source_of, inner_ops}
use Rattle.v0_cells.proofs.InnerLaws.{marks_alike, inner_predictor}

-- ── Which blocks ──

module _ (z : Size) (row col : ℕ) where
  -- What follows if it is one.
  pub inner_is : InFrame z row col → inner z row col ≡ true → Inner z row col
  unfolding inner
  inner_is i e =
      let a = both (leb 2 row) (not (eqb col 0) && leb (col + 16) z.width) e in
      let b = both (not (eqb col 0)) (leb (col + 16) z.width) a.1 in
      let after : col ≡ 0 → ⊥ = eqb-false col 0 (not-true (eqb col 0) b.0) in
      record { frame = i; late = leb-true 2 row a.0; after = omega arith; inside = leb-true (col + 16) z.width b.1 }

-- ── Its operations ──

-- Where every sample predicts from a sample, each one's bits are read, and its operation has what was read.
module _ (s : List ℕ) (w base : ℕ) (up : Bool) (ls : List ℤ) (predict : ℕ → Predictor) where
  open_samples : (cs : List ℕ) (b : Bits) → ((j : ℕ) → j < length cs → predict (get_or cs j 0) ≡ Sample (source_of w base up (get_or cs j 0)))
      → samples s base ls predict cs b ≡ record { ops = inner_ops w base up cs (residuals s ls cs b).values; bits = (residuals s ls cs b).bits }
  unfolding samples sample residuals inner_ops residual_bits
  open_samples [] b h = refl
  open_samples (c ∷ cs) b h =
      rw (h 0 (omega arith), open_samples cs (read_residual s b (length_bits (length_of ls c))).bits (λ j l. h (suc j) (omega arith)))

residual_count : (s : List ℕ) (ls : List ℤ) (cs : List ℕ) (b : Bits) → length (residuals s ls cs b).values ≡ length cs
unfolding residuals
residual_count s ls [] b = refl
residual_count s ls (c ∷ cs) b = ap suc (residual_count s ls cs (read_residual s b (length_bits (length_of ls c))).bits)

module _ (s : List ℕ) (st : V0Row) {z : Size} {row col : ℕ} (i : Inner z row col) (x : ReadBlock) (ex : x ≡ whole_block s st) where
  inner_block : block_ops s z row col st ≡ record { ops = inner_ops z.width (row * z.width + col) x.up order x.residuals; bits = x.row.bits }
  unfolding block_ops whole_block with_residuals
  inner_block =
      let h = head s st in
      open_samples s z.width (row * z.width + col) h.up h.row.lengths (predictor z row col h.up) order h.row.bits
      (λ j l. inner_predictor i h.up (get_or order j 0) (order_below j l))
      ∙ rw ex

  pub inner_state : x.row ≡ after_block s z row col st
  unfolding after_block whole_block with_residuals
  inner_state = rw (inner_block, ex)

  sixteen : length x.residuals ≡ 16
  unfolding whole_block with_residuals
  sixteen = rw ex (residual_count s (head s st).row.lengths order (head s st).row.bits)

  -- It is decoded once its residuals are put, and its marks as those of any residuals.
  pub inner_decoded : (out out' map map' : List ℕ)
      → out' ≡ apply sample_kind (inner_ops z.width (row * z.width + col) x.up order x.residuals) out
      → map' ≡ apply v0_marks (inner_ops z.width (row * z.width + col) x.up order (replicate 16 0)) map
      → Decoded s z row col st out map x.row out' map'
  inner_decoded out out' map map' eo em = record {
    state = inner_state;
    samples = eo ∙ sym (ap (λ y. apply sample_kind y.ops out) inner_block);
    marks =
        em ∙ marks_alike z.width (row * z.width + col) x.up order (replicate 16 0) x.residuals map (sym sixteen)
        ∙ sym (ap (λ y. apply v0_marks y.ops map) inner_block);
  }
