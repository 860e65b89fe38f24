-- What V0 reads, traced stage by stage up to a block: it is made of at most 25 fields.
use Prim.Native.Nat.{ℕ, ◌+◌}
use mathlib.Core.Bool.{Bool}
use mathlib.Core.List.{List, [], ◌∷◌}
use native.Mathlib.Omega.{arith}
use lib.Dec.{eqb}
use lib.IntN.{ℤ, pos}
use lib.ListN.{length}
use Rattle.rules.specs.declared.reader.Bits.{Bits}
use Rattle.rules.specs.declared.v0.Predictor.{Predictor}
use Rattle.rules.specs.declared.v0.V0Row.{V0Row}
use Rattle.rules.specs.Reader.{read, four}
use Rattle.rules.specs.V0.{operated, operate, head, residual_bits, length_of, sample, samples, order}
use Rattle.rules.proofs.ReaderLaws.{four_values}
use Rattle.rules.proofs.Traced.{Traced, traced_none, traced_map, traced_then, traced_cond, wider, read_traced, four_traced, read_residual_traced}
use Rattle.rules.proofs.V0Blocks.{block, after}

module _ (s : List ℕ) where
  operated_traced : (op : ℕ) (l : ℤ) (b : Bits) → Traced s 1 (λ x. x.bits) b (λ u. operated u op l b)
  unfolding operated
  operated_traced op l b =
      traced_cond (eqb op 3) (traced_map (λ g. record { value = pos g.value; bits = g.bits }) (read_traced s b 4)) (traced_none _)

  operate_traced : (ops : List ℕ) (ls : List ℤ) (b : Bits) → Traced s (length ops) (λ x. x.bits) b (λ u. operate u ops ls b)
  unfolding operate
  operate_traced [] ls b = traced_none _
  operate_traced (op ∷ ops) [] b = traced_none _
  operate_traced (op ∷ ops) (l ∷ ls) b =
      wider (omega arith)
      (traced_then (λ u x. let rest = operate u ops ls x.bits in record { lengths = x.value ∷ rest.lengths; bits = rest.bits })
      (operated_traced op l b)
      (traced_map (λ x. record { lengths = (operated s op l b).value ∷ x.lengths; bits = x.bits })
      (operate_traced ops ls (operated s op l b).bits)))

  -- A block's head takes at most nine fields.
  pub head_traced : (st : V0Row) → Traced s 9 (λ h. h.row.bits) st.bits (λ u. head u st)
  unfolding head
  head_traced st =
      let d = read s st.bits 1 in
      let o = four s 2 d.bits in
      traced_then (λ u g. let o = four u 2 g.bits in record { up = eqb g.value 1; row = operate u o.value st.lengths o.bits })
      (read_traced s st.bits 1)
      (traced_then (λ u o. record { up = eqb d.value 1; row = operate u o.value st.lengths o.bits }) (four_traced s 2 d.bits)
      (traced_map (λ r. record { up = eqb d.value 1; row = r })
      (wider {m = 4} (omega (arith, four_values s 2 d.bits)) (operate_traced o.value st.lengths o.bits))))

  sample_traced : (base : ℕ) (ls : List ℤ) (predict : ℕ → Predictor) (c : ℕ) (b : Bits)
      → Traced s 1 (λ x. x.bits) b (λ u. sample u base ls predict c b)
  unfolding sample
  sample_traced base ls predict c b =
      traced_map (λ g. record { op = record { place = base + c; predictor = predict c; residual = g.value }; bits = g.bits })
      (read_residual_traced s b (residual_bits (predict c) (length_of ls c)))

  -- A block's residuals take one field each.
  pub samples_traced : (base : ℕ) (ls : List ℤ) (predict : ℕ → Predictor) (cs : List ℕ) (b : Bits)
      → Traced s (length cs) (λ x. x.bits) b (λ u. samples u base ls predict cs b)
  unfolding samples
  samples_traced base ls predict [] b = traced_none _
  samples_traced base ls predict (c ∷ cs) b =
      wider (omega arith)
      (traced_then (λ u x. let rest = samples u base ls predict cs x.bits in record { ops = x.op ∷ rest.ops; bits = rest.bits })
      (sample_traced base ls predict c b)
      (traced_map (λ x. record { ops = (sample s base ls predict c b).op ∷ x.ops; bits = x.bits })
      (samples_traced base ls predict cs (sample s base ls predict c b).bits)))

  module _ (first : ℕ) (predict : ℕ → Bool → ℕ → Predictor) (col : ℕ) (st : V0Row) where
    pub block_traced : Traced s 25 (λ x. x.bits) st.bits (λ u. block u first predict col st)
    block_traced =
        let h = head s st in
        traced_then (λ u h. samples u (first + col) h.row.lengths (predict col h.up) order h.row.bits) (head_traced st)
        (samples_traced (first + col) h.row.lengths (predict col h.up) order h.row.bits)

    pub after_traced : Traced s 25 (λ x. x.bits) st.bits (λ u. after u first predict col st)
    after_traced =
        let h = head s st in
        traced_then
        (λ u h. record { lengths = h.row.lengths; bits = (samples u (first + col) h.row.lengths (predict col h.up) order h.row.bits).bits })
        (head_traced st)
        (traced_map (λ x. record { lengths = h.row.lengths; bits = x.bits })
        (samples_traced (first + col) h.row.lengths (predict col h.up) order h.row.bits))
