-- A residual's bits, and a block of which every sample is read.
use mathlib.Core.Path.{◌≡◌, refl, sym, ap, ◌∙◌}
use mathlib.Core.Bool.{true, false}
use mathlib.Core.List.{List, [], ◌∷◌, ◌++◌, append-nil}
use Prim.Native.Nat.{ℕ, suc, ◌+◌, ◌*◌, ◌/◌, ◌^◌, ◌≤◌, ◌<◌, min}
use native.Mathlib.Omega.{arith}
use native.Mathlib.Numerals.{add-one}
use lib.Dec.{T}
use lib.IntN.{ℤ, pos, negsuc, nat_abs}
use lib.ListN.{length, get_or, set, take, drop, replicate, length-set}
use lib.Seq.{drop-cons, take-suc-set, append_snoc, take_all}
use lib.Signed.{lt_z, le_z, non_neg}
use mir.Syntax.{w32}
use mir.Val.{SFits, Fits, to_z, of_z}
use mir.ValLaws.{to_z-of_z}
use borrow.Author.Tests.{ltb-true, ltb-false, leb-true}
use Rattle.rules.specs.Reader.{read, four, signed, modulo, read_residual}
use Rattle.rules.proofs.ReaderLaws.{four_reads, four_below, read_residual_is}
use Rattle.rules.specs.V0.{order, length_bits, residual_bits, head}
use Rattle.rules.specs.Phases.{residuals}
use Rattle.rules.specs.declared.reader.Bits.{Bits}
use Rattle.rules.specs.declared.reader.Taken.{Taken}
use Rattle.rules.specs.declared.v0.V0Row.{V0Row}
use Rattle.rules.specs.declared.v0.V0Head.{V0Head}
use Rattle.v0_parse.specs.Lengths.{Within}
use Rattle.v0_parse.specs.Block.{with_residuals, whole_block, head_block}
use Rattle.v0_parse.specs.declared.block.ReadBlock.{ReadBlock}
use Rattle.rules.specs.declared.v0.Predictor.{Predictor}
use Rattle.rules.specs.declared.v0.Predictor.TheVariants.{Skipped, Constant, Sample}
use Rattle.v0_parse.proofs.HeadLaws.{head_within}
use Rattle.v0_parse.proofs.OrderLaws.{length_at}

-- ── A residual's bits ──

pub bits_none : (l : ℤ) → le_z l (pos 0) ≡ true → 0 ≡ length_bits l
unfolding length_bits
bits_none (pos n) e = let h = leb-true n 0 e in omega arith
bits_none (negsuc n) e = refl

cast_fits : (l : ℤ) → le_z l (pos 0) ≡ false → SFits w32 l → T (non_neg l) × Fits w32 (nat_abs l)
cast_fits (pos n) e fits = (tt, record { fits = omega (arith, fits.sfits) })
cast_fits (negsuc n) e fits = absurd (let z : ◌≡◌ {A = ℕ} 0 1 = cc in omega arith)

pub bits_cast : (l : ℤ) → le_z l (pos 0) ≡ false → SFits w32 l → T (non_neg (to_z w32 (of_z w32 l))) × Fits w32 (nat_abs (to_z w32 (of_z w32 l)))
bits_cast l e fits = rw (to_z-of_z w32 l fits) (cast_fits l e fits)

pub bits_few : (l : ℤ) → le_z l (pos 0) ≡ false → lt_z l (pos 32) ≡ true → nat_abs l ≡ length_bits l
unfolding length_bits
bits_few (pos n) e h = let q = ltb-true n 32 h in omega arith
bits_few (negsuc n) e h = cc

pub bits_most : (l : ℤ) → lt_z l (pos 32) ≡ false → 32 ≡ length_bits l
unfolding length_bits
bits_most (pos n) h = let q = ltb-false n 32 h in omega arith
bits_most (negsuc n) h = cc

pub bits_few_enough : (l : ℤ) → length_bits l ≤ 32
unfolding length_bits
bits_few_enough (pos n) = omega arith
bits_few_enough (negsuc n) = omega arith

-- A skipped sample reads nothing, another the bits of its length.
pub bits_skipped : (p : Predictor) (l : ℤ) → p ≡ Skipped → 0 ≡ residual_bits p l
unfolding residual_bits
bits_skipped p l e = rw e

pub bits_constant : (p : Predictor) (l : ℤ) (n : ℕ) → p ≡ Constant → n ≡ length_bits l → n ≡ residual_bits p l
unfolding residual_bits
bits_constant p l n e q = rw e q

pub bits_sample : (p : Predictor) (l : ℤ) (n q : ℕ) → p ≡ Sample q → n ≡ length_bits l → n ≡ residual_bits p l
unfolding residual_bits
bits_sample p l n q e h = rw e h

-- So each of four fields read is a number of so many bits.
pub fields_fit : (s : List ℕ) (l : ℤ) (n : ℕ) (b : Bits) (f : Taken (List ℕ)) → n ≡ length_bits l → f ≡ four s n b → (i : ℕ) → (n ≤ 32) × (get_or f.value i 0 < 2 ^ n)
fields_fit s l n b f en ef i = let few : n ≤ 32 = omega (arith, en, bits_few_enough l) in (few, rw ef (four_below s n b i few))

-- ── The sixteen residuals ──

-- What is read from sample k of the stream on completes what was read before to the whole.
pub record Reading (s : List ℕ) (ls : List ℤ) (b₀ b : Bits) (vs : List ℕ) (k : ℕ) : Type 0 where
  pub below : k ≤ 16
  pub sixteen : length vs ≡ 16
  pub values_are : take k vs ++ (residuals s ls (drop k order) b).values ≡ (residuals s ls order b₀).values
  pub bits_are : (residuals s ls (drop k order) b).bits ≡ (residuals s ls order b₀).bits

module _ (s : List ℕ) (ls : List ℤ) (b₀ : Bits) where
  pub reading_begun : (vs : List ℕ) → length vs ≡ 16 → Reading s ls b₀ b₀ vs 0
  reading_begun vs e = record { below = omega arith; sixteen = e; values_are = refl; bits_are = refl }

  pub reading_on : (b : Bits) (vs : List ℕ) (k n : ℕ) (g : Taken ℕ) → k < 16 → n ≡ length_bits (get_or ls (k / 4) (pos 0)) → g ≡ read_residual s b n
      → Reading s ls b₀ b vs k → Reading s ls b₀ g.bits (set vs k g.value) (k + 1)
  unfolding residuals
  reading_on b vs k n g h en eg r =
      record {
        below = omega arith;
        sixteen = length-set vs k g.value ∙ r.sixteen;
        values_are = now_are;
        bits_are = sym (ap (λ x. x.bits) left) ∙ r.bits_are;
      }
    where
      left : residuals s ls (drop k order) b
          ≡ record { values = g.value ∷ (residuals s ls (drop (k + 1) order) g.bits).values; bits = (residuals s ls (drop (k + 1) order) g.bits).bits }
      left = rw (add-one k, drop-cons order k 0 h, length_at ls k h, ← en, ← eg)

      rest : List ℕ
      rest = (residuals s ls (drop (k + 1) order) g.bits).values

      done : take (k + 1) (set vs k g.value) ≡ take k vs ++ (g.value ∷ [])
      done = rw (add-one k) (take-suc-set vs k g.value (omega (arith, r.sixteen)))

      now_are : take (k + 1) (set vs k g.value) ++ rest ≡ (residuals s ls order b₀).values
      now_are = ap (λ xs. xs ++ rest) done ∙ append_snoc (take k vs) g.value rest ∙ sym (ap (λ x. take k vs ++ x.values) left) ∙ r.values_are

  -- Sample i of the four that have length number j.
  reading_at : (b : Bits) (vs : List ℕ) (j i n r : ℕ) → j < 4 → i < 4 → n ≡ length_bits (get_or ls j (pos 0)) → r ≡ modulo (signed n (read s b n).value)
      → Reading s ls b₀ b vs (4 * j + i) → Reading s ls b₀ (read s b n).bits (set vs (4 * j + i) r) (4 * j + (i + 1))
  reading_at b vs j i n r hj hi en er x =
      let number : (4 * j + i) / 4 ≡ j = omega arith in
      let next : 4 * j + i + 1 ≡ 4 * j + (i + 1) = omega arith in
      let m : min n 32 ≡ n = omega (arith, en, bits_few_enough (get_or ls j (pos 0))) in
      rw next at (reading_on b vs (4 * j + i) n (record { value = r; bits = (read s b n).bits }) (omega arith) (rw number en) (rw (read_residual_is s b n, m, er)) x)

  -- All four, as the code reads them.
  pub reading_four : (b : Bits) (vs : List ℕ) (j n : ℕ) (f : Taken (List ℕ)) (r₀ r₁ r₂ r₃ : ℕ) → j < 4 → n ≡ length_bits (get_or ls j (pos 0)) → f ≡ four s n b
      → r₀ ≡ modulo (signed n (get_or f.value 0 0)) → r₁ ≡ modulo (signed n (get_or f.value 1 0))
      → r₂ ≡ modulo (signed n (get_or f.value 2 0)) → r₃ ≡ modulo (signed n (get_or f.value 3 0)) → Reading s ls b₀ b vs (4 * j)
      → Reading s ls b₀ f.bits (set (set (set (set vs (4 * j) r₀) (4 * j + 1) r₁) (4 * j + 2) r₂) (4 * j + 3) r₃) (4 * (j + 1))
  reading_four b vs j n f r₀ r₁ r₂ r₃ h en ef e₀ e₁ e₂ e₃ x =
      let ef = ef ∙ sym (four_reads s n b _ _ _ _ refl refl refl refl) in
      let first : 4 * j + 0 ≡ 4 * j = omega arith in
      let last : 4 * j + 4 ≡ 4 * (j + 1) = omega arith in
      let x₀ : Reading s ls b₀ b vs (4 * j + 0) = rw first x in
      let x₁ = rw first at (reading_at b vs j 0 n r₀ h (omega arith) en (rw ef at e₀) x₀) in
      let x₂ = reading_at _ _ j 1 n r₁ h (omega arith) en (rw ef at e₁) x₁ in
      let x₃ = reading_at _ _ j 2 n r₂ h (omega arith) en (rw ef at e₂) x₂ in
      rw (ef, ← last) (reading_at _ _ j 3 n r₃ h (omega arith) en (rw ef at e₃) x₃)

  pub read_all : (b : Bits) (vs : List ℕ) (k : ℕ) (h : V0Head) → 16 ≤ k → ls ≡ h.row.lengths → b₀ ≡ h.row.bits → Reading s ls b₀ b vs k
      → record { up = h.up; row = record { lengths = ls; bits = b }; residuals = vs } ≡ with_residuals s h
  unfolding residuals with_residuals
  read_all b vs k h l el eb r =
      let e : k ≡ 16 = omega (arith, r.below) in
      let r' : Reading s ls b₀ b vs 16 = rw e at r in
      let values_are : vs ≡ (residuals s ls order b₀).values = sym (take_all 16 vs (omega (arith, r.sixteen))) ∙ sym (append-nil (take 16 vs)) ∙ r'.values_are in
      rw (values_are, r'.bits_are, el, eb)

pub whole_read : (s : List ℕ) (st : V0Row) (h : V0Head) (r : ReadBlock) → h ≡ head s st → r ≡ with_residuals s h → r ≡ whole_block s st
unfolding whole_block
whole_read s st h r eh er = er ∙ ap (with_residuals s) eh

pub head_read : (s : List ℕ) (st : V0Row) (h : V0Head) → h ≡ head s st → record { up = h.up; row = h.row; residuals = replicate 16 0 } ≡ head_block s st
unfolding head_block
head_read s st h eh = rw eh

pub head_alone : (s : List ℕ) (st : V0Row) (r : ReadBlock) → r ≡ head_block s st → record { up = r.up; row = r.row } ≡ head s st
unfolding head_block
head_alone s st r er = rw er

-- So that a row of 1,024 blocks can be read: each keeps the lengths as near to 0 as its head does.
pub block_within : (s : List ℕ) (st : V0Row) (n : ℕ) → 15 ≤ n → Within n st.lengths → Within (suc n) (whole_block s st).row.lengths
unfolding whole_block with_residuals
block_within s st n h w = head_within s st n h w
