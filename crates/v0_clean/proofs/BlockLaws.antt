-- A block: the tests of its lengths, what is wrong with it, and that it is read to its end.
use Prim.Native.Nat.{ℕ, ◌^◌, ◌<◌}
use mathlib.Core.Bool.{Bool, true, false, ◌&&◌}
use mathlib.Core.Path.{◌≡◌, refl, sym, ap, ap₂, ◌∙◌}
use mathlib.Core.Logic.{◌≢◌}
use mathlib.Core.List.{List}
use native.Mathlib.Omega.{arith}
use lib.Dec.{ltb}
use lib.IntN.{ℤ, pos, negsuc}
use lib.ListN.{length, get_or}
use lib.Signed.{mag, le_z}
use mir.Val.{to_z, of_z}
use mir.ValLaws.{to_z-of_z}
use mir.Syntax.{w32}
use borrow.Author.Tests.{leb-false, ne_eqb}
use Rattle.rules.specs.declared.answer.Size.{Size}
use Rattle.rules.specs.declared.reader.Bits.{Bits}
use Rattle.rules.specs.declared.v0.V0Row.{V0Row}
use Rattle.rules.specs.declared.v0.V0Head.{V0Head}
use Rattle.rules.specs.V0.{head, order}
use Rattle.rules_clean.specs.Verdict.{fits, all_fit, first_fault, block_fault}
use Rattle.v0_parse.specs.Block.{with_residuals, whole_block}
use Rattle.v0_parse.specs.declared.block.ReadBlock.{ReadBlock}
use Rattle.v0_parse.proofs.HeadLaws.{four_of}
use Rattle.v0_cells.specs.Places.{Inner}
use Rattle.v0_direct.specs.Block.{samples_of}
use Rattle.v0_direct.proofs.InnerLaws.{inner_state}
use Rattle.v0_direct.proofs.RowLaws.{block_state}
use Rattle.v0_clean.specs.Block.{seen}

-- ── Lengths ──

pub fits_high : (l : ℤ) → le_z (pos 0) l ≡ true → le_z l (pos 16) ≡ fits l
unfolding fits
fits_high (pos n) e = refl
fits_high (negsuc n) e = cc

pub fits_low : (l : ℤ) → le_z (pos 0) l ≡ false → le_z (pos 0) l ≡ fits l
unfolding fits
fits_low (pos n) e = absurd (let q = leb-false 0 n e in omega arith)
fits_low (negsuc n) e = refl

-- What a test of length j says, which goes through 32 bits.
pub test_is : (ls : List ℤ) (j : ℕ) {r t : Bool} → mag (get_or ls j (pos 0)) < 2 ^ 31 → r ≡ fits (to_z w32 (of_z w32 (get_or ls j (pos 0)))) → r ≡ t
    → fits (get_or ls j (pos 0)) ≡ t
test_is ls j l e f = ap fits (sym (to_z-of_z w32 (get_or ls j (pos 0)) (record { sfits = l }))) ∙ sym e ∙ f

module _ (ls : List ℤ) (four : length ls ≡ 4) where
  tests : all_fit ls ≡ fits (get_or ls 0 (pos 0)) && (fits (get_or ls 1 (pos 0)) && (fits (get_or ls 2 (pos 0)) && (fits (get_or ls 3 (pos 0)) && true)))
  unfolding all_fit
  tests = ap all_fit (four_of ls (pos 0) four)

  -- One that doesn't fit is enough; where the first three fit, the last decides.
  pub not_first : fits (get_or ls 0 (pos 0)) ≡ false → false ≡ all_fit ls
  not_first a = rw (tests, a)

  module _ (a : fits (get_or ls 0 (pos 0)) ≡ true) where
    pub not_second : fits (get_or ls 1 (pos 0)) ≡ false → false ≡ all_fit ls
    not_second b = rw (tests, a, b)

    module _ (b : fits (get_or ls 1 (pos 0)) ≡ true) where
      pub not_third : fits (get_or ls 2 (pos 0)) ≡ false → false ≡ all_fit ls
      not_third c = rw (tests, a, b, c)

      pub last_of : fits (get_or ls 2 (pos 0)) ≡ true → (r : Bool) → r ≡ fits (get_or ls 3 (pos 0)) → r ≡ all_fit ls
      last_of c true d = rw (tests, a, b, c, ← d)
      last_of c false d = rw (tests, a, b, c, ← d)

-- ── A block's fault ──

module _ (row : ℕ) (h : V0Head) (end : Bits) where
  pub fault_upward : ltb row 2 && h.up ≡ true → 17 ≡ block_fault row h end
  unfolding block_fault first_fault
  fault_upward e = rw e

  module _ (down : ltb row 2 && h.up ≡ false) where
    pub fault_outside : all_fit h.row.lengths ≡ false → 18 ≡ block_fault row h end
    unfolding block_fault first_fault
    fault_outside e = rw (down, e)

    module _ (short : all_fit h.row.lengths ≡ true) where
      pub fault_filler : end.filler ≢ 0 → 19 ≡ block_fault row h end
      unfolding block_fault first_fault
      fault_filler e = rw (down, short, ne_eqb end.filler 0 e)

      pub fault_none : end.filler ≡ 0 → 0 ≡ block_fault row h end
      unfolding block_fault first_fault
      fault_none e = rw (down, short, e)

-- ── A block read to its end ──

module _ (s : List ℕ) (z : Size) (row col : ℕ) (st : V0Row) where
  -- A block read in one go.
  pub seen_whole : Inner z row col → (x : ReadBlock) → x ≡ whole_block s st → record { up = x.up; row = x.row } ≡ seen s z row col st
  unfolding seen whole_block with_residuals
  seen_whole i x e = ap₂ (λ u r. record { up = u; row = r }) (ap (λ b. b.up) e) (inner_state s st i x e)

  -- A block read sample by sample.
  pub seen_samples : (h : V0Head) (b : Bits) → h ≡ head s st → b ≡ (samples_of s z row col h order h.row.bits).bits
      → record { up = h.up; row = record { lengths = h.row.lengths; bits = b } } ≡ seen s z row col st
  unfolding seen
  seen_samples h b eh eb = ap₂ (λ u r. record { up = u; row = r }) (ap (λ x. x.up) eh) (block_state s z row col st h eh b eb)
