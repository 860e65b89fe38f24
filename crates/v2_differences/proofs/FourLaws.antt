-- Differences by position are those that the reader's state reads: the sixteen of a block out of four windows.
use Rattle.std.proofs.Common.{◌≡◌, ℕ, zero, suc, ◌+◌, ◌-◌, ◌*◌, ◌/◌, ◌^◌, ◌<◌, ◌≤◌, min, true, ◌&&◌, leb, List, length, get_or, set, ℤ, sym, refl, ◌∙◌, arith, leb-true}
use Rattle.std.specs.List.{list_all}
use Rattle.std.proofs.Common.{nat_le, Bool, false, [], ◌∷◌}
use Rattle.rules.specs.Reader.{word_at, signed, read_signed}
use Rattle.rules.specs.V2.{position, differences_from}
use Rattle.rules.specs.declared.reader.Bits.{Bits}
use Rattle.rules.proofs.ReaderLaws.{read_signed_is}
use Rattle.rules.proofs.Tests.{both}
use Rattle.read_window.specs.Window.{bits_from, state_at, FourAt, Standing}
use Rattle.read_window.proofs.WindowLaws.{read_at}
use Rattle.v2_differences.specs.Four.{Short, short}
use Rattle.v2_differences.specs.Positions.{row_positions, stored_four}
use Rattle.v2_differences.proofs.DifferenceLaws.{difference_more, difference_end}
use Rattle.v2_differences.proofs.PositionLaws.{position_at}

-- ── Short lengths ──

pub short_is : (ls : List ℕ) → short ls ≡ true → Short ls
unfolding short
short_is ls e =
    let a = both (leb (get_or ls 0 0) 16) (leb (get_or ls 1 0) 16 && (leb (get_or ls 2 0) 16 && leb (get_or ls 3 0) 16)) e in
    let b = both (leb (get_or ls 1 0) 16) (leb (get_or ls 2 0) 16 && leb (get_or ls 3 0) 16) a.1 in
    let c = both (leb (get_or ls 2 0) 16) (leb (get_or ls 3 0) 16) b.1 in
    record { most = go (leb-true _ _ a.0) (leb-true _ _ b.0) (leb-true _ _ c.0) (leb-true _ _ c.1) }
  where
    go : get_or ls 0 0 ≤ 16 → get_or ls 1 0 ≤ 16 → get_or ls 2 0 ≤ 16 → get_or ls 3 0 ≤ 16 → (j : ℕ) → j < 4 → get_or ls j 0 ≤ 16
    go a b c d zero h = a
    go a b c d (suc zero) h = b
    go a b c d (suc (suc zero)) h = c
    go a b c d (suc (suc (suc zero))) h = d
    go a b c d (suc (suc (suc (suc j)))) h = absurd (omega arith)

and_true : (t : Bool) → t && true ≡ t
and_true true = refl
and_true false = refl

pub short_all : (ls : List ℕ) → length ls ≡ 4 → list_all (λ n. nat_le n 16) ls ≡ short ls
unfolding short
short_all [] e = absurd (omega (arith, e))
short_all (a ∷ []) e = absurd (omega (arith, e))
short_all (a ∷ b ∷ []) e = absurd (omega (arith, e))
short_all (a ∷ b ∷ c ∷ []) e = absurd (omega (arith, e))
short_all (a ∷ b ∷ c ∷ d ∷ []) e = rw (and_true (nat_le d 16))
short_all (a ∷ b ∷ c ∷ d ∷ x ∷ ls) e = absurd (omega (arith, e))

-- ── As the state reads them ──

-- A difference of n bits, its words being there.
signed_at : (s : List ℕ) (base q f n : ℕ) → n ≤ 16 → 0 < q → base + (q + n + 31) / 32 * 4 ≤ length s → base + (q + n + 31) / 32 * 4 + 4 < 2 ^ 64
    → ((q + 31) / 32 * 32 < q + n → word_at s (base + (q + 31) / 32 * 4) < 2 ^ 32)
    → read_signed s (state_at s base q f) n ≡ record { value = signed n (bits_from s base q n); bits = state_at s base (q + n) f }
signed_at s base q f n few some there far whole =
    let m : min n 32 ≡ n = omega arith in
    rw (read_signed_is s (state_at s base q f) n, m, read_at s base q n f some (omega arith) there far whole)

-- The differences from number 4 j on: the four of length number j, out of a window, and those after them.
module _ (s : List ℕ) (row : ℕ) (ls : List ℕ) (base f : ℕ) (j : ℕ) (h : j < 4) where
  group_more : (ds : List ℤ) (q n p₀ p₁ p₂ p₃ : ℕ) → n ≡ get_or ls j 0 → n ≤ 16 → 0 < q
      → base + (q + 4 * n + 31) / 32 * 4 ≤ length s → base + (q + 4 * n + 31) / 32 * 4 + 4 < 2 ^ 64
      → ((i : ℕ) → q ≤ i * 32 → i * 32 < q + 4 * n → word_at s (base + i * 4) < 2 ^ 32)
      → p₀ ≡ position row (4 * j) → p₁ ≡ position row (4 * j + 1) → p₂ ≡ position row (4 * j + 1 + 1) → p₃ ≡ position row (4 * j + 1 + 1 + 1)
      → differences_from s row ls (16 - 4 * j) (4 * j) (record { values = ds; bits = state_at s base q f })
      ≡ differences_from s row ls (16 - (4 * j + 1 + 1 + 1 + 1)) (4 * j + 1 + 1 + 1 + 1)
      (record {
        values = set (set (set (set ds p₀ (signed n (bits_from s base q n))) p₁ (signed n (bits_from s base (q + n) n))) p₂ (signed n (bits_from s base (q + n + n) n))) p₃ (signed n (bits_from s base (q + n + n + n) n));
        bits = state_at s base (q + n + n + n + n) f;
      })
  group_more ds q n p₀ p₁ p₂ p₃ en few some there far whole e₀ e₁ e₂ e₃ =
      let k₀ : 4 * j / 4 ≡ j = omega arith in
      let k₁ : (4 * j + 1) / 4 ≡ j = omega arith in
      let k₂ : (4 * j + 1 + 1) / 4 ≡ j = omega arith in
      let k₃ : (4 * j + 1 + 1 + 1) / 4 ≡ j = omega arith in
      let g₀ = signed_at s base q f n few some (omega arith) (omega arith) (λ l. whole _ (omega arith) (omega arith)) in
      let g₁ = signed_at s base (q + n) f n few (omega arith) (omega arith) (omega arith) (λ l. whole _ (omega arith) (omega arith)) in
      let g₂ = signed_at s base (q + n + n) f n few (omega arith) (omega arith) (omega arith) (λ l. whole _ (omega arith) (omega arith)) in
      let g₃ = signed_at s base (q + n + n + n) f n few (omega arith) (omega arith) (omega arith) (λ l. whole _ (omega arith) (omega arith)) in
      difference_more s row ls (4 * j) ds (state_at s base q f) _ p₀ (omega arith) (rw (k₀, ← en) (sym g₀)) e₀
      ∙ difference_more s row ls (4 * j + 1) _ (state_at s base (q + n) f) _ p₁ (omega arith) (rw (k₁, ← en) (sym g₁)) e₁
      ∙ difference_more s row ls (4 * j + 1 + 1) _ (state_at s base (q + n + n) f) _ p₂ (omega arith) (rw (k₂, ← en) (sym g₂)) e₂
      ∙ difference_more s row ls (4 * j + 1 + 1 + 1) _ (state_at s base (q + n + n + n) f) _ p₃ (omega arith) (rw (k₃, ← en) (sym g₃)) e₃

-- The loop over four windows, before length number j: the differences from number 4 j on, by the state that stands before bit q,
-- come to what all sixteen come to, in each row whose positions are ps.
pub record Reached (s ps ls : List ℕ) (base f q₀ : ℕ) (ds₀ : List ℤ) (j q : ℕ) (ds : List ℤ) : Type 0 where
  pub within : j ≤ 4
  pub late : 64 < q
  pub soon : q ≤ 96 + 64 * j
  pub is : (row : ℕ) → ps ≡ row_positions row
      → differences_from s row ls 16 0 (record { values = ds₀; bits = state_at s base q₀ f })
      ≡ differences_from s row ls (16 - 4 * j) (4 * j) (record { values = ds; bits = state_at s base q f })

pub reached_start : (s ps ls : List ℕ) (base f count : ℕ) (ds : List ℤ) → count < 32
    → Reached s ps ls base f (96 - count) ds 0 (96 - count) ds
reached_start s ps ls base f count ds few = record { within = omega arith; late = omega arith; soon = omega arith; is = λ row e. refl }

module _ (s ps ls : List ℕ) (base f q₀ : ℕ) (ds₀ : List ℤ) where
  pub reached_more : (j q n : ℕ) (ds ds' r : List ℤ) → j < 4 → n ≡ get_or ls j 0 → n ≤ 16 → base + 48 ≤ length s → base + 48 < 2 ^ 64 → FourAt (signed n) s base q n r
      → ds' ≡ stored_four ds ps (4 * j) r
      → Reached s ps ls base f q₀ ds₀ j q ds → Reached s ps ls base f q₀ ds₀ (j + 1) (q + 4 * n) ds'
  reached_more j q n ds ds' r h en few there far x ed l =
      let late : 64 < q = l.late in
      let soon : q ≤ 96 + 64 * j = l.soon in
      record { within = omega arith; late = omega arith; soon = omega arith; is = on }
    where
      on : (row : ℕ) → ps ≡ row_positions row
          → differences_from s row ls 16 0 (record { values = ds₀; bits = state_at s base q₀ f })
          ≡ differences_from s row ls (16 - 4 * (j + 1)) (4 * (j + 1)) (record { values = ds'; bits = state_at s base (q + 4 * n) f })
      on row e =
          let late : 64 < q = l.late in
          let soon : q ≤ 96 + 64 * j = l.soon in
          let k : 4 * j + 1 + 1 + 1 + 1 ≡ 4 * (j + 1) = omega arith in
          let k₂ : 4 * j + 1 + 1 ≡ 4 * j + 2 = omega arith in
          let k₃ : 4 * j + 1 + 1 + 1 ≡ 4 * j + 3 = omega arith in
          let q₂ : q + n + n ≡ q + 2 * n = omega arith in
          let q₃ : q + 2 * n + n ≡ q + 3 * n = omega arith in
          let q₄ : q + 3 * n + n ≡ q + 4 * n = omega arith in
          let e₀ = (position_at row (4 * j) ps e (omega arith)).0 in
          let e₁ = (position_at row (4 * j + 1) ps e (omega arith)).0 in
          let e₂ : get_or ps (4 * j + 2) 0 ≡ position row (4 * j + 1 + 1) = rw k₂ (position_at row (4 * j + 2) ps e (omega arith)).0 in
          let e₃ : get_or ps (4 * j + 3) 0 ≡ position row (4 * j + 1 + 1 + 1) = rw k₃ (position_at row (4 * j + 3) ps e (omega arith)).0 in
          let g = group_more s row ls base f j h ds q n _ _ _ _ en few (omega arith) (omega arith) (omega arith) x.whole e₀ e₁ e₂ e₃ in
          l.is row e ∙ rw (ed, x.are) (rw (k, q₂, q₃, q₄) at g)

-- After the four the state is made again.
pub reached_end : (s ps ls : List ℕ) (b b' : Bits) (j q : ℕ) (ds₀ ds : List ℤ) → Standing s b 40 → b' ≡ state_at s (b.pos - 12) q b.filler
    → Reached s ps ls (b.pos - 12) b.filler (96 - b.count) ds₀ j q ds → 4 ≤ j → (row : ℕ) → ps ≡ row_positions row
    → record { values = ds; bits = b' } ≡ differences_from s row ls 16 0 (record { values = ds₀; bits = b })
reached_end s ps ls b b' j q ds₀ ds at e l h row p =
    let d = difference_end s row ls (4 * j) (record { values = ds; bits = state_at s (b.pos - 12) q b.filler }) (omega arith) in
    rw e (sym (rw (← at.is) at (l.is row p) ∙ d))
