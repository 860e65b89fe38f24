-- A block that was stored as its lanes came is read back in the order of the stream.
use Rattle.std.proofs.Common.{◌≡◌, ℕ, zero, suc, ◌+◌, ◌-◌, ◌<◌, ◌≤◌, Bool, ◌≢◌, List, [], ◌∷◌, map, length, get_or, set, replicate, sym, refl, ap, ◌∙◌, subst, ap₂, ne_of_lt, arith, length-set, get_or-set_other, get_or-set_same, ext_get_or, below_more}
use native.Mathlib.Decide.{dec_lt}
use Rattle.rules.specs.V0.{apply, order, sample_kind}
use Rattle.v0_cells.specs.Inner.{source_of, inner_ops, Replaced}
use Rattle.v0_cells.specs.Places.{Inside}
use Rattle.v0_cells.proofs.StagedLaws.{source_before, replaced_same, ops_replace}
use Rattle.v0_lanes.specs.Blocks.{four_set, stored, listed, lane_of, Columns, predict_lanes}

-- Four cells, the last of four numbers first.
module _ (f : List ℕ) (at a b c d : ℕ) where
  abbrev f₁ : List ℕ
  f₁ = set f at d

  abbrev f₂ : List ℕ
  f₂ = set f₁ (at + 1) c

  abbrev f₃ : List ℕ
  f₃ = set f₂ (at + 2) b

  pub four_length : length (four_set f at a b c d) ≡ length f
  four_length = simp length-set

  pub four_outside : (i : ℕ) → i ≢ at → i ≢ at + 1 → i ≢ at + 2 → i ≢ at + 3 → get_or (four_set f at a b c d) i 0 ≡ get_or f i 0
  four_outside i h₀ h₁ h₂ h₃ =
      get_or-set_other f₃ (at + 3) i a 0 h₃ ∙ get_or-set_other f₂ (at + 2) i b 0 h₂ ∙ get_or-set_other f₁ (at + 1) i c 0 h₁ ∙ get_or-set_other f at i d 0 h₀

  -- What each holds.
  pub four_inside : at + 4 ≤ length f → (j : ℕ) → j < 4 → get_or (four_set f at a b c d) (at + j) 0 ≡ get_or (d ∷ c ∷ b ∷ a ∷ []) j 0
  four_inside room zero h =
      let e : at + 0 ≡ at = omega arith in
      rw e
      (get_or-set_other f₃ (at + 3) at a 0 (λ q. omega arith) ∙ get_or-set_other f₂ (at + 2) at b 0 (λ q. omega arith) ∙ get_or-set_other f₁ (at + 1) at c 0 (λ q. omega arith)
      ∙ get_or-set_same f at d 0 (omega arith))
  four_inside room (suc zero) h =
      get_or-set_other f₃ (at + 3) (at + 1) a 0 (λ q. omega arith) ∙ get_or-set_other f₂ (at + 2) (at + 1) b 0 (λ q. omega arith)
      ∙ get_or-set_same f₁ (at + 1) c 0 (simp length-set (omega arith))
  four_inside room (suc (suc zero)) h = get_or-set_other f₃ (at + 3) (at + 2) a 0 (λ q. omega arith) ∙ get_or-set_same f₂ (at + 2) b 0 (simp length-set (omega arith))
  four_inside room (suc (suc (suc zero))) h = get_or-set_same f₃ (at + 3) a 0 (simp length-set (omega arith))
  four_inside room (suc (suc (suc (suc j)))) h = absurd (omega arith)

-- Sixteen cells: what each holds, and the others.
module _ (f : List ℕ) (at : ℕ) (r : List ℕ) (room : at + 16 ≤ length f) where
  abbrev g₁ : List ℕ
  g₁ = four_set f at (get_or r 0 0) (get_or r 1 0) (get_or r 2 0) (get_or r 3 0)

  abbrev g₂ : List ℕ
  g₂ = four_set g₁ (at + 4) (get_or r 4 0) (get_or r 5 0) (get_or r 6 0) (get_or r 7 0)

  abbrev g₃ : List ℕ
  g₃ = four_set g₂ (at + 8) (get_or r 8 0) (get_or r 9 0) (get_or r 10 0) (get_or r 11 0)

  len₁ : length g₁ ≡ length f
  len₁ = four_length f at (get_or r 0 0) (get_or r 1 0) (get_or r 2 0) (get_or r 3 0)

  len₂ : length g₂ ≡ length f
  len₂ = four_length g₁ (at + 4) (get_or r 4 0) (get_or r 5 0) (get_or r 6 0) (get_or r 7 0) ∙ len₁

  len₃ : length g₃ ≡ length f
  len₃ = four_length g₂ (at + 8) (get_or r 8 0) (get_or r 9 0) (get_or r 10 0) (get_or r 11 0) ∙ len₂

  past₄ : (i : ℕ) → i < at + 12 → get_or (stored f at r) i 0 ≡ get_or g₃ i 0
  unfolding stored
  past₄ i h = four_outside g₃ (at + 12) (get_or r 12 0) (get_or r 13 0) (get_or r 14 0) (get_or r 15 0) i (λ e. omega arith) (λ e. omega arith) (λ e. omega arith) (λ e. omega arith)

  past₃ : (i : ℕ) → i < at + 8 → get_or (stored f at r) i 0 ≡ get_or g₂ i 0
  past₃ i h =
      past₄ i (omega arith)
      ∙ four_outside g₂ (at + 8) (get_or r 8 0) (get_or r 9 0) (get_or r 10 0) (get_or r 11 0) i (λ e. omega arith) (λ e. omega arith) (λ e. omega arith) (λ e. omega arith)

  past₂ : (i : ℕ) → i < at + 4 → get_or (stored f at r) i 0 ≡ get_or g₁ i 0
  past₂ i h =
      past₃ i (omega arith)
      ∙ four_outside g₁ (at + 4) (get_or r 4 0) (get_or r 5 0) (get_or r 6 0) (get_or r 7 0) i (λ e. omega arith) (λ e. omega arith) (λ e. omega arith) (λ e. omega arith)

  pub stored_before : (i : ℕ) → i < at → get_or (stored f at r) i 0 ≡ get_or f i 0
  stored_before i h =
      past₂ i (omega arith)
      ∙ four_outside f at (get_or r 0 0) (get_or r 1 0) (get_or r 2 0) (get_or r 3 0) i (λ e. omega arith) (λ e. omega arith) (λ e. omega arith) (λ e. omega arith)

  pub stored_after : (i : ℕ) → at + 16 ≤ i → get_or (stored f at r) i 0 ≡ get_or f i 0
  unfolding stored
  stored_after i h =
      four_outside g₃ (at + 12) (get_or r 12 0) (get_or r 13 0) (get_or r 14 0) (get_or r 15 0) i (λ e. omega arith) (λ e. omega arith) (λ e. omega arith) (λ e. omega arith)
      ∙ four_outside g₂ (at + 8) (get_or r 8 0) (get_or r 9 0) (get_or r 10 0) (get_or r 11 0) i (λ e. omega arith) (λ e. omega arith) (λ e. omega arith) (λ e. omega arith)
      ∙ four_outside g₁ (at + 4) (get_or r 4 0) (get_or r 5 0) (get_or r 6 0) (get_or r 7 0) i (λ e. omega arith) (λ e. omega arith) (λ e. omega arith) (λ e. omega arith)
      ∙ four_outside f at (get_or r 0 0) (get_or r 1 0) (get_or r 2 0) (get_or r 3 0) i (λ e. omega arith) (λ e. omega arith) (λ e. omega arith) (λ e. omega arith)

  pub stored_length : length (stored f at r) ≡ length f
  unfolding stored
  stored_length = four_length g₃ (at + 12) (get_or r 12 0) (get_or r 13 0) (get_or r 14 0) (get_or r 15 0) ∙ len₃

  -- Group by group, the last first.
  in₁ : (i j : ℕ) → i ≡ at + j → j < 4 → get_or (stored f at r) i 0 ≡ get_or (get_or r 3 0 ∷ get_or r 2 0 ∷ get_or r 1 0 ∷ get_or r 0 0 ∷ []) j 0
  in₁ i j e h = past₂ i (omega arith) ∙ ap (λ (x : ℕ). get_or g₁ x 0) e ∙ four_inside f at (get_or r 0 0) (get_or r 1 0) (get_or r 2 0) (get_or r 3 0) (omega arith) j h

  in₂ : (i j : ℕ) → i ≡ at + 4 + j → j < 4 → get_or (stored f at r) i 0 ≡ get_or (get_or r 7 0 ∷ get_or r 6 0 ∷ get_or r 5 0 ∷ get_or r 4 0 ∷ []) j 0
  in₂ i j e h =
      past₃ i (omega arith) ∙ ap (λ (x : ℕ). get_or g₂ x 0) e ∙ four_inside g₁ (at + 4) (get_or r 4 0) (get_or r 5 0) (get_or r 6 0) (get_or r 7 0) (omega (arith, len₁)) j h

  in₃ : (i j : ℕ) → i ≡ at + 8 + j → j < 4 → get_or (stored f at r) i 0 ≡ get_or (get_or r 11 0 ∷ get_or r 10 0 ∷ get_or r 9 0 ∷ get_or r 8 0 ∷ []) j 0
  in₃ i j e h =
      past₄ i (omega arith) ∙ ap (λ (x : ℕ). get_or g₃ x 0) e ∙ four_inside g₂ (at + 8) (get_or r 8 0) (get_or r 9 0) (get_or r 10 0) (get_or r 11 0) (omega (arith, len₂)) j h

  in₄ : (i j : ℕ) → i ≡ at + 12 + j → j < 4 → get_or (stored f at r) i 0 ≡ get_or (get_or r 15 0 ∷ get_or r 14 0 ∷ get_or r 13 0 ∷ get_or r 12 0 ∷ []) j 0
  unfolding stored
  in₄ i j e h =
      let there = four_inside g₃ (at + 12) (get_or r 12 0) (get_or r 13 0) (get_or r 14 0) (get_or r 15 0) (omega (arith, len₃)) j h in
      ap (λ (x : ℕ). get_or (stored f at r) x 0) e ∙ there

  -- Read back by the lanes of the columns, in the order of the stream.
  pub read_back : map (λ c. get_or (stored f at r) (at + lane_of c) 0) order ≡ listed r
  read_back =
      rw (
        in₁ (at + 3) 3 refl (omega arith),
        in₁ (at + 2) 2 refl (omega arith),
        in₁ (at + 1) 1 refl (omega arith),
        in₁ (at + 0) 0 refl (omega arith),
        in₂ (at + 7) 3 (omega arith) (omega arith),
        in₂ (at + 6) 2 (omega arith) (omega arith),
        in₂ (at + 5) 1 (omega arith) (omega arith),
        in₂ (at + 4) 0 (omega arith) (omega arith),
        in₃ (at + 11) 3 (omega arith) (omega arith),
        in₃ (at + 10) 2 (omega arith) (omega arith),
        in₃ (at + 9) 1 (omega arith) (omega arith),
        in₃ (at + 8) 0 (omega arith) (omega arith),
        in₄ (at + 15) 3 (omega arith) (omega arith),
        in₄ (at + 14) 2 (omega arith) (omega arith),
        in₄ (at + 13) 1 (omega arith) (omega arith),
        in₄ (at + 12) 0 (omega arith) (omega arith),
      )

-- What is stored doesn't depend on the frame.
pub stored_same : (f g : List ℕ) (at : ℕ) (r : List ℕ) → at + 16 ≤ length f → at + 16 ≤ length g → (i : ℕ) → at ≤ i → i < at + 16
    → get_or (stored f at r) i 0 ≡ get_or (stored g at r) i 0
stored_same f g at r room room' i l h = go (dec_lt i (at + 4)) (dec_lt i (at + 8)) (dec_lt i (at + 12))
  where
    Same : Type 0
    Same = get_or (stored f at r) i 0 ≡ get_or (stored g at r) i 0

    go : Dec (i < at + 4) → Dec (i < at + 8) → Dec (i < at + 12) → Same
    go (yes a) b c = in₁ f at r room i (i - at) (omega arith) (omega arith) ∙ sym (in₁ g at r room' i (i - at) (omega arith) (omega arith))
    go (no a) (yes b) c = in₂ f at r room i (i - (at + 4)) (omega arith) (omega arith) ∙ sym (in₂ g at r room' i (i - (at + 4)) (omega arith) (omega arith))
    go (no a) (no b) (yes c) = in₃ f at r room i (i - (at + 8)) (omega arith) (omega arith) ∙ sym (in₃ g at r room' i (i - (at + 8)) (omega arith) (omega arith))
    go (no a) (no b) (no c) = in₄ f at r room i (i - (at + 12)) (omega arith) (omega arith) ∙ sym (in₄ g at r room' i (i - (at + 12)) (omega arith) (omega arith))

-- Cells outside the block are as they were.
pub stored_outside : (f : List ℕ) (at : ℕ) (r : List ℕ) → at + 16 ≤ length f → (j : ℕ) → ((c : ℕ) → c < 16 → j ≢ at + c) → get_or (stored f at r) j 0 ≡ get_or f j 0
stored_outside f at r room j h = go (dec_lt j at) (dec_lt j (at + 16))
  where
    go : Dec (j < at) → Dec (j < at + 16) → get_or (stored f at r) j 0 ≡ get_or f j 0
    go (yes l) m = stored_before f at r room j l
    go (no l) (no m) = stored_after f at r room j (omega arith)
    go (no l) (yes m) = absurd (h (j - at) (omega arith) (omega arith))

-- A block whose cells are replaced by what the next block doesn't change: before the next one is stored or after it.
pub replaced_past : {base : ℕ} {new new' : ℕ → ℕ} (at : ℕ) (f r p x : List ℕ) → at ≡ base + 16 → at + 16 ≤ length f
    → Replaced sample_kind base 16 new f p → Replaced sample_kind base 16 new' (stored f at r) x → ((c : ℕ) → c < 16 → new' c ≡ new c) → x ≡ stored p at r
replaced_past {base} at f r p x ea room y z same =
    ext_get_or 0 x (stored p at r) (z.same_length ∙ stored_length f at r room ∙ sym (stored_length p at r there ∙ y.same_length)) (λ j l. go j (dec_lt j base) (dec_lt j at) (dec_lt j (at + 16)))
  where
    there : at + 16 ≤ length p
    there = omega (arith, y.same_length)

    go : (j : ℕ) → Dec (j < base) → Dec (j < at) → Dec (j < at + 16) → get_or x j 0 ≡ get_or (stored p at r) j 0
    go j (yes l) m n =
        z.outside j (λ c h e. omega arith) ∙ stored_before f at r room j (omega arith) ∙ sym (y.outside j (λ c h e. omega arith)) ∙ sym (stored_before p at r there j (omega arith))
    go j (no l) (yes m) n =
        let e : base + (j - base) ≡ j = omega arith in let h : j - base < 16 = omega arith in
        subst (λ k. get_or x k 0 ≡ get_or (stored p at r) k 0) e
        (z.inside (j - base) h ∙ same (j - base) h ∙ sym (y.inside (j - base) h) ∙ sym (stored_before p at r there (base + (j - base)) (omega arith)))
    go j (no l) (no m) (yes n) = z.outside j (λ c h e. omega arith) ∙ stored_same f p at r room there j (omega arith) n
    go j (no l) (no m) (no n) =
        z.outside j (λ c h e. omega arith) ∙ stored_after f at r room j (omega arith) ∙ sym (y.outside j (λ c h e. omega arith)) ∙ sym (stored_after p at r there j (omega arith))

-- ── Predictions ──

-- A frame that differs in the block's own cells alone gives the same, since none of them is a source.
over : (w base : ℕ) (up : Bool) (d : ℕ → ℕ) (f g : List ℕ) → Inside w base f → length g ≡ length f
    → ((i : ℕ) → ((c : ℕ) → c < 16 → i ≢ base + c) → get_or g i 0 ≡ get_or f i 0)
    → apply sample_kind (inner_ops w base up order (map d order)) g ≡ apply sample_kind (inner_ops w base up order (map d order)) f
over w base up d f g i e same =
    let there : Inside w base g = record { wide = i.wide; rows = i.rows; room = omega (arith, i.room) } in
    let x = ops_replace sample_kind w base up d g there in
    replaced_same 16 _ _
    (record {
      same_length = x.same_length ∙ e;
      inside = λ c l. x.inside c l ∙ ap (λ y. sample_kind.plus y (d c)) (same (source_of w base up c) (λ b h q. apart c l b q));
      outside = λ j h. x.outside j h ∙ same j h;
    })
    (ops_replace sample_kind w base up d f i)
  where
    apart : (c : ℕ) → c < 16 → (b : ℕ) → source_of w base up c ≡ base + b → ⊥
    apart c l b q = let before = source_before w base up c i.wide i.rows l in absurd (omega (arith, before, q))

-- A block that was stored as its lanes came becomes what the operations with its residuals make of the frame before.
pub predict_stored : (w base : ℕ) (up : Bool) (f r : List ℕ) → Inside w base f
    → predict_lanes w base up (stored f base r) ≡ apply sample_kind (inner_ops w base up order (listed r)) f
predict_stored w base up f r i =
    over w base up (λ c. get_or (stored f base r) (base + lane_of c) 0) f (stored f base r) i (stored_length f base r i.room) (stored_outside f base r i.room)
    ∙ ap (λ rs. apply sample_kind (inner_ops w base up order rs) f) (read_back f base r i.room)

-- A block's predictions don't reach the next block, nor do they look at it.
pub predict_past : (w base at : ℕ) (up : Bool) (f r : List ℕ) → at ≡ base + 16 → Inside w base f → at + 16 ≤ length f
    → predict_lanes w base up (stored f at r) ≡ stored (predict_lanes w base up f) at r
predict_past w base at up f r ea i room =
    replaced_past at f r _ _ ea room (ops_replace sample_kind w base up _ f i)
    (ops_replace sample_kind w base up _ (stored f at r) (record { wide = i.wide; rows = i.rows; room = omega (arith, stored_length f at r room) }))
    (λ c l. let before = source_before w base up c i.wide i.rows l in
    ap₂ (λ a b. sample_kind.plus a b) (stored_before f at r room (source_of w base up c) (omega (arith, before))) (stored_before f at r room (base + lane_of c) (omega arith)))

-- ── In the order of the columns ──

module _ (f : List ℕ) (base : ℕ) where
  pub columns_none : Columns f base 0 (replicate 16 0)
  columns_none = record { few = omega arith; size = refl; each = λ c h. absurd (omega arith) }

  pub columns_more : (c v : ℕ) (d : List ℕ) → Columns f base c d → c < 16 → v ≡ get_or f (base + lane_of c) 0 → Columns f base (c + 1) (set d c v)
  columns_more c v d m h e =
      let there : c < length d = omega (arith, m.size) in
      record {
        few = omega arith;
        size = length-set d c v ∙ m.size;
        each = below_more (λ (j : ℕ). get_or (set d c v) j 0 ≡ get_or f (base + lane_of j) 0) c
            (λ j l. get_or-set_other d c j v 0 (ne_of_lt l) ∙ m.each j l) (get_or-set_same d c v 0 there ∙ e);
      }

  pub columns_all : (c : ℕ) (d : List ℕ) → Columns f base c d → 16 ≤ c → Columns f base 16 d
  columns_all c d m h = record { few = omega arith; size = m.size; each = λ j l. m.each j (omega arith) }
