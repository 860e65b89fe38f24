-- V0: two offset tables that agree before entry r give frames that agree on all rows before r − (r mod 2). Rows before r are read
-- alike, later rows write nothing there, and the exchange joins rows in pairs.
use Prim.Native.Nat.{ℕ, zero, suc, ◌+◌, ◌-◌, ◌*◌, ◌/◌, ◌%◌, ◌≤◌, ◌<◌}
use mathlib.Core.Bool.{Bool}
use mathlib.Core.Path.{◌≡◌, refl, sym, ap, ◌∙◌}
use mathlib.Core.List.{List, ◌++◌, append_assoc}
use mathlib.Core.Logic.{by_cases}
use native.Mathlib.Omega.{arith}
use native.Mathlib.Decide.{ℕ_discrete, dec_lt}
use native.Mathlib.Nat.{mul-le-mul_right, zero-add, add-zero, suc-add}
use lib.ListN.{length, get_or, set, length-set}
use lib.Seq.{get_or-set_same, get_or-set_other, set_out}
use Rattle.rules.specs.declared.answer.Size.{Size}
use Rattle.rules.specs.declared.v0.Predictor.{Predictor}
use Rattle.rules.specs.declared.v0.V0Op.{V0Op}
use Rattle.rules.specs.declared.v0.V0Row.{V0Row}
use Rattle.rules.specs.V0.{Kind, Block, apply, write, write_all, swap, exchange_columns, exchange_rows, exchange, frame, rows, row_blocks, blocks, blocks_in, fresh_row, order, predictor}
use Rattle.rules.proofs.Cells.{All, nil, more, all_append, all_map, all_every, change_other}
use Rattle.rules.proofs.V0Blocks.{after}
use Rattle.rules.proofs.V0Cells.{write_all_length, write_all_append}
use Rattle.rules.proofs.Spill.{cell, Agree, put_other, samples_all}
use Rattle.rules.proofs.Tests.{by-test}
use Rattle.entry_late.specs.Late.{AgreeBefore, whole_pairs}

-- ── Rows ──

-- A block and its operations lie at or after a place.
record Low (n : ℕ) (b : Block) : Type 0 where
  place : n ≤ b.place
  ops : All (λ o. n ≤ o.place) b.ops

blocks_low : (s : List ℕ) (first : ℕ) (predict : ℕ → Bool → ℕ → Predictor) (n col : ℕ) (st : V0Row)
    → All (Low first) (blocks s first predict n col st).blocks
unfolding blocks
blocks_low s first predict zero col st = nil
blocks_low s first predict (suc n) col st =
    let l : first ≤ first + col = omega arith in
    more
    (record {
      place = l;
      ops = samples_all (λ o. first ≤ o.place) s (first + col) _ _ order _ (all_every _ (λ c d. omega arith) order);
    })
    (blocks_low s first predict n (col + 16) (after s first predict col st))

rows_low : (s o : List ℕ) (z : Size) (n row : ℕ) → All (Low (row * z.width)) (rows s o z n row)
unfolding rows row_blocks
rows_low s o z zero row = nil
rows_low s o z (suc n) row =
    all_append _ (blocks_low s (row * z.width) (predictor z row) (blocks_in z.width) 0 (fresh_row row (get_or o row 0)))
    (all_map (Low (suc row * z.width)) (Low (row * z.width)) down (rows_low s o z n (suc row)))
  where
    down : (b : Block) → Low (suc row * z.width) b → Low (row * z.width) b
    down b h =
        let l = h.place in
        record { place = omega arith; ops = all_map (λ o. suc row * z.width ≤ o.place) (λ o. row * z.width ≤ o.place) (λ o q. omega arith) h.ops }

-- Rows before r by tables that agree before entry r.
rows_alike : (s o o' : List ℕ) (z : Size) (n row : ℕ) → ((i : ℕ) → i < row + n → get_or o i 0 ≡ get_or o' i 0) → rows s o z n row ≡ rows s o' z n row
unfolding rows
rows_alike s o o' z zero row h = refl
rows_alike s o o' z (suc n) row h = rw (h row (omega arith), rows_alike s o o' z n (suc row) (λ i l. h i (omega arith)))

rows_split : (s o : List ℕ) (z : Size) (n m row : ℕ) → rows s o z (n + m) row ≡ rows s o z n row ++ rows s o z m (row + n)
unfolding rows
rows_split s o z zero m row = rw (zero-add, add-zero)
rows_split s o z (suc n) m row =
    let e : row + suc n ≡ suc row + n = omega arith in
    rw (suc-add, rows_split s o z n m (suc row), e)
    (sym (append_assoc (row_blocks s z row (get_or o row 0)).blocks (rows s o z n (suc row)) (rows s o z m (suc row + n))))

module _ {A : Type 0} (k : Kind A) where
  apply_low : (n : ℕ) {os : List V0Op} → All (λ o. n ≤ o.place) os → (f : List A) → Agree k n (apply k os f) f
  unfolding apply
  apply_low n nil f i l = refl
  apply_low n (more {a = o} h hs) f i l = apply_low n hs _ i l ∙ put_other k o.place o.predictor o.residual f i (λ e. omega arith)

  -- Blocks at or after a place change nothing before it.
  write_low : (n : ℕ) (b : Block) → Low n b → (f : List A) → Agree k n (write k b f) f
  unfolding write
  write_low n b h f i l =
      by-test b.filler
      (λ e. rw e (change_other k.filled (k.constant 0) 16 b.place g i (λ q. let p = h.place in absurd (omega arith)) ∙ apply_low n h.ops f i l))
      (λ e. rw e (apply_low n h.ops f i l))
    where
      g : List A
      g = apply k b.ops f

  write_all_low : (n : ℕ) {bs : List Block} → All (Low n) bs → (f : List A) → Agree k n (write_all k bs f) f
  unfolding write_all
  write_all_low n nil f i l = refl
  write_all_low n (more {a = b} h hs) f i l = write_all_low n hs _ i l ∙ write_low n b h f i l

  -- ── The exchange ──

  -- Two places that lie both before n or both from n on.
  data Side (n a b : ℕ) : Type 0 where
    under : a < n → b < n → Side n a b
    over : n ≤ a → n ≤ b → Side n a b

  set_same : (n a : ℕ) (x : A) (f g : List A) → length f ≡ length g → Agree k n f g → Agree k n (set f a x) (set g a x)
  set_same n a x f g e h i l =
      by_cases (ℕ_discrete i a)
      (λ q. by_cases (dec_lt a (length f))
      (λ d. rw q (get_or-set_same f a x _ d ∙ sym (get_or-set_same g a x _ (omega arith))))
      (λ d. rw (set_out f a x (omega arith), set_out g a x (omega arith)) (h i l)))
      (λ q. get_or-set_other f a i x _ q ∙ h i l ∙ sym (get_or-set_other g a i x _ q))

  set_over : (n a : ℕ) (x y : A) (f g : List A) → n ≤ a → Agree k n f g → Agree k n (set f a x) (set g a y)
  set_over n a x y f g q h i l =
      get_or-set_other f a i x _ (λ e. omega arith) ∙ h i l ∙ sym (get_or-set_other g a i y _ (λ e. omega arith))

  swap_same : (n a b : ℕ) → Side n a b → (f g : List A) → length f ≡ length g → Agree k n f g → Agree k n (swap k a b f) (swap k a b g)
  unfolding swap
  swap_same n a b (under p q) f g e h =
      rw (h a p, h b q) (set_same n b (cell k g a) (set f a (cell k g b)) (set g a (cell k g b)) (simp length-set e) (set_same n a (cell k g b) f g e h))
  swap_same n a b (over p q) f g e h =
      set_over n b (cell k f a) (cell k g a) (set f a (cell k f b)) (set g a (cell k g b)) q
      (set_over n a (cell k f b) (cell k g b) f g p h)

  swap_length : (a b : ℕ) (f : List A) → length (swap k a b f) ≡ length f
  unfolding swap
  swap_length a b f = simp length-set

  -- A pair of rows before row t, or from row t on, where t is even.
  columns_same : (w t row n col : ℕ) → row % 2 ≡ 0 → t % 2 ≡ 0 → col + 2 * n ≤ w → (f g : List A) → length f ≡ length g → Agree k (t * w) f g
      → (length (exchange_columns k w row n col f) ≡ length (exchange_columns k w row n col g)) × Agree k (t * w) (exchange_columns k w row n col f) (exchange_columns k w row n col g)
  unfolding exchange_columns
  columns_same w t row zero col er et l f g e h = (e, h)
  columns_same w t row (suc n) col er et l f g e h =
      columns_same w t row n (col + 2) er et (omega arith) (swap k a b f) (swap k a b g) (swap_length a b f ∙ e ∙ sym (swap_length a b g)) (swap_same (t * w) a b (side (dec_lt row t)) f g e h)
    where
      a : ℕ
      a = row * w + col + 1

      b : ℕ
      b = (row + 1) * w + col

      side : Dec (row < t) → Side (t * w) a b
      side (yes q) = let m : (row + 2) * w ≤ t * w = mul-le-mul_right w (omega arith) in under (omega arith) (omega arith)
      side (no q) = let m : t * w ≤ row * w = mul-le-mul_right w (omega arith) in over (omega arith) (omega arith)

  pairs_same : (w t n row : ℕ) → row % 2 ≡ 0 → t % 2 ≡ 0 → (f g : List A) → length f ≡ length g → Agree k (t * w) f g
      → Agree k (t * w) (exchange_rows k w n row f) (exchange_rows k w n row g)
  unfolding exchange_rows
  pairs_same w t zero row er et f g e h = h
  pairs_same w t (suc n) row er et f g e h =
      let c = columns_same w t row (w / 2) 0 er et (omega arith) f g e h in
      pairs_same w t n (row + 2) (omega arith) et (exchange_columns k w row (w / 2) 0 f) (exchange_columns k w row (w / 2) 0 g) c.0 c.1

  -- ── The frame ──

  module _ (s : List ℕ) (z : Size) (f : List A) where
    -- The frame before the exchange.
    abbrev plain : List ℕ → List A
    plain o = write_all k (rows s o z z.height 0) f

    -- Its rows before m are written by rows before m.
    plain_early : (o : List ℕ) (m rest : ℕ) → m + rest ≡ z.height → Agree k (m * z.width) (plain o) (write_all k (rows s o z m 0) f)
    plain_early o m rest whole i q =
        let e : 0 + m ≡ m = omega arith in
        ap (λ n. cell k (write_all k (rows s o z n 0) f) i) (sym whole)
        ∙ ap (λ bs. cell k (write_all k bs f) i) (rows_split s o z m rest 0 ∙ ap (λ r. rows s o z m 0 ++ rows s o z rest r) e)
        ∙ ap (λ g. cell k g i) (write_all_append k (rows s o z m 0) (rows s o z rest m) f)
        ∙ write_all_low (m * z.width) (rows_low s o z rest m) (write_all k (rows s o z m 0) f) i q

    plain_same : (o o' : List ℕ) (r : ℕ) → AgreeBefore r o o' → Agree k (r * z.width) (plain o) (plain o')
    plain_same o o' r h i q =
        by_cases (dec_lt r z.height)
        (λ l. let e : r + (z.height - r) ≡ z.height = omega arith in
        plain_early o r (z.height - r) e i q
        ∙ ap (λ bs. cell k (write_all k bs f) i) (rows_alike s o o' z r 0 (λ j u. h j (omega arith)))
        ∙ sym (plain_early o' r (z.height - r) e i q))
        (λ l. ap (λ bs. cell k (write_all k bs f) i) (rows_alike s o o' z z.height 0 (λ j u. h j (omega arith))))

    -- Two tables that agree before entry r give frames that agree on all rows before r − (r mod 2), over every kind of cell.
    pub late_offsets : (o o' : List ℕ) (r : ℕ) → AgreeBefore r o o' → Agree k (whole_pairs r * z.width) (frame k s o z f) (frame k s o' z f)
    unfolding frame exchange
    late_offsets o o' r h =
        let l : whole_pairs r * z.width ≤ r * z.width = mul-le-mul_right z.width (omega arith) in
        pairs_same z.width (whole_pairs r) (z.height / 2) 0 refl (omega arith) (plain o) (plain o')
        (write_all_length k (rows s o z z.height 0) f ∙ sym (write_all_length k (rows s o' z z.height 0) f))
        (λ i q. plain_same o o' r h i (omega arith))
