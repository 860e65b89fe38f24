-- The exchange of a part of a frame, cell by cell: inside it each cell comes from its partner's place, and all else stays.
use Prim.Native.Nat.{ℕ, zero, suc, ◌+◌, ◌*◌, ◌/◌, ◌%◌, ◌≤◌, ◌<◌}
use mathlib.Core.Path.{◌≡◌, refl, ap, ◌∙◌}
use mathlib.Core.Logic.{◌≢◌}
use mathlib.Core.List.{List}
use native.Mathlib.Omega.{arith}
use native.Mathlib.Nat.{mul-le-mul_right, suc-mul}
use native.Mathlib.Numerals.{add-one}
use native.Mathlib.Decide.{dec_lt}
use lib.ListN.{length, set, length-set}
use lib.Seq.{get_or-set_same, get_or-set_other}
use Rattle.rules.specs.declared.answer.Size.{Size}
use Rattle.rules.specs.V0.{swap, exchange_columns, exchange_rows, exchange, sample_kind}
use Rattle.rules.proofs.Spill.{cell}
use Rattle.rules_bands.proofs.AnySequence.{one_row, one_column}
use Rattle.v0_bands.specs.Freed.{exchange_part}

-- The place whose cell comes to a place: of an even row and odd column the one below and before it, of an odd row and even
-- column the one above and after it, else the same.
pub data Partner (r d r' d' : ℕ) : Type 0 where
  own : r % 2 ≡ d % 2 → r' ≡ r → d' ≡ d → Partner r d r' d'
  below : r % 2 ≡ 0 → d % 2 ≡ 1 → r' ≡ r + 1 → d' + 1 ≡ d → Partner r d r' d'
  above : r % 2 ≡ 1 → d % 2 ≡ 0 → r' + 1 ≡ r → d' ≡ d + 1 → Partner r d r' d'

-- It is of the same pair of rows and the same pair of columns.
pub near : {r d r' d' : ℕ} → Partner r d r' d' → (r' / 2 ≡ r / 2) × (d' / 2 ≡ d / 2)
near (own e er ed) = (omega arith, omega arith)
near (below e e' er ed) = (omega arith, omega arith)
near (above e e' er ed) = (omega arith, omega arith)

-- The exchange keeps the length.
pub columns_length : (w row m col : ℕ) (f : List ℕ) → length (exchange_columns sample_kind w row m col f) ≡ length f
unfolding exchange_columns swap
columns_length w row zero col f = refl
columns_length w row (suc m) col f = columns_length w row m (col + 2) _ ∙ simp length-set

module _ (w : ℕ) where
  abbrev pub at : List ℕ → ℕ → ℕ → ℕ
  at f r d = cell sample_kind f (r * w + d)

  -- What the exchange leaves of n pairs of rows from a row on, and m pairs of columns from a column on.
  pub record Exchanged (row n col m : ℕ) (f f' : List ℕ) : Type 0 where
    pub room : length f' ≡ length f
    pub moved : (r d r' d' : ℕ) → row ≤ r → r < row + 2 * n → col ≤ d → d < col + 2 * m → Partner r d r' d' → at f' r d ≡ at f r' d'
    pub same : (r d : ℕ) → d < w → (row ≤ r → r < row + 2 * n → col ≤ d → d < col + 2 * m → ⊥) → at f' r d ≡ at f r d

  -- ── One pair of each ──

  module _ (row col : ℕ) (even : row % 2 ≡ 0) (even' : col % 2 ≡ 0) (f : List ℕ) (fits : col + 2 ≤ w) (lent : (row + 2) * w ≤ length f) where
    abbrev i : ℕ
    i = row * w + col + 1

    abbrev j : ℕ
    j = (row + 1) * w + col

    next_row : (row + 1) * w ≡ row * w + w
    next_row = ap (λ x. x * w) (add-one row) ∙ suc-mul row w

    row_after : (row + 2) * w ≡ row * w + w + w
    row_after =
        let e : row + 2 ≡ suc (row + 1) = omega arith in
        ap (λ x. x * w) e ∙ suc-mul (row + 1) w ∙ ap (λ x. x + w) next_row

    abbrev f' : List ℕ
    f' = swap sample_kind i j f

    at_first : cell sample_kind f' i ≡ cell sample_kind f j
    unfolding swap
    at_first =
        get_or-set_other (set f i (cell sample_kind f j)) j i (cell sample_kind f i) 0 (λ e. omega (arith, next_row))
        ∙ get_or-set_same f i (cell sample_kind f j) 0 (omega (arith, row_after))

    at_second : cell sample_kind f' j ≡ cell sample_kind f i
    unfolding swap
    at_second = get_or-set_same (set f i (cell sample_kind f j)) j (cell sample_kind f i) 0 (rw (length-set f i (cell sample_kind f j)) (omega (arith, next_row, row_after)))

    at_other : (p : ℕ) → p ≢ i → p ≢ j → cell sample_kind f' p ≡ cell sample_kind f p
    unfolding swap
    at_other p a b = get_or-set_other (set f i (cell sample_kind f j)) j p (cell sample_kind f i) 0 b ∙ get_or-set_other f i p (cell sample_kind f j) 0 a

    pair_moved : (r d r' d' : ℕ) → row ≤ r → r < row + 2 * 1 → col ≤ d → d < col + 2 * 1 → Partner r d r' d' → at f' r d ≡ at f r' d'
    pair_moved r d r' d' lr lr' ld ld' (own e er ed) = rw (er, ed) (at_other (r * w + d) (λ q. first q) (λ q. second q))
      where
        first : r * w + d ≡ row * w + col + 1 → ⊥
        first q =
            let q' : r * w + d ≡ row * w + (col + 1) = omega arith in
            let a = one_row w r row d (col + 1) (omega arith) (omega arith) q' in
            let b = one_column w r row d (col + 1) (omega arith) (omega arith) q' in
            omega arith

        second : r * w + d ≡ (row + 1) * w + col → ⊥
        second q =
            let a = one_row w r (row + 1) d col (omega arith) (omega arith) q in
            let b = one_column w r (row + 1) d col (omega arith) (omega arith) q in
            omega arith
    pair_moved r d r' d' lr lr' ld ld' (below e e' er ed) =
        let a : r ≡ row = omega arith in
        let b : r' ≡ row + 1 = omega arith in
        let c : d' ≡ col = omega arith in
        let s : row * w + d ≡ row * w + col + 1 = omega arith in
        rw (b, c, a, s) at_first
    pair_moved r d r' d' lr lr' ld ld' (above e e' er ed) =
        let a : r ≡ row + 1 = omega arith in
        let b : r' ≡ row = omega arith in
        let c : d ≡ col = omega arith in
        let s : row * w + d' ≡ row * w + col + 1 = omega arith in
        rw (b, s, a, c) at_second

    length_kept : length f' ≡ length f
    unfolding swap
    length_kept = simp length-set

    pair_exchanged : Exchanged row 1 col 1 f f'
    pair_exchanged = record {
      room = length_kept;
      moved = pair_moved;
      same = λ r d lw out. at_other (r * w + d)
          (λ q. let q' : r * w + d ≡ row * w + (col + 1) = omega arith in
          let a = one_row w r row d (col + 1) lw (omega arith) q' in
          let b = one_column w r row d (col + 1) lw (omega arith) q' in
          out (omega arith) (omega arith) (omega arith) (omega arith))
          (λ q. let a = one_row w r (row + 1) d col lw (omega arith) q in
          let b = one_column w r (row + 1) d col lw (omega arith) q in
          out (omega arith) (omega arith) (omega arith) (omega arith));
    }

  -- ── One pair of rows ──

  columns_exchanged : (m row col : ℕ) → row % 2 ≡ 0 → col % 2 ≡ 0 → (f : List ℕ) → col + 2 * m ≤ w → (row + 2) * w ≤ length f
      → Exchanged row 1 col m f (exchange_columns sample_kind w row m col f)
  unfolding exchange_columns
  columns_exchanged zero row col e e' f l lent = record { room = refl; moved = λ r d r' d' a b x y. absurd (omega arith); same = λ r d lw out. refl }
  columns_exchanged (suc m) row col e e' f l lent =
      join (columns_exchanged m row (col + 2) e (omega arith) f₁ (omega arith) (rw p.room lent))
    where
      f₁ : List ℕ
      f₁ = swap sample_kind (row * w + col + 1) ((row + 1) * w + col) f

      p : Exchanged row 1 col 1 f f₁
      p = pair_exchanged row col e e' f (omega arith) lent

      f₂ : List ℕ
      f₂ = exchange_columns sample_kind w row m (col + 2) f₁

      join : Exchanged row 1 (col + 2) m f₁ f₂ → Exchanged row 1 col (suc m) f f₂
      join q = record {
        room = q.room ∙ p.room;
        moved = λ r d r' d' a b x y s. moved r d r' d' a b x y s (dec_lt d (col + 2));
        same = λ r d lw out. q.same r d lw (λ a b x y. out a b (omega arith) (omega arith)) ∙ p.same r d lw (λ a b x y. out a b (omega arith) (omega arith));
      }
        where
          moved : (r d r' d' : ℕ) → row ≤ r → r < row + 2 * 1 → col ≤ d → d < col + 2 * suc m → Partner r d r' d' → Dec (d < col + 2)
              → at f₂ r d ≡ at f r' d'
          moved r d r' d' a b x y s (yes z) = q.same r d (omega arith) (λ _ _ x' _. omega arith) ∙ p.moved r d r' d' a b x (omega arith) s
          moved r d r' d' a b x y s (no z) =
              let n = (near s).1 in
              q.moved r d r' d' a b (omega arith) (omega arith) s ∙ p.same r' d' (omega arith) (λ _ _ _ y'. omega arith)

  -- ── A part ──

  pub part_exchanged : (n row m col : ℕ) → row % 2 ≡ 0 → col % 2 ≡ 0 → (f : List ℕ) → col + 2 * m ≤ w → (row + 2 * n) * w ≤ length f
      → Exchanged row n col m f (exchange_part w m col n row f)
  unfolding exchange_part
  part_exchanged zero row m col e e' f l lent = record { room = refl; moved = λ r d r' d' a b x y. absurd (omega arith); same = λ r d lw out. refl }
  part_exchanged (suc n) row m col e e' f l lent =
      let same_end : row + 2 + 2 * n ≡ row + 2 * suc n = omega arith in
      join (part_exchanged n (row + 2) m col (omega arith) e' f₁ l (rw (same_end, p.room) lent))
    where
      f₁ : List ℕ
      f₁ = exchange_columns sample_kind w row m col f

      p : Exchanged row 1 col m f f₁
      p = let z : (row + 2) * w ≤ (row + 2 * suc n) * w = mul-le-mul_right w (omega arith) in
          columns_exchanged m row col e e' f l (omega arith)

      f₂ : List ℕ
      f₂ = exchange_part w m col n (row + 2) f₁

      join : Exchanged (row + 2) n col m f₁ f₂ → Exchanged row (suc n) col m f f₂
      join q = record {
        room = q.room ∙ p.room;
        moved = λ r d r' d' a b x y s. moved r d r' d' a b x y s (dec_lt r (row + 2));
        same = λ r d lw out. q.same r d lw (λ a b x y. out (omega arith) (omega arith) x y) ∙ p.same r d lw (λ a b x y. out a (omega arith) x y);
      }
        where
          moved : (r d r' d' : ℕ) → row ≤ r → r < row + 2 * suc n → col ≤ d → d < col + 2 * m → Partner r d r' d' → Dec (r < row + 2)
              → at f₂ r d ≡ at f r' d'
          moved r d r' d' a b x y s (yes z) = q.same r d (omega arith) (λ a' _ _ _. omega arith) ∙ p.moved r d r' d' a (omega arith) x y s
          moved r d r' d' a b x y s (no z) =
              let k = near s in
              let kr = k.0 in
              let kd = k.1 in
              q.moved r d r' d' (omega arith) (omega arith) x y s ∙ p.same r' d' (omega arith) (λ _ b' _ _. omega arith)

  -- The whole exchange is that of all pairs of rows and columns.
  pub rows_part : (n row : ℕ) (f : List ℕ) → exchange_rows sample_kind w n row f ≡ exchange_part w (w / 2) 0 n row f
  unfolding exchange_rows exchange_part
  rows_part zero row f = refl
  rows_part (suc n) row f = rows_part n (row + 2) (exchange_columns sample_kind w row (w / 2) 0 f)

pub whole_exchanged : (z : Size) (f : List ℕ) → length f ≡ z.height * z.width
    → Exchanged z.width 0 (z.height / 2) 0 (z.width / 2) f (exchange sample_kind z f)
unfolding exchange
whole_exchanged z f e =
    let l : (0 + 2 * (z.height / 2)) * z.width ≤ z.height * z.width = mul-le-mul_right z.width (omega arith) in
    rw (rows_part z.width (z.height / 2) 0 f) (part_exchanged z.width (z.height / 2) 0 (z.width / 2) 0 refl refl f (omega arith) (omega arith))
