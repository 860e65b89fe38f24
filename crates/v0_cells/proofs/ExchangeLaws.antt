-- The exchange, for any kind of cell: what is left of it comes to the whole.
use Rattle.std.proofs.Common.{◌≡◌, ℕ, zero, suc, ◌+◌, ◌-◌, ◌*◌, ◌/◌, ◌<◌, ◌≤◌, List, [], ◌∷◌, length, get_or, set, sym, refl, ap, ◌∙◌, ap₂, inl, inr, mul-le-mul_right, mul_comm, arith, length-set, get_or-set_other}
use lib.Seq.{set-get_or}
use Rattle.std.proofs.lemmas.List.{get_or_default}
use Rattle.rules.specs.Limits.{most_side}
use Rattle.rules.specs.V0.{Kind, swap, exchange_columns, exchange_rows, exchange}
use Rattle.rules.specs.Frame.{cells}
use Rattle.rules.specs.declared.answer.Size.{Size}
use Rattle.v0_cells.specs.Places.{Whole, InColumns, InPair, MapInPair, PairsLent}
use Rattle.v0_cells.proofs.CellLaws.{product}

-- ── Places ──

pub pair_fits : (w row : ℕ) → w ≤ most_side → row < most_side → (row + 1) * w ≤ 268_550_144
pair_fits w row lw lr = product (row + 1) w (omega arith) (omega arith)

-- ── Two pairs of cells ──

module _ {A : Type 0} (k : Kind A) where
  abbrev cell : List A → ℕ → A
  cell f p = get_or f p (k.constant 0)

  -- The pairs of cells at i and at j, each stored again with the second of the one and the first of the other in each other's places,
  -- leave what the rule's swap leaves.
  pub pairs_crossed : (i j : ℕ) (a b c d u v x y : A) (f f₁ f₂ : List A) → i + 1 < j → j + 1 < length f
      → a ≡ get_or f i a → b ≡ get_or f (i + 1) b → c ≡ get_or f j c → d ≡ get_or f (j + 1) d → u ≡ a → v ≡ c → x ≡ b → y ≡ d
      → f₁ ≡ set (set f i u) (i + 1) v → f₂ ≡ set (set f₁ j x) (j + 1) y → f₂ ≡ swap k (i + 1) j f
  unfolding swap
  pairs_crossed i j a b c d u v x y f f₁ f₂ far room ea eb ec ed eu ev ex ey e₁ e₂ = second ∙ ap (set swapped (j + 1)) (sym kept) ∙ set-get_or swapped (j + 1) (k.constant 0)
    where
      read : (n : ℕ) (z : A) → n < length f → z ≡ get_or f n z → z ≡ cell f n
      read n z l e = e ∙ get_or_default f n z (k.constant 0) l

      swapped : List A
      swapped = set (set f (i + 1) (cell f j)) j (cell f (i + 1))

      kept : cell swapped (j + 1) ≡ cell f (j + 1)
      kept = get_or-set_other (set f (i + 1) (cell f j)) j (j + 1) _ _ (λ e. omega arith) ∙ get_or-set_other f (i + 1) (j + 1) _ _ (λ e. omega arith)

      first : f₁ ≡ set f (i + 1) (cell f j)
      first = e₁ ∙ ap₂ (λ u v. set (set f i u) (i + 1) v) (eu ∙ read i a (omega arith) ea) (ev ∙ read j c (omega arith) ec) ∙ ap (λ g. set g (i + 1) (cell f j)) (set-get_or f i (k.constant 0))

      second : f₂ ≡ set swapped (j + 1) (cell f (j + 1))
      second = e₂ ∙ ap₂ (λ u v. set (set f₁ j u) (j + 1) v) (ex ∙ read (i + 1) b (omega arith) eb) (ey ∙ read (j + 1) d room ed) ∙ ap (λ g. set (set g j (cell f (i + 1))) (j + 1) (cell f (j + 1))) first

  swap_length : (i j : ℕ) (f : List A) → length (swap k i j f) ≡ length f
  unfolding swap
  swap_length i j f = simp length-set

  -- ── The columns of a pair of rows ──

  pub record Pairing (w row from to : ℕ) (f₀ f : List A) (col : ℕ) : Type 0 where
    pub below : col ≤ to + 1
    pub same_length : length f ≡ length f₀
    pub cells_are : exchange_columns k w row ((to - col) / 2) col f ≡ exchange_columns k w row ((to - from) / 2) from f₀

  pub pairing_begun : (w row from to : ℕ) (f : List A) → from ≤ to → Pairing w row from to f f from
  pairing_begun w row from to f l = record { below = omega arith; same_length = refl; cells_are = refl }

  pub pairing_on : (w row from to : ℕ) (f₀ f f' : List A) (col : ℕ) → col + 1 < to → f' ≡ swap k (row * w + col + 1) ((row + 1) * w + col) f
      → Pairing w row from to f₀ f col → Pairing w row from to f₀ f' (col + 2)
  unfolding exchange_columns
  pairing_on w row from to f₀ f f' col l e r =
      let q : (to - col) / 2 ≡ suc ((to - (col + 2)) / 2) = omega arith in
      record {
        below = omega arith;
        same_length = ap length e ∙ swap_length (row * w + col + 1) ((row + 1) * w + col) f ∙ r.same_length;
        cells_are = ap (exchange_columns k w row ((to - (col + 2)) / 2) (col + 2)) e ∙ (rw q at r.cells_are);
      }

  pub paired : (w row from to : ℕ) (f₀ f : List A) (col : ℕ) → to ≤ col + 1 → Pairing w row from to f₀ f col
      → f ≡ exchange_columns k w row ((to - from) / 2) from f₀
  unfolding exchange_columns
  paired w row from to f₀ f col l r = let q : (to - col) / 2 ≡ 0 = omega arith in rw q at r.cells_are

  -- All columns.
  pub paired_all : (w row : ℕ) (f₀ f : List A) → f ≡ exchange_columns k w row ((w - 0) / 2) 0 f₀ → f ≡ exchange_columns k w row (w / 2) 0 f₀
  paired_all w row f₀ f e = let q : w - 0 ≡ w = omega arith in rw q at e

  -- ── The pairs of rows of a frame ──

  columns_length : (w row n col : ℕ) (f : List A) → length (exchange_columns k w row n col f) ≡ length f
  unfolding exchange_columns
  columns_length w row zero col f = refl
  columns_length w row (suc n) col f =
      columns_length w row n (col + 2) (swap k (row * w + col + 1) ((row + 1) * w + col) f) ∙ swap_length (row * w + col + 1) ((row + 1) * w + col) f

  pub rows_length : (w n row : ℕ) (f : List A) → length (exchange_rows k w n row f) ≡ length f
  unfolding exchange_rows
  rows_length w zero row f = refl
  rows_length w (suc n) row f = rows_length w n (row + 2) (exchange_columns k w row (w / 2) 0 f) ∙ columns_length w row (w / 2) 0 f

  -- ── Pairs of rows from one number up to another ──

  pub record Pairs (w from to : ℕ) (f₀ f : List A) (pair : ℕ) : Type 0 where
    pub same_length : length f ≡ length f₀
    pub cells_are : exchange_rows k w (to - pair) (pair * 2) f ≡ exchange_rows k w (to - from) (from * 2) f₀

  pub pairs_begun : (w from to : ℕ) (f : List A) → Pairs w from to f f from
  pairs_begun w from to f = record { same_length = refl; cells_are = refl }

  pub pairs_on : (w from to : ℕ) (f₀ f f' : List A) (pair : ℕ) → pair < to → f' ≡ exchange_columns k w (pair * 2) (w / 2) 0 f
      → Pairs w from to f₀ f pair → Pairs w from to f₀ f' (pair + 1)
  unfolding exchange_rows
  pairs_on w from to f₀ f f' pair l e r =
      let q : to - pair ≡ suc (to - (pair + 1)) = omega arith in
      let next : (pair + 1) * 2 ≡ pair * 2 + 2 = omega arith in
      record {
        same_length = ap length e ∙ columns_length w (pair * 2) (w / 2) 0 f ∙ r.same_length;
        cells_are = ap₂ (exchange_rows k w (to - (pair + 1))) next e ∙ (rw q at r.cells_are);
      }

  pub pairs_done : (w from to : ℕ) (f₀ f : List A) (pair : ℕ) → to ≤ pair → Pairs w from to f₀ f pair → f ≡ exchange_rows k w (to - from) (from * 2) f₀
  unfolding exchange_rows
  pairs_done w from to f₀ f pair l r = let q : to - pair ≡ 0 = omega arith in rw q at r.cells_are

  -- All of them are the whole exchange.
  pub pairs_all : (z : Size) (f f' : List A) (to : ℕ) → to ≡ z.height / 2 → f' ≡ exchange_rows k z.width (to - 0) 0 f → f' ≡ exchange k z f
  unfolding exchange
  pairs_all z f f' to n e = let q : to - 0 ≡ z.height / 2 = omega arith in rw q at e

  -- ── A map that is not lent ──

  -- A frame of no cells stays one.
  columns_empty : (w row n col : ℕ) → exchange_columns k w row n col [] ≡ []
  unfolding exchange_columns swap
  columns_empty w row zero col = refl
  columns_empty w row (suc n) col = columns_empty w row n (col + 2)

  pub columns_not_lent : (w row n col : ℕ) (f : List A) → length f ≡ 0 → f ≡ exchange_columns k w row n col f
  columns_not_lent w row n col [] e = sym (columns_empty w row n col)
  columns_not_lent w row n col (a ∷ f) e = absurd (omega arith)

pub map_in_pair : {A : Type 0} (w row : ℕ) (f : List A) → MapInPair w row f → (length f ≡ 0 → ⊥) → InPair w row f
map_in_pair w row f (inl i) some = i
map_in_pair w row f (inr e) some = absurd (some e)

-- All its columns.
pub pair_columns : {A : Type 0} {w row : ℕ} {f : List A} → InPair w row f → InColumns w row 0 w f
pair_columns i = record { width = i.width; row_in = i.row_in; columns = omega arith; columns_in = omega arith; inside = i.inside }

-- A pair of rows up to the last one lies in the frame, and in its map.
module _ (z : Size) (from to : ℕ) {A B : Type 0} (out₀ : List A) (map₀ : List B) (i : PairsLent z from to out₀ map₀) (pair : ℕ) (l : pair < to) where
  pair_inside : {C : Type 0} (f : List C) → length f ≡ cells z → InPair z.width (pair * 2) f
  pair_inside f e =
      let m = i.pairs_in in
      let h : (pair * 2 + 2) * z.width ≤ z.height * z.width = mul-le-mul_right z.width (omega arith) in
      record { width = i.width; row_in = omega (arith, i.height); inside = omega (arith, mul_comm z.width z.height) }

  pub samples_in_pair : (out : List A) → length out ≡ length out₀ → InColumns z.width (pair * 2) 0 z.width out
  samples_in_pair out e = pair_columns (pair_inside out (e ∙ i.samples_lent))

  pub marks_in_pair : (map : List B) → length map ≡ length map₀ → MapInPair z.width (pair * 2) map
  marks_in_pair map e = go i.map_lent
    where
      go : Whole z map₀ → MapInPair z.width (pair * 2) map
      go (inl q) = inl (pair_inside map (e ∙ q))
      go (inr q) = inr (e ∙ q)
