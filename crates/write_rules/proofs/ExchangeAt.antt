-- The exchange of places, cell by cell: where each cell comes from. So code can read the samples where they are, and need not move
-- them.
use Prim.Native.Nat.{ℕ, zero, suc, ◌+◌, ◌-◌, ◌*◌, ◌/◌, ◌%◌, ◌<◌, ◌≤◌}
use mathlib.Core.Path.{◌≡◌, refl, sym, ap, ◌∙◌}
use mathlib.Core.Logic.{◌≢◌, by_cases}
use mathlib.Core.List.{List}
use native.Mathlib.Omega.{arith}
use native.Mathlib.Decide.{ℕ_discrete}
use native.Mathlib.Nat.{mul-le-mul_right}
use lib.ListN.{length, get_or, set, length-set}
use lib.Seq.{get_or-set_same, get_or-set_other}
use lib.Arith.{digits_div, digits_mod}
use lib.Dec.{ltb, eqb}
use borrow.Author.Tests.{ltb-true, ltb-false, eqb-true, eqb-false}
use Rattle.rules.specs.declared.answer.Size.{Size}
use Rattle.rules.specs.Frame.{cells}
use Rattle.rules.specs.V0.{Kind, swap, exchange_columns, exchange_rows, exchange}
use Rattle.write_rules.specs.Exchanged.{place_of}
use Rattle.write_rules.proofs.Exchange.{swap_length, swap_other, columns_length}
use Rattle.rules.proofs.Tests.{by-test}

module _ {A : Type 0} (K : Kind A) where
  abbrev at : List A → ℕ → A
  at f i = get_or f i (K.constant 0)

  swap_first : (i j : ℕ) (f : List A) → i ≢ j → i < length f → at (swap K i j f) i ≡ at f j
  unfolding swap
  swap_first i j f n l = get_or-set_other (set f i (at f j)) j i (at f i) (K.constant 0) n ∙ get_or-set_same f i (at f j) (K.constant 0) l

  swap_second : (i j : ℕ) (f : List A) → j < length f → at (swap K i j f) j ≡ at f i
  unfolding swap
  swap_second i j f l = let l' : j < length (set f i (at f j)) = rw (length-set f i (at f j)) l in get_or-set_same (set f i (at f j)) j (at f i) (K.constant 0) l'

  module _ (w : ℕ) where
    -- A cell that no pair of these columns has stays.
    columns_other : (row n col : ℕ) (f : List A) (i : ℕ) → ((c : ℕ) → col ≤ c → c + 1 < col + 2 * n → c % 2 ≡ col % 2 → (i ≢ row * w + c + 1) × (i ≢ (row + 1) * w + c))
        → at (exchange_columns K w row n col f) i ≡ at f i
    unfolding exchange_columns
    columns_other row zero col f i far = refl
    columns_other row (suc n) col f i far =
        let here = far col (omega arith) (omega arith) refl in
        columns_other row n (col + 2) (swap K (row * w + col + 1) ((row + 1) * w + col) f) i (λ c p q e. far c (omega arith) (omega arith) (omega arith))
        ∙ swap_other K (row * w + col + 1) ((row + 1) * w + col) f i here.0 here.1

    module _ (row : ℕ) where
      -- The right cell of a pair takes the lower one's value, and the lower one the right one's.
      columns_pair : (n col c : ℕ) (f : List A) → col ≤ c → c + 1 < col + 2 * n → c % 2 ≡ col % 2 → col + 2 * n ≤ w → (row + 2) * w ≤ length f
          → (at (exchange_columns K w row n col f) (row * w + c + 1) ≡ at f ((row + 1) * w + c))
          × (at (exchange_columns K w row n col f) ((row + 1) * w + c) ≡ at f (row * w + c + 1))
      unfolding exchange_columns
      columns_pair zero col c f p q e l m = absurd (omega arith)
      columns_pair (suc n) col c f p q e l m =
          let a : ℕ = row * w + col + 1 in
          let b : ℕ = (row + 1) * w + col in
          let g : List A = swap K a b f in
          by_cases (ℕ_discrete c col)
          (λ k. rw k (
            columns_other row n (col + 2) g a (λ c p q e. (λ z. omega arith, λ z. omega arith)) ∙ swap_first a b f (λ z. omega arith) (omega arith),
            columns_other row n (col + 2) g b (λ c p q e. (λ z. omega arith, λ z. omega arith)) ∙ swap_second a b f (omega arith),
          ))
          (λ k. let r = columns_pair n (col + 2) c g (omega arith) (omega arith) (omega arith) (omega arith) (rw (swap_length K a b f) m) in (
            r.0 ∙ swap_other K a b f ((row + 1) * w + c) (λ z. omega arith) (λ z. omega arith),
            r.1 ∙ swap_other K a b f (row * w + c + 1) (λ z. omega arith) (λ z. omega arith),
          ))

    -- A cell before these rows stays.
    rows_before : (n row : ℕ) (f : List A) (i : ℕ) → i < row * w → at (exchange_rows K w n row f) i ≡ at f i
    unfolding exchange_rows
    rows_before zero row f i l = refl
    rows_before (suc n) row f i l =
        rows_before n (row + 2) (exchange_columns K w row (w / 2) 0 f) i (omega arith)
        ∙ columns_other row (w / 2) 0 f i (λ c p q e. (λ z. omega arith, λ z. omega arith))

    rows_pair : (n row r c : ℕ) (f : List A) → row ≤ r → r < row + 2 * n → r % 2 ≡ row % 2 → c % 2 ≡ 0 → c + 1 < w → (row + 2 * n) * w ≤ length f
        → (at (exchange_rows K w n row f) (r * w + c + 1) ≡ at f ((r + 1) * w + c)) × (at (exchange_rows K w n row f) ((r + 1) * w + c) ≡ at f (r * w + c + 1))
    unfolding exchange_rows
    rows_pair zero row r c f p q e k l m = absurd (omega arith)
    rows_pair (suc n) row r c f p q e k l m =
        let g : List A = exchange_columns K w row (w / 2) 0 f in
        by_cases (ℕ_discrete r row)
        (λ z. let s = columns_pair row (w / 2) 0 c f (omega arith) (omega arith) k (omega arith) (omega arith) in
        rw z (rows_before n (row + 2) g (row * w + c + 1) (omega arith) ∙ s.0, rows_before n (row + 2) g ((row + 1) * w + c) (omega arith) ∙ s.1))
        (λ z. let far : (row + 2) * w ≤ r * w = mul-le-mul_right w (omega arith) in
        let s = rows_pair n (row + 2) r c g (omega arith) (omega arith) (omega arith) k l (rw (columns_length K w row (w / 2) 0 f) (omega arith)) in (
          s.0 ∙ columns_other row (w / 2) 0 f ((r + 1) * w + c) (λ c p q e. (λ z. omega arith, λ z. omega arith)),
          s.1 ∙ columns_other row (w / 2) 0 f (r * w + c + 1) (λ c p q e. (λ z. omega arith, λ z. omega arith)),
        ))

    -- A cell that no pair of these rows has stays.
    rows_other : (n row : ℕ) (f : List A) (i : ℕ)
        → ((r c : ℕ) → row ≤ r → r < row + 2 * n → r % 2 ≡ row % 2 → c % 2 ≡ 0 → c + 1 < w → (i ≢ r * w + c + 1) × (i ≢ (r + 1) * w + c))
        → at (exchange_rows K w n row f) i ≡ at f i
    unfolding exchange_rows
    rows_other zero row f i far = refl
    rows_other (suc n) row f i far =
        rows_other n (row + 2) (exchange_columns K w row (w / 2) 0 f) i (λ r c p q e k l. far r c (omega arith) (omega arith) (omega arith) k l)
        ∙ columns_other row (w / 2) 0 f i (λ c p q e. far row c (omega arith) (omega arith) refl e (omega arith))

  -- ── The frame ──

  module _ (z : Size) (f : List A) (long : length f ≡ cells z) where
    inside : (2 * (z.height / 2)) * z.width ≤ length f
    inside = let q : (2 * (z.height / 2)) * z.width ≤ z.height * z.width = mul-le-mul_right z.width (omega arith) in omega (arith, long)

    -- In an even row with a row below, and for an even column with one to its right: the cell right of it is the one below it, and
    -- the cell below it is the one right of it.
    exchange_pair : (row col : ℕ) → row % 2 ≡ 0 → row + 1 < z.height → col % 2 ≡ 0 → col + 1 < z.width
        → (at (exchange K z f) (row * z.width + col + 1) ≡ at f ((row + 1) * z.width + col))
        × (at (exchange K z f) ((row + 1) * z.width + col) ≡ at f (row * z.width + col + 1))
    unfolding exchange
    exchange_pair row col a b c d = rows_pair z.width (z.height / 2) 0 row col f (omega arith) (omega arith) a c d (omega (arith, inside))

    -- The exchange leaves every other cell as it is.
    pub exchange_same : (row col : ℕ) → col < z.width → (row % 2 ≡ 0 → col % 2 ≡ 1 → z.height ≤ row + 1) → (row % 2 ≡ 1 → col % 2 ≡ 0 → z.width ≤ col + 1)
        → at (exchange K z f) (row * z.width + col) ≡ at f (row * z.width + col)
    unfolding exchange
    exchange_same row col l alone alone' =
        rows_other z.width (z.height / 2) 0 f (row * z.width + col) (λ r c p q e k b. (λ t. no_right r c q e k b t, λ t. no_below r c e k b t))
      where
        w : ℕ
        w = z.width

        rows_are : (r c : ℕ) → c < w → row * w + col ≡ r * w + c → row ≡ r
        rows_are r c b t = sym (digits_div row l) ∙ ap (λ x. x / w) t ∙ digits_div r b

        columns_are : (r c : ℕ) → c < w → row * w + col ≡ r * w + c → col ≡ c
        columns_are r c b t = sym (digits_mod row l) ∙ ap (λ x. x % w) t ∙ digits_mod r b

        no_right : (r c : ℕ) → r < 0 + 2 * (z.height / 2) → r % 2 ≡ 0 → c % 2 ≡ 0 → c + 1 < w → row * w + col ≢ r * w + c + 1
        no_right r c q e k b t =
            let t' : row * w + col ≡ r * w + (c + 1) = omega arith in
            let x = rows_are r (c + 1) b t' in
            let y = columns_are r (c + 1) b t' in
            let u = alone (omega arith) (omega arith) in
            omega arith

        no_below : (r c : ℕ) → r % 2 ≡ 0 → c % 2 ≡ 0 → c + 1 < w → row * w + col ≢ (r + 1) * w + c
        no_below r c e k b t =
            let b' : c < w = omega arith in
            let x = rows_are (r + 1) c b' t in
            let y = columns_are (r + 1) c b' t in
            let u = alone' (omega arith) (omega arith) in
            omega arith

    -- In one: where a cell comes from.
    pub exchange_place : (row col : ℕ) → row < z.height → col < z.width → at (exchange K z f) (row * z.width + col) ≡ at f (place_of z row col)
    unfolding place_of
    exchange_place row col r c =
        by-test (eqb (row % 2) 0)
        (λ p. rw p (by-test (eqb (col % 2) 1)
        (λ q. rw q (by-test (ltb (row + 1) z.height)
        (λ k. rw k (right (eqb-true _ _ p) (eqb-true _ _ q) (ltb-true _ _ k)))
        (λ k. rw k (by-test (eqb (row % 2) 1)
        (λ p'. rw p' (absurd (omega (arith, eqb-true (row % 2) 0 p, eqb-true (row % 2) 1 p'))))
        (λ p'. rw p' (exchange_same row col c (λ x y. ltb-false _ _ k) (λ x y. absurd (omega (arith, eqb-true (col % 2) 1 q)))))))))
        (λ q. rw q (by-test (eqb (row % 2) 1)
        (λ p'. rw p' (absurd (omega (arith, eqb-true (row % 2) 0 p, eqb-true (row % 2) 1 p'))))
        (λ p'. rw p' (exchange_same row col c (λ x y. absurd (eqb-false (col % 2) 1 q y)) (λ x y. absurd (omega (arith, eqb-true (row % 2) 0 p)))))))))
        (λ p. rw p (by-test (eqb (row % 2) 1)
        (λ p'. rw p' (by-test (eqb (col % 2) 0)
        (λ q'. rw q' (by-test (ltb (col + 1) z.width)
        (λ k'. rw k' (below (eqb-true _ _ p') (eqb-true _ _ q') (ltb-true _ _ k')))
        (λ k'. rw k' (exchange_same row col c (λ x y. absurd (eqb-false (row % 2) 0 p x)) (λ x y. ltb-false _ _ k')))))
        (λ q'. rw q' (exchange_same row col c (λ x y. absurd (eqb-false (row % 2) 0 p x)) (λ x y. absurd (eqb-false (col % 2) 0 q' y))))))
        (λ p'. rw p' (exchange_same row col c (λ x y. absurd (eqb-false (row % 2) 0 p x)) (λ x y. absurd (eqb-false (row % 2) 1 p' x))))))
      where
        w : ℕ
        w = z.width

        right : row % 2 ≡ 0 → col % 2 ≡ 1 → row + 1 < z.height → at (exchange K z f) (row * w + col) ≡ at f ((row + 1) * w + col - 1)
        right a b l =
            let here : row * w + (col - 1) + 1 ≡ row * w + col = omega arith in
            let from : (row + 1) * w + (col - 1) ≡ (row + 1) * w + col - 1 = omega arith in
            rw (here, from) at (exchange_pair row (col - 1) a l (omega arith) (omega arith)).0

        below : row % 2 ≡ 1 → col % 2 ≡ 0 → col + 1 < w → at (exchange K z f) (row * w + col) ≡ at f ((row - 1) * w + col + 1)
        below a b l =
            let here : row - 1 + 1 ≡ row = omega arith in
            rw here at (exchange_pair (row - 1) col (omega arith) (omega arith) b l).1
