-- A block whose sixteen cells are made from the frame as it was and then stored: every source lies before the block, so that this
-- comes to the operations in the order of the stream. One law for samples and marks.
use Rattle.std.proofs.Common.{◌≡◌, ℕ, ◌+◌, ◌-◌, ◌*◌, ◌%◌, ◌<◌, ◌≤◌, Bool, true, false, cond, eqb, ◌≢◌, List, ◌∷◌, map, length, get_or, set, replicate, sym, refl, ap, ap₂, ◌∙◌, subst, mul-le-mul_right, zero-add, arith, length-set, get_or-set_other, get_or-set_same, ext_get_or, eqb-true}
use mathlib.Core.Logic.{by_cases}
use native.Mathlib.Decide.{ℕ_discrete, dec_lt}
use borrow.Author.Tests.{eqb-false}
use Rattle.rules.specs.V0.{Kind, put, apply, order, rows_up}
use Rattle.rules.specs.declared.v0.V0Op.{V0Op}
use Rattle.rules.proofs.Cells.{All, nil, more}
use Rattle.rules.proofs.Order.{all_order, order_whole}
use Rattle.v0_cells.specs.Places.{Inside}
use Rattle.v0_cells.specs.Inner.{source_of, inner_ops, Replaced}
use Rattle.rules.proofs.V0Cells.{apply_length}
use Rattle.rules.proofs.Tests.{by-test}

-- ── Cells replaced one after another ──

-- The first n of sixteen are replaced.
pub record Storing {A : Type 0} (k : Kind A) (base : ℕ) (new : ℕ → A) (f₀ f : List A) (n : ℕ) : Type 0 where
  pub below : n ≤ 16
  pub replaced : Replaced k base n new f₀ f

module _ {A : Type 0} {k : Kind A} {base : ℕ} {new : ℕ → A} {f₀ : List A} where
  pub storing_begun : Storing k base new f₀ f₀ 0
  storing_begun = record { below = omega arith; replaced = record { same_length = refl; inside = λ c l. absurd (omega arith); outside = λ i h. refl } }

  replaced_on : (n p : ℕ) (v : A) (f : List A) → p ≡ base + n → p < length f₀ → v ≡ new n → Replaced k base n new f₀ f
      → Replaced k base (n + 1) new f₀ (set f p v)
  replaced_on n p v f ep l ev r =
      record {
        same_length = length-set f p v ∙ r.same_length;
        inside = λ c h. by_cases (ℕ_discrete c n)
            (λ e. rw (e, ← ep, ← ev) (get_or-set_same f p v (k.constant 0) (omega (arith, r.same_length))))
            (λ q. get_or-set_other f p (base + c) v (k.constant 0) (λ e. q (omega arith)) ∙ r.inside c (omega arith));
        outside = λ i h. get_or-set_other f p i v (k.constant 0) (λ e. h n (omega arith) (e ∙ ep)) ∙ r.outside i (λ c m. h c (omega arith));
      }

  pub storing_on : {f : List A} {n p : ℕ} {v : A} → n < 16 → p ≡ base + n → p < length f₀ → v ≡ new n → Storing k base new f₀ f n
      → Storing k base new f₀ (set f p v) (n + 1)
  storing_on h ep l ev s = record { below = omega arith; replaced = replaced_on _ _ _ _ ep l ev s.replaced }

  pub storing_done : {f : List A} {n : ℕ} → 16 ≤ n → Storing k base new f₀ f n → Replaced k base 16 new f₀ f
  storing_done {f} {n} l s = let e : n ≡ 16 = omega arith in rw e at s.replaced

  -- A frame is known by what was replaced in it.
  pub replaced_same : (n : ℕ) (f g : List A) → Replaced k base n new f₀ f → Replaced k base n new f₀ g → f ≡ g
  replaced_same n f g a b =
      ext_get_or (k.constant 0) f g (a.same_length ∙ sym b.same_length) (λ i l. go i (dec_lt i base) (dec_lt i (base + n)))
    where
      Same : ℕ → Type 0
      Same i = get_or f i (k.constant 0) ≡ get_or g i (k.constant 0)

      out : (i : ℕ) → ((c : ℕ) → c < n → i ≢ base + c) → Same i
      out i h = a.outside i h ∙ sym (b.outside i h)

      go : (i : ℕ) → Dec (i < base) → Dec (i < base + n) → Same i
      go i (yes l) m = out i (λ c h e. omega arith)
      go i (no l) (no m) = out i (λ c h e. omega arith)
      go i (no l) (yes m) =
          let at : base + (i - base) ≡ i = omega arith in
          let h : i - base < n = omega arith in
          subst Same at (a.inside (i - base) h ∙ sym (b.inside (i - base) h))

-- ── The operations of a block ──

-- Every source lies before the block.
pub source_before : (w base : ℕ) (up : Bool) (c : ℕ) → 16 ≤ w → 2 * w ≤ base → c < 16 → source_of w base up c < base
unfolding source_of
source_before w base true c wide rows l =
    let h : 1 * w ≤ rows_up c * w = mul-le-mul_right w (omega arith) in omega arith
source_before w base false c wide rows l = omega arith

module _ {A : Type 0} (k : Kind A) (w base : ℕ) (up : Bool) (d : ℕ → ℕ) (f₀ : List A) where
  -- What cell c is to hold, by the frame as it was and the residuals.
  abbrev pub predicted : ℕ → A
  predicted c = k.plus (get_or f₀ (source_of w base up c) (k.constant 0)) (d c)

  abbrev pub ops : List ℕ → List V0Op
  ops cs = inner_ops w base up cs (map d cs)

  ops_outside : (i : ℕ) {cs : List ℕ} → All (λ c. i ≢ base + c) cs → (f : List A)
      → get_or (apply k (ops cs) f) i (k.constant 0) ≡ get_or f i (k.constant 0)
  unfolding inner_ops apply put
  ops_outside i nil f = refl
  ops_outside i (more {a = c} q qs) f = ops_outside i qs _ ∙ get_or-set_other f (base + c) i _ (k.constant 0) q

  -- A frame that is as it was before the block, and holds in cell c what it is to hold if no operation is left that writes it.
  record Ready (c : ℕ) (bs : List ℕ) (f : List A) : Type 0 where
    room : base + 16 ≤ length f
    before : (i : ℕ) → i < base → get_or f i (k.constant 0) ≡ get_or f₀ i (k.constant 0)
    written : All (λ b. b ≢ c) bs → get_or f (base + c) (k.constant 0) ≡ predicted c

  module _ (wide : 16 ≤ w) (rows : 2 * w ≤ base) (c : ℕ) where
    ready_on : (b : ℕ) (bs : List ℕ) (f : List A) → b < 16 → Ready c (b ∷ bs) f
        → Ready c bs (set f (base + b) (k.plus (get_or f (source_of w base up b) (k.constant 0)) (d b)))
    ready_on b bs f h r =
        record {
          room = omega (arith, length-set f (base + b) v, r.room);
          before = λ i q. get_or-set_other f (base + b) i v (k.constant 0) (λ e. omega arith) ∙ r.before i q;
          written = λ none. at (ℕ_discrete b c) none;
        }
      where
        v : A
        v = k.plus (get_or f (source_of w base up b) (k.constant 0)) (d b)

        ev : v ≡ predicted b
        ev = ap (λ x. k.plus x (d b)) (r.before (source_of w base up b) (source_before w base up b wide rows h))

        at : Dec (b ≡ c) → All (λ b. b ≢ c) bs → get_or (set f (base + b) v) (base + c) (k.constant 0) ≡ predicted c
        at (yes e) none =
            subst (λ x. get_or (set f (base + b) v) (base + x) (k.constant 0) ≡ predicted x) e
            (get_or-set_same f (base + b) v (k.constant 0) (omega (arith, r.room)) ∙ ev)
        at (no q) none = get_or-set_other f (base + b) (base + c) v (k.constant 0) (λ e. q (omega arith)) ∙ r.written (more q none)

    ops_inside : {bs : List ℕ} → All (λ b. b < 16) bs → (f : List A) → Ready c bs f → get_or (apply k (ops bs) f) (base + c) (k.constant 0) ≡ predicted c
    unfolding inner_ops apply put
    ops_inside nil f r = r.written nil
    ops_inside (more {a = b} {xs = bs} h hs) f r = ops_inside hs _ (ready_on b bs f h r)

  -- They replace the cells of the block, and no others.
  pub ops_replace : Inside w base f₀ → Replaced k base 16 predicted f₀ (apply k (ops order) f₀)
  ops_replace i =
      record {
        same_length = apply_length k (ops order) f₀;
        inside = λ c l. ops_inside i.wide i.rows c (all_order (λ b. b < 16) (λ b h. h)) f₀
            (record { room = i.room; before = λ j h. refl; written = λ none. absurd (order_whole c l none) });
        outside = λ j h. ops_outside j (all_order (λ c. j ≢ base + c) h) f₀;
      }

  -- The first n of sixteen values are made.
  pub record Made (z : A) (vs : List A) (n : ℕ) : Type 0 where
    pub values : Storing k 0 predicted (replicate 16 z) vs n

module _ {A : Type 0} {k : Kind A} {w base : ℕ} {up : Bool} {d : ℕ → ℕ} {f₀ : List A} {z : A} where
  pub made_none : Made k w base up d f₀ z (replicate 16 z) 0
  made_none = record { values = storing_begun }

  pub made_on : {vs : List A} {n : ℕ} {v : A} → n < 16 → v ≡ predicted k w base up d f₀ n → Made k w base up d f₀ z vs n → Made k w base up d f₀ z (set vs n v) (n + 1)
  made_on l ev m = record { values = storing_on l (omega arith) (omega arith) ev m.values }

  -- Values made from the frame as it was and then stored are what the operations leave.
  pub staged : {vs f : List A} {n : ℕ} → Inside w base f₀ → 16 ≤ n → Made k w base up d f₀ z vs n → Replaced k base 16 (λ c. get_or vs c (k.constant 0)) f₀ f
      → f ≡ apply k (inner_ops w base up order (map d order)) f₀
  staged {vs} {f} i l m r =
      replaced_same 16 f _
      (record {
        same_length = r.same_length;
        inside = λ c h. r.inside c h ∙ ap (λ j. get_or vs j (k.constant 0)) (sym (zero-add c)) ∙ (storing_done l m.values).inside c h;
        outside = r.outside;
      })
      (ops_replace k w base up d f₀ i)

map_same : {d e : ℕ → ℕ} {cs : List ℕ} → All (λ c. d c ≡ e c) cs → map d cs ≡ map e cs
map_same nil = refl
map_same (more h hs) = ap₂ (λ x xs. x ∷ xs) h (map_same hs)

-- A block's residuals are known by those of its columns.
pub columns_same : {d e : ℕ → ℕ} → ((c : ℕ) → c < 16 → d c ≡ e c) → map d order ≡ map e order
columns_same {d} {e} h = map_same (all_order (λ c. d c ≡ e c) h)

-- ── The choice by parity ──

by_parity : {A : Type 0} (g : ℕ → A) (c : ℕ) (r : A) → r ≡ cond (eqb (c % 2) 0) (g 0) (g 1) → r ≡ g (c % 2)
by_parity g c r e = e ∙ by-test (eqb (c % 2) 0)
    (λ q. rw q (ap g (sym (eqb-true (c % 2) 0 q))))
    (λ q. rw q (let n = eqb-false (c % 2) 0 q in let one : 1 ≡ c % 2 = omega arith in ap g one))

-- Direction 1 takes an even cell from one row up, an odd one from two; direction 0 from two columns before the block or from one.
pub choice_up : {A : Type 0} (w base c : ℕ) (r z : A) (f : List A) → r ≡ cond (eqb (c % 2) 0) (get_or f (base + c - w) z) (get_or f (base + c - 2 * w) z)
    → r ≡ get_or f (source_of w base true c) z
unfolding source_of
choice_up w base c r z f e =
    let one : (1 + 0) * w ≡ w = omega arith in
    by_parity (λ p. get_or f (base + c - (1 + p) * w) z) c r (rw one e)

pub choice_left : {A : Type 0} (w base c : ℕ) (r z : A) (f : List A) → r ≡ cond (eqb (c % 2) 0) (get_or f (base - 2) z) (get_or f (base - 1) z)
    → r ≡ get_or f (source_of w base false c) z
unfolding source_of
choice_left w base c r z f e = by_parity (λ p. get_or f (base - (2 - p)) z) c r e
