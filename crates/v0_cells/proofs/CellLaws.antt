-- One sample: its predictor case by case, and what an operation does to a frame of any kind of cell.
use Rattle.std.proofs.Common.{◌≡◌, ℕ, ◌+◌, ◌-◌, ◌*◌, ◌%◌, ◌<◌, ◌≤◌, Bool, true, false, List, [], ◌∷◌, ◌++◌, length, get_or, set, sym, refl, ap, ◌∙◌, mul-le-mul, arith, le-ltb, lt-ltb, ne_eqb}
use lib.Seq.{set_out}
use Rattle.rules.specs.V0.{Kind, Block, put, apply, write_all, predictor, bounded, limit, rows_up}
use Rattle.rules.specs.declared.answer.Size.{Size}
use Rattle.rules.specs.declared.v0.Predictor.{Predictor}
use Rattle.rules.specs.declared.v0.Predictor.TheVariants.{Skipped, Constant, Sample}
use Rattle.rules.specs.declared.v0.V0Op.{V0Op}
use Rattle.rules.proofs.V0Cells.{apply_append, apply_length, write_all_append, write_all_length}
use Rattle.v0_cells.specs.Places.{InFrame}

-- ── The predictor ──

-- Places and bounds within the size limits fit a machine word.
pub product : (a b : ℕ) → a ≤ 16_384 → b ≤ 16_391 → a * b ≤ 268_550_144
product a b p q = mul-le-mul p q

pub row_fits : (z : Size) (row col : ℕ) → InFrame z row col → (n : ℕ) → n ≤ row → n * z.width ≤ 268_550_144
row_fits z row col i n h = product n z.width (omega (arith, i.row_in, i.height)) (omega (arith, i.width))

module _ (z : Size) (place p : ℕ) where
  pub bounded_both : place < limit z → p < limit z → Sample p ≡ bounded z place p
  unfolding bounded
  bounded_both l l' = rw (lt-ltb place (limit z) l, lt-ltb p (limit z) l')

  pub bounded_source : place < limit z → limit z ≤ p → Skipped ≡ bounded z place p
  unfolding bounded
  bounded_source l l' = rw (lt-ltb place (limit z) l, le-ltb p (limit z) l')

  pub bounded_place : limit z ≤ place → Skipped ≡ bounded z place p
  unfolding bounded
  bounded_place l = rw (le-ltb place (limit z) l)

module _ (z : Size) (row col : ℕ) (up : Bool) (c : ℕ) where
  pub predictor_none : up ≡ true → row < 1 + c % 2 → Skipped ≡ predictor z row col up c
  unfolding predictor
  predictor_none e l = rw (e, lt-ltb row (rows_up c) l)

  pub predictor_up : (x : Predictor) → up ≡ true → 1 + c % 2 ≤ row
      → x ≡ bounded z (row * z.width + col + c) ((row - (1 + c % 2)) * z.width + col + c) → x ≡ predictor z row col up c
  unfolding predictor
  predictor_up x e l q = rw (e, le-ltb row (rows_up c) l) q

  pub predictor_constant : up ≡ false → col ≡ 0 → Constant ≡ predictor z row col up c
  unfolding predictor
  predictor_constant e q = rw (e, q)

  pub predictor_left : (x : Predictor) → up ≡ false → (col ≡ 0 → ⊥)
      → x ≡ bounded z (row * z.width + col + c) (row * z.width + col - (2 - c % 2)) → x ≡ predictor z row col up c
  unfolding predictor
  predictor_left x e l q = rw (e, ne_eqb col 0 l) q

-- ── An operation ──

module _ {A : Type 0} (k : Kind A) where
  pub put_skipped : (place : ℕ) (p : Predictor) (d : ℕ) (f : List A) → p ≡ Skipped → f ≡ put k place p d f
  unfolding put
  put_skipped place p d f e = rw e

  pub put_past : (place : ℕ) (p : Predictor) (d : ℕ) (f : List A) → length f ≤ place → f ≡ put k place p d f
  unfolding put
  put_past place Skipped d f l = refl
  put_past place Constant d f l = sym (set_out f place (k.plus (k.constant 128) d) l)
  put_past place (Sample p) d f l = sym (set_out f place (k.plus (get_or f p (k.constant 0)) d) l)

  pub put_constant : (place : ℕ) (p : Predictor) (d : ℕ) (v : A) (f : List A) → p ≡ Constant → v ≡ k.plus (k.constant 128) d → set f place v ≡ put k place p d f
  unfolding put
  put_constant place p d v f e q = rw (e, q)

  pub put_sample : (place q : ℕ) (p : Predictor) (d : ℕ) (b v : A) (f : List A) → p ≡ Sample q → b ≡ get_or f q (k.constant 0) → v ≡ k.plus b d
      → set f place v ≡ put k place p d f
  unfolding put
  put_sample place q p d b v f e eb ev = rw (e, ev, eb)

-- A frame of no cells stays one.
module _ (k : Kind ℕ) where
  put_empty : (place : ℕ) (p : Predictor) (d : ℕ) → put k place p d [] ≡ []
  unfolding put
  put_empty place Skipped d = refl
  put_empty place Constant d = refl
  put_empty place (Sample p) d = refl

  pub apply_empty : (os : List V0Op) → apply k os [] ≡ []
  unfolding apply
  apply_empty [] = refl
  apply_empty (o ∷ os) = ap (apply k os) (put_empty o.place o.predictor o.residual) ∙ apply_empty os

-- ── Operations, or blocks, one after another ──

-- What a list of them does to a frame's cells: one list after another, and the frame keeps its length.
pub record Walk (B : Type 0) : Type 0 where
  pub over : List B → List ℕ → List ℕ
  pub none : (f : List ℕ) → over [] f ≡ f
  pub append : (xs ys : List B) (f : List ℕ) → over (xs ++ ys) f ≡ over ys (over xs f)
  pub keeps_length : (xs : List B) (f : List ℕ) → length (over xs f) ≡ length f

pub apply_none : (k : Kind ℕ) (f : List ℕ) → apply k [] f ≡ f
unfolding apply
apply_none k f = refl

pub write_none : (k : Kind ℕ) (f : List ℕ) → write_all k [] f ≡ f
unfolding write_all
write_none k f = refl

abbrev pub ops_walk : Kind ℕ → Walk V0Op
ops_walk k = record { over = apply k; none = apply_none k; append = apply_append k; keeps_length = apply_length k }

abbrev pub blocks_walk : Kind ℕ → Walk Block
blocks_walk k = record { over = write_all k; none = write_none k; append = write_all_append k; keeps_length = write_all_length k }

-- A loop over them: what is left, done from here, comes to what the whole does from the start.
pub record Left {B : Type 0} (k : Walk B) (rest whole : List B) (f₀ f : List ℕ) : Type 0 where
  pub cells_are : k.over rest f ≡ k.over whole f₀
  pub same_length : length f ≡ length f₀

module _ {B : Type 0} (k : Walk B) where
  pub left_begun : (rest whole : List B) (f : List ℕ) → rest ≡ whole → Left k rest whole f f
  left_begun rest whole f e = record { cells_are = ap (λ os. k.over os f) e; same_length = refl }

  pub left_on : (x rest rest' whole : List B) (f₀ f f' : List ℕ) → rest ≡ x ++ rest' → f' ≡ k.over x f → Left k rest whole f₀ f → Left k rest' whole f₀ f'
  left_on x rest rest' whole f₀ f f' e q l =
      record {
        cells_are = ap (k.over rest') q ∙ sym (k.append x rest' f) ∙ sym (ap (λ os. k.over os f) e) ∙ l.cells_are;
        same_length = ap length q ∙ k.keeps_length x f ∙ l.same_length;
      }

  pub left_none : (rest whole : List B) (f₀ f : List ℕ) → rest ≡ [] → Left k rest whole f₀ f → f ≡ k.over whole f₀
  left_none rest whole f₀ f e l = sym (k.none f) ∙ sym (ap (λ os. k.over os f) e) ∙ l.cells_are
