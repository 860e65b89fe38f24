-- Phase two of any kind of cell: block by block and sample by sample, what is left from here comes to the whole from the start.
use Rattle.std.proofs.Common.{◌≡◌, ℕ, zero, suc, ◌+◌, ◌-◌, ◌*◌, ◌<◌, ◌≤◌, Bool, true, false, ◌≢◌, List, [], ◌∷◌, ◌++◌, map, length, get_or, take, drop, sym, refl, ◌∙◌, mul-le-mul_right, add-one, arith, length-drop, drop-cons, le-ltb, lt-ltb, ne_eqb}
use lib.Seq.{take-append-le, drop-append-le}
use Rattle.rules.specs.V0.{put, apply, sample_kind, order, blocks_in, rows_up, columns_back}
use Rattle.rules.specs.Phases.{Stage, sample_stage, upward, late_predictor, predict_samples, predict_blocks, phase_two}
use Rattle.rules.specs.declared.v0.Predictor.{Predictor}
use Rattle.rules.specs.declared.v0.Predictor.TheVariants.{Constant, Sample}
use Rattle.rules.proofs.Cells.{All, nil, more}
use Rattle.rules.proofs.Order.{Apart, end, next, all_order, order_apart}
use Rattle.rules.proofs.Spill.{put_other}
use Rattle.v0_cells.specs.Places.{Inside, Low}
use Rattle.v0_cells.specs.Inner.{inner_ops}
use Rattle.v0_cells.proofs.CellLaws.{product}
use Rattle.v0_cells.proofs.InnerLaws.{late_source}
use Rattle.v0_phase2.specs.LateRow.{LateRow}

-- ── The predictor ──

module _ (w row col : ℕ) (up : Bool) (c : ℕ) where
  pub late_constant : up ≡ false → col ≤ 0 → Constant ≡ late_predictor w row col up c
  unfolding late_predictor
  late_constant e q = let first : col ≡ 0 = omega arith in rw (e, first)

  pub late_up : (n : ℕ) → up ≡ true → n ≡ rows_up c → Sample ((row - n) * w + col + c) ≡ late_predictor w row col up c
  unfolding late_predictor
  late_up n e q = rw (q, e)

  pub late_left : up ≡ false → 0 < col → Sample (row * w + col - columns_back c) ≡ late_predictor w row col up c
  unfolding late_predictor
  late_left e after = rw (e, ne_eqb col 0 (λ q. omega arith))

-- Stores keep a row within its frame.
pub row_kept : {w row : ℕ} {f₀ : List ℕ} (f : List ℕ) → LateRow w row f₀ → length f ≡ length f₀ → LateRow w row f
row_kept f l e = record { width = l.width; rows_above = l.rows_above; row_below = l.row_below; row_lent = omega (arith, l.row_lent) }

-- ── A block's samples ──

module _ (g : Stage ℕ) (w row col : ℕ) (up : Bool) where
  pub one_within : (c d : ℕ) (p : Predictor) (f f' : List ℕ) → col + c < w → p ≡ late_predictor w row col up c
      → d ≡ g.residual (get_or f (row * w + col + c) (g.kind.constant 0))
      → f' ≡ put g.kind (row * w + col + c) p d f → f' ≡ predict_samples g w row col up (c ∷ []) f
  unfolding predict_samples
  one_within c d p f f' h ep ed q = rw (lt-ltb (col + c) w h, ← ep, ← ed) q

  pub one_past : (c : ℕ) (f : List ℕ) → w ≤ col + c → f ≡ predict_samples g w row col up (c ∷ []) f
  unfolding predict_samples
  one_past c f h = rw (le-ltb (col + c) w h)

  pub record Predicting (f₀ f : List ℕ) (k : ℕ) : Type 0 where
    pub below : k ≤ 16
    pub same_length : length f ≡ length f₀
    pub cells_are : predict_samples g w row col up (drop k order) f ≡ predict_samples g w row col up order f₀

  pub predicting_begun : (f : List ℕ) → Predicting f f 0
  predicting_begun f = record { below = omega arith; same_length = refl; cells_are = refl }

  pub predicting_on : (f₀ f f' : List ℕ) (k c : ℕ) → k < 16 → length f' ≡ length f → c ≡ get_or order k 0
      → f' ≡ predict_samples g w row col up (c ∷ []) f → Predicting f₀ f k → Predicting f₀ f' (k + 1)
  unfolding predict_samples
  predicting_on f₀ f f' k c h same ec q p =
      record { below = omega arith; same_length = same ∙ p.same_length; cells_are = sym left ∙ p.cells_are }
    where
      left : predict_samples g w row col up (drop k order) f ≡ predict_samples g w row col up (drop (k + 1) order) f'
      left = rw (add-one k, drop-cons order k 0 h, ← ec, q)

  pub predicting_done : (f₀ f : List ℕ) (k : ℕ) → 16 ≤ k → Predicting f₀ f k → f ≡ predict_samples g w row col up order f₀
  unfolding predict_samples
  predicting_done f₀ f k l p =
      let e : k ≡ 16 = omega (arith, p.below) in
      let p' : Predicting f₀ f 16 = rw e at p in p'.cells_are

-- ── An inner block ──

-- A block after column 0 that lies within its row has two rows before it.
pub late_inside : {w row col : ℕ} {f : List ℕ} → LateRow w row f → (0 < col) × (col + 16 ≤ w)
    → Inside w (row * w + col) f × Low (row * w + col)
late_inside {w} {row} l inner =
    let two : 2 * w ≤ row * w = mul-le-mul_right w l.rows_above in
    let most = product row w (omega (arith, l.row_below)) (omega (arith, l.width)) in
    (record { wide = omega arith; rows = omega arith; room = omega (arith, l.row_lent) }, omega (arith, l.width))

-- In it phase two does the direct decoder's operations, with the residuals that stand in its places: those are places of their
-- own, so that each residual still stands there when its turn comes.
module _ (g : Stage ℕ) (w row col : ℕ) (up : Bool) (two : 2 ≤ row) (after : 0 < col) (within : col + 16 ≤ w) (f₀ : List ℕ) where
  abbrev at : List ℕ → ℕ → ℕ
  at f c = get_or f (row * w + col + c) (g.kind.constant 0)

  others_stand : (c : ℕ) (p : Predictor) (d : ℕ) (f : List ℕ) {cs : List ℕ} → All (λ b. b ≢ c) cs → All (λ b. at f b ≡ at f₀ b) cs
      → All (λ b. at (put g.kind (row * w + col + c) p d f) b ≡ at f₀ b) cs
  others_stand c p d f nil nil = nil
  others_stand c p d f (more {a = b} q qs) (more h hs) =
      more (put_other g.kind (row * w + col + c) p d f (row * w + col + b) (λ e. q (omega arith)) ∙ h) (others_stand c p d f qs hs)

  inner_steps : {cs : List ℕ} → Apart (λ c. c) cs → All (λ c. c < 16) cs → (f : List ℕ) → All (λ c. at f c ≡ at f₀ c) cs
      → predict_samples g w row col up cs f ≡ apply g.kind (inner_ops w (row * w + col) up cs (map (λ c. g.residual (at f₀ c)) cs)) f
  unfolding predict_samples inner_ops apply
  inner_steps end nil f nil = refl
  inner_steps (next {a = c} away rest) (more l ls) f (more h hs) =
      rw (lt-ltb (col + c) w (omega arith), late_source w row col up c two after, h)
      (inner_steps rest ls _ (others_stand c _ _ f away hs))

  inner_block : predict_samples g w row col up order f₀
      ≡ apply g.kind (inner_ops w (row * w + col) up order (map (λ c. g.residual (at f₀ c)) order)) f₀
  inner_block = inner_steps order_apart (all_order (λ c. c < 16) (λ c l. l)) f₀ (all_order (λ c. at f₀ c ≡ at f₀ c) (λ c l. refl))

-- So it does in the samples, by the residuals of the block's columns.
pub inner_done : {w row col : ℕ} (up : Bool) {f f' : List ℕ} → LateRow w row f → (0 < col) × (col + 16 ≤ w)
    → f' ≡ apply sample_kind (inner_ops w (row * w + col) up order (map (λ c. get_or f (row * w + col + c) 0) order)) f → f' ≡ predict_samples sample_stage w row col up order f
inner_done up l inner q = q ∙ sym (inner_block sample_stage _ _ _ _ l.rows_above inner.0 inner.1 _)

-- ── A row's blocks ──

-- The blocks of a row from number `from` up to `to`; the row's direction bytes begin at `start`.
module _ (g : Stage ℕ) (w row start from to : ℕ) (dirs : List ℕ) where
  -- The direction bytes from block k on.
  abbrev pub directions_from : ℕ → List ℕ
  directions_from k = take (to - k) (drop (start + k) dirs)

  pub record Part (f₀ f : List ℕ) (k : ℕ) : Type 0 where
    pub same_length : length f ≡ length f₀
    pub cells_are : predict_blocks g w row (k * 16) (directions_from k) f ≡ predict_blocks g w row (from * 16) (directions_from from) f₀

  pub part_begun : (f : List ℕ) → Part f f from
  part_begun f = record { same_length = refl; cells_are = refl }

  pub part_on : (f₀ f f' : List ℕ) (k d : ℕ) → k < to → start + to ≤ length dirs → d ≡ get_or dirs (start + k) 0 → length f' ≡ length f
      → f' ≡ predict_samples g w row (k * 16) (upward d) order f → Part f₀ f k → Part f₀ f' (k + 1)
  unfolding predict_blocks
  part_on f₀ f f' k d l lent ed same q p =
      record { same_length = same ∙ p.same_length; cells_are = sym left ∙ p.cells_are }
    where
      left : predict_blocks g w row (k * 16) (directions_from k) f ≡ predict_blocks g w row ((k + 1) * 16) (directions_from (k + 1)) f'
      left =
          let next : (k + 1) * 16 ≡ k * 16 + 16 = omega arith in
          let more : to - k ≡ suc (to - (k + 1)) = omega arith in
          let at : start + (k + 1) ≡ suc (start + k) = omega arith in
          rw (next, at, more, drop-cons dirs (start + k) 0 (omega arith), ← ed, q)

  pub part_done : (f₀ f : List ℕ) (k : ℕ) → to ≤ k → Part f₀ f k → f ≡ predict_blocks g w row (from * 16) (directions_from from) f₀
  unfolding predict_blocks
  part_done f₀ f k l p = let none : to - k ≡ 0 = omega arith in rw none at p.cells_are

-- From block 0 on it is the whole row.
pub whole_row : (g : Stage ℕ) (w row start n : ℕ) (dirs f f₀ : List ℕ)
    → f ≡ predict_blocks g w row (0 * 16) (take (n - 0) (drop (start + 0) dirs)) f₀
    → f ≡ predict_blocks g w row 0 (take n (drop start dirs)) f₀
whole_row g w row start n dirs f f₀ e =
    let all : n - 0 ≡ n = omega arith in
    let first : start + 0 ≡ start = omega arith in
    rw (all, first) at e

-- ── The directions that are read ──

-- What stands in the scratch after the last row's directions is not read.
pub directions_read : (g : Stage ℕ) (w n row : ℕ) (ds rest f : List ℕ) → length ds ≡ blocks_in w * n
    → phase_two g w n row (ds ++ rest) f ≡ phase_two g w n row ds f
unfolding phase_two
directions_read g w zero row ds rest f e = refl
directions_read g w (suc n) row ds rest f e =
    let l : blocks_in w ≤ length ds = omega arith in
    let m : length (drop (blocks_in w) ds) ≡ blocks_in w * n = omega (arith, length-drop (blocks_in w) ds) in
    rw (take-append-le (blocks_in w) ds rest l, drop-append-le (blocks_in w) ds rest l)
    (directions_read g w n (suc row) (drop (blocks_in w) ds) rest _ m)
