-- Both phases of one row after another come to phase two of all rows after phase one of all: phase two of a row reads and writes
-- no cell past the row's end, and phase one of the rows after it writes only there. And a pair of rows can be exchanged before the
-- rows that do not read it.
use mathlib.Core.Path.{◌≡◌, refl, sym, ap, ap₂, ◌∙◌}
use mathlib.Core.Bool.{Bool, true, false, cond}
use mathlib.Core.List.{List, [], ◌∷◌, map}
use Prim.Native.Nat.{ℕ, zero, suc, ◌+◌, ◌-◌, ◌*◌, ◌/◌, ◌≤◌, ◌<◌}
use native.Mathlib.Omega.{arith}
use native.Mathlib.Nat.{mul-le-mul_right}
use lib.Dec.{ltb, eqb}
use lib.ListN.{get_or, set}
use lib.Seq.{get_or-set_other, set_comm, take_at, drop_at}
use borrow.Author.Tests.{ltb-true}
use Rattle.rules.specs.V0.{put, order, blocks_in, rows_up, exchange_rows, sample_kind}
use Rattle.rules.specs.Phases.{BlockRecord, row_records, store_samples, store_blocks, phase_one, direction, upward, directions, late_predictor, sample_stage, predict_samples, predict_blocks, phase_two}
use Rattle.rules.proofs.Tests.{by-test}
use Rattle.rules.proofs.TwoPhase.{row_directions_length}
use Rattle.v0_direct.specs.Freed.{freed_pairs}
use Rattle.v0_direct.proofs.FreedLaws.{Apart, apart_none, apart_then, Reads, put_past, Early, rows_early, freed_on}
use Rattle.v0_two_phase.specs.LateRow.{late_row}

-- A change that neither reads nor changes a cell before a place.
abbrev Past : ℕ → (List ℕ → List ℕ) → Type 0
Past b F = Apart sample_kind (λ i. i < b) F

past_set : (b j v : ℕ) → b ≤ j → Past b (λ f. set f j v)
past_set b j v l = record {
  reads = λ f i q. get_or-set_other f j i v 0 (λ e. omega arith);
  stores = λ f i u q. set_comm f i j u v (λ e. omega arith);
}

-- ── Phase one of the rows after a place ──

-- Where a row's first place is b or after it, storing residuals in the row is such a change: a residual that may be dropped, a
-- block's residuals, and a row's.
module _ (b first w : ℕ) (after : b ≤ first) where
  past_store : (t : Bool) (j v : ℕ) → b ≤ j → Past b (λ f. cond t (set f j v) f)
  past_store true j v l = past_set b j v l
  past_store false j v l = apart_none sample_kind _

  past_samples : (col : ℕ) (cs vs : List ℕ) → Past b (λ f. store_samples first w col cs vs f)
  unfolding store_samples
  past_samples col [] vs = apart_none sample_kind _
  past_samples col (c ∷ cs) [] = apart_none sample_kind _
  past_samples col (c ∷ cs) (v ∷ vs) = apart_then sample_kind _ _ _ (past_store (ltb (col + c) w) (first + col + c) v (omega arith)) (past_samples col cs vs)

  past_blocks : (col : ℕ) (rs : List BlockRecord) → Past b (λ f. store_blocks first w col rs f)
  unfolding store_blocks
  past_blocks col [] = apart_none sample_kind _
  past_blocks col (r ∷ rs) = apart_then sample_kind _ _ _ (past_samples col order r.residuals) (past_blocks (col + 16) rs)

-- Storing the residuals of all rows from a row on is a change past that row's first place.
past_rows : (s offsets : List ℕ) (w b n row : ℕ) → b ≤ row * w → Past b (λ f. phase_one s offsets w n row f)
unfolding phase_one
past_rows s offsets w b zero row l = apart_none sample_kind _
past_rows s offsets w b (suc n) row l =
    apart_then sample_kind _ _ _ (past_blocks b (row * w) w l 0 (row_records s w row (get_or offsets row 0))) (past_rows s offsets w b n (suc row) (omega arith))

-- ── A row, before or after a change that keeps off it ──

-- A change F that neither reads nor changes a cell of the row, or one that a sample of it is predicted from.
module _ (w row : ℕ) (S : ℕ → Type 0) (F : List ℕ → List ℕ) (p : Apart sample_kind S F)
    (own : (i : ℕ) → row * w ≤ i → i < row * w + w → S i)
    (reads : (col : ℕ) (up : Bool) (c : ℕ) → col + c < w → Reads S (late_predictor w row col up c)) where
  -- F may come before or after storing the residuals of a block's samples and of a row's blocks.
  residuals_wait : (col : ℕ) (cs vs f : List ℕ) → F (store_samples (row * w) w col cs vs f) ≡ store_samples (row * w) w col cs vs (F f)
  unfolding store_samples
  residuals_wait col [] vs f = refl
  residuals_wait col (c ∷ cs) [] f = refl
  residuals_wait col (c ∷ cs) (v ∷ vs) f = by-test (ltb (col + c) w)
      (λ e. rw e (residuals_wait col cs vs _ ∙ ap (store_samples (row * w) w col cs vs) (one (ltb-true (col + c) w e))))
      (λ e. rw e (residuals_wait col cs vs f))
    where
      one : col + c < w → F (set f (row * w + col + c) v) ≡ set (F f) (row * w + col + c) v
      one l = p.stores f _ v (own _ (omega arith) (omega arith))

  stores_wait : (col : ℕ) (rs : List BlockRecord) (f : List ℕ) → F (store_blocks (row * w) w col rs f) ≡ store_blocks (row * w) w col rs (F f)
  unfolding store_blocks
  stores_wait col [] f = refl
  stores_wait col (r ∷ rs) f = stores_wait (col + 16) rs _ ∙ ap (store_blocks (row * w) w (col + 16) rs) (residuals_wait col order r.residuals f)

  -- F may come before or after adding the predictions of a block's samples and of a row's blocks.
  samples_wait : (col : ℕ) (up : Bool) (cs f : List ℕ) → F (predict_samples sample_stage w row col up cs f) ≡ predict_samples sample_stage w row col up cs (F f)
  unfolding predict_samples
  samples_wait col up [] f = refl
  samples_wait col up (c ∷ cs) f = by-test (ltb (col + c) w)
      (λ e. rw e (samples_wait col up cs _ ∙ ap (predict_samples sample_stage w row col up cs) (one (ltb-true (col + c) w e))))
      (λ e. rw e (samples_wait col up cs f))
    where
      place : ℕ
      place = row * w + col + c

      one : col + c < w
          → F (put sample_kind place (late_predictor w row col up c) (get_or f place 0) f) ≡ put sample_kind place (late_predictor w row col up c) (get_or (F f) place 0) (F f)
      one l =
          let mine = own place (omega arith) (omega arith) in
          put_past sample_kind S F p place (late_predictor w row col up c) (get_or f place 0) f mine (reads col up c l)
          ∙ ap (λ d. put sample_kind place (late_predictor w row col up c) d (F f)) (sym (p.reads f place mine))

  blocks_wait : (col : ℕ) (ds f : List ℕ) → F (predict_blocks sample_stage w row col ds f) ≡ predict_blocks sample_stage w row col ds (F f)
  unfolding predict_blocks
  blocks_wait col [] f = refl
  blocks_wait col (d ∷ ds) f = blocks_wait (col + 16) ds _ ∙ ap (predict_blocks sample_stage w row (col + 16) ds) (samples_wait col (upward d) order f)

-- A sample within its row reads before the row's end, and not before the second row above it.
reads_before : (w row col : ℕ) (up : Bool) (c : ℕ) → col + c < w → Reads (λ i. i < row * w + w) (late_predictor w row col up c)
unfolding late_predictor
reads_before w row col true c l = let q : (row - rows_up c) * w ≤ row * w = mul-le-mul_right w (omega arith) in omega arith
reads_before w row col false c l = by-test (eqb col 0) (λ e. rw e tt) (λ e. rw e (omega arith))

reads_from : (m w row : ℕ) → 2 ≤ row → m ≤ (row - 2) * w → (col : ℕ) (up : Bool) (c : ℕ) → col + c < w → Reads (λ i. m ≤ i) (late_predictor w row col up c)
unfolding late_predictor
reads_from m w row two h col true c l = let q : (row - 2) * w ≤ (row - rows_up c) * w = mul-le-mul_right w (omega arith) in omega arith
reads_from m w row two h col false c l =
    let q : (row - 2 + 2) * w ≤ row * w = mul-le-mul_right w (omega arith) in
    by-test (eqb col 0) (λ e. rw e tt) (λ e. rw e (omega arith))

-- ── Rows ──

module _ (s offsets : List ℕ) (w : ℕ) where
  -- Phase two of n rows after phase one of the same.
  abbrev pub two_phases : ℕ → ℕ → List ℕ → List ℕ
  two_phases n row f = phase_two sample_stage w n row (directions s offsets w n row) (phase_one s offsets w n row f)

  -- Both phases of the first row may come first.
  row_first : (n row : ℕ) (f : List ℕ) → two_phases (suc n) row f ≡ two_phases n (suc row) (late_row s w row (get_or offsets row 0) f)
  unfolding phase_two phase_one directions
  row_first n row f =
      let rs = row_records s w row (get_or offsets row 0) in
      let long = row_directions_length s w row (get_or offsets row 0) in
      rw (
        take_at (map direction rs) (directions s offsets w n (suc row)) (blocks_in w) long,
        drop_at (map direction rs) (directions s offsets w n (suc row)) (blocks_in w) long,
        blocks_wait w row (λ i. i < row * w + w) (λ x. phase_one s offsets w n (suc row) x) (past_rows s offsets w (row * w + w) n (suc row) (omega arith))
            (λ i from to. to) (reads_before w row) 0 (map direction rs) (store_blocks (row * w) w 0 rs f),
      )

  -- The exchange of pairs that end two rows above a row goes past both phases of the rows from there on.
  exchange_past : (k from n row : ℕ) → 2 ≤ row → from + 2 * k ≤ row - 2 → (f : List ℕ)
      → exchange_rows sample_kind w k from (two_phases n row f) ≡ two_phases n row (exchange_rows sample_kind w k from f)
  unfolding phase_two phase_one directions
  exchange_past k from zero row two l f = refl
  exchange_past k from (suc n) row two l f =
      ap x (row_first n row f) ∙ exchange_past k from n (suc row) (omega arith) (omega arith) (late_row s w row (get_or offsets row 0) f)
      ∙ ap (two_phases n (suc row)) (blocks_wait w row _ x early own from_there 0 _ _ ∙ ap (predict_blocks sample_stage w row 0 _) (stores_wait w row _ x early own from_there 0 _ f))
      ∙ sym (row_first n row (x f))
    where
      x : List ℕ → List ℕ
      x = exchange_rows sample_kind w k from

      m : ℕ
      m = (row - 2) * w

      early : Early sample_kind m x
      early = rows_early sample_kind m w k from (mul-le-mul_right w l)

      own : (i : ℕ) → row * w ≤ i → i < row * w + w → m ≤ i
      own i after before = let q : (row - 2) * w ≤ row * w = mul-le-mul_right w (omega arith) in omega arith

      from_there : (col : ℕ) (up : Bool) (c : ℕ) → col + c < w → Reads (λ i. m ≤ i) (late_predictor w row col up c)
      from_there = reads_from m w row two (omega arith)

  -- ── With the pairs that they free ──

  -- Both phases of n rows from a row on, and then the pairs that they free.
  abbrev pub freeing : ℕ → ℕ → List ℕ → List ℕ
  freeing n row f = exchange_rows sample_kind w (freed_pairs (row + n) - freed_pairs row) (freed_pairs row * 2) (two_phases n row f)

  -- The first row, and then the pairs that it was the last to read, may come first.
  pub freeing_first : (r : ℕ) (f f₁ f₂ : List ℕ) → f₁ ≡ late_row s w (r + 2) (get_or offsets (r + 2) 0) f
      → f₂ ≡ exchange_rows sample_kind w ((r + 1) / 2 - r / 2) (r / 2 * 2) f₁
      → (n : ℕ) → freeing (suc n) (r + 2) f ≡ freeing n (suc (r + 2)) f₂
  freeing_first r f f₁ f₂ e₁ e₂ n =
      let next : r + 2 + 1 ≡ suc (r + 2) = omega arith in
      let end : r + 2 + suc n ≡ suc (r + 2) + n = omega arith in
      ap (exchange_rows sample_kind w (freed_pairs (r + 2 + suc n) - freed_pairs (r + 2)) (freed_pairs (r + 2) * 2))
      (row_first n (r + 2) f ∙ ap (two_phases n (suc (r + 2))) (sym e₁))
      ∙ freed_on sample_kind w (r + 2 + suc n) (r + 2) (r / 2) ((r + 1) / 2) (two_phases n (suc (r + 2))) f₁ (omega arith) (omega arith) (omega arith)
      (exchange_past ((r + 1) / 2 - r / 2) (r / 2 * 2) n (suc (r + 2)) (omega arith) (omega arith) f₁)
      ∙ ap₂ (λ last first. exchange_rows sample_kind w (freed_pairs last - freed_pairs first) (freed_pairs first * 2)
      (two_phases n (suc (r + 2)) (exchange_rows sample_kind w ((r + 1) / 2 - r / 2) (r / 2 * 2) f₁))) end next
      ∙ ap (freeing n (suc (r + 2))) (sym e₂)

  -- No row frees no pair, and the rows from row 2 on free those of all rows.
  pub freeing_none : (row : ℕ) (f : List ℕ) → freeing 0 row f ≡ f
  unfolding phase_two phase_one directions exchange_rows
  freeing_none row f = let e : freed_pairs (row + 0) - freed_pairs row ≡ 0 = omega arith in rw e

  pub freeing_all : (h : ℕ) (f g : List ℕ) → g ≡ freeing (h - 2) 2 f → g ≡ exchange_rows sample_kind w (freed_pairs h) 0 (two_phases (h - 2) 2 f)
  freeing_all h f g e = let pairs : freed_pairs (2 + (h - 2)) - freed_pairs 2 ≡ freed_pairs h = omega arith in rw pairs at e
