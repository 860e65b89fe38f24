-- A block from its stages: what each stage gave is a variable with its equation.
use mathlib.Core.Bool.{true, false}
use mathlib.Core.List.{List}
use mathlib.Core.Path.{◌≡◌, refl, ap, ap₂, ◌∙◌}
use Prim.Native.Nat.{ℕ, ◌+◌, ◌≤◌}
use native.Mathlib.Omega.{arith}
use lib.Dec.{eqb, lit≤, lit<}
use lib.IntN.{ℤ, pos}
use lib.ListN.{get_or, replicate}
use mir.Syntax.{w32}
use mir.Val.{SFits}
use Rattle.rules.specs.Limits.{most_side}
use Rattle.rules.specs.declared.reader.Bits.{Bits}
use Rattle.rules.specs.declared.reader.Got.{Got}
use Rattle.rules.specs.declared.reader.Taken.{Taken}
use Rattle.rules.specs.V2.{Next, EarlyMotion, Outside, LongDifference}
use Rattle.rules.specs.declared.answer.Refusal.{Refusal}
use Rattle.std.specs.Prelude.{Result, Ok, Err}
use Rattle.rules.specs.declared.v2.V2Hdr.{V2Hdr}
use Rattle.rules.specs.V2.{V2Lengths}
use Rattle.rules.specs.declared.v2.V2Row.{V2Row}
use Rattle.rules.specs.Frame.{tabulate}
use Rattle.rules.specs.V2.{read_scale, read_motion, Base, given, copied, averaged, base, base_refusal, Moded, read_lengths, Differences, differences_from, read_differences, tail, based_tail, read_block, top, base_cell, block_cells, sample, sample_kind}
use Rattle.rules.specs.Ranges.{Between, Small}
use Rattle.rules.proofs.Cells.{all_get}
use Rattle.rules.proofs.V2Bounds.{between_abs, mag_abs, scale_read, scale_within, motion_most, lengths_small, differences_small}
use Rattle.rules.proofs.Tests.{by-test}
use Rattle.v2_cells.specs.declared.V2Place.{V2Place}
use Rattle.v2_cells.specs.Places.{base_result}
use Rattle.v2_frame.specs.Blocks.{Ready, block_result}

-- A scale within the limits fits 32 signed bits.
pub scale_fits : (z : ℤ) → Between 512 4_605 z → SFits w32 z
scale_fits z p = record { sfits = omega (arith, mag_abs z, between_abs p (lit≤ tt)) }

-- The ranges of a block's own motion and scale, and of the scale before it.
module _ (s : List ℕ) (h : V2Hdr) (n : ℕ) (at : V2Place) (b : Bits) (st : V2Row) (r : Ready h n at st) where
  column_most : at.col + 16 ≤ most_side
  column_most = omega (arith, r.inside.placed.column, r.inside.placed.wide)

  pub ready_scale : Between 512 4_605 st.scale
  ready_scale = scale_within r.scale (omega (arith, column_most))

  pub own_scale : (c : Taken ℤ) → c ≡ read_scale s h at.col st.scale b → Between 512 4_605 c.value
  own_scale c e = rw e (scale_within (scale_read s h b r.scale) column_most)

  pub own_motion : (m : Got) → m ≡ read_motion s h st.motion b → m.value ≤ 7
  own_motion m e = rw e (motion_most s h st.motion b r.motion)

-- ── After the base ──

module _ (s : List ℕ) (h : V2Hdr) (row : ℕ) (st : V2Row) (mode : List (List ℕ)) (b : Bits) (l : V2Lengths) (m : List (List ℕ))
    (e : ◌≡◌ {A = Moded} (record { lengths = l; mode = m }) (read_lengths s h row mode b)) where
  pub tail_mode : m ≡ (tail s h row st mode b).mode
  unfolding tail
  tail_mode = rw (← e)

  pub tail_long : l.long ≡ true → LongDifference l.bits ≡ (tail s h row st mode b).outcome
  unfolding tail
  tail_long t = rw (← e, t)

  module _ (ds : List ℤ) (b' : Bits)
      (ef : ◌≡◌ {A = Differences} (record { values = ds; bits = b' }) (differences_from s row l.four 16 0 (record { values = replicate 16 (pos 0); bits = l.bits })))
    where
      ed : ◌≡◌ {A = Differences} (record { values = ds; bits = b' }) (read_differences s row l.four l.bits)
      unfolding read_differences
      ed = ef

      pub tail_next : l.long ≡ false → Next b' st ≡ (tail s h row st mode b).outcome
      unfolding tail
      tail_next t = rw (← e, t, ← ed)

      differences_are : ds ≡ (tail s h row st mode b).differences
      unfolding tail
      differences_are = rw (← e, ← ed)

      pub tail_small : h.depth ≤ 16 → l.long ≡ false → (k : ℕ) → Small (get_or ds k (pos 0))
      tail_small deep t k =
          let q = differences_small s row l.four l.bits (rw (← e) at (lengths_small s h row mode b deep) (t)) in
          all_get Small (rw (← ed) at q) k (pos 0) (lit< tt)

      pub tail_samples : (bases samples : List ℕ) (t : ℕ) → t ≡ top h
          → samples ≡ tabulate 16 0 (λ i. sample t st.scale (get_or ds i (pos 0)) (get_or bases i 0))
          → samples ≡ tabulate 16 0 (λ i. sample (top h) st.scale (get_or (tail s h row st mode b).differences i (pos 0)) (get_or bases i 0))
      tail_samples bases samples t et ev =
          ev ∙ ap₂ (λ (t : ℕ) (z : List ℤ). tabulate 16 0 (λ i. sample t st.scale (get_or z i (pos 0)) (get_or bases i 0))) et differences_are

-- ── The whole block ──

-- A sample's base is the same under every greatest sample.
base_any : (t : ℕ) (f : List ℕ) (x : Base) → base_cell (sample_kind 0) f x ≡ base_cell (sample_kind t) f x
unfolding base_cell
base_any t f (given v) = refl
base_any t f (copied p) = refl
base_any t f (averaged p q) = refl

module _ (s : List ℕ) (h : V2Hdr) (w row col : ℕ) (b : Bits) (st : V2Row) (mode : List (List ℕ)) (c : Taken ℤ) (ec : c ≡ read_scale s h col st.scale b)
    (m : Got) (em : m ≡ read_motion s h st.motion c.bits) where
  early : eqb (base_refusal row col m.value) 5 ≡ true → (EarlyMotion m.bits ≡ (read_block s h w row col b st mode).outcome) × (mode ≡ (read_block s h w row col b st mode).mode)
  unfolding read_block based_tail
  early e = (rw (← ec, ← em, e), rw (← ec, ← em, e))

  outside : eqb (base_refusal row col m.value) 5 ≡ false → eqb (base_refusal row col m.value) 6 ≡ true
      → (Outside m.bits ≡ (read_block s h w row col b st mode).outcome) × (mode ≡ (read_block s h w row col b st mode).mode)
  unfolding read_block based_tail
  outside e f = (rw (← ec, ← em, e, f), rw (← ec, ← em, e, f))

  -- A refusal that the base meets is the block's, and what was remembered stays.
  pub block_refused : (x : Refusal) → Err x ≡ base_result (record { width = w; row = row; col = col }) m.value
      → (Err (record { refusal = x; bits = m.bits }) ≡ block_result (read_block s h w row col b st mode).outcome) × (mode ≡ (read_block s h w row col b st mode).mode)
  block_refused x e =
      by-test (eqb (base_refusal row col m.value) 5)
      (λ f. let is : ◌≡◌ {A = Result Unit Refusal} (Err x) (Err Refusal.EarlyMotion) = rw f at e in
      let same : x ≡ Refusal.EarlyMotion = cc in
      let q = early f in
      (rw same (ap block_result q.0), q.1))
      (λ f. by-test (eqb (base_refusal row col m.value) 6)
      (λ g. let is : ◌≡◌ {A = Result Unit Refusal} (Err x) (Err Refusal.Outside) = rw (f, g) at e in
      let same : x ≡ Refusal.Outside = cc in
      let q = outside f g in
      (rw same (ap block_result q.0), q.1))
      (λ g. let is : ◌≡◌ {A = Result Unit Refusal} (Err x) (Ok tt) = rw (f, g) at e in absurd cc))

  module _ (none : 0 ≡ base_refusal row col m.value) where
    pub block_outcome : (read_block s h w row col b st mode).outcome ≡ (tail s h row (record { motion = m.value; scale = c.value }) mode m.bits).outcome
    unfolding read_block based_tail
    block_outcome = rw (← ec, ← em, ← none)

    pub block_mode : (read_block s h w row col b st mode).mode ≡ (tail s h row (record { motion = m.value; scale = c.value }) mode m.bits).mode
    unfolding read_block based_tail
    block_mode = rw (← ec, ← em, ← none)

    pub block_samples : (f bases : List ℕ) → bases ≡ tabulate 16 0 (λ i. base_cell (sample_kind 0) f (base h w row col m.value i))
        → tabulate 16 0 (λ i. sample (top h) c.value (get_or (tail s h row (record { motion = m.value; scale = c.value }) mode m.bits).differences i (pos 0)) (get_or bases i 0))
        ≡ block_cells (sample_kind (top h)) f (read_block s h w row col b st mode).block
    unfolding read_block based_tail block_cells tabulate
    block_samples f bases eb = rw (← ec, ← em, ← none, eb) (simp (base_any (top h)))
