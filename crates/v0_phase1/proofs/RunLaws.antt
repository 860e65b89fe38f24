-- Blocks one after another: what each keeps all keep, and by position they are those that the record reads.
use mathlib.Core.Path.{◌≡◌, refl, sym, ap, ◌∙◌}
use mathlib.Core.Bool.{true, false, ◌&&◌}
use mathlib.Core.List.{List}
use Prim.Native.Nat.{ℕ, suc, ◌+◌, ◌-◌, ◌*◌, ◌/◌, ◌≤◌, ◌<◌}
use native.Mathlib.Omega.{arith}
use lib.ListN.{length, set, length-set}
use Rattle.std.specs.Int.{from_bool}
use Rattle.rules.specs.V0.{order, blocks_in}
use Rattle.rules.specs.Phases.{store_samples}
use Rattle.rules.specs.declared.reader.Bits.{Bits}
use Rattle.rules.specs.declared.v0.V0Row.{V0Row}
use Rattle.read_window.specs.Window.{state_at, Standing, standing_in}
use Rattle.v0_parse.specs.Lengths.{Within}
use Rattle.v0_parse.proofs.BlockLaws.{block_within}
use Rattle.v0_parse_window.specs.ByWindow.{Ahead, HeadAt, last_start, short, Ends, residuals_of, block_ahead, residuals_ahead}
use Rattle.v0_parse_window.specs.Run.{run_length, blocks_of_run}
use Rattle.v0_parse_window.specs.declared.WindowHead.{WindowHead}
use Rattle.v0_parse_window.proofs.GroupLaws.{ahead_end}
use Rattle.v0_parse_window.proofs.RunLaws.{run_over, run_late, run_long, run_more}
use Rattle.v0_phase1.specs.RowLent.{RowLent}
use Rattle.v0_phase1.specs.Ran.{Ran, none, also, row_at, RanAt}
use Rattle.v0_phase1.specs.declared.run.Point.{Point}
use Rattle.v0_phase1.proofs.ResidualLaws.{Parsing, parsing_on, position_parsed}

-- ── Blocks by the record ──

module _ {s : List ℕ} {w k : ℕ} {st : V0Row} {out dirs : List ℕ} where
  -- Blocks are counted on.
  pub ran_further : {k' : ℕ} {st' : V0Row} {out' dirs' : List ℕ} → Ran s w k st out dirs k' st' out' dirs' → k ≤ k'
  ran_further none = omega arith
  ran_further (also r l e x) = omega (arith, ran_further r)

  -- No further than the row has.
  pub ran_below : {k' : ℕ} {st' : V0Row} {out' dirs' : List ℕ} → k ≤ blocks_in w → Ran s w k st out dirs k' st' out' dirs' → k' ≤ blocks_in w
  ran_below below none = below
  ran_below below (also r l e x) = omega arith

  -- What was lent stays as long as it was.
  pub ran_samples : {k' : ℕ} {st' : V0Row} {out' dirs' : List ℕ} → Ran s w k st out dirs k' st' out' dirs' → length out' ≡ length out
  ran_samples none = refl
  ran_samples (also r l e x) = e ∙ ran_samples r

  pub ran_directions : {k' : ℕ} {st' : V0Row} {out' dirs' : List ℕ} → Ran s w k st out dirs k' st' out' dirs' → length dirs' ≡ length dirs
  ran_directions none = refl
  ran_directions (also {k₁} {dirs₁ = dirs₁} r l e x) = rw x.directions (length-set dirs₁ k₁ _ ∙ ran_directions r)

  -- The lengths get no further from 0 than by 1 for each block.
  pub ran_within : {k' : ℕ} {st' : V0Row} {out' dirs' : List ℕ} → Within (15 + k) st.lengths → Ran s w k st out dirs k' st' out' dirs' → Within (15 + k') st'.lengths
  ran_within near none = near
  ran_within near (also {k₁} {st₁} r l e x) =
      let more : 15 + (k₁ + 1) ≡ suc (15 + k₁) = omega arith in
      rw (x.state, more) (block_within s st₁ (15 + k₁) (omega arith) (ran_within near r))

  -- So a row that was lent still is.
  pub ran_lent : {k' : ℕ} {st' : V0Row} {out' dirs' : List ℕ} → RowLent w out dirs → Ran s w k st out dirs k' st' out' dirs' → RowLent w out' dirs'
  ran_lent l r = record {
    width = l.width;
    samples_lent = omega (arith, ran_samples r, l.samples_lent);
    directions_lent = omega (arith, ran_directions r, l.directions_lent);
  }

  -- What is left after them comes to the whole row, if it did before them.
  pub ran_parsing : {k' : ℕ} {st' : V0Row} {out' dirs' : List ℕ} {n : ℕ} {st₀ : V0Row} {out₀ dirs₀ : List ℕ} → n ≡ blocks_in w → n ≤ length dirs
      → Ran s w k st out dirs k' st' out' dirs' → Parsing s w n st₀ st out₀ out dirs₀ dirs k → Parsing s w n st₀ st' out₀ out' dirs₀ dirs' k'
  ran_parsing en enough none g = g
  ran_parsing {n = n} en enough (also r l e x) g =
      parsing_on s w n _ _ _ _ _ _ _ _ _ _ (omega arith) (omega (arith, ran_directions r)) e x (ran_parsing en enough r g)

-- ── Blocks by position ──

module _ {s : List ℕ} {base w : ℕ} {p : Point} {out dirs : List ℕ} where
  pub run_begun : Ahead s base p.q block_ahead → RanAt s base w p out dirs p out dirs
  run_begun x = record { ahead = record { late = omega arith; soon = omega arith; there = omega arith; far = omega arith }; reads = λ f. none }

  -- One more, from its head and the residuals after it.
  pub run_on : {p₁ : Point} {h : WindowHead} {q d : ℕ} {out₁ out₂ dirs₁ : List ℕ} → RanAt s base w p out dirs p₁ out₁ dirs₁
      → p₁.k < blocks_in w → length out₂ ≡ length out₁ → Ahead s base h.q residuals_ahead → HeadAt s base p₁.q p₁.lengths h → Ends s base h q
      → out₂ ≡ store_samples 0 w (p₁.k * 16) order (residuals_of s base h) out₁ → d ≡ from_bool h.up
      → RanAt s base w p out dirs (record { k = p₁.k + 1; q = q; lengths = h.lengths }) out₂ (set dirs₁ p₁.k d)
  run_on r l same x head ends eo ed =
      record {
        ahead = ahead_end x ends;
        reads = λ f. also (r.reads f) l same (position_parsed refl head ends eo ed refl);
      }

  -- Between two records.
  pub run_ran : {p' : Point} {st : V0Row} {f : ℕ} {b : Bits} {out' dirs' : List ℕ} → st.lengths ≡ p.lengths → st.bits ≡ state_at s base p.q f
      → RanAt s base w p out dirs p' out' dirs' → b ≡ state_at s base p'.q f
      → Ran s w p.k st out dirs p'.k (record { lengths = p'.lengths; bits = b }) out' dirs'
  run_ran {f = f} el es r eb = rw (el, es, eb) (r.reads f)

-- ── How far ──

-- Where the run from a point on ends, f words having been missing and no block beginning after bit `last`.
abbrev pub ending : List ℕ → ℕ → ℕ → ℕ → ℕ → Point → ℕ
ending s base w last f p = p.k + run_length s (base * 8 + last) (w / 16 - p.k) (row_at s base f p)

module _ (s : List ℕ) (base w last : ℕ) (p : Point) where
  -- The block there reaches past the row's end, begins too late, or is long.
  pub ends_narrow : w < (p.k + 1) * 16 → (f : ℕ) → p.k ≡ ending s base w last f p
  ends_narrow narrow f =
      let n : w / 16 - p.k ≡ 0 = omega arith in
      rw (n, run_over s (base * 8 + last) (row_at s base f p)) (omega arith)

  pub ends_late : last < p.q → (f : ℕ) → p.k ≡ ending s base w last f p
  ends_late late f = rw (run_late s base f last p.q p.lengths (w / 16 - p.k) late) (omega arith)

  module _ (h : WindowHead) (soon : p.q ≤ last) (at : HeadAt s base p.q p.lengths h) where
    pub ends_long : short h.lengths ≡ false → (f : ℕ) → p.k ≡ ending s base w last f p
    ends_long e f = rw (run_long s base f last p.q p.lengths h at (w / 16 - p.k) soon e) (omega arith)

    -- A short one is one of the run.
    pub ends_on : (q' : ℕ) → (p.k + 1) * 16 ≤ w → short h.lengths ≡ true → Ends s base h q' → (f : ℕ)
        → ending s base w last f p ≡ ending s base w last f (record { k = p.k + 1; q = q'; lengths = h.lengths })
    ends_on q' inside e ends f =
        let n : w / 16 - p.k ≡ suc (w / 16 - (p.k + 1)) = omega arith in
        rw (n, run_more s base f last p.q p.lengths h at (w / 16 - (p.k + 1)) q' soon e ends) (omega arith)

-- Where a run ends is where the one from its first point on does.
pub ended_at : (s : List ℕ) (base w last last' : ℕ) (p p' : Point) → ((f : ℕ) → ending s base w last f p ≡ ending s base w last f p') → last ≡ last'
    → ((f : ℕ) → p'.k ≡ ending s base w last f p') → (f : ℕ) → p'.k ≡ ending s base w last' f p
ended_at s base w last last' p p' on el e f = e f ∙ sym (on f) ∙ ap (λ last. ending s base w last f p) el

-- The row's state where a run begins is the one by position.
pub run_begun_at : {s : List ℕ} {st : V0Row} (k : ℕ) → Standing s st.bits 80
    → st ≡ row_at s (st.bits.pos - 12) st.bits.filler (record { k = k; q = 96 - st.bits.count; lengths = st.lengths })
run_begun_at {st = st} k x = ap (λ (b : Bits). record { lengths = st.lengths; bits = b }) x.is

-- Where a run begins it has the blocks that follow, and where none does it has none.
module _ (s : List ℕ) (n : ℕ) (st : V0Row) where
  pub run_ended : short st.lengths && standing_in s st.bits 80 ≡ true → (p : Point) → st ≡ row_at s (st.bits.pos - 12) st.bits.filler p
      → run_length s ((st.bits.pos - 12) * 8 + last_start (length s - (st.bits.pos - 12))) n (row_at s (st.bits.pos - 12) st.bits.filler p) ≡ blocks_of_run s n st
  unfolding blocks_of_run
  run_ended e p es = rw (e, ← es)

  pub run_none : (k : ℕ) → short st.lengths && standing_in s st.bits 80 ≡ false → k ≡ k + blocks_of_run s n st
  unfolding blocks_of_run
  run_none k e = rw e (omega arith)
