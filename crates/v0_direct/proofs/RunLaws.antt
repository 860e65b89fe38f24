-- A run: each of its blocks, by position, is the one that the record would read, and the record's state after the last stands where the
-- run ends.
use mathlib.Core.Path.{◌≡◌, refl, sym, ap, ap₂, subst, ◌∙◌}
use mathlib.Core.Bool.{Bool, true, false, ◌&&◌}
use mathlib.Core.List.{List}
use Prim.Native.Nat.{ℕ, suc, ◌+◌, ◌-◌, ◌*◌, ◌/◌, ◌%◌, ◌≤◌, ◌<◌}
use native.Mathlib.Omega.{arith}
use lib.Dec.{ltb, eqb}
use lib.IntN.{ℤ}
use lib.ListN.{length, replicate}
use borrow.Author.Tests.{eqb-true, ltb-true, lt-ltb, le-ltb}
use Rattle.rules.proofs.Tests.{both, by-test}
use Rattle.rules.proofs.V0Cells.{apply_length}
use Rattle.rules.specs.Frame.{cells}
use Rattle.rules.specs.V0.{apply, sample_kind, order}
use Rattle.rules.specs.Map.{v0_marks}
use Rattle.rules.specs.declared.answer.Size.{Size}
use Rattle.rules.specs.declared.reader.Bits.{Bits}
use Rattle.rules.specs.declared.v0.V0Row.{V0Row}
use Rattle.read_window.specs.Window.{state_at, Standing, standing_in}
use Rattle.v0_parse.specs.Lengths.{Within, furthest}
use Rattle.v0_parse.proofs.HeadLaws.{within_more, head_within}
use Rattle.v0_parse_window.specs.ByWindow.{Room, Ahead, HeadAt, last_start, short, Ends, residuals_of, block_ahead, residuals_ahead}
use Rattle.v0_parse_window.specs.Run.{run_length}
use Rattle.v0_parse_window.specs.declared.WindowHead.{WindowHead}
use Rattle.v0_parse_window.proofs.GroupLaws.{ahead_end, block_read, after_head}
use Rattle.v0_parse_window.proofs.RunLaws.{run_over, run_late, run_long, run_more}
use Rattle.v0_cells.specs.Inner.{inner_ops}
use Rattle.v0_cells.specs.Places.{InFrame, Inner}
use Rattle.v0_cells.proofs.InnerLaws.{inner_inside}
use Rattle.v0_lanes.specs.Blocks.{stored, listed, head_after, head_before, predict_lanes}
use Rattle.v0_lanes.specs.Lengths.{Packed, lengths_of, lengths_after, block_end}
use Rattle.v0_lanes.specs.declared.lengths.PackedHead.{PackedHead}
use Rattle.v0_lanes.proofs.HeadLaws.{head_packed, room_after}
use Rattle.v0_lanes.proofs.StoredLaws.{stored_length, predict_stored, predict_past}
use Rattle.v0_direct.specs.Block.{BlockRun, none, also, Ran}
use Rattle.v0_direct.specs.Run.{inner, run_begins, run_end, row_at, RanAt, finished, finished_marks}
use Rattle.v0_direct.specs.declared.run.Point.{Point}
use Rattle.v0_direct.proofs.InnerLaws.{inner_is, inner_decoded}

-- A later block of the run is an inner one, too.
pub inner_on : {z : Size} {row from col : ℕ} → Inner z row from → from ≤ col → col % 16 ≡ 0 → col + 16 ≤ z.width → Inner z row col
inner_on i l whole inside =
    let f = i.frame in
    record {
      frame = record { width = f.width; height = f.height; row_in = f.row_in; col_in = omega arith; block = whole };
      late = i.late;
      after = omega (arith, i.after);
      inside = inside;
    }

module _ (s : List ℕ) (base : ℕ) (z : Size) (row : ℕ) (p : Point) (out₀ map₀ : List ℕ) where
  pub run_begun : Inner z row p.col → Ahead s base p.q block_ahead → Within (15 + p.col / 16) p.lengths → RanAt s base z row p out₀ map₀ p out₀ map₀
  run_begun i x near =
      record {
        run = none;
        after = omega arith;
        below = omega (arith, i.inside);
        whole = i.frame.block;
        ahead = record { late = x.late; soon = omega (arith, x.soon); there = omega (arith, x.there); far = omega (arith, x.far) };
        near = near;
        same_samples = refl;
        same_map = refl;
      }

  module _ {p₁ : Point} {out map : List ℕ} (i : Inner z row p.col) (inside : p₁.col + 16 ≤ z.width) (r : RanAt s base z row p out₀ map₀ p₁ out map) where
    -- Its lengths are near enough to 0 for one more block.
    pub run_near : Within furthest p₁.lengths
    run_near = within_more (15 + p₁.col / 16) furthest p₁.lengths (omega (arith, i.frame.width)) r.near

    pub run_inner : Inner z row p₁.col
    run_inner = inner_on i r.after r.whole inside

    -- A block more.
    pub run_on : (h : WindowHead) (q' : ℕ) (out' map' : List ℕ) → Ahead s base h.q residuals_ahead → HeadAt s base p₁.q p₁.lengths h → Ends s base h q'
        → out' ≡ apply sample_kind (inner_ops z.width (row * z.width + p₁.col) h.up order (residuals_of s base h)) out
        → map' ≡ apply v0_marks (inner_ops z.width (row * z.width + p₁.col) h.up order (replicate 16 0)) map
        → length out' ≡ length out → length map' ≡ length map → RanAt s base z row p out₀ map₀ (record { col = p₁.col + 16; q = q'; lengths = h.lengths }) out' map'
    run_on h q' out' map' ahead at ends eo em so sm =
        record {
          run = also r.run (omega arith) (inner_decoded s (row_at s base p₁) run_inner _ (block_read {st = row_at s base p₁} refl at ends) out out' map map' eo em) refl;
          after = omega (arith, r.after);
          below = inside;
          whole = omega (arith, r.whole);
          ahead = ahead_end ahead ends;
          near = next;
          same_samples = so ∙ r.same_samples;
          same_map = sm ∙ r.same_map;
        }
      where
        next : Within (15 + (p₁.col + 16) / 16) h.lengths
        next =
            let e : 15 + (p₁.col + 16) / 16 ≡ suc (15 + p₁.col / 16) = omega arith in
            rw (e, ← ap (λ x. x.row.lengths) (at.reads 0)) (head_within s (row_at s base p₁) (15 + p₁.col / 16) (omega arith) r.near)

-- ── How far ──

-- Where the run from a point on ends, no block beginning after bit `last`.
abbrev pub ending : List ℕ → ℕ → Size → ℕ → Point → ℕ
ending s base z last p = p.col + 16 * run_length s (base * 8 + last) ((z.width - p.col) / 16) (row_at s base p)

module _ (s : List ℕ) (base : ℕ) (z : Size) (last : ℕ) (p : Point) where
  -- The block there reaches past the row's end, begins too late, or is long.
  pub ends_narrow : z.width < p.col + 16 → p.col ≡ ending s base z last p
  ends_narrow narrow =
      let n : (z.width - p.col) / 16 ≡ 0 = omega arith in
      rw (n, run_over s (base * 8 + last) (row_at s base p)) (omega arith)

  pub ends_late : last < p.q → p.col ≡ ending s base z last p
  ends_late late = rw (run_late s base 0 last p.q p.lengths ((z.width - p.col) / 16) late) (omega arith)

  module _ (h : WindowHead) (soon : p.q ≤ last) (at : HeadAt s base p.q p.lengths h) where
    pub ends_long : short h.lengths ≡ false → p.col ≡ ending s base z last p
    ends_long e = rw (run_long s base 0 last p.q p.lengths h at ((z.width - p.col) / 16) soon e) (omega arith)

    -- A short one is one of the run.
    pub ends_on : (q' : ℕ) → p.col + 16 ≤ z.width → short h.lengths ≡ true → Ends s base h q'
        → ending s base z last p ≡ ending s base z last (record { col = p.col + 16; q = q'; lengths = h.lengths })
    ends_on q' inside e ends =
        let n : (z.width - p.col) / 16 ≡ suc ((z.width - (p.col + 16)) / 16) = omega arith in
        rw (n, run_more s base 0 last p.q p.lengths h at ((z.width - (p.col + 16)) / 16) q' soon e ends) (omega arith)

-- ── A block that waits ──

module _ (z : Size) (row from col : ℕ) (up : Bool) where
  -- There is none, or there is one.
  pub none_waits : col ≤ from → (f m : List ℕ) → (f ≡ finished z row from col up f) × (m ≡ finished_marks z row from col up m)
  unfolding finished finished_marks
  none_waits l f m = let e = le-ltb from col l in (rw e, rw e)

  pub one_waits : from < col → (f m : List ℕ) → (predict_lanes z.width (row * z.width + (col - 16)) up f ≡ finished z row from col up f)
      × (apply v0_marks (inner_ops z.width (row * z.width + (col - 16)) up order (replicate 16 0)) m ≡ finished_marks z row from col up m)
  unfolding finished finished_marks
  one_waits l f m = let e = lt-ltb from col l in (rw e, rw e)

  pub finished_length : (f : List ℕ) → length (finished z row from col up f) ≡ length f
  unfolding finished
  finished_length f = by-test (ltb from col) (λ t. rw t (apply_length sample_kind _ f)) (λ t. rw t)

  pub marked_length : (m : List ℕ) → length (finished_marks z row from col up m) ≡ length m
  unfolding finished_marks
  marked_length m = by-test (ltb from col) (λ t. rw t (apply_length v0_marks _ m)) (λ t. rw t)

  -- It is finished alike before and after the next block's residuals are stored.
  pub finished_past : (from < col → Inner z row (col - 16)) → (f r : List ℕ) → length f ≡ cells z → row * z.width + col + 16 ≤ length f
      → finished z row from col up (stored f (row * z.width + col) r) ≡ stored (finished z row from col up f) (row * z.width + col) r
  unfolding finished
  finished_past i f r e room = by-test (ltb from col)
      (λ t. let x = i (ltb-true from col t) in
      rw t (predict_past z.width (row * z.width + (col - 16)) (row * z.width + col) up f r (omega (arith, x.after)) (inner_inside x f e) room))
      (λ t. rw t)

-- What a run's loop goes on with: the block before the column waits, and the head of the next one was read.
pub record Going (s : List ℕ) (base : ℕ) (z : Size) (row last : ℕ) (p : Point) (out₀ map₀ : List ℕ) (out map : List ℕ) (col q l : ℕ) (up : Bool) (h : PackedHead) : Type 0 where
  pub ran : RanAt s base z row p out₀ map₀ (record { col = col; q = q; lengths = lengths_of l }) (finished z row p.col col up out) (finished_marks z row p.col col up map)
  pub on : ending s base z last p ≡ ending s base z last (record { col = col; q = q; lengths = lengths_of l })
  pub packed : Packed l
  pub head : HeadAt s base q (lengths_of l) (head_after q h)
  pub same_samples : length out ≡ length out₀
  pub same_map : length map ≡ length map₀

module _ {s : List ℕ} {base : ℕ} {z : Size} {row last : ℕ} {p : Point} {out₀ map₀ : List ℕ} (i : Inner z row p.col) where
  pub going_begun : {l : ℕ} {h : PackedHead} → Ahead s base p.q block_ahead → Within (15 + p.col / 16) p.lengths → Packed l → lengths_of l ≡ p.lengths
      → HeadAt s base p.q (lengths_of l) (head_after p.q h) → Going s base z row last p out₀ map₀ out₀ map₀ p.col p.q l false h
  going_begun {l} ahead near packed e head =
      let n = none_waits z row p.col p.col false (omega arith) out₀ map₀ in
      record {
        ran = rw (e, ← n.0, ← n.1) (run_begun s base z row p out₀ map₀ i ahead near);
        on = rw e;
        packed = packed;
        head = head;
        same_samples = refl;
        same_map = refl;
      }

  module _ {out map : List ℕ} {col q l : ℕ} {up : Bool} {h : PackedHead} (g : Going s base z row last p out₀ map₀ out map col q l up h) where
    -- The block that waits is an inner one.
    pub waiting_inner : p.col < col → Inner z row (col - 16)
    waiting_inner l = inner_on i (omega (arith, i.frame.block, g.ran.whole)) (omega (arith, g.ran.whole)) (omega (arith, g.ran.below))

    pub going_done : {out' map' : List ℕ} {ls : List ℤ} → ls ≡ lengths_of l → out' ≡ finished z row p.col col up out → map' ≡ finished_marks z row p.col col up map
        → RanAt s base z row p out₀ map₀ (record { col = col; q = q; lengths = ls }) out' map'
    going_done el eo em = rw (el, eo, em) g.ran

    module _ (inside : col + 16 ≤ z.width) (ahead : Ahead s base q block_ahead) (soon : q ≤ last) (lent : length out₀ ≡ cells z)
        (fit : short (lengths_after h.sums) ≡ true) (l' : ℕ) (packed : Packed l') (el : lengths_of l' ≡ lengths_after h.sums) where
      abbrev next : WindowHead
      next = head_before h.up (q + h.size) l'

      next_head : HeadAt s base q (lengths_of l) next
      next_head = head_packed h l' el g.head

      pub going_ahead : Ahead s base (q + h.size) residuals_ahead
      going_ahead = after_head ahead next_head

      pub going_room : Room s base (block_end (q + h.size) l')
      going_room = room_after going_ahead packed

      pub going_on : (q' : ℕ) (h' : PackedHead) (out₁ out₂ map₂ : List ℕ) → q' ≡ block_end (q + h.size) l' → HeadAt s base q' (lengths_of l') (head_after q' h')
          → Ends s base next (block_end (q + h.size) l') → out₁ ≡ stored out (row * z.width + col) (residuals_of s base next)
          → listed (residuals_of s base next) ≡ residuals_of s base next
          → out₂ ≡ finished z row p.col col up out₁ → map₂ ≡ finished_marks z row p.col col up map
          → Going s base z row last p out₀ map₀ out₂ map₂ (col + 16) q' l' h.up h'
      going_on q' h' out₁ out₂ map₂ eq head' ends es ew eo em =
          record {
            ran = run_on s base z row p out₀ map₀ i inside g.ran next q' (finished z row p.col (col + 16) h.up out₂) (finished_marks z row p.col (col + 16) h.up map₂)
                going_ahead next_head end samples marks
                (finished_length z row p.col (col + 16) h.up out₂ ∙ ap length eo ∙ finished_length z row p.col col up out₁ ∙ len₁ ∙ sym (finished_length z row p.col col up out))
                (marked_length z row p.col (col + 16) h.up map₂ ∙ ap length em);
            on = g.on ∙ ends_on s base z last _ next soon next_head q' inside (rw el fit) end;
            packed = packed;
            head = head';
            same_samples = ap length eo ∙ finished_length z row p.col col up out₁ ∙ len₁ ∙ g.same_samples;
            same_map = ap length em ∙ marked_length z row p.col col up map ∙ g.same_map;
          }
        where
          end : Ends s base next q'
          end = subst (Ends s base next) (sym eq) ends

          at : ℕ
          at = row * z.width + col

          here : Inner z row col
          here = inner_on i g.ran.after g.ran.whole inside

          full : length out ≡ cells z
          full = g.same_samples ∙ lent

          room : at + 16 ≤ length out
          room = (inner_inside here out full).room

          len₁ : length out₁ ≡ length out
          len₁ = ap length es ∙ stored_length out at (residuals_of s base next) room

          later : p.col < col + 16
          later = omega (arith, g.ran.after)

          back : row * z.width + (col + 16 - 16) ≡ at
          back = omega arith

          f : List ℕ
          f = finished z row p.col col up out

          f_lent : length f ≡ cells z
          f_lent = finished_length z row p.col col up out ∙ full

          waited : out₂ ≡ stored f at (residuals_of s base next)
          waited = eo ∙ ap (finished z row p.col col up) es ∙ finished_past z row p.col col up waiting_inner out (residuals_of s base next) full room

          samples : finished z row p.col (col + 16) h.up out₂ ≡ apply sample_kind (inner_ops z.width at h.up order (residuals_of s base next)) f
          samples =
              sym (one_waits z row p.col (col + 16) h.up later out₂ map₂).0
              ∙ ap₂ (λ (b : ℕ) (x : List ℕ). predict_lanes z.width b h.up x) back waited
              ∙ predict_stored z.width at h.up f (residuals_of s base next) (inner_inside here f f_lent)
              ∙ ap (λ rs. apply sample_kind (inner_ops z.width at h.up order rs) f) ew

          marks : finished_marks z row p.col (col + 16) h.up map₂
              ≡ apply v0_marks (inner_ops z.width at h.up order (replicate 16 0)) (finished_marks z row p.col col up map)
          marks =
              sym (one_waits z row p.col (col + 16) h.up later out₂ map₂).1
              ∙ ap₂ (λ (b : ℕ) (x : List ℕ). apply v0_marks (inner_ops z.width b h.up order (replicate 16 0)) x) back em

-- ── From a row's state and back ──

-- The row's state where a run begins is the one by position.
pub begun : {s : List ℕ} {st : V0Row} (col : ℕ) → Standing s st.bits 80 → st.bits.filler ≡ 0
    → st ≡ row_at s (st.bits.pos - 12) (record { col = col; q = 96 - st.bits.count; lengths = st.lengths })
begun {s} {st} col x clear = ap (λ (b : Bits). record { lengths = st.lengths; bits = b }) (x.is ∙ ap (state_at s (st.bits.pos - 12) (96 - st.bits.count)) clear)

-- From the row's state at the start to the record at the end.
pub run_done : {s : List ℕ} {base : ℕ} {z : Size} {row : ℕ} {p p' : Point} {st : V0Row} {b : Bits} {out map out' map' : List ℕ} → st ≡ row_at s base p → b ≡ state_at s base p'.q 0
    → RanAt s base z row p out map p' out' map' → Ran s z row p.col st out map p'.col (record { lengths = p'.lengths; bits = b }) out' map'
run_done {s} {z = z} {row = row} {p = p} {p' = p'} {b = b} {out = out} {map = map} {out' = out'} {map' = map'} es eb r =
    record {
      blocks = subst (λ x. BlockRun s z row p.col x out map p'.col (record { lengths = p'.lengths; bits = b }) out' map') (sym es) (rw eb r.run);
      on = r.after;
      whole = r.whole;
      near = r.near;
    }

-- Where a run begins it ends there, and where none does at the block's own column.
module _ (s : List ℕ) (z : Size) (row col : ℕ) (st : V0Row) where
  pub run_ended : run_begins s z row col st ≡ true → (p : Point) → p.col ≡ col → st ≡ row_at s (st.bits.pos - 12) p
      → ending s (st.bits.pos - 12) z (last_start (length s - (st.bits.pos - 12))) p ≡ run_end s z row col st
  unfolding run_end
  run_ended e p ec es = rw (e, ← es, ec)

  pub run_none : run_begins s z row col st ≡ false → col ≡ run_end s z row col st
  unfolding run_end
  run_none e = rw e (omega arith)

  -- What follows if one begins.
  pub begins_is : InFrame z row col → run_begins s z row col st ≡ true → Inner z row col × (st.bits.filler ≡ 0)
  unfolding run_begins
  begins_is i e =
      let a = both (inner z row col) (eqb st.bits.filler 0 && (short st.lengths && standing_in s st.bits 80)) e in
      let b = both (eqb st.bits.filler 0) (short st.lengths && standing_in s st.bits 80) a.1 in
      (inner_is z row col i a.0, eqb-true st.bits.filler 0 b.0)

  pub begins_short : run_begins s z row col st ≡ true → short st.lengths ≡ true
  unfolding run_begins
  begins_short e =
      let a = both (inner z row col) (eqb st.bits.filler 0 && (short st.lengths && standing_in s st.bits 80)) e in
      let b = both (eqb st.bits.filler 0) (short st.lengths && standing_in s st.bits 80) a.1 in
      (both (short st.lengths) (standing_in s st.bits 80) b.1).0
