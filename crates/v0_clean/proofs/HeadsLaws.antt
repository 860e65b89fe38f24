-- Heads alone: a block of short lengths whose head was read by position has no fault from row 2 on, and the row goes on after it as if
-- its residuals had been read.
use mathlib.Core.Bool.{Bool, true, false, ◌&&◌}
use mathlib.Core.Path.{◌≡◌, refl, sym, ap, ap₂, subst, ◌∙◌}
use mathlib.Core.List.{List, [], ◌∷◌}
use Prim.Native.Nat.{ℕ, zero, suc, ◌+◌, ◌-◌, ◌*◌, ◌/◌, ◌%◌, ◌^◌, ◌≤◌, ◌<◌}
use native.Mathlib.Omega.{arith}
use lib.Dec.{leb, ltb}
use lib.IntN.{pos}
use lib.ListN.{length, get_or}
use lib.Signed.{mag}
use borrow.Author.Tests.{le-leb, le-ltb, leb-true, leb-false}
use Rattle.rules.specs.V0.{head, length_bits}
use Rattle.rules.specs.Limits.{most_side}
use Rattle.rules.specs.declared.answer.Size.{Size}
use Rattle.rules.specs.declared.reader.Bits.{Bits}
use Rattle.rules.specs.declared.v0.V0Head.{V0Head}
use Rattle.rules.specs.declared.v0.V0Row.{V0Row}
use Rattle.rules.proofs.Tests.{clash, both, by-test}
use Rattle.rules_clean.specs.Verdict.{fits, all_fit}
use Rattle.read_window.specs.Window.{state_at}
use Rattle.v0_parse.specs.Block.{whole_block}
use Rattle.v0_parse.specs.Lengths.{Within}
use Rattle.v0_parse.proofs.HeadLaws.{within_more}
use Rattle.v0_parse_window.specs.ByWindow.{Ahead, HeadAt, Plans, last_start, short, block_ahead, residuals_ahead}
use Rattle.v0_parse_window.specs.Run.{last_bit, goes_on, run_length}
use Rattle.v0_parse_window.specs.declared.WindowHead.{WindowHead}
use Rattle.v0_parse_window.specs.declared.Plan.{Plan}
use Rattle.v0_parse_window.proofs.GroupLaws.{standing_ahead, room_for, ahead_room, after_head}
use Rattle.v0_parse_window.proofs.RunLaws.{run_over, run_late, run_long}
use Rattle.v0_cells.specs.Places.{Inner}
use Rattle.v0_lanes.specs.Blocks.{head_after, head_before}
use Rattle.v0_lanes.specs.Lengths.{byte0, byte1, byte2, byte3, Packed, lengths_of, lengths_after}
use Rattle.v0_lanes.specs.declared.lengths.PackedHead.{PackedHead}
use Rattle.v0_lanes.specs.declared.lengths.ShortLengths.{ShortLengths}
use Rattle.v0_direct.specs.declared.run.Run.{Run}
use Rattle.v0_clean.specs.OffsetsLent.{InRow}
use Rattle.v0_clean.specs.Block.{seen}
use Rattle.v0_clean.specs.Row.{Placed, fault_from, Passed}
use Rattle.v0_clean.specs.Heads.{row_of, point, Tracked, NextHead, Moved, PassedAt, Ready, TrackOf, TracksOf, TracksAt, AllTracked, AllPassed, AllMoved, HeadsAt, HeadsNear, TracksRoom, RowsReady, RowsOf, all_four, roomy, all_short, blocks_on, least_on, all_ready, run_on, side_by_side, RowsReach}
use Rattle.v0_clean.specs.Rows.{Four, RowsPlaced, RowsPassed}
use Rattle.v0_clean.specs.declared.heads.OfFour.{OfFour}
use Rattle.v0_clean.specs.declared.heads.Track.{Track}
use Rattle.v0_clean.specs.declared.heads.Tracks.{Tracks}
use Rattle.v0_clean.proofs.PassLaws.{plan_ahead, passed}
use Rattle.v0_clean.proofs.BlockLaws.{fault_none, seen_whole}
use Rattle.v0_clean.proofs.RowLaws.{rest_here}

-- ── Four tests ──

-- No test that failed has held.
pub never : {A : Type 0} → false ≡ true → A
never e = absurd (clash e refl)

module _ (a b c d : Bool) where
  four_last : a ≡ true → b ≡ true → c ≡ true → d ≡ all_four a b c d
  unfolding all_four
  four_last e f g = rw (e, f, g)

  pub four_hold : all_four a b c d ≡ true → Four (a ≡ true) (b ≡ true) (c ≡ true) (d ≡ true)
  unfolding all_four
  four_hold e =
      let x = both a (b && (c && d)) e in let y = both b (c && d) x.1 in let z = both c d y.1 in
      record { first = x.0; second = y.0; third = z.0; fourth = z.1 }

  -- One of them failed.
  four_fails : {A : Type 0} → all_four a b c d ≡ false → (a ≡ false → A) → (b ≡ false → A) → (c ≡ false → A) → (d ≡ false → A) → A
  four_fails e f g h i = by-test a (λ x. by-test b (λ y. by-test c (λ z. i (four_last x y z ∙ e)) h) g) f

-- ── Lengths of 0 to 15 ──

packed_fit : (l : ℕ) → Packed l → all_fit (lengths_of l) ≡ true
unfolding all_fit fits lengths_of
packed_fit l p =
    rw (
      le-leb (byte0 l) 16 (omega (arith, p.first)),
      le-leb (byte1 l) 16 (omega (arith, p.second)),
      le-leb (byte2 l) 16 (omega (arith, p.third)),
      le-leb (byte3 l) 16 (omega (arith, p.fourth)),
    )

packed_near : (l : ℕ) → Packed l → Within 15 (lengths_of l)
unfolding lengths_of
packed_near l p = record { each = go }
  where
    go : (j : ℕ) → mag (get_or (pos (byte0 l) ∷ pos (byte1 l) ∷ pos (byte2 l) ∷ pos (byte3 l) ∷ []) j (pos 0)) ≤ 15
    go zero = omega (arith, p.first)
    go (suc zero) = omega (arith, p.second)
    go (suc (suc zero)) = omega (arith, p.third)
    go (suc (suc (suc zero))) = omega (arith, p.fourth)
    go (suc (suc (suc (suc j)))) = omega arith

-- ── A block ──

run_goes : (s : List ℕ) (last n : ℕ) (st st' : V0Row) → leb (st.bits.pos * 8 - st.bits.count) last ≡ true → short (head s st).row.lengths ≡ true → st' ≡ (whole_block s st).row
    → run_length s last (suc n) st ≡ suc (run_length s last n st')
unfolding run_length goes_on
run_goes s last n st st' a b e = rw (a, b, e)

module _ {s : List ℕ} {t t' : Track} {h : PackedHead} (x : Tracked s t) (m : Moved t h t') (room : Ahead s t.base t.q block_ahead)
    (at : NextHead s t h) (fit : short (lengths_after h.sums) ≡ true) where
  abbrev next : WindowHead
  next = head_before h.up (t.q + h.size) t'.lengths.bytes

  next_head : HeadAt s t.base t.q (lengths_of t.lengths.bytes) next
  next_head =
      subst (λ ls. HeadAt s t.base t.q (lengths_of t.lengths.bytes) (record { up = h.up; lengths = ls; q = t.q + h.size })) (sym (m.lengths_are fit)) at

  after : Ahead s t.base (t.q + h.size) residuals_ahead
  after = after_head room next_head

  abbrev plan : Plan
  plan =
      let q = t.q + h.size in let l = t'.lengths.bytes in
      record {
        n0 = byte0 l;
        n1 = byte1 l;
        n2 = byte2 l;
        n3 = byte3 l;
        q1 = q + 4 * byte0 l;
        q2 = q + 4 * byte0 l + 4 * byte1 l;
        q3 = q + 4 * byte0 l + 4 * byte1 l + 4 * byte2 l;
        end = t'.q;
      }

  plans : Plans next plan
  unfolding lengths_of length_bits
  plans =
      let p = t'.lengths.packed in
      record {
        is₀ = omega (arith, p.first);
        is₁ = omega (arith, p.second);
        is₂ = omega (arith, p.third);
        is₃ = omega (arith, p.fourth);
        second = refl;
        third = refl;
        fourth = refl;
        ends = m.ends;
      }

  -- The row can be followed after it.
  tracked_on : Tracked s t'
  tracked_on =
      record {
        ahead = subst (λ b. Ahead s b t'.q 31) (sym m.same_base) (plan_ahead after plans);
        there = omega (arith, x.there, m.same_base);
        last_is = rw (m.same_last, m.same_base) x.last_is;
      }

  -- One of those that it goes on for.
  one_more : (z : Size) (col : ℕ) → t.q ≤ t.last → col + 16 ≤ z.width → blocks_on s z col t ≡ suc (blocks_on s z (col + 16) t')
  one_more z col soon inside =
      let n : (z.width - col) / 16 ≡ suc ((z.width - (col + 16)) / 16) = omega arith in
      let bit : (row_of s t).bits.pos * 8 - (row_of s t).bits.count ≡ t.base * 8 + t.q = omega arith in
      ap (λ k. run_length s (t.base * 8 + t.last) k (row_of s t)) n
      ∙ run_goes s (t.base * 8 + t.last) ((z.width - (col + 16)) / 16) (row_of s t) (row_of s t')
      (rw bit (le-leb (t.base * 8 + t.q) (t.base * 8 + t.last) (omega arith)))
      (ap short (ap (λ x. x.row.lengths) (at.reads 0)) ∙ fit)
      (ap (λ x. x.row) (passed {st = row_of s t} {h = next} {p = plan} refl next_head after plans (ap (λ b. state_at s b t'.q 0) m.same_base)))
      ∙ ap₂ (λ b l. suc (run_length s (b * 8 + l) ((z.width - (col + 16)) / 16) (row_of s t'))) (sym m.same_base) (sym m.same_last)

  module _ {z : Size} {row col : ℕ} (i : Inner z row col) where
    abbrev read : V0Head
    read = record { up = h.up; row = row_of s t' }

    read_seen : read ≡ seen s z row col (row_of s t)
    read_seen =
        passed {st = row_of s t} {h = next} {p = plan} refl next_head after plans (ap (λ b. state_at s b t'.q 0) m.same_base)
        ∙ seen_whole s z row col (row_of s t) i _ refl

    one_passed : fault_from s z row (point s col t) ≡ fault_from s z row (point s (col + 16) t')
    one_passed =
        let inside = i.inside in
        let down : ltb row 2 && h.up ≡ false = rw (le-ltb row 2 i.late) in
        rest_here s z row 0 (row_of s t) col (omega arith) read 0 read_seen (fault_none row read read.row.bits down (packed_fit t'.lengths.bytes t'.lengths.packed) refl)

  -- One more of those passed over.
  pub passed_on : {z : Size} {col₀ col : ℕ} {t₀ : Track} → 0 < col₀ → col + 16 ≤ z.width → PassedAt s z col₀ t₀ col t → PassedAt s z col₀ t₀ (col + 16) t'
  passed_on {z} {col₀} {col} some inside p =
      record {
        tracked = tracked_on;
        after = omega (arith, p.after);
        below = omega arith;
        whole = omega (arith, p.whole);
        same = λ row late i. p.same row late i ∙ one_passed (inner row late i);
      }
    where
      inner : (row : ℕ) → 2 ≤ row → InRow z row → Inner z row col
      inner row late i =
          record {
            frame = record { width = i.width; height = i.height; row_in = i.row_in; col_in = omega arith; block = p.whole };
            late = late;
            after = omega (arith, p.after);
            inside = inside;
          }

-- ── From a point and back ──

pub none_passed : {s : List ℕ} {z : Size} {col : ℕ} {t : Track} → Tracked s t → col ≤ z.width + 15 → col % 16 ≡ 0 → PassedAt s z col t col t
none_passed x below whole = record { tracked = x; after = omega arith; below = below; whole = whole; same = λ row late i. refl }

pub stays : {s : List ℕ} {z : Size} {p : Run} → Placed z p → Passed s z p p
stays x = record { placed = x; same = λ row late i. refl }

pub goes : {s : List ℕ} {z : Size} {p p' : Run} {col : ℕ} {t t' : Track} → p.col ≡ 16 → p.state ≡ row_of s t → p' ≡ point s col t' → PassedAt s z 16 t col t' → Passed s z p p'
goes {s} {z} {p} {p'} {col} {t} {t'} ec es e' x =
    record {
      placed = rw e' (record { whole = x.whole; below = x.below; near = within_more 15 (15 + col / 16) (lengths_of t'.lengths.bytes) (omega arith) (packed_near t'.lengths.bytes t'.lengths.packed) });
      same = λ row late i. ap (fault_from s z row) here ∙ x.same row late i ∙ ap (fault_from s z row) (sym e');
    }
  where
    here : p ≡ point s 16 t
    here = ap₂ (λ c st. record { col = c; state = st }) ec es

-- ── A row by position ──

-- A row that is ready, by position.
pub track_made : {s : List ℕ} {p : Run} {l : ShortLengths} {last : ℕ} → Ready s p → lengths_of l.bytes ≡ p.state.lengths → last ≡ last_start (length s - (p.state.bits.pos - 12))
    → TrackOf s p (record { base = p.state.bits.pos - 12; q = 96 - p.state.bits.count; lengths = l; last = last })
track_made {s} {p} r el e =
    let x = r.standing in let a = standing_ahead x in
    record {
      base_is = refl;
      tracked = record { ahead = record { late = a.late; soon = omega (arith, a.soon); there = omega (arith, a.there); far = omega (arith, a.far) }; there = omega (arith, x.there); last_is = e };
      is = ap₂ (λ ls (b : Bits). record { lengths = ls; bits = b }) (sym el) (x.is ∙ ap (state_at s (p.state.bits.pos - 12) (96 - p.state.bits.count)) r.clear);
    }

-- ── Four rows ──

module _ {s : List ℕ} (t : Tracks) where
  -- Where all have room.
  module _ (fits : length s < 2 ^ 64) (x : AllTracked s t) (e : roomy t ≡ true) where
    room_of : {u : Track} → Tracked s u → leb u.q u.last ≡ true → Ahead s u.base u.q block_ahead
    room_of x l = room_for x.ahead.late x.there fits x.last_is (leb-true _ _ l)

    pub all_ahead : Four (Ahead s t.rows.a.base t.rows.a.q block_ahead) (Ahead s t.rows.b.base t.rows.b.q block_ahead) (Ahead s t.rows.c.base t.rows.c.q block_ahead) (Ahead s t.rows.d.base t.rows.d.q block_ahead)
    all_ahead =
        let l = four_hold _ _ _ _ e in
        record { first = room_of x.first l.first; second = room_of x.second l.second; third = room_of x.third l.third; fourth = room_of x.fourth l.fourth }

    pub all_room : TracksRoom s t
    all_room =
        let a = all_ahead in
        record {
          first = record { room = ahead_room a.first };
          second = record { room = ahead_room a.second };
          third = record { room = ahead_room a.third };
          fourth = record { room = ahead_room a.fourth };
        }

  pub all_near : (h : OfFour PackedHead) → AllTracked s t → HeadsAt s t h → HeadsNear t h
  all_near h x y =
      record {
        first = near t.rows.a h.a x.first y.first;
        second = near t.rows.b h.b x.second y.second;
        third = near t.rows.c h.c x.third y.third;
        fourth = near t.rows.d h.d x.fourth y.fourth;
      }
    where
      near : (u : Track) (k : PackedHead) → Tracked s u → NextHead s u k → (u.q < 2 ^ 31) × (k.size ≤ 25)
      near u k w n = (omega (arith, w.ahead.soon), omega (arith, n.soon))

module _ {s : List ℕ} {z : Size} {f : Tracks} (at : TracksAt s z f) where
  pub all_begun : AllPassed s z f f
  all_begun =
      let x = at.each in
      record {
        first = none_passed x.first at.below at.whole;
        second = none_passed x.second at.below at.whole;
        third = none_passed x.third at.below at.whole;
        fourth = none_passed x.fourth at.below at.whole;
      }

  module _ {t : Tracks} (p : AllPassed s z f t) where
    pub all_tracked : AllTracked s t
    all_tracked = record { first = p.first.tracked; second = p.second.tracked; third = p.third.tracked; fourth = p.fourth.tracked }

    -- A block more of each.
    pub all_on : (t' : Tracks) (h : OfFour PackedHead) → length s < 2 ^ 64 → t.col + 16 ≤ z.width → roomy t ≡ true → HeadsAt s t h → all_short h ≡ true → AllMoved t h t' → AllPassed s z f t'
    all_on t' h fits inside e hs short m =
        let a = all_ahead t fits all_tracked e in let l = four_hold _ _ _ _ short in let y = m.each in
        rw m.col
        (record {
          first = passed_on p.first.tracked y.first a.first hs.first l.first at.after inside p.first;
          second = passed_on p.second.tracked y.second a.second hs.second l.second at.after inside p.second;
          third = passed_on p.third.tracked y.third a.third hs.third l.third at.after inside p.third;
          fourth = passed_on p.fourth.tracked y.fourth a.fourth hs.fourth l.fourth at.after inside p.fourth;
        })

-- ── How far ──

module _ (s : List ℕ) (z : Size) (t : Tracks) where
  module _ (u : Track) where
    none_narrow : z.width < t.col + 16 → blocks_on s z t.col u ≡ 0
    none_narrow l =
        let n : (z.width - t.col) / 16 ≡ 0 = omega arith in
        ap (λ k. run_length s (u.base * 8 + u.last) k (row_of s u)) n ∙ run_over s (u.base * 8 + u.last) (row_of s u)

    none_late : leb u.q u.last ≡ false → blocks_on s z t.col u ≡ 0
    none_late e = run_late s u.base 0 u.last u.q (lengths_of u.lengths.bytes) ((z.width - t.col) / 16) (leb-false u.q u.last e)

    none_long : (h : PackedHead) → NextHead s u h → leb u.q u.last ≡ true → short (lengths_after h.sums) ≡ false → blocks_on s z t.col u ≡ 0
    none_long h at l e = run_long s u.base 0 u.last u.q (lengths_of u.lengths.bytes) (head_after u.q h) at ((z.width - t.col) / 16) (leb-true u.q u.last l) e

  -- What each way out decides.
  pub ends_narrow : z.width < t.col + 16 → least_on s z t ≡ 0
  unfolding least_on
  ends_narrow l = let e = none_narrow t.rows.a l in omega arith

  pub ends_late : roomy t ≡ false → least_on s z t ≡ 0
  unfolding least_on
  ends_late e =
      four_fails _ _ _ _ e (λ x. omega (arith, none_late t.rows.a x)) (λ x. omega (arith, none_late t.rows.b x)) (λ x. omega (arith, none_late t.rows.c x)) (λ x. omega (arith, none_late t.rows.d x))

  pub ends_long : (h : OfFour PackedHead) → HeadsAt s t h → roomy t ≡ true → all_short h ≡ false → least_on s z t ≡ 0
  unfolding least_on
  ends_long h at l e =
      let r = four_hold _ _ _ _ l in
      four_fails _ _ _ _ e (λ x. omega (arith, none_long t.rows.a h.a at.first r.first x)) (λ x. omega (arith, none_long t.rows.b h.b at.second r.second x))
      (λ x. omega (arith, none_long t.rows.c h.c at.third r.third x)) (λ x. omega (arith, none_long t.rows.d h.d at.fourth r.fourth x))

  -- A block more of each is one less that they go on for.
  pub least_more : (t' : Tracks) (h : OfFour PackedHead) → length s < 2 ^ 64 → AllTracked s t → t.col + 16 ≤ z.width → roomy t ≡ true → HeadsAt s t h → all_short h ≡ true → AllMoved t h t'
      → t.col + 16 * least_on s z t ≡ t'.col + 16 * least_on s z t'
  unfolding least_on
  least_more t' h fits x inside e hs short m =
      let a = all_ahead t fits x e in let r = four_hold _ _ _ _ e in let l = four_hold _ _ _ _ short in let y = m.each in
      let e₀ = one_more x.first y.first a.first hs.first l.first z t.col (leb-true _ _ r.first) inside in
      let e₁ = one_more x.second y.second a.second hs.second l.second z t.col (leb-true _ _ r.second) inside in
      let e₂ = one_more x.third y.third a.third hs.third l.third z t.col (leb-true _ _ r.third) inside in
      let e₃ = one_more x.fourth y.fourth a.fourth hs.fourth l.fourth z t.col (leb-true _ _ r.fourth) inside in
      rw m.col (omega (arith, e₀, e₁, e₂, e₃))

-- From points and back.
pub rows_stay : {s : List ℕ} {z : Size} {r : OfFour Run} → RowsPlaced z r → RowsPassed s z r r
rows_stay x = record { first = stays x.first; second = stays x.second; third = stays x.third; fourth = stays x.fourth }

pub tracks_at : {s : List ℕ} {z : Size} {r : OfFour Run} {t : Tracks} → z.width ≤ most_side → RowsPlaced z r → RowsReady s r → TracksOf s r t → TracksAt s z t
tracks_at wide x y o =
    let e = o.each in
    record {
      width = wide;
      after = omega (arith, o.col);
      below = omega (arith, o.col, y.first.first, x.first.below);
      whole = rw o.col refl;
      each = record { first = e.first.tracked; second = e.second.tracked; third = e.third.tracked; fourth = e.fourth.tracked };
    }

pub rows_go : {s : List ℕ} {z : Size} {r r' : OfFour Run} {t t' : Tracks} → RowsReady s r → TracksOf s r t → AllPassed s z t t' → RowsOf s t' r' → RowsPassed s z r r'
rows_go y o p e =
    let x = o.each in let q = rw o.col at p in
    record {
      first = goes y.first.first x.first.is e.first q.first;
      second = goes y.second.first x.second.is e.second q.second;
      third = goes y.third.first x.third.is e.third q.third;
      fourth = goes y.fourth.first x.fourth.is e.fourth q.fourth;
    }

-- How far the rows go, from points on.
module _ (s : List ℕ) (z : Size) (r : OfFour Run) where
  pub reach_none : all_ready s r ≡ false → RowsReach s z r r
  unfolding side_by_side
  reach_none e = rw e (record { first = omega arith; second = omega arith; third = omega arith; fourth = omega arith })

  run_same : (p : Run) (t : Track) → p.col ≡ 16 → TrackOf s p t → blocks_on s z 16 t ≡ run_on s z p
  run_same p t e x =
      ap₂ (λ b l. run_length s (b * 8 + l) ((z.width - 16) / 16) (row_of s t)) x.base_is (x.tracked.last_is ∙ ap (λ b. last_start (length s - b)) x.base_is)
      ∙ ap₂ (λ (c : ℕ) st. run_length s (last_bit s p.state.bits) ((z.width - c) / 16) st) (sym e) (sym x.is)

  pub reach_some : (r' : OfFour Run) (t t' : Tracks) → all_ready s r ≡ true → RowsReady s r → TracksOf s r t → t'.col ≡ t.col + 16 * least_on s z t → RowsOf s t' r' → RowsReach s z r r'
  unfolding side_by_side least_on
  reach_some r' t t' e y o far x =
      let c = o.col in let k = o.each in
      let a₀ = run_same r.a t.rows.a y.first.first k.first in let a₁ = run_same r.b t.rows.b y.second.first k.second in
      let a₂ = run_same r.c t.rows.c y.third.first k.third in let a₃ = run_same r.d t.rows.d y.fourth.first k.fourth in
      let n = rw (c, a₀, a₁, a₂, a₃) at far in
      rw e
      (record {
        first = ap (λ p. p.col) x.first ∙ n ∙ rw y.first.first;
        second = ap (λ p. p.col) x.second ∙ n ∙ rw y.second.first;
        third = ap (λ p. p.col) x.third ∙ n ∙ rw y.third.first;
        fourth = ap (λ p. p.col) x.fourth ∙ n ∙ rw y.fourth.first;
      })
