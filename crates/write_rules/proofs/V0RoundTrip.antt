-- What the V0 writer writes, decoded into any buffer by either decoder, is the frame, with no map byte 1 and no filler
-- word fetched; and every offset fits 32 bits.
use Prim.Native.Nat.{ℕ, zero, suc, ◌+◌, ◌*◌, ◌%◌, ◌^◌, ◌<◌, ◌≤◌}
use mathlib.Core.Bool.{Bool, false}
use mathlib.Core.Path.{◌≡◌, refl, sym, ap, ◌∙◌, subst₂}
use mathlib.Core.List.{List, [], ◌++◌, append_assoc, append-nil}
use native.Mathlib.Omega.{arith}
use native.Mathlib.Nat.{zero-add}
use lib.ListN.{length, get_or, length-append, get_or-append}
use lib.Dec.{lit<}
use Rattle.rules.specs.Limits.{most_side, sample_bound}
use Rattle.rules.specs.declared.answer.Size.{Size}
use Rattle.rules.specs.Reader.{fresh}
use Rattle.rules.specs.Frame.{cells}
use Rattle.rules.specs.V0.{fresh_row, blocks_in, row_blocks, rows, predictor, sample_kind, apply, write_all, exchange, frame, decoded}
use Rattle.rules.specs.Phases.{two_phase}
use Rattle.rules.specs.Map.{v0_map}
use Rattle.rules.proofs.Cells.{All, all_get, all_map}
use Rattle.rules.proofs.Predictors.{HasRowsUp}
use Rattle.rules.proofs.Spill.{RowHasRowsUp, inner_row, inner_rows, rows_inner}
use Rattle.rules.proofs.Tests.{clash}
use Rattle.rules.proofs.TwoPhase.{two_phase_direct}
use Rattle.rules.proofs.V0Blocks.{EachInRow, each_block_map}
use Rattle.rules.proofs.V0Cells.{apply_append, exchange_length, write_all_plain}
use Rattle.rules.proofs.V0NoMarks.{NoUpward}
use Rattle.rules.proofs.Missing.{frame_none}
use Rattle.rules.proofs.NoFiller.{v0_all_0}
use Rattle.write_rules.specs.Writer.{padding, padded, bytes, Coding, Unit, word, blocks_bits, row_bytes, rows_bytes, offsets_from, residuals, stream_for, offsets_for}
use Rattle.write_rules.proofs.Ahead.{Stream}
use Rattle.write_rules.proofs.Exchange.{exchange_twice, exchange_all}
use Rattle.write_rules.proofs.WrittenBytes.{Found, bytes_found, padded_length}
use Rattle.write_rules.proofs.Rows.{rows_below, offsets_length, row_fourth, rows_most, offsets_most}
use Rattle.write_rules.proofs.V0Written.{WrittenBlock, SeesBlocks, sees_blocks}

-- ── How long a stream gets ──

-- A stream is bytes.
pub stream_below : (z : Size) (f : List ℕ) → All (λ b. b < 256) (stream_for z f)
unfolding stream_for
stream_below z f = rows_below (residuals z.width (exchange sample_kind z f)) z.height 0

module _ (z : Size) (f : List ℕ) (wide : z.width ≤ most_side) (high : z.height ≤ most_side) where
  pub stream_most : length (stream_for z f) ≤ 555_745_280
  unfolding stream_for
  stream_most = omega (arith, rows_most (residuals z.width (exchange sample_kind z f)) word wide z.height 0)

  -- Every offset fits 32 bits.
  pub offsets_below : All (λ o. o < 2 ^ 32) (offsets_for z f)
  unfolding offsets_for
  offsets_below =
      all_map (λ o. o ≤ 555_745_280) (λ o. o < 2 ^ 32) (λ o l. omega arith)
      (offsets_most (residuals z.width (exchange sample_kind z f)) word wide z.height 0 0 555_745_280 (omega arith))

  pub stream_bytes : Stream (stream_for z f)
  stream_bytes = record { bytes = λ i. all_get (λ b. b < 256) (stream_below z f) i 0 (lit< tt); fewer = omega (arith, stream_most) }

-- ── Where each row stands ──

-- Row k of n from a row on: what stands before it and after it, and its offset.
record Placed (x : Coding) (n row at k : ℕ) : Type 0 where
  before : List ℕ
  after : List ℕ
  stream_is : rows_bytes x n row ≡ before ++ (row_bytes x (row + k) ++ after)
  offset_is : get_or (offsets_from x n row at) k 0 ≡ at + length before
  whole : length before % 4 ≡ 0

placed : (x : Coding) → Unit x.unit → (n row at k : ℕ) → k < n → Placed x n row at k
unfolding rows_bytes offsets_from
placed x u zero row at k l = absurd (omega arith)
placed x u (suc n) row at zero l =
    let e : row + 0 ≡ row = omega arith in
    record { before = []; after = rows_bytes x n (suc row); stream_is = rw e; offset_is = omega arith; whole = refl }
placed x u (suc n) row at (suc k) l =
    let p = placed x u n (suc row) (at + length (row_bytes x row)) k (omega arith) in
    let e : row + suc k ≡ suc row + k = omega arith in
    let e' = length-append (row_bytes x row) p.before in
    record {
      before = row_bytes x row ++ p.before;
      after = p.after;
      stream_is = rw e (ap (λ l. row_bytes x row ++ l) p.stream_is ∙ sym (append_assoc (row_bytes x row) p.before (row_bytes x (suc row + k) ++ p.after)));
      offset_is = p.offset_is ∙ omega arith;
      whole = omega (arith, e', row_fourth x u row, p.whole);
    }

-- ── Rows ──

fresh_four : (row offset : ℕ) → length (fresh_row row offset).lengths ≡ 4
unfolding fresh_row
fresh_four row offset = refl

fresh_bits : (row offset : ℕ) → (fresh_row row offset).bits ≡ fresh offset
unfolding fresh_row
fresh_bits row offset = refl

module _ (s offsets : List ℕ) (st : Stream s) (w h : ℕ) (g : List ℕ) (small : All (λ a. a < sample_bound) g) (long : length g ≡ w * h)
    (found : (row : ℕ) → row < h → Found s (get_or offsets row 0) (blocks_bits (residuals w g) row (blocks_in w) 0)) where
  abbrev size : Size
  size = record { width = w; height = h }

  row_seen : (row : ℕ) (l : row < h) → SeesBlocks s st w h g small row l (blocks_in w) 0 (fresh_row row (get_or offsets row 0)) (found row l).rest
  row_seen row l =
      sees_blocks s st w h g small row l (blocks_in w) 0 (fresh_row row (get_or offsets row 0)) (found row l).rest (fresh_four row (get_or offsets row 0)) refl
      (omega arith) (rw (fresh_bits row (get_or offsets row 0)) (found row l).sees)

  row_clean : (row : ℕ) → row < h → (row_blocks s size row (get_or offsets row 0)).bits.filler ≡ 0
  unfolding row_blocks
  row_clean row l = (row_seen row l).next_sees.no_filler

  row_level : (row : ℕ) → row < h → NoUpward s offsets size row
  row_level row l =
      each_block_map s (row * w) (predictor size row) WrittenBlock (λ h b. h.up ≡ false) (λ h b q. q.level) (blocks_in w) 0 _ (row_seen row l).written

  row_has : (row : ℕ) → row < h → RowHasRowsUp s offsets size row
  row_has row l =
      each_block_map s (row * w) (predictor size row) WrittenBlock (λ h b. HasRowsUp row h.up) (λ h b q up. absurd (clash up q.level))
      (blocks_in w) 0 _ (row_seen row l).written

  inner_idle : (n row : ℕ) → row + n ≤ h → apply sample_kind (inner_rows s offsets w (predictor size) n row) g ≡ g
  unfolding inner_rows inner_row apply
  inner_idle zero row l = refl
  inner_idle (suc n) row l =
      let r : row < h = omega arith in
      rw (apply_append sample_kind (inner_row s w (predictor size row) row (get_or offsets row 0)), (row_seen row r).idle) (inner_idle n (suc row) (omega arith))

  -- Into any buffer.
  all_back : (f : List ℕ) → length f ≡ w * h → write_all sample_kind (rows s offsets size h 0) f ≡ g
  all_back f e =
      write_all_plain sample_kind (λ a. refl) (rows s offsets size h 0) f
      ∙ rows_inner sample_kind s offsets size h 0 (omega arith) (λ r q l. row_has r l) f g (λ i l. absurd (omega arith)) e long
      ∙ inner_idle h 0 (omega arith)

-- ── The round trip ──

-- A stream and offsets that hold a frame: both decoders give it back, whatever the buffer held, and every map byte is 0. Every block has
-- direction 0 and lengths of 0 to 16, and no row's reader fetches a filler word.
pub record Holds (s offsets : List ℕ) (z : Size) (f : List ℕ) : Type 0 where
  pub direct_back : (old : List ℕ) → length old ≡ cells z → decoded s offsets z old ≡ f
  pub two_phase_back : (old : List ℕ) → length old ≡ cells z → two_phase s offsets z old ≡ f
  pub no_marks : All (λ x. x ≡ 0) (v0_map s offsets z)
  pub blocks : (row : ℕ) → row < z.height → EachInRow WrittenBlock s offsets z row
  pub no_filler : (row : ℕ) → row < z.height → (row_blocks s z row (get_or offsets row 0)).bits.filler ≡ 0

-- Whatever follows the stream and the offsets.
module _ (z : Size) (f : List ℕ) (e : length f ≡ cells z) (small : All (λ a. a < sample_bound) f) where
  abbrev g : List ℕ
  g = exchange sample_kind z f

  module _ (post others : List ℕ) (st : Stream (stream_for z f ++ post)) where
    abbrev s : List ℕ
    s = stream_for z f ++ post

    abbrev o : List ℕ
    o = offsets_for z f ++ others

    g_small : All (λ a. a < sample_bound) g
    g_small = exchange_all sample_kind (λ a. a < sample_bound) (lit< tt) z small

    g_length : length g ≡ cells z
    g_length = exchange_length sample_kind z f ∙ e

    regroup : (a b c d : List ℕ) → a ++ (b ++ c) ++ d ≡ a ++ (b ++ (c ++ d))
    regroup a b c d = simp append_assoc

    cut : (bs : List Bool) (t : List ℕ) (i : ℕ) → Found t i (padded 32 bs) → Found t i bs
    unfolding padded
    cut bs t i F = record { rest = padding 32 bs ++ F.rest; sees = rw (← append_assoc bs (padding 32 bs) F.rest) F.sees }

    found : (row : ℕ) → row < z.height → Found s (get_or o row 0) (blocks_bits (residuals z.width g) row (blocks_in z.width) 0)
    unfolding stream_for offsets_for row_bytes
    found row l =
        let w = z.width in
        let bs = blocks_bits (residuals w g) row (blocks_in w) 0 in
        let p = placed (residuals w g) word z.height 0 0 row l in
        let at : get_or o row 0 ≡ length p.before
        = get_or-append (offsets_from (residuals w g) z.height 0 0) others 0 row (rw (offsets_length (residuals w g) z.height 0 0) l) ∙ p.offset_is ∙ zero-add (length p.before) in
        let is : s ≡ p.before ++ (bytes (padded 32 bs) ++ (p.after ++ post))
        = ap (λ l. l ++ post) (rw (zero-add row) at p.stream_is) ∙ regroup p.before (row_bytes (residuals w g) row) p.after post in
        let words : length (padded 32 bs) % 32 ≡ 0 = let q = padded_length 32 bs in omega arith in
        subst₂ (λ t i. Found t i bs) (sym is) (sym at)
        (cut bs _ _ (bytes_found (padded 32 bs) p.before (p.after ++ post) words p.whole))

    direct : (old : List ℕ) → length old ≡ cells z → decoded s o z old ≡ f
    unfolding decoded frame
    direct old l = ap (exchange sample_kind z) (all_back s o st z.width z.height g g_small g_length found old l) ∙ exchange_twice sample_kind z f e

    marks : All (λ x. x ≡ 0) (v0_map s o z)
    marks =
        v0_all_0 s o z (frame_none s o z (row_clean s o st z.width z.height g g_small g_length found))
        (λ row q l. row_level s o st z.width z.height g g_small g_length found row l)

    pub written_holds : Holds s o z f
    written_holds =
        record {
          direct_back = direct;
          two_phase_back = λ old l. two_phase_direct s o z old l ∙ direct old l;
          no_marks = marks;
          blocks = λ row l. (row_seen s o st z.width z.height g g_small g_length found row l).written;
          no_filler = row_clean s o st z.width z.height g g_small g_length found;
        }

-- The stream and the offsets as they are written.
pub round_trip : (z : Size) (f : List ℕ) → z.width ≤ most_side → z.height ≤ most_side → length f ≡ cells z → All (λ a. a < sample_bound) f
    → Holds (stream_for z f) (offsets_for z f) z f
round_trip z f wide high e small = rw (append-nil (stream_for z f), append-nil (offsets_for z f)) at
    (written_holds z f e small [] [] (rw (append-nil (stream_for z f)) (stream_bytes z f wide high)))
