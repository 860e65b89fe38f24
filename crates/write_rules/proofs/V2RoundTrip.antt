-- What the V2 writer writes is accepted, and decoded into any buffer it is the frame. The sizes may be any within the
-- limits, of a width divisible by 16.
use Prim.Native.Nat.{ℕ, zero, suc, ◌+◌, ◌-◌, ◌*◌, ◌/◌, ◌%◌, ◌^◌, ◌<◌, ◌≤◌}
use mathlib.Core.Bool.{Bool, false}
use mathlib.Core.Path.{◌≡◌, refl, sym, ap, ap₂, ◌∙◌, subst, subst₂}
use mathlib.Core.List.{List, [], ◌∷◌, ◌++◌, append_assoc, append-nil}
use native.Mathlib.Omega.{arith}
use native.Mathlib.Nat.{mod-eq_of_lt, mul_comm, add-zero}
use lib.ListN.{length, get_or, length-append, length-replicate}
use lib.Seq.{ext_get_or}
use lib.Dec.{lit<}
use Rattle.rules.specs.Limits.{most_side, sample_bound}
use Rattle.rules.specs.declared.answer.Size.{Size}
use Rattle.rules.specs.declared.reader.Bits.{Bits}
use Rattle.rules.specs.Reader.{fresh}
use Rattle.rules.specs.Frame.{cells}
use Rattle.rules.specs.V0.{blocks_in}
use Rattle.rules.specs.V2.{header, top, aligned, fresh_mode, Block, Row, Frame, then_rows, read_row, rows, read_frame, sample_kind, apply, frame, decoded}
use Rattle.rules.specs.Answer.{done_with, done}
use Rattle.rules.specs.Map.{v2_map}
use Rattle.rules.proofs.Cells.{All, all_get, all_append}
use Rattle.rules.proofs.ReaderLaws.{held_is}
use Rattle.rules.proofs.V2Cells.{apply_length}
use Rattle.rules.proofs.NoFiller.{v2_all_0}
use Rattle.write_rules.specs.Writer.{bits_of, fields_bits, gap, padding, padded, bytes, line, blocks_bits, row_bytes, rows_bytes}
use Rattle.write_rules.specs.V2Writer.{header_bits, differences, stream_for}
use Rattle.write_rules.proofs.Ahead.{Stream, ahead, ahead_length, pos_by_ahead, Sees}
use Rattle.write_rules.proofs.WrittenBytes.{Found, bytes_found, bytes_length, bytes_below, padded_length}
use Rattle.write_rules.proofs.Rows.{row_bits, rows_below, row_is, row_whole, rows_most}
use Rattle.write_rules.proofs.V2Seen.{written_hdr, SeesHeader, sees_header}
use Rattle.write_rules.proofs.V2Written.{Same, SeesBlocks, sees_blocks}

-- ── How long a stream gets ──

header_length : length header_bits ≡ 128
unfolding header_bits fields_bits bits_of
header_length = refl

pub header_bytes : length (bytes header_bits) ≡ 16
header_bytes = bytes_length header_bits ∙ ap (λ n. 4 * (n / 32)) header_length

-- A stream is bytes.
pub stream_below : (z : Size) (f : List ℕ) → All (λ b. b < 256) (stream_for z f)
unfolding stream_for
stream_below z f = all_append (λ b. b < 256) (bytes_below header_bits) (rows_below (differences z.width f) z.height 0)

module _ (z : Size) (f : List ℕ) (wide : z.width ≤ most_side) (high : z.height ≤ most_side) where
  pub stream_most : length (stream_for z f) ≤ 555_745_296
  unfolding stream_for
  stream_most = omega (arith, length-append (bytes header_bits) (rows_bytes (differences z.width f) z.height 0), header_bytes, rows_most (differences z.width f) line wide z.height 0)

  pub stream_bytes : Stream (stream_for z f)
  stream_bytes = record { bytes = λ i. all_get (λ b. b < 256) (stream_below z f) i 0 (lit< tt); fewer = omega (arith, stream_most) }

-- ── Where the next row starts ──

whole_words : (L p : ℕ) → p % 16 ≡ 0 → p ≤ L → L - L % 4 ≡ p + 4 * ((L - p) / 4)
whole_words L p a b = omega arith

words_left : (X Y q : ℕ) → X + Y ≡ 32 * q → Y / 32 ≡ q - (X + 31) / 32
words_left X Y q e = omega arith

words_most : (X Y q : ℕ) → X + Y ≡ 32 * q → (X + 31) / 32 ≤ q
words_most X Y q e = omega arith

next_sixteen : (p m : ℕ) → p % 16 ≡ 0 → p + 4 * m + (16 - (p + 4 * m) % 16) % 16 ≡ p + 16 * ((m + 3) / 4)
next_sixteen p m a = omega arith

padded_words : (X P : ℕ) → P ≡ (128 - X % 128) % 128 → 16 * (((X + 31) / 32 + 3) / 4) ≡ (X + P) / 8
padded_words X P e = omega arith

-- X bits of a row and P of padding, then R more.
align : (L p X P R at : ℕ) → p % 16 ≡ 0 → p ≤ L → X + P + R ≡ 32 * ((L - p) / 4) → P ≡ (128 - X % 128) % 128 → at ≡ L - L % 4 - 4 * ((P + R) / 32)
    → at + (16 - at % 16) % 16 ≡ p + (X + P) / 8
align L p X P R at a b c d e = rw here (next_sixteen p ((X + 31) / 32) a ∙ ap (λ y. p + y) (padded_words X P d))
  where
    c' : X + (P + R) ≡ 32 * ((L - p) / 4)
    c' = omega (c, arith)

    last : (q m : ℕ) → m ≤ q → p + 4 * q - 4 * (q - m) ≡ p + 4 * m
    last q m l = omega arith

    here : at ≡ p + 4 * ((X + 31) / 32)
    here =
        e ∙ ap₂ (λ x y. x - 4 * y) (whole_words L p a b) (words_left X (P + R) ((L - p) / 4) c')
        ∙ last ((L - p) / 4) ((X + 31) / 32) (words_most X (P + R) ((L - p) / 4) c')

-- A reader that has read the row written at p stands, aligned, where the next row starts.
next_start : (s : List ℕ) → Stream s → (p : ℕ) (bs pad rest : List Bool) (b : Bits) → p % 16 ≡ 0 → length pad ≡ (128 - length bs % 128) % 128
    → Sees s (fresh p) (bs ++ (pad ++ rest)) → Sees s b (pad ++ rest) → aligned b ≡ fresh (p + (length bs + length pad) / 8)
unfolding aligned
next_start s st p bs pad rest b sixteen padding before after = rw (after.no_filler, there) (ap at (mod-eq_of_lt small))
  where
    at : ℕ → Bits
    at q = record { pos = q; word = 0; count = 0; filler = 0 }

    whole_length : length bs + length pad + length rest ≡ 32 * ((length s - p) / 4)
    whole_length =
        omega (arith, ahead_length s (fresh p), held_is (fresh p) (lit< tt), ap length before.ahead_is, length-append bs (pad ++ rest), length-append pad rest)

    left : length (ahead s b) ≡ length pad + length rest
    left = ap length after.ahead_is ∙ length-append pad rest

    there : b.pos + (16 - b.pos % 16) % 16 ≡ p + (length bs + length pad) / 8
    there =
        align (length s) p (length bs) (length pad) (length rest) b.pos sixteen before.within whole_length padding
        (rw left at (pos_by_ahead s b after.whole after.within))

    small : p + (length bs + length pad) / 8 < 2 ^ 64
    small = omega (arith, whole_length, before.within, st.fewer)

-- ── Rows ──

apply_append : (t : ℕ) (xs ys : List Block) (f : List ℕ) → apply (sample_kind t) (xs ++ ys) f ≡ apply (sample_kind t) ys (apply (sample_kind t) xs f)
unfolding apply
apply_append t [] ys f = refl
apply_append t (b ∷ xs) ys f = apply_append t xs ys _

-- A row that met nothing, and the rest of the frame.
rows_on : (row : ℕ) (q : Row) (rest : Frame) → q.number ≡ 0 → q.bits.filler ≡ 0
    → then_rows row q rest ≡ record { blocks = q.blocks ++ rest.blocks; answer = rest.answer }
unfolding then_rows
rows_on row q rest e f = rw (e, f)

module _ (s : List ℕ) (st : Stream s) (w h : ℕ) (whole : w % 16 ≡ 0) (g : List ℕ) (small : All (λ a. a < sample_bound) g) where
  -- One row, after which the next starts at `after`.
  record SeesRow (row : ℕ) (b : Bits) (after : ℕ) : Type 0 where
    accepted : (read_row s written_hdr w row b).number ≡ 0
    no_filler : (read_row s written_hdr w row b).bits.filler ≡ 0
    back : (f : List ℕ) → length f ≡ w * h → Same (row * w) f g → Same (suc row * w) (apply (sample_kind 16_383) (read_row s written_hdr w row b).blocks f) g
    next_at : aligned (read_row s written_hdr w row b).bits ≡ fresh after

  row_found : (row : ℕ) (pre post : List ℕ) → length pre % 16 ≡ 0 → s ≡ pre ++ (row_bytes (differences w g) row ++ post) → Found s (length pre) (padded 128 (row_bits (differences w g) row))
  unfolding row_bytes
  row_found row pre post a e =
      let words : length (padded 128 (row_bits (differences w g) row)) % 32 ≡ 0 = let p = padded_length 128 (row_bits (differences w g) row) in omega arith in
      subst (λ t. Found t (length pre) (padded 128 (row_bits (differences w g) row))) (sym e) (bytes_found (padded 128 (row_bits (differences w g) row)) pre post words (omega arith))

  sees_row : (row : ℕ) (b : Bits) (pre post : List ℕ) → row < h → length pre % 16 ≡ 0 → s ≡ pre ++ (row_bytes (differences w g) row ++ post) → aligned b ≡ fresh (length pre)
      → SeesRow row b (length (pre ++ row_bytes (differences w g) row))
  unfolding read_row padded
  sees_row row b pre post l a e at =
      record {
        accepted = B.accepted;
        no_filler = B.next_sees.no_filler;
        back = λ f q same. subst (λ m. Same m (apply (sample_kind 16_383) (read_row s written_hdr w row b).blocks f) g) end_is (B.back f q (subst (λ m. Same m f g) start_is same));
        next_at = next_start s st (length pre) bs pad F.rest (read_row s written_hdr w row b).bits a (length-replicate ((128 - length bs % 128) % 128) false) sees B.next_sees ∙ ap fresh after_is;
      }
    where
      bs : List Bool
      bs = row_bits (differences w g) row

      pad : List Bool
      pad = padding 128 bs

      F : Found s (length pre) (bs ++ pad)
      F = row_found row pre post a e

      sees : Sees s (fresh (length pre)) (bs ++ (pad ++ F.rest))
      sees = subst (Sees s (fresh (length pre))) (append_assoc bs pad F.rest) F.sees

      count_is : blocks_in w ≡ w / 16
      count_is = omega arith

      B : SeesBlocks s st w h g small row l (w / 16) 0 (aligned b) (fresh_mode row) (pad ++ F.rest)
      B = sees_blocks s st w h g small row l (w / 16) 0 (aligned b) (fresh_mode row) (pad ++ F.rest) refl (omega arith)
          (subst₂ (λ q k. Sees s q (blocks_bits (differences w g) row k 0 ++ (pad ++ F.rest))) (sym at) count_is sees)

      start_is : row * w ≡ row * w + 0
      start_is = omega arith

      end_is : row * w + (0 + 16 * (w / 16)) ≡ suc row * w
      end_is = omega arith

      after_is : length pre + (length bs + length pad) / 8 ≡ length (pre ++ row_bytes (differences w g) row)
      after_is =
          ap (λ n. length pre + (length bs + n) / 8) (length-replicate (gap 128 (length bs)) false)
          ∙ ap (λ x. length pre + x) (sym (row_is (differences w g) line row)) ∙ sym (length-append pre (row_bytes (differences w g) row))

  -- k rows from a row on, where the reader, aligned, starts at the first of them.
  record SeesRows (k row : ℕ) (b : Bits) : Type 0 where
    accepted : (rows s written_hdr w k row b).answer ≡ done
    back : (f : List ℕ) → length f ≡ w * h → Same (row * w) f g → Same ((row + k) * w) (apply (sample_kind 16_383) (rows s written_hdr w k row b).blocks f) g

  regroup : (a b c d : List ℕ) → a ++ (b ++ c ++ d) ≡ a ++ (b ++ (c ++ d))
  regroup a b c d = simp append_assoc

  regroup' : (a b c d : List ℕ) → a ++ (b ++ c ++ d) ≡ a ++ b ++ (c ++ d)
  regroup' a b c d = simp append_assoc

  sees_rows : (k row : ℕ) (b : Bits) (pre post : List ℕ) → row + k ≤ h → length pre % 16 ≡ 0 → s ≡ pre ++ (rows_bytes (differences w g) k row ++ post)
      → aligned b ≡ fresh (length pre) → SeesRows k row b
  unfolding rows rows_bytes apply aligned
  sees_rows zero row b pre post l a e at = record { accepted = ap done_with (ap (λ x. x.filler) at); back = λ f q same. rw (add-zero row) same }
  sees_rows (suc k) row b pre post l a e at =
      let m = sees_rows k (suc row) q.bits (pre ++ row_bytes (differences w g) row) post (omega arith) sixteen (e ∙ regroup' pre (row_bytes (differences w g) row) (rows_bytes (differences w g) k (suc row)) post) R.next_at in
      let on = rows_on row q (rows s written_hdr w k (suc row) q.bits) R.accepted R.no_filler in
      record {
        accepted = ap (λ x. x.answer) on ∙ m.accepted;
        back = λ f long same.
            rw (ap (λ x. x.blocks) on, apply_append 16_383 q.blocks, end_is)
            (m.back (apply (sample_kind 16_383) q.blocks f) (apply_length (sample_kind 16_383) q.blocks f ∙ long) (R.back f long same));
      }
    where
      q : Row
      q = read_row s written_hdr w row b

      end_is : row + suc k ≡ suc row + k
      end_is = omega arith

      R : SeesRow row b (length (pre ++ row_bytes (differences w g) row))
      R = sees_row row b pre (rows_bytes (differences w g) k (suc row) ++ post) (omega arith) a (e ∙ regroup pre (row_bytes (differences w g) row) (rows_bytes (differences w g) k (suc row)) post) at

      sixteen : length (pre ++ row_bytes (differences w g) row) % 16 ≡ 0
      sixteen = omega (arith, length-append pre (row_bytes (differences w g) row), row_whole (differences w g) line row, a)

-- ── The round trip ──

-- A stream that holds a frame: it is accepted, with no word missing, and decoded into any buffer it gives the frame; from 20
-- columns on no map byte is other than 0.
pub record Holds (s : List ℕ) (z : Size) (f : List ℕ) : Type 0 where
  pub accepted : (read_frame s z).answer ≡ done
  pub samples_back : (old : List ℕ) → length old ≡ cells z → decoded s z old ≡ f
  pub no_marks : 20 ≤ z.width → (i : ℕ) → i < cells z → get_or (v2_map s z) i 0 ≡ 0

-- Whatever follows the stream.
pub written_holds : (z : Size) (f : List ℕ) → z.width % 16 ≡ 0 → length f ≡ cells z → All (λ a. a < sample_bound) f
    → (post : List ℕ) → Stream (stream_for z f ++ post) → Holds (stream_for z f ++ post) z f
unfolding stream_for read_frame frame decoded top
written_holds z f whole e small post st =
    record {
      accepted = accepted;
      samples_back = λ old l.
          let p = apply_length (sample_kind 16_383) blocks old in
          rw H.hdr_is
          (ext_get_or 0 (apply (sample_kind 16_383) blocks old) f (p ∙ l ∙ sym e)
          (λ i q. R.back old l (λ i q. absurd (omega arith)) i (omega (arith, p, l, mul_comm z.width z.height))));
      no_marks = λ wide. v2_all_0 s z wide whole (ap (λ x. x.number) accepted);
    }
  where
    w : ℕ
    w = z.width

    s : List ℕ
    s = bytes header_bits ++ rows_bytes (differences w f) z.height 0 ++ post

    is : s ≡ bytes header_bits ++ (rows_bytes (differences w f) z.height 0 ++ post)
    is = append_assoc (bytes header_bits) (rows_bytes (differences w f) z.height 0) post

    F : Found s 0 header_bits
    F = subst (λ t. Found t 0 header_bits) (sym is) (bytes_found header_bits [] (rows_bytes (differences w f) z.height 0 ++ post) (rw header_length) refl)

    H : SeesHeader s st F.rest
    H = sees_header s st F.rest F.sees

    R : SeesRows s st w z.height whole f small z.height 0 (header s).bits
    R = sees_rows s st w z.height whole f small z.height 0 (header s).bits (bytes header_bits) post (omega arith) (rw header_bytes) is
        (next_start s st 0 header_bits [] F.rest (header s).bits refl (rw header_length) F.sees H.next_sees ∙ ap fresh (rw (header_length, header_bytes)))

    blocks : List Block
    blocks = (rows s written_hdr w z.height 0 (header s).bits).blocks

    accepted : (read_frame s z).answer ≡ done
    accepted = rw H.hdr_is R.accepted

-- The stream as it is written.
pub round_trip : (z : Size) (f : List ℕ) → z.width ≤ most_side → z.height ≤ most_side → z.width % 16 ≡ 0 → length f ≡ cells z → All (λ a. a < sample_bound) f
    → Holds (stream_for z f) z f
round_trip z f wide high whole e small =
    rw (append-nil (stream_for z f)) at (written_holds z f whole e small [] (rw (append-nil (stream_for z f)) (stream_bytes z f wide high)))
