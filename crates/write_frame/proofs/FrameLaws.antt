-- A frame: its rows, one after another, written and measured, in either format; and V2's header before them.
use Prim.Native.Nat.{ℕ, zero, suc, ◌+◌, ◌-◌, ◌%◌, ◌^◌, ◌<◌, ◌≤◌}
use mathlib.Core.Path.{◌≡◌, refl, sym, ap, ap₂, ◌∙◌}
use mathlib.Core.List.{List, [], ◌∷◌, ◌++◌, append-nil, append_assoc}
use native.Mathlib.Omega.{arith}
use lib.ListN.{length, set, length-append}
use lib.Seq.{sets, length-sets}
use Rattle.rules.specs.Limits.{most_side}
use Rattle.write_rules.specs.Writer.{bits_of, number_of, fields_bits, word_bytes, words_bytes, bytes, Coding, Unit, word, line, row_bytes, rows_bytes, offsets_from}
use Rattle.write_rules.specs.Writer as V0W
use Rattle.write_rules.specs.V2Writer as V2W
use Rattle.write_rules.specs.V2Writer.{header_bits}
use Rattle.write_rules.proofs.PendingLaws.{sets_append}
use Rattle.write_rules.proofs.V2RoundTrip.{header_bytes}
use Rattle.write_rules.proofs.Rows.{row_whole, rows_most, offsets_length}
use Rattle.write_frame.specs.declared.format.Format.TheVariants.{V0, V2}
use Rattle.write_frame.specs.Frames.{size, unit, coding}

-- ── Rows ──

rows_snoc : (x : Coding) (n row : ℕ) → rows_bytes x (suc n) row ≡ rows_bytes x n row ++ row_bytes x (row + n)
unfolding rows_bytes
rows_snoc x zero row = let e : row + 0 ≡ row = omega arith in rw e (append-nil (row_bytes x row))
rows_snoc x (suc n) row =
    let e : row + suc n ≡ suc row + n = omega arith in
    rw e (ap (λ l. row_bytes x row ++ l) (rows_snoc x n (suc row)) ∙ sym (append_assoc (row_bytes x row) (rows_bytes x n (suc row)) (row_bytes x (suc row + n))))

offsets_snoc : (x : Coding) (n row at : ℕ) → offsets_from x (suc n) row at ≡ offsets_from x n row at ++ ((at + length (rows_bytes x n row)) ∷ [])
unfolding offsets_from rows_bytes
offsets_snoc x zero row at = let e : at + 0 ≡ at = omega arith in rw e
offsets_snoc x (suc n) row at =
    let e : at + length (row_bytes x row) + length (rows_bytes x n (suc row)) ≡ at + length (row_bytes x row ++ rows_bytes x n (suc row))
    = omega (arith, length-append (row_bytes x row) (rows_bytes x n (suc row))) in
    ap (λ l. at ∷ l) (offsets_snoc x n (suc row) (at + length (row_bytes x row)) ∙ ap (λ m. offsets_from x n (suc row) (at + length (row_bytes x row)) ++ (m ∷ [])) e)

rows_prefix : (x : Coding) (k n : ℕ) → length (rows_bytes x k 0) ≤ length (rows_bytes x (k + n) 0)
rows_prefix x k zero = let e : k + 0 ≡ k = omega arith in rw e (omega arith)
rows_prefix x k (suc n) =
    let e : k + suc n ≡ suc (k + n) = omega arith in
    rw (e, rows_snoc x (k + n) 0) (omega (arith, rows_prefix x k n, length-append (rows_bytes x (k + n) 0) (row_bytes x (0 + (k + n)))))

-- ── Writing ──

-- Past a list's end nothing is set.
pub set_past : (l : List ℕ) (i v : ℕ) → length l ≤ i → set l i v ≡ l
set_past [] i v h = refl
set_past (a ∷ l) zero v h = absurd (omega arith)
set_past (a ∷ l) (suc i) v h = ap (λ t. a ∷ t) (set_past l i v (omega arith))

-- The rows before a row have been written from `start` on.
pub record Framing (x : Coding) (h start : ℕ) (f o f' o' : List ℕ) (at row : ℕ) : Type 0 where
  pub most : row ≤ h
  pub at_is : at ≡ start + length (rows_bytes x row 0)
  pub whole : at % x.unit ≡ 0
  pub stream_is : f' ≡ sets f start (rows_bytes x row 0)
  pub offsets_are : o' ≡ sets o 0 (offsets_from x row 0 start)

pub frame_begun : (x : Coding) (h start : ℕ) (f o : List ℕ) → start % x.unit ≡ 0 → Framing x h start f o f o start 0
unfolding rows_bytes offsets_from
frame_begun x h start f o e = record { most = omega arith; at_is = omega arith; whole = e; stream_is = refl; offsets_are = refl }

-- Whole units after whole units.
units_more : {unit : ℕ} (a b : ℕ) → Unit unit → a % unit ≡ 0 → b % unit ≡ 0 → (a + b) % unit ≡ 0
units_more a b word p q = omega arith
units_more a b line p q = omega arith

module _ {x : Coding} {h start : ℕ} {f o f' o' : List ℕ} {at row : ℕ} (r : Framing x h start f o f' o' at row) where
  pub stream_length : length f' ≡ length f
  stream_length = ap length r.stream_is ∙ length-sets f start (rows_bytes x row 0)

  pub table_length : length o' ≡ length o
  table_length = ap length r.offsets_are ∙ length-sets o 0 (offsets_from x row 0 start)

  next_length : start + length (rows_bytes x (suc row) 0) ≡ at + length (row_bytes x row)
  next_length =
      let z : 0 + row ≡ row = omega arith in
      ap (λ l. start + length l) (rows_snoc x row 0 ∙ ap (λ i. rows_bytes x row 0 ++ row_bytes x i) z)
      ∙ omega (arith, length-append (rows_bytes x row 0) (row_bytes x row), r.at_is)

  -- There is room for the next row.
  pub row_room : row < h → start + length (rows_bytes x h 0) ≤ length f → at + length (row_bytes x row) ≤ length f'
  row_room l room =
      let all : suc row + (h - suc row) ≡ h = omega arith in
      let a : length (rows_bytes x (suc row) 0) ≤ length (rows_bytes x h 0) = rw all at (rows_prefix x (suc row) (h - suc row)) in
      omega (arith, next_length, stream_length)

  -- The next row's offset fits 32 bits.
  pub offset_fits : Unit x.unit → x.width ≤ most_side → h ≤ most_side → start ≤ 16 → at < 2 ^ 32
  offset_fits u wide high few = omega (arith, r.at_is, rows_most x u wide row 0, r.most)

  -- With room for it, the next row is written.
  pub frame_on : Unit x.unit → (at' : ℕ) (f'' o'' : List ℕ) → row < h → o'' ≡ set o' row at → at' ≡ at + length (row_bytes x row) → f'' ≡ sets f' at (row_bytes x row)
      → Framing x h start f o f'' o'' at' (row + 1)
  frame_on u at' f'' o'' l e a s =
      let next : row + 1 ≡ suc row = omega arith in
      let z : 0 + row ≡ row = omega arith in
      let here : start + length (rows_bytes x row 0) ≡ at = sym r.at_is in
      let there : 0 + length (offsets_from x row 0 start) ≡ row = omega (arith, offsets_length x row 0 start) in
      record {
        most = omega arith;
        at_is = rw next (a ∙ sym next_length);
        whole = rw a (units_more at (length (row_bytes x row)) u r.whole (row_whole x u row));
        stream_is = rw (next, rows_snoc x row 0, z, sets_append f (rows_bytes x row 0) (row_bytes x row) start, here, ← r.stream_is) s;
        offsets_are = rw (next, offsets_snoc x row 0 start, here, sets_append o (offsets_from x row 0 start) (at ∷ []) 0, there, ← r.offsets_are) e;
      }

  pub frame_gone : h ≤ row → (f' ≡ sets f start (rows_bytes x h 0)) × (o' ≡ sets o 0 (offsets_from x h 0 start))
  frame_gone l =
      let e : row ≡ h = omega (arith, r.most) in
      (rw e at r.stream_is, rw e at r.offsets_are)

-- ── V2's header ──

-- Four words.
abbrev header_words : List ℕ
header_words = word_bytes 3_328 ++ (word_bytes 0 ++ (word_bytes 1_792 ++ word_bytes 0))

pub header_is : header_words ≡ bytes header_bits
unfolding bytes words_bytes header_bits fields_bits bits_of number_of
header_is = refl

pub header_law : (f f1 f2 f3 f4 : List ℕ) → f1 ≡ sets f 0 (word_bytes 3_328) → f2 ≡ sets f1 4 (word_bytes 0) → f3 ≡ sets f2 8 (word_bytes 1_792)
    → f4 ≡ sets f3 12 (word_bytes 0) → f4 ≡ sets f 0 (bytes header_bits)
header_law f f1 f2 f3 f4 a b c d = rw (d, c, b, a, ← header_is)

pub header_kept : (f f' : List ℕ) → f' ≡ sets f 0 (bytes header_bits) → length f' ≡ length f
header_kept f f' e = ap length e ∙ length-sets f 0 (bytes header_bits)

-- ── The streams ──

module _ (w h : ℕ) (f : List ℕ) where
  -- V0's stream is its rows.
  pub v0_rows : V0W.stream_for (size w h) f ≡ rows_bytes (coding V0 (size w h) f) h 0
  unfolding V0W.stream_for coding
  v0_rows = refl

  pub v0_offsets : V0W.offsets_for (size w h) f ≡ offsets_from (coding V0 (size w h) f) h 0 0
  unfolding V0W.offsets_for coding
  v0_offsets = refl

  -- V2's stream is its header and its rows.
  v2_rows : V2W.stream_for (size w h) f ≡ bytes header_bits ++ rows_bytes (coding V2 (size w h) f) h 0
  unfolding V2W.stream_for coding
  v2_rows = refl

  pub v2_length_is : length (V2W.stream_for (size w h) f) ≡ 16 + length (rows_bytes (coding V2 (size w h) f) h 0)
  v2_length_is =
      ap length v2_rows ∙ length-append (bytes header_bits) (rows_bytes (coding V2 (size w h) f) h 0)
      ∙ ap (λ n. n + length (rows_bytes (coding V2 (size w h) f) h 0)) header_bytes

  pub v2_wrote : (o o1 o2 : List ℕ) → o1 ≡ sets o 0 (bytes header_bits) → o2 ≡ sets o1 16 (rows_bytes (coding V2 (size w h) f) h 0) → o2 ≡ sets o 0 (V2W.stream_for (size w h) f)
  v2_wrote o o1 o2 a b =
      let sixteen : 0 + length (bytes header_bits) ≡ 16 = omega (arith, header_bytes) in
      rw (v2_rows, sets_append o (bytes header_bits) (rows_bytes (coding V2 (size w h) f) h 0) 0, sixteen, ← a) b

-- Neither start is inside a unit.
pub v0_start : 0 % unit V0 ≡ 0
unfolding unit
v0_start = refl

pub v2_start : 16 % unit V2 ≡ 0
unfolding unit
v2_start = refl

-- ── Measuring ──

-- The bytes of the rows before a row have been counted.
pub record Measuring (x : Coding) (h bytes row : ℕ) : Type 0 where
  pub most : row ≤ h
  pub measured : bytes ≡ length (rows_bytes x row 0)

pub measure_begun : (x : Coding) (h : ℕ) → Measuring x h 0 0
unfolding rows_bytes
measure_begun x h = record { most = omega arith; measured = refl }

module _ {x : Coding} {h bytes row : ℕ} (r : Measuring x h bytes row) where
  pub measure_on : (n : ℕ) → row < h → n ≡ length (row_bytes x row) → Measuring x h (bytes + n) (row + 1)
  measure_on n l e =
      let next : row + 1 ≡ suc row = omega arith in
      let z : 0 + row ≡ row = omega arith in
      record {
        most = omega arith;
        measured = rw (next, rows_snoc x row 0, z) (ap₂ ◌+◌ r.measured e ∙ sym (length-append (rows_bytes x row 0) (row_bytes x row)));
      }

  -- The sum fits 64 bits.
  pub measure_next : Unit x.unit → x.width ≤ most_side → h ≤ most_side → (n : ℕ) → row < h → n ≡ length (row_bytes x row) → bytes + n < 2 ^ 64
  measure_next u wide high n l e =
      let m = measure_on n l e in
      omega (arith, m.measured, m.most, rows_most x u wide (row + 1) 0)

  pub measure_gone : h ≤ row → bytes ≡ length (rows_bytes x h 0)
  measure_gone l = let e : row ≡ h = omega (arith, r.most) in rw e at r.measured
