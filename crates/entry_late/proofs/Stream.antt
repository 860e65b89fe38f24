-- V2: two streams that agree in their first p bytes give frames that agree on every row before the first that fetches a word not wholly
-- below p, and a refusal met in those rows is the same. Those rows are read alike, and the rows from there on write nothing before it.
use Prim.Native.Nat.{ℕ, zero, suc, ◌+◌, ◌-◌, ◌*◌, ◌/◌, ◌%◌, ◌^◌, ◌≤◌, ◌<◌, min}
use mathlib.Core.Bool.{Bool, true, false, cond}
use mathlib.Core.Path.{◌≡◌, refl, sym, ap, ◌∙◌, subst}
use mathlib.Core.Logic.{◌≢◌}
use mathlib.Core.List.{List, [], ◌∷◌, ◌++◌, append-nil, append_assoc}
use native.Mathlib.Omega.{arith}
use lib.Dec.{eqb, leb, lit<, lit≤}
use lib.ListN.{length, get_or, set}
use lib.Seq.{sets, get_or-set_other}
use borrow.Author.Tests.{leb-true, leb-false}
use Rattle.rules.specs.Limits.{most_side}
use Rattle.rules.specs.declared.answer.Size.{Size}
use Rattle.rules.specs.declared.reader.Bits.{Bits}
use Rattle.rules.specs.declared.v2.V2Hdr.{V2Hdr}
use Rattle.rules.specs.Reader.{fresh, fields}
use Rattle.rules.specs.V2.{Kind, Block, Row, Frame, field_widths, header, aligned, read_row, then_rows, rows, read_frame, block_cells, write, apply, frame, sample_kind, top, decoded}
use Rattle.rules.specs.Map.{v2_map}
use Rattle.rules.proofs.Cells.{All, nil, more, all_map, change_other}
use Rattle.rules.proofs.ReaderLaws.{held_is, read_held, read_next, fields_none, fields_more}
use Rattle.rules.proofs.V2Longer.{run_from, rows_run}
use Rattle.rules.proofs.V2Position.{PositionAt, position_starts, position_next, position_below, aligned_plain}
use Rattle.rules.proofs.V2Rows.{then_rows_cases}
use Rattle.rules.proofs.Tests.{by-test, both}
use Rattle.entry_late.specs.Late.{AgreeIn, header_bytes, fetched_past, first_past_from, first_past, state_after, none_refused, Reads}
use Rattle.entry_late.proofs.Trail.{Below, Tells, tells, run_moves}
use Rattle.entry_late.proofs.V2Trail.{header_trail, row_trail}

pub agree_back : {p : ℕ} {s t : List ℕ} → AgreeIn p s t → AgreeIn p t s
agree_back a = record { long = a.long'; long' = a.long; same = sym a.same }

-- ── A row ──

-- Within the limits nothing wraps.
module _ (w row : ℕ) (wide : w ≤ most_side) (high : row ≤ most_side) (b : Bits) (at : PositionAt w row b) where
  row_room : (n : ℕ) → n ≤ w / 16 * 29 → (aligned b).pos + 4 * n < 2 ^ 64
  row_room n l =
      let q = position_below w row b at wide high in
      let e = ap (λ c. c.pos) (aligned_plain b q) in
      omega (arith, q, e)

  module _ (p : ℕ) (s t : List ℕ) (agree : AgreeIn p s t) (h : V2Hdr) where
    -- The words that a row fetches, and what they say of `fetched_past`, and it of them.
    pub row_tells : Tells p (aligned b) (read_row s h w row b).bits (row_trail p s t agree h w row b).words
    row_tells = let v = row_trail p s t agree h w row b in tells s p v.run (row_room (length v.words) v.few)

    -- A row that fetches no word past p is the same in both streams.
    row_same : fetched_past p (aligned b) (read_row s h w row b).bits ≡ false → read_row s h w row b ≡ read_row t h w row b
    row_same e = (row_trail p s t agree h w row b).same (row_tells.below e)

-- So both or neither fetch one.
past_same : (w row : ℕ) → w ≤ most_side → row ≤ most_side → (b : Bits) → PositionAt w row b → (p : ℕ) (s t : List ℕ) → AgreeIn p s t → (h : V2Hdr)
    → fetched_past p (aligned b) (read_row t h w row b).bits ≡ fetched_past p (aligned b) (read_row s h w row b).bits
past_same w row wide high b at p s t agree h =
    by-test (past s)
    (λ e. by-test (past t)
    (λ e'. e' ∙ sym e)
    (λ e'. ap (λ q. fetched_past p (aligned b) q.bits) (row_same w row wide high b at p t s (agree_back agree) h e')))
    (λ e. ap (λ q. fetched_past p (aligned b) q.bits) (sym (row_same w row wide high b at p s t agree h e)))
  where
    past : List ℕ → Bool
    past v = fetched_past p (aligned b) (read_row v h w row b).bits

-- ── The row that the definition names ──

-- The words that a row fetches, from its start on.
pub record Words (s : List ℕ) (h : V2Hdr) (w row : ℕ) (b : Bits) : Type 0 where
  pub words : List ℕ
  pub run : Reads s (aligned b) words (read_row s h w row b).bits
  pub few : length words ≤ w / 16 * 29

pub row_words : (s : List ℕ) (h : V2Hdr) (w row : ℕ) (b : Bits) → Words s h w row b
row_words s h w row b =
    let v = row_trail 0 s s (record { long = omega arith; long' = omega arith; same = refl }) h w row b in
    record { words = v.words; run = v.run; few = v.few }

module _ (p : ℕ) (s : List ℕ) (h : V2Hdr) (w : ℕ) (wide : w ≤ most_side) where
  pub words_tell : (row : ℕ) → row ≤ most_side → (b : Bits) → PositionAt w row b → Tells p (aligned b) (read_row s h w row b).bits (row_words s h w row b).words
  words_tell row high b at = let v = row_words s h w row b in tells s p v.run (row_room w row wide high b at (length v.words) v.few)

  first_least : (k row : ℕ) (b : Bits) → row ≤ first_past_from p s h w k row b
  unfolding first_past_from
  first_least zero row b = omega arith
  first_least (suc k) row b = let q = read_row s h w row b in by-test (fetched_past p (aligned b) q.bits)
      (λ e. rw e (omega arith))
      (λ f. rw f (by-test (eqb q.number 0) (λ e. rw e (omega (arith, first_least k (suc row) q.bits))) (λ e. rw e (omega arith))))

  -- Rows before the first row past p that are read fetch no word past p.
  early_rows : (k row : ℕ) → row + k ≤ most_side → (b : Bits) → PositionAt w row b → (m n : ℕ) → m ≡ row + n → m < first_past_from p s h w k row b → n < k
      → none_refused s h w row n b ≡ true → Below p (row_words s h w m (state_after s h w row n b)).words
  unfolding first_past_from none_refused state_after
  early_rows zero row high b at m n e l r u = absurd (omega arith)
  early_rows (suc k) row high b at m zero e l r u =
      by-test (fetched_past p (aligned b) (read_row s h w row b).bits)
      (λ f. absurd (let o : m < row = rw f at l in omega arith))
      (λ f. let z : row ≡ m = omega arith in subst (λ a. Below p (row_words s h w a b).words) z ((words_tell row (omega arith) b at).below f))
  early_rows (suc k) row high b at m (suc n) e l r u =
      let q = read_row s h w row b in
      let v = both (eqb q.number 0) (none_refused s h w (suc row) n q.bits) u in
      by-test (fetched_past p (aligned b) q.bits)
      (λ f. absurd (let o : m < row = rw f at l in omega arith))
      (λ f. early_rows k (suc row) (omega arith) q.bits (position_next s h w row b at) m n (omega arith) (rw (f, v.0) at l) (omega arith) v.1)

  -- The first row past p fetches a word past p.
  first_row : (k row : ℕ) → row + k ≤ most_side → (b : Bits) → PositionAt w row b → (m n : ℕ) → m ≡ row + n → m ≡ first_past_from p s h w k row b → n < k
      → Below p (row_words s h w m (state_after s h w row n b)).words → ⊥
  unfolding first_past_from state_after
  first_row zero row high b at m n e l r a = omega arith
  first_row (suc k) row high b at m zero e l r a =
      let q = read_row s h w row b in
      let z : m ≡ row = omega arith in
      let f = (words_tell row (omega arith) b at).not_past (subst (λ c. Below p (row_words s h w c b).words) z a) in
      by-test (eqb q.number 0)
      (λ g. let o : m ≡ first_past_from p s h w k (suc row) q.bits = rw (f, g) at l in omega (arith, first_least k (suc row) q.bits))
      (λ g. let o : m ≡ row + suc k = rw (f, g) at l in omega arith)
  first_row (suc k) row high b at m (suc n) e l r a =
      let q = read_row s h w row b in
      by-test (fetched_past p (aligned b) q.bits)
      (λ f. let o : m ≡ row = rw f at l in omega arith)
      (λ f. by-test (eqb q.number 0)
      (λ g. first_row k (suc row) (omega arith) q.bits (position_next s h w row b at) m n (omega arith) (rw (f, g) at l) (omega arith) a)
      (λ g. let o : m ≡ row + suc k = rw (f, g) at l in omega arith))

-- ── Two frames ──

-- Blocks that are the same up to those from row r on, and a refusal in a row before r is the same.
record Alike (w r : ℕ) (x y : Frame) : Type 0 where
  early : List Block
  late : List Block
  late' : List Block
  first : x.blocks ≡ early ++ late
  second : y.blocks ≡ early ++ late'
  low : All (λ z. r * w ≤ z.place) late
  low' : All (λ z. r * w ≤ z.place) late'
  refusal : x.answer.number ≢ 0 → x.answer.row < r → y.answer ≡ x.answer

alike_equal : (w r : ℕ) (x y : Frame) → x ≡ y → Alike w r x y
alike_equal w r x y e =
    record {
      early = x.blocks;
      late = [];
      late' = [];
      first = sym (append-nil x.blocks);
      second = ap (λ v. v.blocks) (sym e) ∙ sym (append-nil x.blocks);
      low = nil;
      low' = nil;
      refusal = λ n l. ap (λ v. v.answer) (sym e);
    }

-- The same row before both.
alike_then : (w r row : ℕ) (q : Row) (x y : Frame) → Alike w r x y → Alike w r (then_rows row q x) (then_rows row q y)
unfolding then_rows
alike_then w r row q x y a =
    by-test (eqb q.number 0)
    (λ e. rw e (by-test (eqb q.bits.filler 0) (λ m. rw m after) (λ m. rw m (alike_equal w r _ _ refl))))
    (λ e. rw e (alike_equal w r _ _ refl))
  where
    after : Alike w r (record { blocks = q.blocks ++ x.blocks; answer = x.answer }) (record { blocks = q.blocks ++ y.blocks; answer = y.answer })
    after =
        record {
          early = q.blocks ++ a.early;
          late = a.late;
          late' = a.late';
          first = ap (λ l. q.blocks ++ l) a.first ∙ sym (append_assoc q.blocks a.early a.late);
          second = ap (λ l. q.blocks ++ l) a.second ∙ sym (append_assoc q.blocks a.early a.late');
          low = a.low;
          low' = a.low';
          refusal = a.refusal;
        }

-- A refusal names one of the rows read.
refused_row : (s : List ℕ) (h : V2Hdr) (w k row : ℕ) (b : Bits) → (rows s h w k row b).answer.number ≢ 0 → row ≤ (rows s h w k row b).answer.row
unfolding rows
refused_row s h w zero row b = λ n. absurd (n refl)
refused_row s h w (suc k) row b =
    let q = read_row s h w row b in
    let rest = refused_row s h w k (suc row) q.bits in
    then_rows_cases (λ x. x.answer.number ≢ 0 → row ≤ x.answer.row) row q (rows s h w k (suc row) q.bits) (λ e n. omega arith) (λ e m n. omega arith)
    (λ e m n. let l = rest n in omega arith)

then_refused : (row : ℕ) (q : Row) (x y : Frame) → eqb q.number 0 ≡ false → then_rows row q x ≡ then_rows row q y
unfolding then_rows
then_refused row q x y e = rw e

-- Nothing is the same from here on.
alike_from : (s t : List ℕ) (h : V2Hdr) (w k row : ℕ) (b : Bits) → Alike w row (rows s h w k row b) (rows t h w k row b)
alike_from s t h w k row b =
    record {
      early = [];
      late = (rows s h w k row b).blocks;
      late' = (rows t h w k row b).blocks;
      first = refl;
      second = refl;
      low = run_from (rows_run s h w k row b);
      low' = run_from (rows_run t h w k row b);
      refusal = λ n l. absurd (let m = refused_row s h w k row b n in omega arith);
    }

module _ (p : ℕ) (s t : List ℕ) (agree : AgreeIn p s t) (h : V2Hdr) (w : ℕ) (wide : w ≤ most_side) where
  rows_alike : (k row : ℕ) → row + k ≤ most_side → (b : Bits) → PositionAt w row b
      → Alike w (first_past_from p s h w k row b) (rows s h w k row b) (rows t h w k row b)
  unfolding rows first_past_from
  rows_alike zero row high b at = alike_equal w row _ _ refl
  rows_alike (suc k) row high b at =
      go (past b) refl (eqb q.number 0) refl (rows_alike k (suc row) (omega arith) q.bits (position_next s h w row b at))
    where
      q : Row
      q = read_row s h w row b

      past : Bits → Bool
      past c = fetched_past p (aligned c) q.bits

      rest : List ℕ → Row → Frame
      rest v x = rows v h w k (suc row) x.bits

      go : (x : Bool) → past b ≡ x → (y : Bool) → eqb q.number 0 ≡ y
          → Alike w (first_past_from p s h w k (suc row) q.bits) (rest s q) (rest t q)
          → Alike w (cond x row (cond y (first_past_from p s h w k (suc row) q.bits) (row + suc k)))
          (then_rows row q (rest s q)) (then_rows row (read_row t h w row b) (rest t (read_row t h w row b)))
      go true e y e' r = alike_from s t h w (suc k) row b
      go false e true e' r =
          rw (← row_same w row wide (omega arith) b at p s t agree h e) (alike_then w _ row q (rest s q) (rest t q) r)
      go false e false e' r =
          rw (← row_same w row wide (omega arith) b at p s t agree h e)
          (alike_equal w _ _ _ (then_refused row q (rest s q) (rest t q) e'))

  -- The first such row is the same by both streams.
  rows_first : (k row : ℕ) → row + k ≤ most_side → (b : Bits) → PositionAt w row b → first_past_from p t h w k row b ≡ first_past_from p s h w k row b
  unfolding first_past_from
  rows_first zero row high b at = refl
  rows_first (suc k) row high b at =
      rw (past_same w row wide (omega arith) b at p s t agree h)
      (by-test (fetched_past p (aligned b) q.bits)
      (λ e. rw e)
      (λ e. rw e (ap (on t) (sym (row_same w row wide (omega arith) b at p s t agree h e)) ∙ ap (λ n. cond (eqb q.number 0) n (row + suc k)) (rows_first k (suc row) (omega arith) q.bits (position_next s h w row b at)))))
    where
      q : Row
      q = read_row s h w row b

      on : List ℕ → Row → ℕ
      on v x = cond (eqb x.number 0) (first_past_from p v h w k (suc row) x.bits) (row + suc k)

-- ── Cells ──

module _ {A : Type 0} (k : Kind A) where
  apply_append : (xs ys : List Block) (f : List A) → apply k (xs ++ ys) f ≡ apply k ys (apply k xs f)
  unfolding apply
  apply_append [] ys f = refl
  apply_append (x ∷ xs) ys f = apply_append xs ys _

  sets_low : (vs : List A) (f : List A) (i j : ℕ) (d : A) → j < i → get_or (sets f i vs) j d ≡ get_or f j d
  sets_low [] f i j d l = refl
  sets_low (v ∷ vs) f i j d l = sets_low vs (set f i v) (suc i) j d (omega arith) ∙ get_or-set_other f i j v d (λ e. omega arith)

  write_low : (b : Block) (f : List A) (j : ℕ) → j < b.place → get_or (write k b f) j (k.constant 0) ≡ get_or f j (k.constant 0)
  unfolding write block_cells
  write_low b f j l =
      by-test b.filler
      (λ e. rw e (change_other k.filled (k.constant 0) 16 b.place g j (λ q. absurd (omega arith)) ∙ low))
      (λ e. rw e low)
    where
      g : List A
      g = sets f b.place (block_cells k f b)

      low : get_or g j (k.constant 0) ≡ get_or f j (k.constant 0)
      low = sets_low (block_cells k f b) f b.place j (k.constant 0) l

  -- Blocks at or after a place change nothing before it.
  apply_low : (m : ℕ) {xs : List Block} → All (λ x. m ≤ x.place) xs → (f : List A) (j : ℕ) → j < m
      → get_or (apply k xs f) j (k.constant 0) ≡ get_or f j (k.constant 0)
  unfolding apply
  apply_low m nil f j l = refl
  apply_low m (more {a = x} q qs) f j l = apply_low m qs _ j l ∙ write_low x f j (omega arith)

  alike_cells : (w r : ℕ) (x y : Frame) → Alike w r x y → (f : List A) (j : ℕ) → j < r * w
      → get_or (apply k x.blocks f) j (k.constant 0) ≡ get_or (apply k y.blocks f) j (k.constant 0)
  alike_cells w r x y a f j l =
      one x.blocks a.late a.first a.low ∙ sym (one y.blocks a.late' a.second a.low')
    where
      one : (bs late : List Block) → bs ≡ a.early ++ late → All (λ b. r * w ≤ b.place) late
          → get_or (apply k bs f) j (k.constant 0) ≡ get_or (apply k a.early f) j (k.constant 0)
      one bs late e h =
          ap (λ xs. get_or (apply k xs f) j (k.constant 0)) e
          ∙ ap (λ g. get_or g j (k.constant 0)) (apply_append a.early late f)
          ∙ apply_low (r * w) h (apply k a.early f) j l

-- ── The frame ──

-- Where fields of some widths, of at most 32 bits each, leave a reader that stands at p and holds c bits.
ends_at : List ℕ → ℕ → ℕ → ℕ
ends_at [] p c = p
ends_at (n ∷ ns) p c = cond (leb n c) (ends_at ns p (c - n)) (ends_at ns (p + 4) (c + 32 - n))

fields_end : (s ns : List ℕ) → All (λ n. n ≤ 32) ns → (b : Bits) → b.count < 32 → b.pos + 4 * length ns < 2 ^ 64
    → (fields s ns b).bits.pos ≡ ends_at ns b.pos b.count
unfolding ends_at
fields_end s [] nil b l room = ap (λ f. f.bits.pos) (fields_none s b)
fields_end s (n ∷ ns) (more h hs) b l room =
    ap (λ f. f.bits.pos) (fields_more s n ns b) ∙ by-test (leb n b.count)
    (λ e. let i = leb-true n b.count e in
    rw (e, read_held s b n (omega (arith, held_is b l)), capped, held_is b l) (fields_end s ns hs _ (omega arith) (omega arith)))
    (λ e. let i = leb-false n b.count e in
    rw (e, read_next s b n (omega (arith, held_is b l)), capped, held_is b l, plain) (fields_end s ns hs _ (omega arith) (omega arith)))
  where
    capped : min n 32 ≡ n
    capped = omega arith

    plain : (b.pos + 4) % 2 ^ 64 ≡ b.pos + 4
    plain = omega arith

-- A header takes four words.
pub header_reads : (s : List ℕ) → (header s).bits.pos ≡ header_bytes
unfolding header ends_at
header_reads s = fields_end s field_widths short (fresh 0) (lit< tt) (lit< tt)
  where
    short : All (λ n. n ≤ 32) field_widths
    short =
        more (lit≤ tt) (more (lit≤ tt) (more (lit≤ tt) (more (lit≤ tt) (more (lit≤ tt) (more (lit≤ tt) (more (lit≤ tt)
        (more (lit≤ tt) (more (lit≤ tt) (more (lit≤ tt) (more (lit≤ tt) (more (lit≤ tt) (more (lit≤ tt) nil))))))))))))

module _ (p : ℕ) (s t : List ℕ) (agree : AgreeIn p s t) (below : header_bytes ≤ p) (z : Size) (wide : z.width ≤ most_side) (high : z.height ≤ most_side) where
  header_same : header s ≡ header t
  header_same =
      let v = header_trail p s t agree in
      let e = header_reads s in
      v.same (all_map _ _ (λ q l. omega (arith, e)) (run_moves s v.run (omega (arith, v.few))).1)

  frames_alike : Alike z.width (first_past p s z) (read_frame s z) (read_frame t z)
  unfolding read_frame first_past
  frames_alike =
      rw (← header_same) (rows_alike p s t agree _ z.width wide z.height 0 (omega arith) _ (position_starts s z.width))

  -- The rows before the first that fetches a word not wholly below p agree, over every kind of cell.
  pub late_cells : {A : Type 0} (k : Kind A) (f : List A) (i : ℕ) → i < first_past p s z * z.width
      → get_or (frame k s z f) i (k.constant 0) ≡ get_or (frame k t z f) i (k.constant 0)
  unfolding frame
  late_cells k f = alike_cells k z.width (first_past p s z) (read_frame s z) (read_frame t z) frames_alike f

  pub late_samples : (f : List ℕ) (i : ℕ) → i < first_past p s z * z.width → get_or (decoded s z f) i 0 ≡ get_or (decoded t z f) i 0
  unfolding decoded
  late_samples f = rw (← header_same) (late_cells (sample_kind (top (header s).value)) f)

  pub late_marks : (i : ℕ) → i < first_past p s z * z.width → get_or (v2_map s z) i 0 ≡ get_or (v2_map t z) i 0
  unfolding v2_map
  late_marks = late_cells _ _

  -- A refusal met in those rows is the same.
  pub late_refusal : (read_frame s z).answer.number ≢ 0 → (read_frame s z).answer.row < first_past p s z → (read_frame t z).answer ≡ (read_frame s z).answer
  late_refusal = frames_alike.refusal

  -- The first such row is the same by both streams.
  pub first_same : first_past p t z ≡ first_past p s z
  unfolding first_past
  first_same = rw (← header_same) (rows_first p s t agree _ z.width wide z.height 0 (omega arith) _ (position_starts s z.width))

-- ── The first row that fetches a word not wholly below p ──

-- The words that row n of a frame fetches, if the rows before it are read.
abbrev pub frame_words : List ℕ → Size → ℕ → List ℕ
frame_words s z n = let x = header s in (row_words s x.value z.width n (state_after s x.value z.width 0 n x.bits)).words

module _ (p : ℕ) (s : List ℕ) (z : Size) (wide : z.width ≤ most_side) (high : z.height ≤ most_side) where
  -- A row before the first row past p, if it is read, fetches only words that lie wholly below p.
  pub before_first : (n : ℕ) → n < first_past p s z → n < z.height
      → none_refused s (header s).value z.width 0 n (header s).bits ≡ true → Below p (frame_words s z n)
  unfolding first_past
  before_first n l r u =
      early_rows p s (header s).value z.width wide z.height 0 (omega arith) (header s).bits (position_starts s z.width) n n (omega arith) l r u

  -- The first row past p fetches a word that doesn't lie wholly below p, unless it is the height.
  pub first_fetches : first_past p s z < z.height → Below p (frame_words s z (first_past p s z)) → ⊥
  unfolding first_past
  first_fetches l =
      first_row p s (header s).value z.width wide z.height 0 (omega arith) (header s).bits (position_starts s z.width) (first_past p s z) (first_past p s z)
      (omega arith) refl l
