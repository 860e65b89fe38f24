-- What the loops over a frame's rows keep: what is done, with the rows that are left, is the whole frame's.
use mathlib.Core.Path.{◌≡◌, refl, sym, ap, ap₂, ◌∙◌}
use mathlib.Core.List.{List, [], ◌++◌, append_assoc}
use Prim.Native.Nat.{ℕ, suc, ◌+◌, ◌-◌, ◌*◌, ◌≤◌, ◌<◌}
use native.Mathlib.Omega.{arith}
use native.Mathlib.Nat.{mul_comm, mul-le-mul, mul-le-mul_right, zero-mul, add-zero}
use native.Mathlib.Numerals.{add-one}
use lib.ListN.{length, take, drop, length-append, length-drop, drop_of_length-le, take-append-drop}
use lib.Seq.{sets, length-sets, drop-drop, take_at, drop_at, length-take-le}
use borrow.Rule.Slice.PartMut.{mid_of, put_mid}
use Rattle.rules.specs.declared.answer.Size.{Size}
use Rattle.rules.specs.Frame.{cells}
use Rattle.frame_blank.specs.declared.Tally.{Tally}
use Rattle.frame_blank.specs.Blanking.{Fill, count, blank_rows, blanked, row_runs, rows_runs, runs_of, numbers}
use Rattle.frame_blank.specs.MapLent.{tally, MapLent, RowLent, RowBlanked, FrameLent}
use Rattle.frame_blank.proofs.ByteLaws.{count_append, count_most}
use Rattle.frame_blank.proofs.RunLaws.{runs_same, rows_most, numbers_length, numbers_append, sets_append}
use Rattle.frame_blank.proofs.RowLaws.{blank_row_length}

-- A row of a frame within the limits.
pub row_room : (z : Size) (map : List ℕ) (row : ℕ) → MapLent z map → row < z.height → (row * z.width + z.width ≤ length map) × (length map ≤ 268_435_456)
row_room z map row p h =
    let e : suc row * z.width ≤ z.height * z.width = mul-le-mul_right z.width (omega arith) in
    let m : z.width * z.height ≤ 16_384 * 16_384 = mul-le-mul p.wide p.high in
    (omega (arith, mul_comm z.width z.height, p.read), omega (arith, p.read))

-- The part of a list that is a row.
row_part : (w row : ℕ) (l : List ℕ) → mid_of (row * w) (row * w + w - row * w) l ≡ take w (drop (row * w) l)
row_part w row l = let e : row * w + w - row * w ≡ w = omega arith in rw e

pub row_length : (w row : ℕ) (l : List ℕ) → row * w + w ≤ length l → length (mid_of (row * w) (row * w + w - row * w) l) ≡ w
row_length w row l h = rw (row_part w row l) (length-take-le w (drop (row * w) l) (omega (arith, length-drop (row * w) l)))

-- The rows that are left at a row are it and those that are left after it.
module _ (w h row : ℕ) (below : row < h) where
  rows_left : h - row ≡ suc (h - (row + 1))
  rows_left = omega arith

  next_row : (l : List ℕ) → drop w (drop (row * w) l) ≡ drop ((row + 1) * w) l
  next_row l = let e : row * w + w ≡ (row + 1) * w = omega arith in drop-drop w (row * w) l ∙ ap (λ k. drop k l) e

  runs_next : (m : List ℕ) → rows_runs w (h - row) row (drop (row * w) m)
      ≡ row_runs row (mid_of (row * w) (row * w + w - row * w) m) ++ rows_runs w (h - (row + 1)) (row + 1) (drop ((row + 1) * w) m)
  unfolding rows_runs
  runs_next m = rw (rows_left, ← next_row m, row_part w row m, add-one row)

  count_next : (m : List ℕ) → count (drop (row * w) m) ≡ count (mid_of (row * w) (row * w + w - row * w) m) + count (drop ((row + 1) * w) m)
  count_next m =
      rw (← next_row m, row_part w row m)
      (sym (ap count (take-append-drop w (drop (row * w) m))) ∙ count_append (take w (drop (row * w) m)) (drop w (drop (row * w) m)))

-- ── Counting ──

pub record RowsTallied (z : Size) (m : List ℕ) (marks runs row : ℕ) : Type 0 where
  pub below : row ≤ z.height
  pub marks_are : count m ≡ marks + count (drop (row * z.width) m)
  pub runs_are : length (runs_of z m) ≡ runs + length (rows_runs z.width (z.height - row) row (drop (row * z.width) m))

pub rows_tallied_none : (z : Size) (m : List ℕ) → RowsTallied z m 0 0 0
rows_tallied_none z m =
    let e : z.height - 0 ≡ z.height = omega arith in
    record { below = omega arith; marks_are = rw (zero-mul z.width) (omega arith); runs_are = rw (zero-mul z.width, e) (omega arith) }

module _ {z : Size} {m : List ℕ} {marks runs row : ℕ} (t : RowsTallied z m marks runs row) where
  pub rows_tallied_more : (r : Tally) → row < z.height
      → r ≡ tally (mid_of (row * z.width) (row * z.width + z.width - row * z.width) m) (row_runs 0 (mid_of (row * z.width) (row * z.width + z.width - row * z.width) m))
      → RowsTallied z m (marks + r.marked) (runs + r.runs) (row + 1)
  rows_tallied_more r h e =
      let part = mid_of (row * z.width) (row * z.width + z.width - row * z.width) m in
      let left = rows_runs z.width (z.height - (row + 1)) (row + 1) (drop ((row + 1) * z.width) m) in
      let listed : length (rows_runs z.width (z.height - row) row (drop (row * z.width) m)) ≡ r.runs + length left =
      ap length (runs_next z.width z.height row h m) ∙ length-append (row_runs row part) left
      ∙ ap (λ n. n + length left) (runs_same row 0 _ 0 part ∙ sym (ap (λ x. x.runs) e)) in
      let counted : r.marked ≡ count part = ap (λ x. x.marked) e in
      record {
        below = omega arith;
        marks_are = omega (arith, t.marks_are, count_next z.width z.height row h m, counted);
        runs_are = omega (arith, t.runs_are, listed);
      }

  pub tallied_few : (marks ≤ length m) × (runs ≤ length m)
  tallied_few = (omega (arith, t.marks_are, count_most m), omega (arith, t.runs_are, rows_most z.width z.height 0 m))

  pub rows_tallied_all : z.height ≤ row → length m ≡ cells z → ◌≡◌ {A = Tally} (record { marked = marks; runs = runs }) (tally m (runs_of z m))
  unfolding rows_runs count
  rows_tallied_all h l =
      let e : row ≡ z.height = omega (arith, t.below) in
      let last : z.height - row ≡ 0 = omega arith in
      let none : drop (row * z.width) m ≡ [] = drop_of_length-le m {i = row * z.width} (rw e (omega (arith, l, mul_comm z.width z.height))) in
      let c : marks ≡ count m = sym (t.marks_are ∙ ap (λ x. marks + count x) none ∙ add-zero marks) in
      let r : runs ≡ length (runs_of z m) = sym (t.runs_are ∙ ap (λ n. runs + length (rows_runs z.width n row (drop (row * z.width) m))) last ∙ add-zero runs) in
      ap₂ (λ x y. record { marked = x; runs = y }) c r

-- ── Blanking ──

pub record RowsBlanked (fill : Fill) (z : Size) (f₀ m runs₀ f runs : List ℕ) (at row : ℕ) : Type 0 where
  pub below : row ≤ z.height
  pub kept : length f ≡ length f₀
  pub kept_runs : length runs ≡ length runs₀
  pub samples_are : take (row * z.width) f ++ blank_rows fill z.width (z.height - row) (drop (row * z.width) f) (drop (row * z.width) m) ≡ blanked fill z f₀ m
  pub place : at + 3 * length (rows_runs z.width (z.height - row) row (drop (row * z.width) m)) ≡ 3 * length (runs_of z m)
  pub lists : sets runs at (numbers (rows_runs z.width (z.height - row) row (drop (row * z.width) m))) ≡ sets runs₀ 0 (numbers (runs_of z m))

pub rows_blanked_none : (fill : Fill) (z : Size) (f m runs : List ℕ) → RowsBlanked fill z f m runs f runs 0 0
rows_blanked_none fill z f m runs =
    let e : z.height - 0 ≡ z.height = omega arith in
    record {
      below = omega arith;
      kept = refl;
      kept_runs = refl;
      samples_are = rw (zero-mul z.width, e);
      place = rw (zero-mul z.width, e) (omega arith);
      lists = rw (zero-mul z.width, e);
    }

module _ {fill : Fill} {z : Size} {f₀ m runs₀ f runs : List ℕ} {at row : ℕ} (b : RowsBlanked fill z f₀ m runs₀ f runs at row)
    (p : FrameLent z f₀ m runs₀) (h : row < z.height) where
  abbrev w : ℕ
  w = z.width

  abbrev part : List ℕ → List ℕ
  part l = mid_of (row * w) (row * w + w - row * w) l

  abbrev left : ℕ
  left = length (rows_runs w (z.height - (row + 1)) (row + 1) (drop ((row + 1) * w) m))

  listed : length (rows_runs w (z.height - row) row (drop (row * w) m)) ≡ length (row_runs row (part m)) + left
  listed = ap length (runs_next w z.height row h m) ∙ length-append (row_runs row (part m)) (rows_runs w (z.height - (row + 1)) (row + 1) (drop ((row + 1) * w) m))

  room : row * w + w ≤ length m
  room = (row_room z m row p.map_lent h).0

  room_f : row * w + w ≤ length f
  room_f = omega (arith, room, b.kept, p.written, p.map_lent.read)

  pub row_lent : RowLent row (part f) (part m) at runs
  row_lent =
      record {
        few = omega (arith, p.map_lent.high);
        wide = omega (arith, row_length w row m room, p.map_lent.wide);
        written = row_length w row f room_f ∙ sym (row_length w row m room);
        room = omega (arith, b.place, listed, p.room, b.kept_runs);
      }

  pub rows_blanked_more : (new runs' : List ℕ) (at' : ℕ) → RowBlanked fill row (part f) (part m) at runs at' new runs'
      → RowsBlanked fill z f₀ m runs₀ (put_mid (row * w) (row * w + w - row * w) f new) runs' at' (row + 1)
  unfolding blank_rows
  rows_blanked_more new runs' at' r =
      let wide : length new ≡ w = ap length r.samples_left ∙ blank_row_length fill (part f) (part m) ∙ row_length w row f room_f in
      let t : length (take (row * w) f) ≡ row * w = length-take-le (row * w) f (omega (arith, room_f)) in
      let front : length (take (row * w) f ++ new) ≡ (row + 1) * w = length-append (take (row * w) f) new ∙ omega (arith, t, wide) in
      let rest : drop (row * w + w - row * w) (drop (row * w) f) ≡ drop ((row + 1) * w) f =
      (let k : row * w + w - row * w ≡ w = omega arith in rw k (next_row w z.height row h f)) in
      let all : put_mid (row * w) (row * w + w - row * w) f new ≡ (take (row * w) f ++ new) ++ drop ((row + 1) * w) f =
      ap (λ l. take (row * w) f ++ (new ++ l)) rest ∙ sym (append_assoc (take (row * w) f) new (drop ((row + 1) * w) f)) in
      let after = blank_rows fill w (z.height - (row + 1)) (drop ((row + 1) * w) f) (drop ((row + 1) * w) m) in
      let step : blank_rows fill w (z.height - row) (drop (row * w) f) (drop (row * w) m) ≡ new ++ after =
      rw (rows_left w z.height row h, next_row w z.height row h f, next_row w z.height row h m, ← row_part w row f, ← row_part w row m, ← r.samples_left) in
      let long : length (numbers (row_runs row (part m))) ≡ 3 * length (row_runs row (part m)) = numbers_length (row_runs row (part m)) in
      let left-runs = rows_runs w (z.height - (row + 1)) (row + 1) (drop ((row + 1) * w) m) in
      rw all
      record {
        below = omega arith;
        kept = length-append (take (row * w) f ++ new) (drop ((row + 1) * w) f) ∙ omega (arith, front, length-drop ((row + 1) * w) f, room_f, b.kept);
        kept_runs = ap length r.runs_left ∙ length-sets runs at (numbers (row_runs row (part m))) ∙ b.kept_runs;
        samples_are =
            ap₂ (λ x y. x ++ blank_rows fill w (z.height - (row + 1)) y (drop ((row + 1) * w) m))
            (take_at (take (row * w) f ++ new) (drop ((row + 1) * w) f) ((row + 1) * w) front)
            (drop_at (take (row * w) f ++ new) (drop ((row + 1) * w) f) ((row + 1) * w) front)
            ∙ append_assoc (take (row * w) f) new after ∙ ap (λ x. take (row * w) f ++ x) (sym step) ∙ b.samples_are;
        place = omega (arith, b.place, listed, r.place);
        lists =
            ap₂ (λ l k. sets l k (numbers left-runs)) r.runs_left (r.place ∙ ap (λ n. at + n) (sym long))
            ∙ sym (sets_append (numbers (row_runs row (part m))) (numbers left-runs) runs at)
            ∙ ap (sets runs at) (sym (ap numbers (runs_next w z.height row h m) ∙ numbers_append (row_runs row (part m)) left-runs)) ∙ b.lists;
      }

pub rows_blanked_all : {fill : Fill} {z : Size} {f₀ m runs₀ f runs : List ℕ} {at row : ℕ} → z.height ≤ row → FrameLent z f₀ m runs₀
    → RowsBlanked fill z f₀ m runs₀ f runs at row → (f ≡ blanked fill z f₀ m) × (runs ≡ sets runs₀ 0 (numbers (runs_of z m)))
unfolding blank_rows rows_runs numbers
rows_blanked_all {fill} {z} {f₀} {m} {runs₀} {f} {runs} {at} {row} h p b =
    let last : z.height - row ≡ 0 = omega arith in
    (sym (take-append-drop (row * z.width) f) ∙ rw last at b.samples_are, rw last at b.lists)
