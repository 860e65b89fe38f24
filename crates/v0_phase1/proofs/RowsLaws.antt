-- Phase one row by row: a row that is lent as a part of the frame is stored where it lies, and what is left from here comes to the
-- whole from the start.
use mathlib.Core.Path.{◌≡◌, refl, sym, ap, ◌∙◌}
use mathlib.Core.Bool.{Bool, true, false, cond}
use mathlib.Core.List.{List, [], ◌∷◌, ◌++◌, map, append_assoc, append-nil}
use Prim.Native.Nat.{ℕ, suc, ◌+◌, ◌-◌, ◌*◌, ◌≤◌, ◌<◌}
use native.Mathlib.Omega.{arith}
use native.Mathlib.Nat.{mul_comm}
use lib.Dec.{ltb}
use lib.ListN.{length, get_or, set, take, drop, length-drop, length-append, drop_of_length-le, take-append-drop}
use lib.Seq.{take_all, take-set-le, drop-set-add, length-take-le, take_at, drop-append-add, drop-drop}
use borrow.Author.Tests.{le-ltb}
use borrow.Rule.Slice.PartMut.{mid_of, put_mid}
use Rattle.rules.specs.V0.{order, blocks_in, fresh_row}
use Rattle.rules.specs.Phases.{BlockRecord, row_records, store_samples, store_blocks, phase_one, direction, directions, scratch}
use Rattle.rules.specs.Answer.{scratch_bytes}
use Rattle.rules.specs.declared.answer.Size.{Size}
use Rattle.rules.proofs.TwoPhase.{row_directions_length, scratch_length}
use Rattle.v0_cells.proofs.RoomLaws.{directions_within}

-- ── A row where it lies ──

module _ (a w : ℕ) where
  samples_before : (col : ℕ) (cs vs f : List ℕ) → take a (store_samples a w col cs vs f) ≡ take a f
  unfolding store_samples
  samples_before col [] vs f = refl
  samples_before col (c ∷ cs) [] f = refl
  samples_before col (c ∷ cs) (v ∷ vs) f = samples_before col cs vs _ ∙ go (ltb (col + c) w)
    where
      go : (t : Bool) → take a (cond t (set f (a + col + c) v) f) ≡ take a f
      go true = take-set-le a f (a + col + c) v (omega arith)
      go false = refl

  samples_after : (col : ℕ) (cs vs f : List ℕ) → drop a (store_samples a w col cs vs f) ≡ store_samples 0 w col cs vs (drop a f)
  unfolding store_samples
  samples_after col [] vs f = refl
  samples_after col (c ∷ cs) [] f = refl
  samples_after col (c ∷ cs) (v ∷ vs) f = samples_after col cs vs _ ∙ ap (store_samples 0 w col cs vs) (go (ltb (col + c) w))
    where
      go : (t : Bool) → drop a (cond t (set f (a + col + c) v) f) ≡ cond t (set (drop a f) (0 + col + c) v) (drop a f)
      go true =
          let e : a + col + c ≡ a + (0 + col + c) = omega arith in
          rw e (drop-set-add a f (0 + col + c) v)
      go false = refl

  blocks_before : (col : ℕ) (rs : List BlockRecord) (f : List ℕ) → take a (store_blocks a w col rs f) ≡ take a f
  unfolding store_blocks
  blocks_before col [] f = refl
  blocks_before col (r ∷ rs) f = blocks_before (col + 16) rs _ ∙ samples_before col order r.residuals f

  blocks_after : (col : ℕ) (rs : List BlockRecord) (f : List ℕ) → drop a (store_blocks a w col rs f) ≡ store_blocks 0 w col rs (drop a f)
  unfolding store_blocks
  blocks_after col [] f = refl
  blocks_after col (r ∷ rs) f = blocks_after (col + 16) rs _ ∙ ap (store_blocks 0 w (col + 16) rs) (samples_after col order r.residuals f)

  -- Storing a row to the part of the frame that starts at its first sample is storing it to the frame.
  pub row_in_frame : (rs : List BlockRecord) (f : List ℕ) → take a f ++ store_blocks 0 w 0 rs (drop a f) ≡ store_blocks a w 0 rs f
  row_in_frame rs f =
      rw (← blocks_before 0 rs f, ← blocks_after 0 rs f) (take-append-drop a (store_blocks a w 0 rs f))

-- ── Parts ──

-- A part that reaches to the end is what stands from its start on, and nothing lies after it.
pub tail_lent : (a : ℕ) (xs : List ℕ) → mid_of a (length xs - a) xs ≡ drop a xs
tail_lent a xs = take_all (length xs - a) (drop a xs) (omega (arith, length-drop a xs))

pub tail_back : (a : ℕ) (xs ys : List ℕ) → put_mid a (length xs - a) xs ys ≡ take a xs ++ ys
tail_back a xs ys = rw (drop_of_length-le (drop a xs) {i = length xs - a} (omega (arith, length-drop a xs)), append-nil)

-- ── A row that is lent as parts ──

-- From row 2 on every row starts alike.
late_records : (s : List ℕ) (w row offset : ℕ) → 2 ≤ row → row_records s w 2 offset ≡ row_records s w row offset
unfolding row_records fresh_row
late_records s w row offset h = rw (le-ltb row 2 h)

module _ (s : List ℕ) (w r offset : ℕ) where
  -- A row's residuals come to lie in the frame where the row lies.
  pub row_stored : (f ys : List ℕ) → ys ≡ store_blocks 0 w 0 (row_records s w 2 offset) (mid_of ((r + 2) * w) (length f - (r + 2) * w) f)
      → put_mid ((r + 2) * w) (length f - (r + 2) * w) f ys ≡ store_blocks ((r + 2) * w) w 0 (row_records s w (r + 2) offset) f
  row_stored f ys q =
      let late = late_records s w (r + 2) offset (omega arith) in
      let q' : ys ≡ store_blocks 0 w 0 (row_records s w (r + 2) offset) (drop ((r + 2) * w) f) = rw (tail_lent ((r + 2) * w) f, late) at q in
      rw (tail_back ((r + 2) * w) f ys, q', row_in_frame ((r + 2) * w) w (row_records s w (r + 2) offset) f)

  -- A row's directions come to lie in the scratch between what stood before them and what stood after them.
  pub row_directed : (n : ℕ) (ds zs : List ℕ) → zs ≡ map direction (row_records s w 2 offset) ++ drop n (mid_of (r * n) (length ds - r * n) ds)
      → put_mid (r * n) (length ds - r * n) ds zs ≡ (take (r * n) ds ++ map direction (row_records s w (r + 2) offset)) ++ drop (r * n + n) ds
  row_directed n ds zs q =
      let late = late_records s w (r + 2) offset (omega arith) in
      let bytes = map direction (row_records s w (r + 2) offset) in
      let q' : zs ≡ bytes ++ drop n (drop (r * n) ds) = rw (tail_lent (r * n) ds, late) at q in
      tail_back (r * n) ds zs
      ∙ ap (λ xs. take (r * n) ds ++ xs) (q' ∙ ap (λ xs. bytes ++ xs) (drop-drop n (r * n) ds))
      ∙ sym (append_assoc (take (r * n) ds) bytes (drop (r * n + n) ds))

module _ (s offsets : List ℕ) (w h : ℕ) where
  abbrev n : ℕ
  n = blocks_in w

  abbrev records : ℕ → List BlockRecord
  records r = row_records s w (r + 2) (get_or offsets (r + 2) 0)

  -- ── The scratch ──

  pub record Filled (ds₀ ds : List ℕ) (r : ℕ) : Type 0 where
    pub below : r ≤ h - 2
    pub same_dirs : length ds ≡ length ds₀
    pub dirs_are : take (r * n) ds ++ directions s offsets w (h - 2 - r) (r + 2) ≡ directions s offsets w (h - 2) 2
    pub rest_is : drop (n * (h - 2)) ds ≡ drop (n * (h - 2)) ds₀

  filled_begun : (ds : List ℕ) → Filled ds ds 0
  filled_begun ds =
      let z : h - 2 - 0 ≡ h - 2 = omega arith in
      let first : 0 + 2 ≡ 2 = omega arith in
      let none : 0 * n ≡ 0 = omega arith in
      record { below = omega arith; same_dirs = refl; dirs_are = rw (z, first, none); rest_is = refl }

  module _ (ds : List ℕ) (r : ℕ) (l : r + 2 < h) (enough : n * (h - 2) ≤ length ds) where
    -- The directions of the rows before, and of this one.
    abbrev front : List ℕ
    front = take (r * n) ds ++ map direction (records r)

    room : r * n + n ≤ n * (h - 2)
    room = directions_within n h r (n * (h - 2)) l (omega arith)

    front_length : length front ≡ r * n + n
    front_length =
        rw (length-append, length-take-le (r * n) ds (omega (arith, room)), row_directions_length s w (r + 2) (get_or offsets (r + 2) 0))

    front_left : take (r * n) ds ++ directions s offsets w (h - 2 - r) (r + 2) ≡ front ++ directions s offsets w (h - 2 - (r + 1)) (r + 1 + 2)
    unfolding directions
    front_left =
        let more : h - 2 - r ≡ suc (h - 2 - (r + 1)) = omega arith in
        let next_row : r + 1 + 2 ≡ suc (r + 2) = omega arith in
        rw (more, next_row, append_assoc)

    rest_kept : drop (n * (h - 2)) (front ++ drop (r * n + n) ds) ≡ drop (n * (h - 2)) ds
    rest_kept =
        let e : n * (h - 2) ≡ length front + (n * (h - 2) - (r * n + n)) = omega (arith, front_length, room) in
        let e' : r * n + n + (n * (h - 2) - (r * n + n)) ≡ n * (h - 2) = omega (arith, room) in
        ap (λ k. drop k (front ++ drop (r * n + n) ds)) e
        ∙ drop-append-add front (drop (r * n + n) ds) (n * (h - 2) - (r * n + n))
        ∙ drop-drop (n * (h - 2) - (r * n + n)) (r * n + n) ds
        ∙ ap (λ k. drop k ds) e'

    filled_on : (ds₀ ds' : List ℕ) → length ds' ≡ length ds → ds' ≡ front ++ drop (r * n + n) ds → Filled ds₀ ds r → Filled ds₀ ds' (r + 1)
    filled_on ds₀ ds' same q p =
        let start : (r + 1) * n ≡ r * n + n = omega arith in
        record {
          below = omega arith;
          same_dirs = same ∙ p.same_dirs;
          dirs_are =
              ap (λ xs. xs ++ directions s offsets w (h - 2 - (r + 1)) (r + 1 + 2))
              (ap (λ k. take k ds') start ∙ ap (take (r * n + n)) q ∙ take_at front (drop (r * n + n) ds) (r * n + n) front_length)
              ∙ sym front_left ∙ p.dirs_are;
          rest_is = ap (drop (n * (h - 2))) q ∙ rest_kept ∙ p.rest_is;
        }

  filled_done : (ds₀ ds : List ℕ) (r : ℕ) → h ≤ r + 2 → Filled ds₀ ds r → ds ≡ directions s offsets w (h - 2) 2 ++ drop (n * (h - 2)) ds₀
  unfolding directions
  filled_done ds₀ ds r l p =
      let none : h - 2 - r ≡ 0 = omega arith in
      let all : r * n ≡ n * (h - 2) = let e : r ≡ h - 2 = omega (arith, p.below) in rw e (mul_comm (h - 2) n) in
      let d : take (n * (h - 2)) ds ≡ directions s offsets w (h - 2) 2 = rw (none, append-nil, all) at p.dirs_are in
      sym (take-append-drop (n * (h - 2)) ds) ∙ ap (λ xs. xs ++ drop (n * (h - 2)) ds) d
      ∙ ap (λ xs. directions s offsets w (h - 2) 2 ++ xs) p.rest_is

  -- ── Rows ──

  -- What so many rows from a row on leave of the samples, phase one alone or both: what is left from here comes to all of them.
  module _ (leave : ℕ → ℕ → List ℕ → List ℕ) where
    pub record Rows (f₀ f ds₀ ds : List ℕ) (r : ℕ) : Type 0 where
      pub filled : Filled ds₀ ds r
      pub same_samples : length f ≡ length f₀
      pub cells_are : leave (h - 2 - r) (r + 2) f ≡ leave (h - 2) 2 f₀

    pub rows_begun : (f ds : List ℕ) → Rows f f ds ds 0
    rows_begun f ds =
        let z : h - 2 - 0 ≡ h - 2 = omega arith in
        let first : 0 + 2 ≡ 2 = omega arith in
        record { filled = filled_begun ds; same_samples = refl; cells_are = rw (z, first) }

    pub rows_on : (f₀ f f' ds₀ ds ds' : List ℕ) (r : ℕ) → r + 2 < h → n * (h - 2) ≤ length ds → length f' ≡ length f → length ds' ≡ length ds
        → ((m : ℕ) → leave (suc m) (r + 2) f ≡ leave m (suc (r + 2)) f')
        → ds' ≡ (take (r * n) ds ++ map direction (records r)) ++ drop (r * n + n) ds → Rows f₀ f ds₀ ds r → Rows f₀ f' ds₀ ds' (r + 1)
    rows_on f₀ f f' ds₀ ds ds' r l enough sf sd ef ed p =
        let more : h - 2 - r ≡ suc (h - 2 - (r + 1)) = omega arith in
        let next_row : r + 1 + 2 ≡ suc (r + 2) = omega arith in
        let left : leave (h - 2 - r) (r + 2) f ≡ leave (h - 2 - (r + 1)) (r + 1 + 2) f' = rw (more, next_row) (ef (h - 2 - (r + 1))) in
        record { filled = filled_on ds r l enough ds₀ ds' sd ed p.filled; same_samples = sf ∙ p.same_samples; cells_are = sym left ∙ p.cells_are }

    pub rows_done : ((row : ℕ) (f : List ℕ) → leave 0 row f ≡ f) → (f₀ f ds₀ ds : List ℕ) (r : ℕ) → h ≤ r + 2 → Rows f₀ f ds₀ ds r
        → (f ≡ leave (h - 2) 2 f₀) × (ds ≡ directions s offsets w (h - 2) 2 ++ drop (n * (h - 2)) ds₀)
    rows_done none f₀ f ds₀ ds r l p =
        let z : h - 2 - r ≡ 0 = omega arith in
        (sym (none (r + 2) f) ∙ (rw z at p.cells_are), filled_done ds₀ ds r l p.filled)

  -- Phase one of a row that is lent as parts.
  module _ (f ds : List ℕ) (r : ℕ) (l : r + 2 < h) (enough : n * (h - 2) ≤ length ds) where
    abbrev first : ℕ
    first = (r + 2) * w

    pub parts_on : (f₀ ds₀ ys zs : List ℕ)
        → length (put_mid first (length f - first) f ys) ≡ length f
        → length (put_mid (r * n) (length ds - r * n) ds zs) ≡ length ds
        → ys ≡ store_blocks 0 w 0 (row_records s w 2 (get_or offsets (r + 2) 0)) (mid_of first (length f - first) f)
        → zs ≡ map direction (row_records s w 2 (get_or offsets (r + 2) 0)) ++ drop n (mid_of (r * n) (length ds - r * n) ds)
        → Rows (phase_one s offsets w) f₀ f ds₀ ds r
        → Rows (phase_one s offsets w) f₀ (put_mid first (length f - first) f ys) ds₀ (put_mid (r * n) (length ds - r * n) ds zs) (r + 1)
    unfolding phase_one
    parts_on f₀ ds₀ ys zs sf sd qy qz p =
        let offset = get_or offsets (r + 2) 0 in
        rows_on (phase_one s offsets w) f₀ f _ ds₀ ds _ r l enough sf sd
        (λ m. ap (phase_one s offsets w m (suc (r + 2))) (sym (row_stored s w r offset f ys qy))) (row_directed s w r offset n ds zs qz) p

-- The bytes that the directions take are as many as there are directions.
pub directions_done : (s offsets : List ℕ) (z : Size) (ds₀ ds : List ℕ) → ds ≡ scratch s offsets z ++ drop (scratch_bytes z) ds₀
    → ds ≡ scratch s offsets z ++ drop (length (scratch s offsets z)) ds₀
directions_done s offsets z ds₀ ds e = e ∙ ap (λ n. scratch s offsets z ++ drop n ds₀) (sym (scratch_length s offsets z))
