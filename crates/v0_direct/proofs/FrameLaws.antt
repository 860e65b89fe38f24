-- A frame: what is left of its rows comes to all of them, with the pairs of rows that they free, and so do their missing words with
-- those counted before.
use mathlib.Core.Path.{◌≡◌, refl, sym, ap, ap₂, ◌∙◌}
use mathlib.Core.List.{List, ◌++◌}
use Prim.Native.Nat.{ℕ, suc, ◌+◌, ◌-◌, ◌*◌, ◌/◌, ◌≤◌, ◌<◌, min}
use native.Mathlib.Omega.{arith}
use native.Mathlib.Numerals.{add-one}
use lib.ListN.{length, get_or}
use Rattle.rules.specs.Reader.{most_filler}
use Rattle.rules.specs.V0.{Kind, Block, write_all, exchange_rows, frame, decoded, sample_kind, rows, row_blocks, rows_filler, frame_filler}
use Rattle.rules.specs.Map.{v0_marks}
use Rattle.rules.specs.Phases.{first_rows}
use Rattle.rules.specs.declared.answer.Size.{Size}
use Rattle.v0_direct.specs.Freed.{freed_pairs, rows_freed}
use Rattle.v0_direct.specs.FrameLent.{FrameLent, InRow}
use Rattle.rules.proofs.V0Cells.{write_all_length, write_all_append}
use Rattle.v0_cells.specs.Places.{PairsLent}
use Rattle.v0_cells.proofs.ExchangeLaws.{rows_length}
use Rattle.v0_direct.proofs.FreedLaws.{exchange_past, freed_on, freed_then_left}

-- What is lent whole still holds its pairs of rows, as long as no length changed.
pairs_lent : (z : Size) (offsets out₀ map₀ out map : List ℕ) (from to : ℕ) → FrameLent z offsets out₀ map₀ → from ≤ to → to ≤ z.height / 2
    → length out ≡ length out₀ → length map ≡ length map₀ → PairsLent z from to out map
pairs_lent z offsets out₀ map₀ out map from to i l h eo em =
    record { width = i.width; height = i.height; pairs = l; pairs_in = h; samples_lent = eo ∙ i.samples_lent; map_lent = rw em i.map_lent }

-- ── Samples, or marks ──

freed_length : (k : Kind ℕ) (s offsets : List ℕ) (z : Size) (count : ℕ) (f : List ℕ) → length (rows_freed k s offsets z count f) ≡ length f
unfolding rows_freed
freed_length k s offsets z count f = rows_length k z.width (freed_pairs count) 0 _ ∙ write_all_length k (rows s offsets z count 0) f

module _ (k : Kind ℕ) (s offsets : List ℕ) (z : Size) (count : ℕ) (f₀ : List ℕ) where
  -- The rows from a row on, and then the pairs that they free.
  abbrev finished : ℕ → List ℕ → List ℕ
  finished row f = exchange_rows k z.width (freed_pairs count - freed_pairs row) (freed_pairs row * 2) (write_all k (rows s offsets z (count - row) row) f)

  pub record Freeing (f : List ℕ) (row : ℕ) : Type 0 where
    pub same_length : length f ≡ length f₀
    pub cells_are : finished row f ≡ rows_freed k s offsets z count f₀

  freeing_begun : Freeing f₀ 0
  unfolding rows_freed
  freeing_begun =
      let pairs : freed_pairs count - freed_pairs 0 ≡ freed_pairs count = omega arith in
      let all : count - 0 ≡ count = omega arith in
      record { same_length = refl; cells_are = rw (pairs, all) }

  -- A row, and then the pairs that it was the last to read.
  freeing_on : (f f' f'' : List ℕ) (row offset from to : ℕ) → row < count → offset ≡ get_or offsets row 0 → f' ≡ write_all k (row_blocks s z row offset).blocks f
      → from ≡ freed_pairs row → to ≡ freed_pairs (row + 1) → f'' ≡ exchange_rows k z.width (to - from) (from * 2) f' → Freeing f row → Freeing f'' (row + 1)
  unfolding rows
  freeing_on f f' f'' row offset from to l e ew ef et ex r =
      record {
        same_length = ap length ex ∙ rows_length k w (to - from) (from * 2) f' ∙ ap length ew ∙ write_all_length k _ f ∙ r.same_length;
        cells_are =
            ap (λ x. exchange_rows k w (freed_pairs count - freed_pairs (row + 1)) (freed_pairs (row + 1) * 2) (write_all k rest x)) ex
            ∙ sym (freed_on k w count row from to (write_all k rest) f' l ef et (exchange_past k s offsets z (to - from) (from * 2) (count - (row + 1)) (row + 1) (omega arith) f'))
            ∙ sym (ap (exchange_rows k w (freed_pairs count - freed_pairs row) (freed_pairs row * 2)) first) ∙ r.cells_are;
      }
    where
      w : ℕ
      w = z.width

      rest : List Block
      rest = rows s offsets z (count - (row + 1)) (row + 1)

      first : write_all k (rows s offsets z (count - row) row) f ≡ write_all k rest f'
      first =
          let more : count - row ≡ suc (count - (row + 1)) = omega arith in
          ap (λ n. write_all k (rows s offsets z n row) f) more
          ∙ ap₂ (λ o n. write_all k ((row_blocks s z row o).blocks ++ rows s offsets z (count - (row + 1)) n) f) (sym e) (sym (add-one row))
          ∙ write_all_append k (row_blocks s z row offset).blocks rest f
          ∙ ap (write_all k rest) (sym ew)

  -- No row is left.
  pub freed_all : (f : List ℕ) (row : ℕ) → row ≡ count → Freeing f row → f ≡ rows_freed k s offsets z count f₀
  unfolding rows exchange_rows write_all
  freed_all f row e r =
      let pairs : freed_pairs count - freed_pairs row ≡ 0 = omega arith in
      let none : count - row ≡ 0 = omega arith in
      rw (pairs, none) at r.cells_are

-- ── Both, and the missing words ──

pub record Going (s offsets : List ℕ) (z : Size) (count : ℕ) (out₀ out map₀ map : List ℕ) (filler row : ℕ) : Type 0 where
  pub below : row ≤ count
  pub samples_left : Freeing sample_kind s offsets z count out₀ out row
  pub marks_left : Freeing v0_marks s offsets z count map₀ map row
  pub filler_left : rows_filler s offsets z (count - row) row filler ≡ rows_filler s offsets z count 0 0

module _ (s offsets : List ℕ) (z : Size) (count : ℕ) (out₀ map₀ : List ℕ) where
  pub going_begun : Going s offsets z count out₀ out₀ map₀ map₀ 0 0
  going_begun =
      let q : count - 0 ≡ count = omega arith in
      record {
        below = omega arith;
        samples_left = freeing_begun sample_kind s offsets z count out₀;
        marks_left = freeing_begun v0_marks s offsets z count map₀;
        filler_left = ap (λ n. rows_filler s offsets z n 0 0) q;
      }

  module _ (i : FrameLent z offsets out₀ map₀ × (count ≤ z.height)) where
    pub row_lent : (out map : List ℕ) (filler row : ℕ) → row < count → Going s offsets z count out₀ out map₀ map filler row → InRow z row out map
    row_lent out map filler row l r =
        record {
          width = i.0.width;
          height = i.0.height;
          row_in = omega (arith, i.1);
          samples_lent = r.samples_left.same_length ∙ i.0.samples_lent;
          map_lent = rw r.marks_left.same_length i.0.map_lent;
        }

    -- After a row the frame still holds the pairs that it frees.
    pub freed_lent : (out out' map map' : List ℕ) (bs : List Block) (filler row from to : ℕ) → row < count → out' ≡ write_all sample_kind bs out
        → map' ≡ write_all v0_marks bs map → from ≡ freed_pairs row → to ≡ freed_pairs (row + 1) → Going s offsets z count out₀ out map₀ map filler row
        → PairsLent z from to out' map'
    freed_lent out out' map map' bs filler row from to l eo em ef et r =
        pairs_lent z offsets out₀ map₀ out' map' from to i.0 (omega arith) (omega (arith, i.1))
        (ap length eo ∙ write_all_length sample_kind bs out ∙ r.samples_left.same_length) (ap length em ∙ write_all_length v0_marks bs map ∙ r.marks_left.same_length)

  pub going_on : (out out' out'' map map' map'' : List ℕ) (filler missing filler' row offset from to : ℕ) → row < count → offset ≡ get_or offsets row 0
      → missing ≡ (row_blocks s z row offset).bits.filler → out' ≡ write_all sample_kind (row_blocks s z row offset).blocks out
      → map' ≡ write_all v0_marks (row_blocks s z row offset).blocks map → filler' ≡ min (filler + missing) most_filler
      → from ≡ freed_pairs row → to ≡ freed_pairs (row + 1) → out'' ≡ exchange_rows sample_kind z.width (to - from) (from * 2) out'
      → map'' ≡ exchange_rows v0_marks z.width (to - from) (from * 2) map'
      → Going s offsets z count out₀ out map₀ map filler row → Going s offsets z count out₀ out'' map₀ map'' filler' (row + 1)
  unfolding rows_filler
  going_on out out' out'' map map' map'' filler missing filler' row offset from to l e en eo em ec ef et xo xm r =
      record {
        below = omega arith;
        samples_left = freeing_on sample_kind s offsets z count out₀ out out' out'' row offset from to l e eo ef et xo r.samples_left;
        marks_left = freeing_on v0_marks s offsets z count map₀ map map' map'' row offset from to l e em ef et xm r.marks_left;
        filler_left = sym counts ∙ r.filler_left;
      }
    where
      held : filler' ≡ min (filler + (row_blocks s z row (get_or offsets row 0)).bits.filler) most_filler
      held = ec ∙ ap (λ m. min (filler + m) most_filler) (en ∙ ap (λ o. (row_blocks s z row o).bits.filler) e)

      counts : rows_filler s offsets z (count - row) row filler ≡ rows_filler s offsets z (count - (row + 1)) (row + 1) filler'
      counts =
          let more : count - row ≡ suc (count - (row + 1)) = omega arith in
          ap (λ n. rows_filler s offsets z n row filler) more
          ∙ ap₂ (λ n k. rows_filler s offsets z (count - (row + 1)) n k) (sym (add-one row)) (sym held)

pub counted_all : (s offsets : List ℕ) (z : Size) (count filler row : ℕ) → count ≤ row
    → rows_filler s offsets z (count - row) row filler ≡ rows_filler s offsets z count 0 0 → filler ≡ rows_filler s offsets z count 0 0
unfolding rows_filler
counted_all s offsets z count filler row l r =
    let e : count - row ≡ 0 = omega arith in
    sym (ap (λ n. rows_filler s offsets z n row filler) e) ∙ r

-- ── The first rows, and the whole frame ──

-- The first two rows, or as many as there are.
module _ (k : Kind ℕ) (s offsets : List ℕ) (z : Size) where
  row_then : (n row : ℕ) (f f' : List ℕ) → f' ≡ write_all k (row_blocks s z row (get_or offsets row 0)).blocks f
      → write_all k (rows s offsets z n (suc row)) f' ≡ write_all k (rows s offsets z (suc n) row) f
  unfolding rows
  row_then n row f f' e = ap (write_all k (rows s offsets z n (suc row))) e ∙ sym (write_all_append k _ (rows s offsets z n (suc row)) f)

  -- What is left of them from a row on comes to them all.
  pub record First (f₀ f : List ℕ) (row : ℕ) : Type 0 where
    pub same_length : length f ≡ length f₀
    pub cells_are : write_all k (rows s offsets z (min z.height 2 - row) row) f ≡ first_rows k s offsets z f₀

  pub first_begun : (f : List ℕ) → First f f 0
  unfolding first_rows
  first_begun f = let all : min z.height 2 - 0 ≡ min z.height 2 = omega arith in record { same_length = refl; cells_are = rw all }

  pub first_on : (f₀ f f' : List ℕ) (row : ℕ) → row < min z.height 2 → f' ≡ write_all k (row_blocks s z row (get_or offsets row 0)).blocks f
      → First f₀ f row → First f₀ f' (row + 1)
  first_on f₀ f f' row l e r =
      let more : min z.height 2 - row ≡ suc (min z.height 2 - (row + 1)) = omega arith in
      record {
        same_length = ap length e ∙ write_all_length k _ f ∙ r.same_length;
        cells_are =
            ap (λ n. write_all k (rows s offsets z (min z.height 2 - (row + 1)) n) f') (add-one row)
            ∙ row_then (min z.height 2 - (row + 1)) row f f' e
            ∙ ap (λ n. write_all k (rows s offsets z n row) f) (sym more)
            ∙ r.cells_are;
      }

  pub first_all : (f₀ f : List ℕ) (row : ℕ) → row ≡ min z.height 2 → First f₀ f row → f ≡ first_rows k s offsets z f₀
  unfolding rows write_all
  first_all f₀ f row e r = let none : min z.height 2 - row ≡ 0 = omega arith in rw none at r.cells_are

-- All rows' missing words are the frame's.
pub filler_is : (s offsets : List ℕ) (z : Size) (n : ℕ) → n ≡ rows_filler s offsets z z.height 0 0 → n ≡ frame_filler s offsets z
unfolding frame_filler
filler_is s offsets z n e = e

module _ (s offsets : List ℕ) (z : Size) (from to : ℕ) (ef : from ≡ freed_pairs z.height) (et : to ≡ z.height / 2) where
  -- All rows with the pairs that they free, and then the pair that is left, are the frame.
  pub frame_is : (k : Kind ℕ) (f g r : List ℕ) → g ≡ rows_freed k s offsets z z.height f → r ≡ exchange_rows k z.width (to - from) (from * 2) g
      → r ≡ frame k s offsets z f
  unfolding rows_freed frame
  frame_is k f g r eg er = freed_then_left k z from to _ g r ef et eg er

  pub decoded_is : (f g r : List ℕ) → g ≡ rows_freed sample_kind s offsets z z.height f → r ≡ exchange_rows sample_kind z.width (to - from) (from * 2) g
      → r ≡ decoded s offsets z f
  unfolding decoded
  decoded_is = frame_is sample_kind

  -- The rows change no length, so that the frame still holds that pair.
  pub last_lent : (out out' map map' : List ℕ) → FrameLent z offsets out map → out' ≡ rows_freed sample_kind s offsets z z.height out
      → map' ≡ rows_freed v0_marks s offsets z z.height map → PairsLent z from to out' map'
  last_lent out out' map map' i eo em =
      pairs_lent z offsets out map out' map' from to i (omega arith) (omega arith) (ap length eo ∙ freed_length sample_kind s offsets z z.height out)
      (ap length em ∙ freed_length v0_marks s offsets z z.height map)
