-- Every good list of steps leaves the cells that phase two leaves: both finish every cell of rows 2 on, and a place has one
-- finished cell.
use Prim.Native.Nat.{ℕ, zero, suc, ◌+◌, ◌-◌, ◌*◌, ◌/◌, ◌%◌, ◌≤◌, ◌<◌, min, max}
use mathlib.Core.Bool.{true, ◌&&◌}
use mathlib.Core.Path.{◌≡◌, refl, sym, ap, subst, ◌∙◌}
use mathlib.Core.Logic.{◌≢◌, by_cases}
use mathlib.Core.List.{List}
use native.Mathlib.Omega.{arith}
use native.Mathlib.Nat.{mul-le-mul_right, mul_comm, mul_assoc, suc-mul, mod-lt, div-add-mod', div-lt_iff_lt-mul, div-mul-le_self, le-div_iff_mul-le, mul-div_right, zero-div, zero-mul, mul-zero, add-mul, lt-div-mul-add}
use native.Mathlib.Decide.{ℕ_discrete, dec_lt}
use lib.Dec.{leb, eqb}
use lib.ListN.{length, get_or, take, drop, length-take, length-drop, get_or-replicate}
use lib.Seq.{get_or-take, get_or-drop, drop-drop, ext_get_or}
use borrow.Author.Tests.{leb-true, eqb-true, ne_eqb}
use Rattle.rules.specs.Frame.{cells}
use Rattle.rules.specs.V0.{Kind, exchange, blocks_in, sample_kind}
use Rattle.rules.specs.Phases.{Stage, sample_stage, predict_blocks, phase_two, scratch, two_phase}
use Rattle.rules.proofs.V0Cells.{phase_one_length, phase_two_length, first_rows_length}
use Rattle.rules.proofs.Spill.{cell}
use Rattle.rules.proofs.TwoPhase.{scratch_length}
use Rattle.rules_bands.specs.declared.Cut.{Cut}
use Rattle.rules_bands.specs.Bands.{late_rows, fits, band_start, blocks_per_band, step_count, step_band, step_block, after, in_turn, none_done, good, row_directions, block_directions, predict_band, do_step, do_steps, in_bands}
use Rattle.rules_bands.proofs.Finished.{at, Done, Ready, Left, still, is_first, Bytes, blocks_left}
use Rattle.rules_bands.proofs.Counters.{Stands, stands, Counts, none_counts, after_own, after_other, counts_after, done_after, Turns, end, next, turns, good_full}
use Rattle.rules.proofs.Tests.{both}

-- ── Places ──

-- The column of block j, of b columns each.
pub column_of : (b j : ℕ) → b % 16 ≡ 0 → j * (b / 16) * 16 ≡ j * b
column_of b j b16 = mul_assoc j (b / 16) 16 ∙ ap (λ x. j * x) (omega arith)

module _ (w : ℕ) where
  -- Places of two rows are apart.
  apart : (r s d e : ℕ) → r ≢ s → d < w → e < w → r * w + d ≢ s * w + e
  apart r s d e ne ld le q =
      by_cases (dec_lt r s)
      (λ l. let z : suc r * w ≤ s * w = mul-le-mul_right w l in omega (arith, suc-mul r w))
      (λ l. let z : suc s * w ≤ r * w = mul-le-mul_right w (omega arith) in omega (arith, suc-mul s w))

  -- So a place has one row and one column.
  pub one_row : (r s d e : ℕ) → d < w → e < w → r * w + d ≡ s * w + e → r ≡ s
  one_row r s d e ld le q = by_cases (ℕ_discrete r s) (λ z. z) (λ z. absurd (apart r s d e z ld le q))

  pub one_column : (r s d e : ℕ) → d < w → e < w → r * w + d ≡ s * w + e → d ≡ e
  one_column r s d e ld le q = let z : r * w ≡ s * w = ap (λ x. x * w) (one_row r s d e ld le q) in omega arith

  -- Frames whose cells are equal at every column of every row are equal.
  pub same_cells : {A : Type 0} (k : Kind A) (h : ℕ) (f f' : List A) → length f ≡ h * w → length f' ≡ h * w
      → ((r d : ℕ) → r < h → d < w → cell k f (r * w + d) ≡ cell k f' (r * w + d)) → f ≡ f'
  same_cells k h f f' lf lf' p = ext_get_or (k.constant 0) f f' (lf ∙ sym lf') (λ i l. go i (rw lf at l) (dec_lt 0 w))
    where
      go : (i : ℕ) → i < h * w → Dec (0 < w) → cell k f i ≡ cell k f' i
      go i l (no z) = let e : w ≡ 0 = omega arith in absurd (omega (arith, ap (λ x. h * x) e, mul-zero h))
      go i l (yes z) = let e : i / w * w + i % w ≡ i = div-add-mod' i w in
          rw e at (p (i / w) (i % w) ((div-lt_iff_lt-mul z).1 l) (mod-lt i z))

module _ {A : Type 0} (g : Stage A) (w h : ℕ) (ds : List ℕ) (start : List A) (bytes : blocks_in w * (h - 2) ≤ length ds) where
  -- ── A row ──

  -- A late row's place in the frame, and its direction bytes.
  row_room : (row n : ℕ) → row < h → n ≡ h * w → row * w + w ≤ n
  row_room row n l e = let q : suc row * w ≤ h * w = mul-le-mul_right w l in omega (arith, suc-mul row w)

  row_bytes : (row : ℕ) → 2 ≤ row → row < h → length (row_directions w row ds) ≡ blocks_in w
  row_bytes row two l =
      let q : suc (row - 2) * blocks_in w ≤ (h - 2) * blocks_in w = mul-le-mul_right (blocks_in w) (omega arith) in
      simp (length-take, length-drop) (omega (arith, suc-mul (row - 2) (blocks_in w), mul_comm (blocks_in w) (h - 2)))

  -- m bytes of it from number i on.
  part_bytes : (row i m : ℕ) → 2 ≤ row → row < h → length (take m (drop i (row_directions w row ds))) ≡ min m (blocks_in w - i)
  part_bytes row i m two l = rw (length-take, length-drop, row_bytes row two l)

  part_are : (row i m : ℕ) → 2 ≤ row → row < h → Bytes g w ds start (take m (drop i (row_directions w row ds))) row (i * 16)
  part_are row i m two l j lj =
      let lj' : j < min m (blocks_in w - i) = rw (part_bytes row i m two l) at lj in
      get_or-take m (drop i (row_directions w row ds)) j 0 (omega arith)
      ∙ get_or-drop i (row_directions w row ds) j 0
      ∙ get_or-take (blocks_in w) (drop ((row - 2) * blocks_in w) ds) (i + j) 0 (omega arith)
      ∙ get_or-drop ((row - 2) * blocks_in w) ds (i + j) 0
      ∙ ap (λ x. get_or ds x 0) (omega arith)

  whole_are : (row : ℕ) → 2 ≤ row → row < h → Bytes g w ds start (row_directions w row ds) row 0
  whole_are row two l j lj =
      let lj' : j < blocks_in w = rw (row_bytes row two l) at lj in
      get_or-take (blocks_in w) (drop ((row - 2) * blocks_in w) ds) j 0 lj'
      ∙ get_or-drop ((row - 2) * blocks_in w) ds j 0
      ∙ ap (λ x. get_or ds x 0) (omega arith)

  -- A cell is finished; or it is as at the start.
  abbrev pub Ended : List A → ℕ → ℕ → Type 0
  Ended f r d = Done g w ds start f r d

  abbrev pub Kept : List A → ℕ → ℕ → Type 0
  Kept f r d = at g w ds start f r d ≡ at g w ds start start r d

  -- ── Rows, one after another ──

  -- All rows before one are finished, and those from it on are as at the start.
  record Down_to (f : List A) (row : ℕ) : Type 0 where
    room : length f ≡ h * w
    above : (r d : ℕ) → r < row → d < w → Ended f r d
    below : (r d : ℕ) → row ≤ r → r < h → d < w → Kept f r d

  row_down : (row : ℕ) → 2 ≤ row → row < h → (f : List A) → Down_to f row
      → Down_to (predict_blocks g w row 0 (row_directions w row ds) f) (suc row)
  row_down row two l f q = record {
    room = p.room ∙ q.room;
    above = λ r d lr ld. go r d lr ld (ℕ_discrete r row);
    below = λ r d lr lh ld. p.same _ (λ e _ _ le. apart w r row d e (λ z. omega arith) ld le) ∙ q.below r d (omega arith) lh ld;
  }
    where
      f₁ : List A
      f₁ = predict_blocks g w row 0 (row_directions w row ds) f

      p : Left g w ds start f f₁ row 0 (0 + 16 * length (row_directions w row ds))
      p = blocks_left g w ds start (row_directions w row ds) row 0 two refl (whole_are row two l) f
          (record {
            room = row_room row (length f) l q.room;
            above = λ u d one l2 la lb lw. q.above (row - u) d (omega arith) lw;
            left = λ d la lb lw. absurd (omega arith);
            kept = λ d la lw. q.below row d (omega arith) l lw;
          })

      go : (r d : ℕ) → r < suc row → d < w → Dec (r ≡ row) → Ended f₁ r d
      go r d lr ld (yes z) = rw z (p.new d (omega arith) (rw (row_bytes row two l) (omega arith)) ld)
      go r d lr ld (no z) = still g w ds start f f₁ r d (q.above r d (omega arith) ld) (p.same _ (λ e _ _ le. apart w r row d e z ld le))

  phase_two_down : (n row : ℕ) → 2 ≤ row → n ≤ h - row → (f : List A) → Down_to f row
      → Down_to (phase_two g w n row (drop ((row - 2) * blocks_in w) ds) f) (row + n)
  unfolding phase_two
  phase_two_down zero row two l f q = let e : row + 0 ≡ row = omega arith in rw e q
  phase_two_down (suc n) row two l f q =
      let e : row + suc n ≡ suc row + n = omega arith in
      let z : suc row - 2 ≡ suc (row - 2) = omega arith in
      let s : (row - 2) * blocks_in w + blocks_in w ≡ (suc row - 2) * blocks_in w = sym (ap (λ x. x * blocks_in w) z ∙ suc-mul (row - 2) (blocks_in w)) in
      rw (e, drop-drop (blocks_in w) ((row - 2) * blocks_in w) ds, s)
      (phase_two_down n (suc row) (omega arith) (omega arith) _ (row_down row two (omega arith) f q))

  -- ── A block of a band ──

  module _ (b : ℕ) (b16 : b % 16 ≡ 0) (j : ℕ) where
    i : ℕ
    i = j * (b / 16)

    col_is : i * 16 ≡ j * b
    unfolding i
    col_is = column_of b j b16

    end_is : suc j * b ≡ j * b + b
    end_is = suc-mul j b

    row_left : (row : ℕ) → 2 ≤ row → row < h → (f : List A) → Ready g w ds start f row (j * b) (suc j * b)
        → Left g w ds start f (predict_blocks g w row (j * b) (block_directions w b j row ds) f) row (j * b) (suc j * b)
    unfolding i
    row_left row two l f q = record {
      room = p.room;
      new = λ d la lb lw. p.new d la (omega (arith, len, col_is, end_is)) lw;
      same = λ n ne. p.same n (λ d la lb lw. ne d la (omega (arith, len, col_is, end_is)) lw);
    }
      where
        es : List ℕ
        es = block_directions w b j row ds

        len : length es ≡ min (b / 16) (blocks_in w - i)
        len = part_bytes row i (b / 16) two l

        are : Bytes g w ds start es row (j * b)
        are = subst (λ (x : ℕ). Bytes g w ds start es row x) col_is (part_are row i (b / 16) two l)

        p : Left g w ds start f (predict_blocks g w row (j * b) es f) row (j * b) (j * b + 16 * length es)
        p = blocks_left g w ds start es row (j * b) two (omega (arith, col_is)) are f
            (record {
              room = q.room;
              above = λ u d one l2 la lb lw. q.above u d one l2 la (omega (arith, len, col_is, end_is)) lw;
              left = q.left;
              kept = q.kept;
            })

    -- Rows of a band in which the block may be done.
    pub record Band_ready (f : List A) (row n : ℕ) : Type 0 where
      pub room : length f ≡ h * w
      pub above : (u d : ℕ) → 1 ≤ u → u ≤ 2 → j * b ≤ d → d < suc j * b → d < w → Ended f (row - u) d
      pub left : (r d : ℕ) → row ≤ r → r < row + n → j * b ≤ d + 2 → d < j * b → d < w → Ended f r d
      pub kept : (r d : ℕ) → row ≤ r → r < row + n → j * b ≤ d → d < w → Kept f r d

    -- What it then leaves.
    pub record Band_left (f f' : List A) (row n : ℕ) : Type 0 where
      pub room : length f' ≡ length f
      pub new : (r d : ℕ) → row ≤ r → r < row + n → j * b ≤ d → d < suc j * b → d < w → Ended f' r d
      pub same : (i : ℕ) → ((r d : ℕ) → row ≤ r → r < row + n → j * b ≤ d → d < suc j * b → d < w → i ≢ r * w + d)
          → cell g.kind f' i ≡ cell g.kind f i

    pub band_left : (n row : ℕ) → 2 ≤ row → n ≤ h - row → (f : List A) → Band_ready f row n
        → Band_left f (predict_band g w b j n row ds f) row n
    unfolding predict_band
    band_left zero row two l f q = record { room = refl; new = λ r d a c. absurd (omega arith); same = λ n ne. refl }
    band_left (suc n) row two l f q = join (band_left n (suc row) (omega arith) (omega arith) f₁ ready₁)
      where
        f₁ : List A
        f₁ = predict_blocks g w row (j * b) (block_directions w b j row ds) f

        p : Left g w ds start f f₁ row (j * b) (suc j * b)
        p = row_left row two (omega arith) f
            (record {
              room = row_room row (length f) (omega arith) q.room;
              above = q.above;
              left = λ d la lb lw. q.left row d (omega arith) (omega arith) la lb lw;
              kept = λ d la lw. q.kept row d (omega arith) (omega arith) la lw;
            })

        -- Another row is unchanged.
        other : (r d : ℕ) → r ≢ row → d < w → at g w ds start f₁ r d ≡ at g w ds start f r d
        other r d ne ld = p.same _ (λ e _ _ le. apart w r row d e ne ld le)

        ready₁ : Band_ready f₁ (suc row) n
        ready₁ = record {
          room = p.room ∙ q.room;
          above = up;
          left = λ r d lr lt la lb lw. still g w ds start f f₁ r d (q.left r d (omega arith) (omega arith) la lb lw) (other r d (λ z. omega arith) lw);
          kept = λ r d lr lt la lw. other r d (λ z. omega arith) lw ∙ q.kept r d (omega arith) (omega arith) la lw;
        }
          where
            up : (u d : ℕ) → 1 ≤ u → u ≤ 2 → j * b ≤ d → d < suc j * b → d < w → Ended f₁ (suc row - u) d
            up u d one l2 la lb lw =
                by_cases (ℕ_discrete u 1)
                (λ z. let e : suc row - u ≡ row = omega arith in rw e (p.new d la lb lw))
                (λ z. let e : suc row - u ≡ row - 1 = omega arith in
                rw e (still g w ds start f f₁ (row - 1) d (q.above 1 d (omega arith) (omega arith) la lb lw) (other (row - 1) d (λ z. omega arith) lw)))

        f₂ : List A
        f₂ = predict_band g w b j n (suc row) ds f₁

        join : Band_left f₁ f₂ (suc row) n → Band_left f f₂ row (suc n)
        join s = record {
          room = s.room ∙ p.room;
          new = λ r d lr lt la lb lw. new r d lr lt la lb lw (ℕ_discrete r row);
          same = λ i ne. s.same i (λ r d lr lt la lb lw. ne r d (omega arith) (omega arith) la lb lw)
              ∙ p.same i (λ d la lb lw. ne row d (omega arith) (omega arith) la lb lw);
        }
          where
            new : (r d : ℕ) → row ≤ r → r < row + suc n → j * b ≤ d → d < suc j * b → d < w → Dec (r ≡ row) → Ended f₂ r d
            new r d lr lt la lb lw (yes z) =
                rw z (still g w ds start f₁ f₂ row d (p.new d la lb lw) (s.same _ (λ r' e lr' lt' _ _ le. apart w row r' d e (λ z. omega arith) lw le)))
            new r d lr lt la lb lw (no z) = s.new r d (omega arith) (omega arith) la lb lw

-- ── Where bands lie ──

-- What a cut that fits keeps to.
pub record Fitting (c : Cut) : Type 0 where
  pub some_band : 0 < c.bands
  pub half : c.bands ≢ 1 → 2 * c.bands ≤ late_rows c.size
  pub some_column : 0 < c.block_width
  pub blocks_16 : c.block_width % 16 ≡ 0

pub fitting : (c : Cut) → fits c ≡ true → Fitting c
unfolding fits
fitting c e =
    let most = min 64 (max 1 (late_rows c.size / 2)) in
    let a = both (leb 1 c.block_width && eqb (c.block_width % 16) 0 && leb 1 c.bands) (leb c.bands most) e in
    let b = both (leb 1 c.block_width && eqb (c.block_width % 16) 0) (leb 1 c.bands) a.0 in
    let d = both (leb 1 c.block_width) (eqb (c.block_width % 16) 0) b.0 in
    let low = leb-true 1 c.bands b.1 in
    let high = leb-true c.bands (min 64 (max 1 (late_rows c.size / 2))) a.1 in
    record {
      some_band = low;
      half = λ ne. omega arith;
      some_column = leb-true 1 c.block_width d.0;
      blocks_16 = eqb-true (c.block_width % 16) 0 d.1;
    }

module _ (c : Cut) (fit : Fitting c) where
  pub start_zero : band_start c 0 ≡ 0
  start_zero = ap (λ x. x / c.bands) (zero-mul (late_rows c.size)) ∙ zero-div c.bands

  pub start_last : band_start c c.bands ≡ late_rows c.size
  start_last = mul-div_right (late_rows c.size) fit.some_band

  pub start_up : (k l : ℕ) → k ≤ l → band_start c k ≤ band_start c l
  start_up k l q =
      (le-div_iff_mul-le fit.some_band).1
      (let m : k * late_rows c.size ≤ l * late_rows c.size = mul-le-mul_right (late_rows c.size) q in
      omega (arith, div-mul-le_self (k * late_rows c.size) c.bands))

  -- Where there are several bands, each has two rows or more.
  start_two : (k : ℕ) → c.bands ≢ 1 → band_start c k + 2 ≤ band_start c (suc k)
  start_two k ne =
      (le-div_iff_mul-le fit.some_band).1
      (omega (arith, div-mul-le_self (k * late_rows c.size) c.bands, fit.half ne, suc-mul k (late_rows c.size), add-mul (band_start c k) 2 c.bands))

  -- Every late row is in a band.
  record In_band (i : ℕ) : Type 0 where
    band : ℕ
    low : band < c.bands
    from : band_start c band ≤ i
    to : i < band_start c (suc band)

  band_of : (n i : ℕ) → n ≤ c.bands → i < band_start c n → In_band i
  band_of zero i l q = absurd (omega (arith, start_zero))
  band_of (suc n) i l q =
      by_cases (dec_lt i (band_start c n))
      (λ m. band_of n i (omega arith) m)
      (λ m. let z : band_start c n ≤ i = omega arith in record { band = n; low = l; from = z; to = q })

  -- A band ends within the frame.
  pub band_end : (k : ℕ) → k < c.bands → band_start c (suc k) ≤ c.size.height - 2
  band_end k l = let z = start_up (suc k) c.bands l in omega (arith, start_last)

  -- The blocks of a band reach the row's end.
  pub reach : late_rows c.size ≢ 0 → c.size.width ≤ blocks_per_band c * c.block_width
  unfolding blocks_per_band
  reach ne =
      let z = lt-div-mul-add {a = c.size.width + (c.block_width - 1)} fit.some_column in
      let y = fit.some_column in
      rw (ne_eqb (late_rows c.size) 0 ne) (omega arith)

-- ── The steps of a list ──

-- The rows of a step's band, counted from row 2: the first, and the one after the last.
abbrev pub step_from : Cut → ℕ → ℕ
step_from c n = band_start c (step_band c n)

abbrev pub step_to : Cut → ℕ → ℕ
step_to c n = band_start c (suc (step_band c n))

-- A cell of its block.
pub record Of_step (c : Cut) (n r d : ℕ) : Type 0 where
  pub from : 2 + step_from c n ≤ r
  pub to : r < 2 + step_to c n
  pub left : step_block c n * c.block_width ≤ d
  pub right : d < suc (step_block c n) * c.block_width

module _ {A : Type 0} (g : Stage A) (c : Cut) (fit : Fitting c) (ds : List ℕ) (start : List A)
    (bytes : blocks_in c.size.width * (c.size.height - 2) ≤ length ds) where
  abbrev w : ℕ
  w = c.size.width

  abbrev h : ℕ
  h = c.size.height

  abbrev b : ℕ
  b = c.block_width

  abbrev Ends : List A → ℕ → ℕ → Type 0
  Ends f r d = Ended g w h ds start bytes f r d

  abbrev Keeps : List A → ℕ → ℕ → Type 0
  Keeps f r d = Kept g w h ds start bytes f r d

  -- In each band as many blocks are finished as its counter says, and the others are as at the start.
  pub record Bands_done (done : List ℕ) (f : List A) : Type 0 where
    pub counts : Counts c done
    pub room : length f ≡ h * w
    pub first : (r d : ℕ) → r < 2 → d < w → Ends f r d
    pub ended : (k r d : ℕ) → k < c.bands → 2 + band_start c k ≤ r → r < 2 + band_start c (suc k) → d < get_or done k 0 * b → d < w → Ends f r d
    pub kept : (k r d : ℕ) → k < c.bands → 2 + band_start c k ≤ r → r < 2 + band_start c (suc k) → get_or done k 0 * b ≤ d → d < w → Keeps f r d

  -- A step whose block may be done, and what it then leaves.
  abbrev pub Step_ready : ℕ → List A → Type 0
  Step_ready n f = Band_ready g w h ds start bytes b fit.blocks_16 (step_block c n) f (2 + step_from c n) (step_to c n - step_from c n)

  abbrev pub Step_left : ℕ → List A → List A → Type 0
  Step_left n f f' = Band_left g w h ds start bytes b fit.blocks_16 (step_block c n) f f' (2 + step_from c n) (step_to c n - step_from c n)

  pub step_left : (n : ℕ) → step_band c n < c.bands → (f : List A) → Step_ready n f → Step_left n f (do_step g c ds n f)
  unfolding do_step
  step_left n l f q =
      band_left g w h ds start bytes b fit.blocks_16 (step_block c n) (step_to c n - step_from c n) (2 + step_from c n) (omega arith)
      (omega (arith, band_end c fit (step_band c n) l)) f q

  -- Elsewhere it changes nothing.
  pub elsewhere : (n : ℕ) {f f' : List A} → Step_left n f f' → (r d : ℕ) → d < w → (Of_step c n r d → ⊥) → at g w ds start f' r d ≡ at g w ds start f r d
  elsewhere n p r d lw out = p.same (r * w + d) (λ r' d' a t x y lw' e.
      let up = start_up c fit (step_band c n) (suc (step_band c n)) (omega arith) in
      let er = one_row w r r' d d' lw lw' e in
      let ed = one_column w r r' d d' lw lw' e in
      out (record { from = omega arith; to = omega arith; left = omega arith; right = omega arith }))

  -- A step that is ready, on a frame where the steps before it are done.
  module _ (done : List ℕ) (n : ℕ) (s : Stands c done n) (f : List A) (q : Bands_done done f) where
    abbrev k : ℕ
    k = step_band c n

    abbrev j : ℕ
    j = step_block c n

    from_to : step_from c n ≤ step_to c n
    from_to = start_up c fit k (suc k) (omega arith)

    next_is : get_or done k 0 ≡ j
    next_is = s.next

    -- Its block may be done.
    pub step_ready : Step_ready n f
    step_ready = record {
      room = q.room;
      above = λ u d one l2 la lb lw. above u d one l2 lb lw (ℕ_discrete k 0);
      left = λ r d lr lt la lb lw. q.ended k r d s.band lr (omega (arith, from_to)) (rw next_is lb) lw;
      kept = λ r d lr lt la lw. q.kept k r d s.band lr (omega (arith, from_to)) (rw next_is la) lw;
    }
      where
        above : (u d : ℕ) → 1 ≤ u → u ≤ 2 → d < suc j * b → d < w → Dec (k ≡ 0) → Ends f (2 + step_from c n - u) d
        above u d one l2 lb lw (yes z) = q.first _ d (let e : step_from c n ≡ 0 = ap (band_start c) z ∙ start_zero c fit in omega arith) lw
        above u d one l2 lb lw (no z) =
            let l = s.band in
            let k-is : suc (k - 1) ≡ k = omega arith in
            let to_is : band_start c (suc (k - 1)) ≡ step_from c n = ap (band_start c) k-is in
            let two = start_two c fit (k - 1) (λ e. omega arith) in
            let m : suc j * b ≤ get_or done (k - 1) 0 * b = mul-le-mul_right b (s.above z) in
            q.ended (k - 1) (2 + step_from c n - u) d (omega arith) (omega arith) (omega arith) (omega arith) lw

    pub step_done : Bands_done (after c done n) (do_step g c ds n f)
    step_done = record {
      counts = counts_after c done n q.counts s;
      room = p.room ∙ q.room;
      first = λ r d lr lw. still g w ds start f f₁ r d (q.first r d lr lw) (elsewhere n p r d lw (λ o. omega arith));
      ended = ended;
      kept = kept;
    }
      where
        f₁ : List A
        f₁ = do_step g c ds n f

        p : Step_left n f f₁
        p = step_left n s.band f step_ready

        -- Bands don't meet.
        other : (k' r d : ℕ) → k' ≢ k → 2 + band_start c k' ≤ r → r < 2 + band_start c (suc k') → d < w → at g w ds start f₁ r d ≡ at g w ds start f r d
        other k' r d ne lr lt lw = elsewhere n p r d lw (λ o.
            by_cases (dec_lt k' k)
            (λ z. let y = start_up c fit (suc k') k z in omega arith)
            (λ z. let y = start_up c fit (suc k) k' (omega arith) in omega arith))

        ended : (k' r d : ℕ) → k' < c.bands → 2 + band_start c k' ≤ r → r < 2 + band_start c (suc k')
            → d < get_or (after c done n) k' 0 * b → d < w → Ends f₁ r d
        ended k' r d lk lr lt la lw =
            by_cases (ℕ_discrete k' k)
            (λ e. own (rw e at lr) (rw e at lt) (rw (after_own c done n q.counts s) at (rw e at la)) (dec_lt d (j * b)))
            (λ e. still g w ds start f f₁ r d (q.ended k' r d lk lr lt (rw (after_other c done n k' e) at la) lw) (other k' r d e lr lt lw))
          where
            own : 2 + step_from c n ≤ r → r < 2 + step_to c n → d < suc j * b → Dec (d < j * b) → Ends f₁ r d
            own lr lt la (yes z) =
                still g w ds start f f₁ r d (q.ended k r d s.band lr lt (rw next_is z) lw) (elsewhere n p r d lw (λ o. omega arith))
            own lr lt la (no z) = p.new r d lr (omega (arith, from_to)) (omega arith) la lw

        kept : (k' r d : ℕ) → k' < c.bands → 2 + band_start c k' ≤ r → r < 2 + band_start c (suc k')
            → get_or (after c done n) k' 0 * b ≤ d → d < w → Keeps f₁ r d
        kept k' r d lk lr lt la lw =
            by_cases (ℕ_discrete k' k)
            (λ e. own (rw e at lr) (rw e at lt) (rw (after_own c done n q.counts s) at (rw e at la)))
            (λ e. other k' r d e lr lt lw ∙ q.kept k' r d lk lr lt (rw (after_other c done n k' e) at la) lw)
          where
            own : 2 + step_from c n ≤ r → r < 2 + step_to c n → suc j * b ≤ d → Keeps f₁ r d
            own lr lt la =
                elsewhere n p r d lw (λ o. omega arith)
                ∙ q.kept k r d s.band lr lt (rw next_is (omega (arith, suc-mul j b))) lw

  steps_done : {done ns : List ℕ} → Turns c done ns → (f : List A) → Bands_done done f
      → Bands_done (done_after c done ns) (do_steps g c ds ns f)
  unfolding done_after do_steps
  steps_done end f q = q
  steps_done (next {done = done} {n = n} e rest) f q = steps_done rest (do_step g c ds n f) (step_done done n (stands c done n e) f q)

  pub none_done_yet : length start ≡ h * w → Bands_done (none_done c) start
  none_done_yet e = record {
    counts = none_counts c;
    room = e;
    first = λ r d lr lw. is_first g w ds start r d lr;
    ended = λ k r d lk lr lt la lw. absurd (omega (arith, rw (get_or-replicate {A = ℕ} c.bands k 0 0 lk, zero-mul) at la));
    kept = λ k r d lk lr lt la lw. refl;
  }

  pub good_done : (steps : List ℕ) → good c steps ≡ true → length start ≡ h * w
      → Bands_done (done_after c (none_done c) steps) (do_steps g c ds steps start)
  unfolding good
  good_done steps e le =
      steps_done (turns c (none_done c) steps (both (eqb (length steps) (step_count c)) (in_turn c (none_done c) steps) e).1) start (none_done_yet le)

  -- After a good list every cell is finished.
  good_ended : (steps : List ℕ) → good c steps ≡ true → length start ≡ h * w → (r d : ℕ) → r < h → d < w
      → Ends (do_steps g c ds steps start) r d
  good_ended steps e le r d lr lw =
      let q = good_done steps e le in
      by_cases (dec_lt r 2)
      (λ l. q.first r d l lw)
      (λ l. let x : In_band c fit (r - 2) = band_of c fit c.bands (r - 2) (omega arith) (rw (start_last c fit) (omega arith)) in
      let y = x.from in
      let v = x.to in
      q.ended x.band r d x.low (omega arith) (omega arith)
      (rw (good_full c steps e x.band x.low) (omega (arith, reach c fit (λ z. omega arith)))) lw)

  -- After phase two every cell is finished.
  phase_two_ended : length start ≡ h * w → (r d : ℕ) → r < h → d < w → Ends (phase_two g w (h - 2) 2 ds start) r d
  phase_two_ended le r d lr lw =
      let z : (2 - 2) * blocks_in w ≡ 0 = omega arith in
      rw z at
      ((phase_two_down g w h ds start bytes (h - 2) 2 (omega arith) (omega arith) start
      (record { room = le; above = λ r d l lw. is_first g w ds start r d l; below = λ r d l lh lw. refl })
      ).above r d (omega arith) lw)

  -- Frames whose cells are all finished are equal.
  same_frame : (f f' : List A) → length f ≡ h * w → length f' ≡ h * w → ((r d : ℕ) → r < h → d < w → Ends f r d)
      → ((r d : ℕ) → r < h → d < w → Ends f' r d) → f ≡ f'
  same_frame f f' lf lf' p p' =
      same_cells w g.kind h f f' lf lf' (λ r d lr ld. sym (p r d lr ld (suc (r * w + d)) (omega arith)) ∙ p' r d lr ld (suc (r * w + d)) (omega arith))

-- ── The decoders ──

-- A good list of steps does what phase two does, over every kind of cell, by a scratch that may be longer than needed.
pub good_steps : {A : Type 0} (g : Stage A) (c : Cut) → fits c ≡ true → (ds : List ℕ) → blocks_in c.size.width * (c.size.height - 2) ≤ length ds
    → (f : List A) → length f ≡ cells c.size → (steps : List ℕ) → good c steps ≡ true
    → do_steps g c ds steps f ≡ phase_two g c.size.width (c.size.height - 2) 2 ds f
good_steps g c e ds bytes f lf steps ok =
    same_frame g c fit ds f bytes _ _ (good_done g c fit ds f bytes steps ok le).room (phase_two_length g _ _ _ _ f ∙ le) (good_ended g c fit ds f bytes steps ok le) (phase_two_ended g c fit ds f bytes le)
  where
    fit : Fitting c
    fit = fitting c e

    le : length f ≡ c.size.height * c.size.width
    le = lf ∙ mul_comm c.size.width c.size.height

-- Every good list gives the samples of the plain call.
pub in_bands_two_phase : (s offsets : List ℕ) (c : Cut) → fits c ≡ true → (steps : List ℕ) → good c steps ≡ true
    → (f : List ℕ) → length f ≡ cells c.size → in_bands s offsets c steps f ≡ two_phase s offsets c.size f
unfolding in_bands two_phase
in_bands_two_phase s offsets c e steps ok f len =
    ap (exchange sample_kind c.size)
    (good_steps sample_stage c e (scratch s offsets c.size) (omega (arith, scratch_length s offsets c.size)) _
    (phase_one_length s offsets c.size.width (c.size.height - 2) 2 _ ∙ first_rows_length sample_kind s offsets c.size f ∙ len) steps ok)
