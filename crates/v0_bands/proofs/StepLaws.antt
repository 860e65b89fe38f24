-- The rows of a band, and the steps of a list: what is left from here comes to the whole from the start.
use Prim.Native.Nat.{ℕ, zero, suc, ◌+◌, ◌-◌, ◌*◌, ◌/◌, ◌%◌, ◌≤◌, ◌<◌, min}
use mathlib.Core.Path.{◌≡◌, refl, sym, ap, ◌∙◌}
use mathlib.Core.List.{List}
use native.Mathlib.Omega.{arith}
use native.Mathlib.Nat.{mul-le-mul, mul-le-mul_right, suc-mul, div-lt_iff_lt-mul, mod-lt}
use mathlib.Core.Logic.{◌≢◌}
use native.Mathlib.Numerals.{add-one}
use lib.Dec.{eqb}
use lib.ListN.{length, get_or, take, drop, length-take, length-drop, drop_of_length-le}
use lib.Seq.{drop-cons, get_or-take, get_or-drop, ext_get_or}
use Rattle.rules.specs.V0.{blocks_in}
use Rattle.rules.specs.Phases.{Stage, sample_stage, predict_blocks}
use Rattle.rules_bands.specs.declared.Cut.{Cut}
use Rattle.rules_bands.specs.Bands.{late_rows, blocks_per_band, step_count, in_turn, none_done, good, block_directions, predict_band, do_step}
use Rattle.rules_bands.proofs.AnySequence.{column_of, Fitting, fitting, start_up, start_last}
use Rattle.rules_bands.proofs.CheckLaws.{bands_most}
use Rattle.rules_bands.proofs.Counters.{some_block, stands, Turns, end, next, turns}
use Rattle.v0_phase2.specs.LateRow.{LateRow}
use Rattle.v0_bands.specs.Freed.{exchange_freed, steps_freed}
use Rattle.v0_bands.specs.BandLent.{BandLent, StepLent, StepsLent}
use Rattle.v0_bands.proofs.FreedLaws.{some_late, begins}
use Rattle.rules.proofs.Tests.{both}

-- ── A block of a band ──

-- Part of a row's direction bytes, where all of the row's are lent.
pub part_of : (ds : List ℕ) (st n i m : ℕ) → st + n ≤ length ds
    → take m (drop i (take n (drop st ds))) ≡ take (min (i + m) n - i) (drop (st + i) ds)
part_of ds st n i m lent =
    ext_get_or 0 _ _ (lengths ∙ sym lengths') (λ j l. let q : j < min m (n - i) = rw lengths at l in
    get_or-take m (drop i (take n (drop st ds))) j 0 (omega arith)
    ∙ get_or-drop i (take n (drop st ds)) j 0
    ∙ get_or-take n (drop st ds) (i + j) 0 (omega arith)
    ∙ get_or-drop st ds (i + j) 0
    ∙ ap (λ x. get_or ds x 0) (omega arith)
    ∙ sym (get_or-take (min (i + m) n - i) (drop (st + i) ds) j 0 (omega arith) ∙ get_or-drop (st + i) ds j 0))
  where
    lengths : length (take m (drop i (take n (drop st ds)))) ≡ min m (n - i)
    lengths = simp (length-take, length-drop) (omega arith)

    lengths' : length (take (min (i + m) n - i) (drop (st + i) ds)) ≡ min m (n - i)
    lengths' = simp (length-take, length-drop) (omega arith)

module _ (g : Stage ℕ) (w b block n row : ℕ) (ds : List ℕ) where
  -- Up to row r, from its first row on.
  pub record Band (f₀ f : List ℕ) (r : ℕ) : Type 0 where
    pub begun : row ≤ r
    pub below : r ≤ row + n
    pub same_length : length f ≡ length f₀
    pub cells_are : predict_band g w b block (row + n - r) r ds f ≡ predict_band g w b block n row ds f₀

  pub band_begun : (f : List ℕ) → Band f f row
  band_begun f =
      let x : row + n - row ≡ n = omega arith in
      record { begun = omega arith; below = omega arith; same_length = refl; cells_are = rw x }

  pub band_on : (f₀ f f' : List ℕ) (r : ℕ) → r < row + n → b % 16 ≡ 0 → (r - 2) * blocks_in w + blocks_in w ≤ length ds → length f' ≡ length f
      → (to : ℕ) → to ≡ min (block * (b / 16) + b / 16) (blocks_in w)
      → f' ≡ predict_blocks g w r (block * (b / 16) * 16) (take (to - block * (b / 16)) (drop ((r - 2) * blocks_in w + block * (b / 16)) ds)) f
      → Band f₀ f r → Band f₀ f' (r + 1)
  unfolding predict_band
  band_on f₀ f f' r l b16 lent same to et q p =
      record { begun = omega (arith, p.begun); below = omega arith; same_length = same ∙ p.same_length; cells_are = sym left ∙ p.cells_are }
    where
      i : ℕ
      i = block * (b / 16)

      is : f' ≡ predict_blocks g w r (block * b) (block_directions w b block r ds) f
      is = q
          ∙ ap (λ x. predict_blocks g w r x (take (to - i) (drop ((r - 2) * blocks_in w + i) ds)) f) (column_of b block b16)
          ∙ ap (λ x. predict_blocks g w r (block * b) x f)
          (ap (λ x. take (x - i) (drop ((r - 2) * blocks_in w + i) ds)) et ∙ sym (part_of ds ((r - 2) * blocks_in w) (blocks_in w) i (b / 16) lent))

      left : predict_band g w b block (row + n - r) r ds f ≡ predict_band g w b block (row + n - (r + 1)) (r + 1) ds f'
      left =
          let x : row + n - r ≡ suc (row + n - (r + 1)) = omega arith in
          let y : r + 1 ≡ suc r = omega arith in
          rw (x, y, is)

  pub band_done : (f₀ f : List ℕ) (r : ℕ) → row + n ≤ r → Band f₀ f r → f ≡ predict_band g w b block n row ds f₀
  unfolding predict_band
  band_done f₀ f r l p = let none : row + n - r ≡ 0 = omega arith in rw none at p.cells_are

-- A row's number times the blocks of a row fits a machine word.
pub small_product : (x y : ℕ) → x ≤ 16_384 → y ≤ 1_024 → x * y < 18_446_744_073_709_551_616
small_product x y p q = let m : x * y ≤ 16_384 * 1_024 = mul-le-mul p q in omega arith

module _ {w b block row n : ℕ} {f dirs : List ℕ} (p : BandLent w b block row n f dirs) where
  -- A block of a band begins at so many blocks of 16.
  pub from_low : block * (b / 16) * 16 < w
  from_low = omega (arith, p.begins, column_of b block p.multiple)

  pub directions_within : (r : ℕ) → row ≤ r → r < row + n → (r - 2) * blocks_in w + blocks_in w ≤ length dirs
  directions_within r k l =
      let two = p.rows_above in
      let q : suc (r - 2) * blocks_in w ≤ (row + n - 2) * blocks_in w = mul-le-mul_right (blocks_in w) (omega arith) in
      omega (arith, p.directions_lent, suc-mul (r - 2) (blocks_in w))

  pub row_late : (g : List ℕ) → length g ≡ length f → (r : ℕ) → row ≤ r → r < row + n → LateRow w r g
  row_late g e r k l =
      let two = p.rows_above in
      let low = p.rows_below in
      let q : suc r * w ≤ (row + n) * w = mul-le-mul_right w (omega arith) in
      record { width = p.width; rows_above = omega arith; row_below = omega arith; row_lent = omega (arith, p.rows_lent, suc-mul r w) }

-- ── The steps ──

turns_low : (c : Cut) {done ns : List ℕ} → Turns c done ns → (i : ℕ) → i < length ns → get_or ns i 0 < step_count c
turns_low c end i l = absurd (omega arith)
turns_low c (next {done = done} {n = n} e rest) zero l = (stands c done n e).low
turns_low c (next e rest) (suc i) l = turns_low c rest i (omega arith)

module _ {c : Cut} {steps f dirs : List ℕ} (p : StepsLent c steps f dirs) (i : ℕ) (l : i < length steps) where
  -- A step of a good list is a block's number.
  pub step_low : get_or steps i 0 < c.bands * blocks_per_band c
  unfolding good
  step_low =
      let e = both (eqb (length steps) (step_count c)) (in_turn c (none_done c) steps) p.list_good in
      turns_low c (turns c (none_done c) steps e.1) i l

  fit : Fitting c
  fit = fitting c p.cut_fits

  pub bands_some : 0 < c.bands
  bands_some = fit.some_band

  module _ (blocks late : ℕ) (is : blocks ≡ blocks_per_band c) (is' : late ≡ c.size.height - 2) where
    pub blocks_some : 0 < blocks
    blocks_some = rw is (some_block c (get_or steps i 0) step_low)

    pub band_low : get_or steps i 0 / blocks < c.bands
    band_low = (div-lt_iff_lt-mul blocks_some).1 (rw is step_low)

    -- Its band begins and ends within the late rows.
    pub start_end : get_or steps i 0 / blocks * late / c.bands ≤ (get_or steps i 0 / blocks + 1) * late / c.bands
    start_end = rw (is', add-one) (start_up c fit (get_or steps i 0 / blocks) (suc (get_or steps i 0 / blocks)) (omega arith))

    pub end_low : (get_or steps i 0 / blocks + 1) * late / c.bands ≤ c.size.height - 2
    end_low =
        rw (is', add-one)
        (let q = start_up c fit (suc (get_or steps i 0 / blocks)) c.bands band_low in
        omega (arith, start_last c fit))

    late_some : c.size.height - 2 ≢ 0
    late_some = some_late c fit (rw is at blocks_some)

    -- Its block begins within the row.
    block_begins : get_or steps i 0 % blocks * c.block_width < c.size.width
    block_begins = begins c fit (get_or steps i 0 % blocks) (let q = mod-lt (get_or steps i 0) blocks_some in omega (arith, is))

    -- What it frees is lent.
    pub step_lent : (g : List ℕ) → length g ≡ length f → StepLent c blocks (get_or steps i 0) g
    step_lent g e = record { width = p.width; height = p.height; cut_fits = p.cut_fits; blocks_are = is; low = step_low; lent = omega (arith, p.lent) }

    -- So the block of its band is lent.
    pub band_lent : (g : List ℕ) → length g ≡ length f
        → BandLent c.size.width c.block_width (get_or steps i 0 % blocks) (get_or steps i 0 / blocks * late / c.bands + 2)
        ((get_or steps i 0 / blocks + 1) * late / c.bands - get_or steps i 0 / blocks * late / c.bands) g dirs
    band_lent g e =
        let first = get_or steps i 0 / blocks * late / c.bands in
        let last = (get_or steps i 0 / blocks + 1) * late / c.bands in
        let x = start_end in
        let y = end_low in
        let z = late_some in
        let s : first + 2 + (last - first) ≡ last + 2 = omega arith in
        let rows : (last + 2) * c.size.width ≤ c.size.height * c.size.width = mul-le-mul_right c.size.width (omega arith) in
        let s' : first + 2 + (last - first) - 2 ≡ last = omega arith in
        let ds : last * blocks_in c.size.width ≤ (c.size.height - 2) * blocks_in c.size.width = mul-le-mul_right (blocks_in c.size.width) y in
        record {
          width = p.width;
          multiple = fit.blocks_16;
          begins = block_begins;
          rows_above = omega arith;
          rows_below = rw s (omega (arith, p.height));
          rows_lent = rw s (omega (arith, p.lent));
          directions_lent = rw s' (omega (arith, p.directions_lent));
        }

    -- Products of rows and bands are small.
    pub rows_most : (get_or steps i 0 / blocks + 1) * late ≤ 1_048_576
    rows_most =
        let m : (get_or steps i 0 / blocks + 1) * late ≤ 64 * late = mul-le-mul_right late (omega (arith, band_low, bands_most c p.width p.cut_fits)) in
        omega (arith, p.height)

    pub first_most : get_or steps i 0 / blocks * late ≤ 1_048_576
    first_most = omega (arith, rows_most, suc-mul (get_or steps i 0 / blocks) late)

module _ (c : Cut) (ds steps : List ℕ) where
  pub record Steps (f₀ f : List ℕ) (i : ℕ) : Type 0 where
    pub below : i ≤ length steps
    pub same_length : length f ≡ length f₀
    pub cells_are : steps_freed c ds (drop i steps) f ≡ steps_freed c ds steps f₀

  pub steps_begun : (f : List ℕ) → Steps f f 0
  steps_begun f = record { below = omega arith; same_length = refl; cells_are = refl }

  pub steps_on : (f₀ f f₁ f' : List ℕ) (i : ℕ) → i < length steps → length f' ≡ length f → (blocks late : ℕ) → blocks ≡ blocks_per_band c
      → late ≡ late_rows c.size
      → f₁ ≡ predict_band sample_stage c.size.width c.block_width (get_or steps i 0 % blocks)
      ((get_or steps i 0 / blocks + 1) * late / c.bands - get_or steps i 0 / blocks * late / c.bands) (get_or steps i 0 / blocks * late / c.bands + 2) ds f
      → f' ≡ exchange_freed c (get_or steps i 0) f₁ → Steps f₀ f i → Steps f₀ f' (i + 1)
  unfolding steps_freed do_step
  steps_on f₀ f f₁ f' i l same blocks late is is' q q' p =
      record { below = omega arith; same_length = same ∙ p.same_length; cells_are = sym left ∙ p.cells_are }
    where
      done : f₁ ≡ do_step sample_stage c ds (get_or steps i 0) f
      done =
          let e : get_or steps i 0 / blocks * late / c.bands + 2 ≡ 2 + get_or steps i 0 / blocks * late / c.bands = omega arith in
          q ∙ rw (e, is, is', add-one)

      left : steps_freed c ds (drop i steps) f ≡ steps_freed c ds (drop (i + 1) steps) f'
      left = rw (add-one i, drop-cons steps i 0 l, q', done)

  pub steps_done : (f₀ f : List ℕ) (i : ℕ) → length steps ≤ i → Steps f₀ f i → f ≡ steps_freed c ds steps f₀
  unfolding steps_freed
  steps_done f₀ f i l p = rw (drop_of_length-le steps l) at p.cells_are
