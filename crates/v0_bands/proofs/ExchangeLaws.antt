-- The exchange of a part, and of what a step frees: what is left from here comes to the whole from the start.
use Prim.Native.Nat.{ℕ, suc, ◌+◌, ◌-◌, ◌*◌, ◌/◌, ◌%◌, ◌≤◌, ◌<◌}
use mathlib.Core.Path.{◌≡◌, refl, sym, ap, ◌∙◌}
use mathlib.Core.Logic.{◌≢◌}
use mathlib.Core.List.{List}
use native.Mathlib.Omega.{arith}
use native.Mathlib.Numerals.{add-one}
use native.Mathlib.Nat.{mul-le-mul_right, mul-le-mul, div-lt_iff_lt-mul, mod-lt, div-le_self}
use lib.ListN.{length}
use borrow.Author.Tests.{eq-eqb, ne_eqb}
use Rattle.rules.specs.Limits.{most_side}
use Rattle.rules.specs.V0.{exchange_columns, sample_kind}
use Rattle.v0_cells.specs.Places.{InColumns}
use Rattle.rules_bands.specs.declared.Cut.{Cut}
use Rattle.rules_bands.specs.Bands.{blocks_per_band}
use Rattle.rules_bands.proofs.AnySequence.{Fitting, fitting, reach}
use Rattle.rules_bands.proofs.CheckLaws.{bands_most}
use Rattle.rules_bands.proofs.Counters.{some_block}
use Rattle.v0_bands.specs.Freed.{exchange_part, freed_rows, freed_columns, exchange_freed}
use Rattle.v0_bands.specs.BandLent.{PartLent, RowLent, ColumnLent, StepLent}
use Rattle.v0_bands.proofs.PartLaws.{columns_length}
use Rattle.v0_bands.proofs.FreedLaws.{rows_up, rows_even, rows_most, columns_is, columns_end, columns_up, columns_most, some_late, begins}

-- ── A part ──

module _ (w row end from to : ℕ) where
  pub record Pairs (f₀ f : List ℕ) (r : ℕ) : Type 0 where
    pub even : r % 2 ≡ 0
    pub within : r ≤ end
    pub same_length : length f ≡ length f₀
    pub cells_are : exchange_part w ((to - from) / 2) from ((end - r) / 2) r f ≡ exchange_part w ((to - from) / 2) from ((end - row) / 2) row f₀

  pub pairs_begun : (f : List ℕ) (r : ℕ) → r ≡ row → PartLent w row end from to f → Pairs f f r
  pairs_begun f r e p = rw e (record { even = p.pairs.0; within = p.rows; same_length = refl; cells_are = refl })

  -- A pair of rows that is left lies in the part.
  pub pair_lent : (f₀ f : List ℕ) (r : ℕ) → r < end → PartLent w row end from to f₀ → Pairs f₀ f r → InColumns w r from to f
  pair_lent f₀ f r l p q =
      let e = q.even in
      let e' = p.pairs.1 in
      let m : (r + 2) * w ≤ end * w = mul-le-mul_right w (omega arith) in
      record {
        width = p.width;
        row_in = omega (arith, p.rows_in);
        columns = p.columns;
        columns_in = p.columns_in;
        inside = omega (arith, p.lent, q.same_length);
      }

  pub pairs_on : (f₀ f f' : List ℕ) (r next : ℕ) → next ≡ r + 2 → r < end → PartLent w row end from to f₀
      → f' ≡ exchange_columns sample_kind w r ((to - from) / 2) from f → Pairs f₀ f r → Pairs f₀ f' next
  unfolding exchange_part
  pairs_on f₀ f f' r next on l p e q =
      rw on (
      let ev = q.even in
      let ev' = p.pairs.1 in
      let n : (end - r) / 2 ≡ suc ((end - (r + 2)) / 2) = omega arith in
      record {
        even = omega arith;
        within = omega arith;
        same_length = ap length e ∙ columns_length w r ((to - from) / 2) from f ∙ q.same_length;
        cells_are = ap (exchange_part w ((to - from) / 2) from ((end - (r + 2)) / 2) (r + 2)) e ∙ (rw n at q.cells_are);
      })

  pub pairs_done : (f₀ f : List ℕ) (r : ℕ) → end ≤ r → Pairs f₀ f r → f ≡ exchange_part w ((to - from) / 2) from ((end - row) / 2) row f₀
  unfolding exchange_part
  pairs_done f₀ f r l q = let n : (end - r) / 2 ≡ 0 = omega arith in rw n at q.cells_are

-- ── Rows and columns that are freed ──

module _ {h bands band : ℕ} (p : RowLent h bands band) where
  pub rows_fit : (late : ℕ) → late ≡ h - 2 → band * late ≤ 1_048_576
  rows_fit late e =
      let a : band ≤ 64 = omega (arith, p.within, p.most_bands) in
      let b : late ≤ most_side = omega (arith, p.height) in
      let m : band * late ≤ 64 * 16_384 = mul-le-mul a b in
      omega arith

  pub start_fits : (late : ℕ) → late ≡ h - 2 → band * late / bands ≤ 1_048_576
  start_fits late e = omega (arith, div-le_self (band * late) bands, rows_fit late e)

module _ (c : Cut) (band : ℕ) where
  pub row_last : band ≡ c.bands → c.size.height / 2 * 2 ≡ freed_rows c band
  unfolding freed_rows
  row_last e = rw (eq-eqb band c.bands e)

  pub row_first : (late : ℕ) → late ≡ c.size.height - 2 → band ≢ c.bands → band * late / c.bands / 2 * 2 ≡ freed_rows c band
  unfolding freed_rows
  row_first late e ne = rw (e, ne_eqb band c.bands ne)

module _ {c : Cut} {blocks block : ℕ} (p : ColumnLent c blocks block) where
  fit : Fitting c
  fit = fitting c p.cut_fits

  pub column_begins : block ≢ blocks → block * c.block_width < c.size.width
  column_begins ne = begins c fit block (omega (arith, p.within, p.blocks_are))

  pub column_last : block ≡ blocks → c.size.width / 2 * 2 ≡ freed_columns c block
  column_last e =
      let z : block ≡ blocks_per_band c = e ∙ p.blocks_are in
      sym (columns_end c fit block (rw z (reach c fit (some_late c fit (omega (arith, p.some_block, p.blocks_are))))))

  pub column_first : block ≢ blocks → (col : ℕ) → col ≡ block * c.block_width - 2 → col ≡ freed_columns c block
  column_first ne col e = e ∙ sym (columns_is c fit block (column_begins ne))

-- ── What a step frees ──

module _ {c : Cut} {blocks n : ℕ} {f : List ℕ} (p : StepLent c blocks n f) where
  fit' : Fitting c
  fit' = fitting c p.cut_fits

  pub blocks_some : 0 < blocks
  blocks_some = rw p.blocks_are (some_block c n p.low)

  pub band_in : n / blocks < c.bands
  band_in = rw p.blocks_are ((div-lt_iff_lt-mul (some_block c n p.low)).1 p.low)

  pub block_in : n % blocks < blocks
  block_in = mod-lt n blocks_some

  pub row_lent : (band : ℕ) → band ≤ c.bands → RowLent c.size.height c.bands band
  row_lent band l = record {
    height = p.height;
    some_band = fit'.some_band;
    most_bands = bands_most c p.width p.cut_fits;
    within = l;
  }

  pub column_lent : (block : ℕ) → block ≤ blocks → ColumnLent c blocks block
  column_lent block l = record { width = p.width; cut_fits = p.cut_fits; blocks_are = p.blocks_are; some_block = blocks_some; within = l }

  module _ (row end from to : ℕ) (er : row ≡ freed_rows c (n / blocks)) (ee : end ≡ freed_rows c (n / blocks + 1))
      (ef : from ≡ freed_columns c (n % blocks)) (et : to ≡ freed_columns c (n % blocks + 1)) where
    pub part_lent : PartLent c.size.width row end from to f
    part_lent =
        let k = n / blocks in
        let j = n % blocks in
        let lk = band_in in
        let most = rows_most c fit' (k + 1) (omega arith) in
        let m : freed_rows c (k + 1) * c.size.width ≤ c.size.height * c.size.width = mul-le-mul_right c.size.width (omega arith) in
        rw (er, ee, ef, et)
        (record {
          width = p.width;
          rows = rows_up c fit' k (k + 1) (omega arith) (omega arith);
          rows_in = omega (arith, p.height);
          pairs = (rows_even c fit' k (omega arith), rows_even c fit' (k + 1) (omega arith));
          columns = columns_up c fit' j (j + 1) (omega arith);
          columns_in = omega (arith, columns_most c fit' (j + 1));
          lent = omega (arith, p.lent);
        })

    pub freed_is : (f' : List ℕ) → f' ≡ exchange_part c.size.width ((to - from) / 2) from ((end - row) / 2) row f → f' ≡ exchange_freed c n f
    unfolding exchange_freed
    freed_is f' e = e ∙ rw (er, ee, ef, et, p.blocks_are, add-one (n / blocks_per_band c), add-one (n % blocks_per_band c))
