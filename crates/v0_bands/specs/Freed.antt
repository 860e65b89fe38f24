-- The exchange by blocks: the cells that no step after this one reads change places at once, while they are at hand. A step reads
-- the two rows above its band and the two columns before its block, so what is freed lies that far back, in whole pairs.
use Rattle.std.specs.Prelude.{ℕ, zero, suc, ◌+◌, ◌-◌, ◌*◌, ◌/◌, cond, List, [], ◌∷◌, ltb, eqb}
use Rattle.rules.specs.V0.{exchange_columns, sample_kind}
use Rattle.rules.specs.Phases.{sample_stage}
use Rattle.rules_bands.specs.declared.Cut.{Cut}
use Rattle.rules_bands.specs.Bands.{band_start, step_band, step_block, do_step}

-- m pairs of columns from a column on, in n pairs of rows from a row on.
unfoldable pub exchange_part : ℕ → ℕ → ℕ → ℕ → ℕ → List ℕ → List ℕ
exchange_part w m col zero row f = f
exchange_part w m col (suc n) row f = exchange_part w m col n (row + 2) (exchange_columns sample_kind w row m col f)

-- The first row that band k frees; those past the last band are all freed.
unfoldable pub freed_rows : Cut → ℕ → ℕ
freed_rows c k = cond (eqb k c.bands) (c.size.height / 2 * 2) (band_start c k / 2 * 2)

-- The first column that block j frees; past the last block all are freed that have a pair.
unfoldable pub freed_columns : Cut → ℕ → ℕ
freed_columns c j = cond (ltb (j * c.block_width) c.size.width) (j * c.block_width - 2) (c.size.width / 2 * 2)

-- What a step frees.
unfoldable pub exchange_freed : Cut → ℕ → List ℕ → List ℕ
exchange_freed c n f =
    let k = step_band c n in
    let j = step_block c n in
    exchange_part c.size.width ((freed_columns c (suc j) - freed_columns c j) / 2) (freed_columns c j)
    ((freed_rows c (suc k) - freed_rows c k) / 2) (freed_rows c k) f

-- The steps in the sequence of the list, each with the exchange of what it frees.
unfoldable pub steps_freed : Cut → List ℕ → List ℕ → List ℕ → List ℕ
steps_freed c ds [] f = f
steps_freed c ds (n ∷ ns) f = steps_freed c ds ns (exchange_freed c n (do_step sample_stage c ds n f))
