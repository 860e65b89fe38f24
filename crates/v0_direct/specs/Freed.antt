-- The exchange as the direct decoder makes it: of a pair of rows as soon as no later row reads it, since the pair is at hand then.
use Rattle.std.specs.Prelude.{ℕ, ◌-◌, ◌/◌, List}
use Rattle.rules.specs.V0.{Kind, write_all, rows, exchange_rows}
use Rattle.rules.specs.declared.answer.Size.{Size}

-- How many pairs of rows no row from a row on reads: a row looks at most two rows up, so those that end before that.
abbrev pub freed_pairs : ℕ → ℕ
freed_pairs row = (row - 2) / 2

-- The first `count` rows, with the pairs exchanged that no later row reads.
unfoldable pub rows_freed : {A : Type 0} → Kind A → List ℕ → List ℕ → Size → ℕ → List A → List A
rows_freed k s offsets z count f = exchange_rows k z.width (freed_pairs count) 0 (write_all k (rows s offsets z count 0) f)
