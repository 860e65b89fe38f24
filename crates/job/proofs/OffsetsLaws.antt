-- The offset table, filled from its start.
use Prim.Native.Nat.{ℕ, zero, suc, ◌+◌, ◌*◌, ◌≤◌, ◌<◌}
use mathlib.Core.Path.{◌≡◌, refl, ap}
use mathlib.Core.List.{List, [], ◌∷◌, ◌++◌}
use native.Mathlib.Numerals.{add-one}
use native.Mathlib.Nat.{add-zero, zero-add, add-suc, suc-add}
use lib.ListN.{length, take, set}
use lib.Seq.{take-suc-set}
use Rattle.std.specs.Prelude.{Option}
use Rattle.rules.specs.Reader.{word_at, fetched, read_as}
use Rattle.rules.specs.Frame.{tabulate}
use Rattle.rules.proofs.ReaderLaws.{fetched_there}
use Rattle.job.specs.Fields.{offsets_of}

tabulate_last : {A : Type 0} (n i : ℕ) (f : ℕ → A) → tabulate (suc n) i f ≡ tabulate n i f ++ (f (i + n) ∷ [])
unfolding tabulate
tabulate_last zero i f = rw add-zero
tabulate_last (suc n) i f = ap (λ r. f i ∷ r) (rw (add-suc, ← suc-add i n) (tabulate_last n (suc i) f))

pub no_offsets : (s : List ℕ) → [] ≡ offsets_of s 0
unfolding offsets_of tabulate
no_offsets s = refl

-- One offset more is read.
pub offsets_more : (s l : List ℕ) (row : ℕ) (word : Option ℕ) (v : ℕ) → row < length l → 9 + 4 * row + 4 ≤ length s → word ≡ fetched s (9 + 4 * row) → v ≡ read_as word → take row l ≡ offsets_of s row
    → take (row + 1) (set l row v) ≡ offsets_of s (row + 1)
unfolding offsets_of
offsets_more s l row word v h there e ev is =
    rw (add-one, take-suc-set, is, tabulate_last row 0 (λ k. word_at s (9 + 4 * k)), ev, e, fetched_there s (9 + 4 * row) there, zero-add)
