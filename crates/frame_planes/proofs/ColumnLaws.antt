-- A row that is woven pair by pair.
use mathlib.Core.Path.{◌≡◌, sym}
use mathlib.Core.List.{List}
use Prim.Native.Nat.{ℕ, ◌+◌, ◌*◌, ◌≤◌, ◌<◌}
use native.Mathlib.Omega.{arith}
use lib.ListN.{length, get_or, set, length-set}
use Rattle.frame_planes.specs.Planes.{even_count, odd_count, weave}
use Rattle.frame_planes.proofs.Lists.{weave_length, weave_even, weave_odd}
use Rattle.frame_planes.proofs.Written.{Written, written_more}

pub woven_length : (l m row : List ℕ) → length l ≡ even_count (length row) → length m ≡ odd_count (length row) → length row ≡ length (weave l m)
woven_length l m row p q = omega (arith, weave_length l m)

pub pair_written : (l m : List ℕ) → length m ≤ length l → length l ≤ length m + 1 → {row₀ row : List ℕ} (k : ℕ) → 2 * k + 1 < length row
    → Written (weave l m) row₀ row (2 * k)
    → Written (weave l m) row₀ (set (set row (2 * k) (get_or l k 0)) (2 * k + 1) (get_or m k 0)) (2 * (k + 1))
pair_written l m p q {row₀} {row} k h w =
    let e : 2 * k + 1 + 1 ≡ 2 * (k + 1) = omega arith in
    rw (← e)
    (written_more (get_or m k 0) (omega (arith, length-set row (2 * k) (get_or l k 0))) (sym (weave_odd l m p q k 0))
    (written_more (get_or l k 0) (omega arith) (sym (weave_even l m p q k 0)) w))
