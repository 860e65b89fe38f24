-- What holds of every block that is written: it opens with nine bits, its lengths are below 16, and it has at most 265 bits.
use Prim.Native.Nat.{ℕ, zero, suc, ◌+◌, ◌*◌, ◌/◌, ◌<◌, ◌≤◌}
use mathlib.Core.Bool.{Bool, true}
use mathlib.Core.Path.{◌≡◌, refl}
use mathlib.Core.List.{List, [], ◌∷◌, ◌++◌, append_assoc}
use mathlib.Core.Logic.{by_cases}
use native.Mathlib.Omega.{arith}
use native.Mathlib.Decide.{ℕ_discrete}
use lib.ListN.{length, get_or, length-append}
use lib.Dec.{lit<, lit≤}
use Rattle.rules.specs.declared.reader.Bits.{Bits}
use Rattle.rules.specs.Reader.{read, fields, four}
use Rattle.rules.specs.Frame.{tabulate}
use Rattle.rules.proofs.Cells.{All, nil, more, all_get, Each, none, both}
use Rattle.rules.proofs.ReaderLaws.{fields_more, four_fields}
use Rattle.write_rules.specs.Writer.{bits_of, fields_bits, run, holds, lengths_for, length_for, block_bits}
use Rattle.write_rules.specs.Weight.{Short}
use Rattle.write_rules.proofs.Ahead.{Field}
use Rattle.write_rules.proofs.BitLists.{bits_length}
use Rattle.write_rules.proofs.Smallest.{smallest_most, held_by}

-- Direction 0 and four operations 3, or motion 7 and four flags 3.
abbrev pub opening_widths : List ℕ
opening_widths = 1 ∷ 2 ∷ 2 ∷ 2 ∷ 2 ∷ []

abbrev pub opening : List ℕ
opening = 0 ∷ 3 ∷ 3 ∷ 3 ∷ 3 ∷ []

pub opening_fields : Each Field opening_widths opening
opening_fields =
    let two : Field 2 3 = record { least = lit≤ tt; below = lit< tt } in
    both (record { least = lit≤ tt; below = lit< tt }) (both two (both two (both two (both two none))))

-- It is read as one bit and four fields of 2 bits.
pub opening_read : (s : List ℕ) (b : Bits) → fields s opening_widths b
    ≡ (let g = read s b 1 in let o = four s 2 g.bits in record { values = g.value ∷ o.value; bits = o.bits })
opening_read s b = rw (fields_more s 1 (2 ∷ 2 ∷ 2 ∷ 2 ∷ []) b, four_fields s 2 (read s b 1).bits)

pub opening_length : length (fields_bits opening_widths opening) ≡ 9
unfolding fields_bits bits_of
opening_length = refl

-- ── Each of a run of numbers ──

pub each_of_run : (P : ℕ → Type 0) (n m : ℕ) → All P (tabulate n m (λ k. k)) → (k : ℕ) → m ≤ k → k < m + n → P k
unfolding tabulate
each_of_run P zero m a k h l = absurd (omega arith)
each_of_run P (suc n) m (more a rest) k h l =
    by_cases (ℕ_discrete k m) (λ e. rw e a) (λ e. each_of_run P n (suc m) rest k (omega arith) (omega arith))

-- ── Lengths ──

pub lengths_most : (d : ℕ → ℕ) → All (λ l. l < 16) (lengths_for d)
unfolding lengths_for
lengths_most d = more (smallest_most _) (more (smallest_most _) (more (smallest_most _) (more (smallest_most _) nil)))

pub length_most : (d : ℕ → ℕ) (k : ℕ) → length_for d k < 16
unfolding length_for
length_most d k = all_get (λ l. l < 16) (lengths_most d) (k / 4) 0 (lit< tt)

pub four_lengths : (d : ℕ → ℕ) → length (lengths_for d) ≡ 4
unfolding lengths_for
four_lengths d = refl

-- Every number is held by its length.
pub lengths_hold : (d : ℕ → ℕ) → ((k : ℕ) → Short (d k)) → (k : ℕ) → k < 16 → holds (get_or (lengths_for d) (k / 4) 0) (d k) ≡ true
unfolding lengths_for tabulate
lengths_hold d short k l =
    let p = held_by d short 0 1 2 3 in
    let q = held_by d short 4 5 6 7 in
    let r = held_by d short 8 9 10 11 in
    let t = held_by d short 12 13 14 15 in
    each_of_run (λ k. holds (get_or (lengths_for d) (k / 4) 0) (d k) ≡ true) 16 0
    (more p.first (more p.second (more p.third (more p.fourth
    (more q.first (more q.second (more q.third (more q.fourth
    (more r.first (more r.second (more r.third (more r.fourth
    (more t.first (more t.second (more t.third (more t.fourth nil)))))))))))))))) k (omega arith) l

-- ── Bits ──

pub run_length : (g : ℕ → List Bool) (m : ℕ) → ((x : ℕ) → length (g x) ≤ m) → (xs : List ℕ) → length (run g xs) ≤ m * length xs
unfolding run
run_length g m h [] = omega arith
run_length g m h (x ∷ xs) = omega (arith, length-append (g x) (run g xs), run_length g m h xs, h x)

pub block_length : (d : ℕ → ℕ) → length (block_bits d) ≤ 265
unfolding block_bits lengths_for tabulate
block_length d =
    let a = fields_bits opening_widths opening in
    let b = run (bits_of 4) (lengths_for d) in
    let c = run (λ k. bits_of (length_for d k) (d k)) (tabulate 16 0 (λ k. k)) in
    let lb = run_length (bits_of 4) 4 (λ x. rw (bits_length 4 x) (lit≤ tt)) (lengths_for d) in
    let lc = run_length (λ k. bits_of (length_for d k) (d k)) 15 (λ k. rw (bits_length (length_for d k) (d k)) (omega (arith, length_most d k))) (tabulate 16 0 (λ k. k)) in
    omega (arith, length-append (a ++ b) c, length-append a b, opening_length, lb, lc)

-- A block's parts, and what follows it.
pub block_parts : (d : ℕ → ℕ) (next rest : List Bool)
    → (block_bits d ++ next) ++ rest ≡ fields_bits opening_widths opening ++ (run (bits_of 4) (lengths_for d) ++ (run (λ k. bits_of (length_for d k) (d k)) (tabulate 16 0 (λ k. k)) ++ (next ++ rest)))
unfolding block_bits
block_parts d next rest = regroup (fields_bits opening_widths opening) (run (bits_of 4) (lengths_for d)) (run (λ k. bits_of (length_for d k) (d k)) (tabulate 16 0 (λ k. k))) next rest
  where
    regroup : (a b c e g : List Bool) → a ++ b ++ c ++ e ++ g ≡ a ++ (b ++ (c ++ (e ++ g)))
    regroup a b c e g = simp append_assoc
