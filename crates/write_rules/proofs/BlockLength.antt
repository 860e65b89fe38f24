-- How long a block is, by its lengths alone: for a caller that must know before it writes.
use Prim.Native.Nat.{ℕ, ◌+◌, ◌*◌}
use mathlib.Core.Path.{◌≡◌, refl}
use mathlib.Core.List.{List, [], ◌∷◌, ◌++◌}
use native.Mathlib.Omega.{arith}
use lib.ListN.{length, get_or, length-append}
use Rattle.rules.specs.Frame.{tabulate}
use Rattle.write_rules.specs.Writer.{bits_of, fields_bits, run, lengths_for, length_for, block_bits}
use Rattle.write_rules.proofs.BitLists.{bits_length}
use Rattle.write_rules.proofs.Blocks.{opening_widths, opening, opening_length}

-- The sum of a number for each member.
unfoldable total : (ℕ → ℕ) → List ℕ → ℕ
total g [] = 0
total g (x ∷ xs) = g x + total g xs

run_total : (n x : ℕ → ℕ) (xs : List ℕ) → length (run (λ c. bits_of (n c) (x c)) xs) ≡ total n xs
unfolding run total
run_total n x [] = refl
run_total n x (c ∷ cs) = omega (arith, length-append (bits_of (n c) (x c)) (run (λ c. bits_of (n c) (x c)) cs), bits_length (n c) (x c), run_total n x cs)

four_total : (d : ℕ → ℕ) → total (λ x. 4) (lengths_for d) ≡ 16
unfolding total lengths_for
four_total d = refl

order_total : (d : ℕ → ℕ) → total (length_for d) (tabulate 16 0 (λ k. k)) ≡ 4 * (get_or (lengths_for d) 0 0 + get_or (lengths_for d) 1 0 + get_or (lengths_for d) 2 0 + get_or (lengths_for d) 3 0)
unfolding total length_for tabulate
order_total d = omega arith

-- A block: 25 bits of head, and each length four times.
pub block_length_is : (d : ℕ → ℕ) → length (block_bits d) ≡ 25 + 4 * (get_or (lengths_for d) 0 0 + get_or (lengths_for d) 1 0 + get_or (lengths_for d) 2 0 + get_or (lengths_for d) 3 0)
unfolding block_bits
block_length_is d =
    let a = fields_bits opening_widths opening in
    let b = run (bits_of 4) (lengths_for d) in
    let c = run (λ c. bits_of (length_for d c) (d c)) (tabulate 16 0 (λ k. k)) in
    omega (
      arith,
      length-append (a ++ b) c,
      length-append a b,
      opening_length,
      run_total (λ x. 4) (λ x. x) (lengths_for d),
      run_total (length_for d) d (tabulate 16 0 (λ k. k)),
      four_total d,
      order_total d,
    )
