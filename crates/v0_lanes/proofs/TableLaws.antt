-- What a table of its rule holds.
use Rattle.std.proofs.Common.{◌≡◌, ℕ, ◌+◌, ◌-◌, ◌*◌, ◌/◌, ◌%◌, ◌^◌, ◌<◌, ◌≤◌, List, length, get_or, set, ◌∙◌, ap₂, ne_of_lt, arith, length-set, get_or-set_other, get_or-set_same, below_more}
use Rattle.v0_lanes.specs.Tables.{Holds, shape, shapes}

-- What the table has for n bits.
pub record Shaped (t : List ℕ) (n : ℕ) : Type 0 where
  pub whole : get_or t n 0 ≡ 2 ^ (4 * n) - 1
  pub far : get_or t (n + 16) 0 ≡ 2 ^ 32 - 2 ^ (2 * n)
  pub mask : get_or t (n + 32) 0 ≡ (2 ^ n - 1) * 2 ^ 32 + (2 ^ n - 1)
  pub near : get_or t (n + 48) 0 ≡ 2 ^ 16 - 2 ^ n
  pub signs : get_or t (n + 64) 0 ≡ 2 ^ n / 2 * 281_479_271_743_489
  pub fill : get_or t (n + 80) 0 ≡ 131_072 / 2 ^ n - 2

pub shaped : (t : List ℕ) (n : ℕ) → Holds shapes 96 t → n < 16 → Shaped t n
unfolding shape
shaped t n h few =
    record {
      whole = at n 0 (omega arith) (omega arith) (omega arith);
      far = at (n + 16) 1 (omega arith) (omega arith) (omega arith);
      mask = at (n + 32) 2 (omega arith) (omega arith) (omega arith);
      near = at (n + 48) 3 (omega arith) (omega arith) (omega arith);
      signs = at (n + 64) 4 (omega arith) (omega arith) (omega arith);
      fill = at (n + 80) 5 (omega arith) (omega arith) (omega arith);
    }
  where
    at : (i k : ℕ) → i < 96 → i % 16 ≡ n → i / 16 ≡ k → get_or t i 0 ≡ shape n k
    at i k l en ek = h.each i l ∙ ap₂ shape en ek

-- ── Filling a table ──

-- The first i numbers are there.
pub record Filled (rule : ℕ → ℕ) (n i : ℕ) (t : List ℕ) : Type 0 where
  pub size : length t ≡ n
  pub few : i ≤ n
  pub each : (k : ℕ) → k < i → get_or t k 0 ≡ rule k

module _ (rule : ℕ → ℕ) (n : ℕ) where
  pub filled_none : (t : List ℕ) → length t ≡ n → Filled rule n 0 t
  filled_none t e = record { size = e; few = omega arith; each = λ k h. absurd (omega arith) }

  pub filled_more : (i v : ℕ) (t : List ℕ) → Filled rule n i t → i < n → v ≡ rule i → Filled rule n (i + 1) (set t i v)
  filled_more i v t f h e =
      let there : i < length t = omega (arith, f.size) in
      record {
        size = length-set t i v ∙ f.size;
        few = omega arith;
        each = below_more (λ (k : ℕ). get_or (set t i v) k 0 ≡ rule k) i (λ k l. get_or-set_other t i k v 0 (ne_of_lt l) ∙ f.each k l) (get_or-set_same t i v 0 there ∙ e);
      }

  pub filled_all : (i : ℕ) (t : List ℕ) → Filled rule n i t → n ≤ i → Holds rule n t
  filled_all i t f h = record { size = f.size; each = λ k l. f.each k (omega arith) }
