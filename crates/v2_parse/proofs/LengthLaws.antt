-- A block's lengths, one after another: what the stages before gave is a variable with its equation.
use Rattle.std.proofs.Common.{◌≡◌, ℕ, zero, suc, ◌+◌, ◌-◌, ◌/◌, ◌%◌, ◌^◌, ◌<◌, ◌≤◌, true, false, eqb, List, [], ◌∷◌, get_or, set, add-one, arith, le-ltb, lt-ltb, ne_eqb}
use Rattle.rules.specs.declared.reader.Bits.{Bits}
use Rattle.rules.specs.declared.reader.Got.{Got}
use Rattle.rules.specs.declared.reader.Taken.{Taken}
use Rattle.rules.specs.declared.v2.V2Hdr.{V2Hdr}
use Rattle.rules.specs.Reader.{read, four}
use Rattle.rules.specs.V2.{option_1, lengths_bit, colour, read_length, Moded, length_step, lengths_from, no_lengths, flagged_lengths, read_lengths}
use Rattle.rules.proofs.ReaderLaws.{four_below}

-- How many are left of n after x.
pub left_suc : (n x : ℕ) → x < n → n - x ≡ suc (n - (x + 1))
left_suc n x h = omega arith

pub left_none : (n x : ℕ) → n ≤ x → n - x ≡ 0
left_none n x l = omega arith

pub bit_none : (s : List ℕ) (h : V2Hdr) (b : Bits) → option_1 h ≡ true → record { value = 0; bits = b } ≡ lengths_bit s h b
unfolding lengths_bit
bit_none s h b e = rw e

pub bit_read : (s : List ℕ) (h : V2Hdr) (b : Bits) → option_1 h ≡ false → lengths_bit s h b ≡ read s b 1
unfolding lengths_bit
bit_read s h b e = rw e

pub colour_odd : (row j : ℕ) → row % 2 ≡ 1 → j / 2 ≡ colour row j
unfolding colour
colour_odd row j e = rw e

pub colour_even : (row j : ℕ) → (row % 2 ≡ 1 → ⊥) → (j / 2 + 2) % 3 ≡ colour row j
unfolding colour
colour_even row j n = rw (ne_eqb (row % 2) 1 n)

module _ (s : List ℕ) (flag first : ℕ) (b : Bits) where
  pub length_read : flag ≡ 3 → read_length s flag first b ≡ read s b 4
  unfolding read_length
  length_read e = rw e

  -- Flag 1 adds one, flag 2 takes one off, modulo 2^32.
  pub length_stepped : (flag ≡ 3 → ⊥) → flag < 4 → first < 2 ^ 32 → (v w : ℕ) → v ≡ (flag / 2 + (2 ^ 32 - flag % 2)) % 2 ^ 32 → w ≡ (first + (2 ^ 32 - v)) % 2 ^ 32
      → record { value = w; bits = b } ≡ read_length s flag first b
  unfolding read_length
  length_stepped n l f v w ev ew = go flag n l ev ew
    where
      go : (flag : ℕ) → (flag ≡ 3 → ⊥) → flag < 4 → v ≡ (flag / 2 + (2 ^ 32 - flag % 2)) % 2 ^ 32 → w ≡ (first + (2 ^ 32 - v)) % 2 ^ 32
          → record { value = w; bits = b } ≡ read_length s flag first b
      go zero n l ev ew = let e : w ≡ first = omega arith in rw e
      go (suc zero) n l ev ew = let e : w ≡ (first + 1) % 2 ^ 32 = omega arith in rw e
      go (suc (suc zero)) n l ev ew = let e : w ≡ (first + 0xffff_ffff) % 2 ^ 32 = omega arith in rw e
      go (suc (suc (suc k))) n l ev ew = absurd (n (omega arith))

-- One length, after those before it.
module _ (s : List ℕ) (depth row : ℕ) (flags : List ℕ) (j : ℕ) (h : j < 4) (four : List ℕ) (b : Bits) (mode : List (List ℕ))
    (c : ℕ) (ec : c ≡ colour row j) (g : Got) (eg : g ≡ read_length s (get_or flags j 0) (get_or (get_or mode c []) 0 0) b) where
  abbrev Now : Moded
  Now = record { lengths = record { four = four; long = false; bits = b }; mode = mode }

  pub length_goes_on : g.value ≤ depth + 1
      → lengths_from s depth row flags (4 - j) j Now
      ≡ lengths_from s depth row flags (4 - (j + 1)) (j + 1)
      (record { lengths = record { four = set four j g.value; long = false; bits = g.bits }; mode = set mode c (get_or (get_or mode c []) 1 0 ∷ g.value ∷ []) })
  unfolding lengths_from length_step
  length_goes_on l = rw (left_suc 4 j h, ← ec, ← eg, le-ltb (depth + 1) g.value l, add-one)

  pub length_too_long : depth + 1 < g.value
      → lengths_from s depth row flags (4 - j) j Now
      ≡ record { lengths = record { four = set four j g.value; long = true; bits = g.bits }; mode = set mode c (get_or (get_or mode c []) 1 0 ∷ g.value ∷ []) }
  unfolding lengths_from length_step
  length_too_long l = rw (left_suc 4 j h, ← ec, ← eg, lt-ltb (depth + 1) g.value l)

pub lengths_end : (s : List ℕ) (depth row : ℕ) (flags : List ℕ) (j : ℕ) (x : Moded) → 4 ≤ j → lengths_from s depth row flags (4 - j) j x ≡ x
unfolding lengths_from
lengths_end s depth row flags j x h = rw (left_none 4 j h)

pub flagged_are : (s : List ℕ) (depth row : ℕ) (mode : List (List ℕ)) (b : Bits) (f : Taken (List ℕ)) → f ≡ four s 2 b
    → flagged_lengths s depth row mode b ≡ lengths_from s depth row f.value 4 0 (no_lengths mode f.bits)
unfolding flagged_lengths
flagged_are s depth row mode b f e = rw (← e)

module _ (s : List ℕ) (h : V2Hdr) (row : ℕ) (mode : List (List ℕ)) (b : Bits) (g : Got) (e : g ≡ lengths_bit s h b) where
  pub lengths_follow : g.value ≡ 0 → read_lengths s h row mode b ≡ flagged_lengths s h.depth row mode g.bits
  unfolding read_lengths
  lengths_follow t = rw (← e, t)

  pub lengths_zero : eqb g.value 0 ≡ false → read_lengths s h row mode b ≡ no_lengths mode g.bits
  unfolding read_lengths
  lengths_zero t = rw (← e, t)

-- A flag is below 4.
pub flag_below : (s : List ℕ) (b : Bits) (f : Taken (List ℕ)) (j : ℕ) → f ≡ four s 2 b → get_or f.value j 0 < 4
flag_below s b f j e = rw e (four_below s 2 b j (omega arith))
