-- What the V0 parser makes of a block that it sees: its head, and its samples' operations.
use Prim.Native.Nat.{ℕ, ◌+◌, ◌%◌, ◌^◌, ◌<◌, ◌≤◌, min}
use mathlib.Core.Bool.{Bool, false}
use mathlib.Core.Path.{◌≡◌, refl, sym, ap, ap₂, ◌∙◌, subst}
use mathlib.Core.List.{List, [], ◌∷◌, ◌++◌, map, append_assoc}
use native.Mathlib.Omega.{arith}
use native.Mathlib.Nat.{mod-eq_of_lt}
use lib.ListN.{length, get_or, drop, replicate}
use lib.Dec.{lit≤}
use lib.IntN.{ℤ, pos}
use Rattle.rules.specs.declared.reader.Bits.{Bits}
use Rattle.rules.specs.declared.reader.Got.{Got}
use Rattle.rules.specs.declared.reader.Taken.{Taken}
use Rattle.rules.specs.declared.v0.Predictor.{Predictor}
use Rattle.rules.specs.declared.v0.V0Op.{V0Op}
use Rattle.rules.specs.declared.v0.V0Row.{V0Row}
use Rattle.rules.specs.Reader.{read, four, signed, modulo, read_residual}
use Rattle.rules.specs.V0.{operated, operate, head, length_of, residual_bits, sample, samples}
use Rattle.rules.proofs.Cells.{All, nil, more}
use Rattle.rules.proofs.ReaderLaws.{read_residual_is}
use Rattle.write_rules.specs.Writer.{bits_of, fields_bits, run}
use Rattle.write_rules.proofs.Blocks.{opening_widths, opening, opening_fields, opening_read}
use Rattle.write_rules.proofs.Ahead.{Stream, Sees, sees_value, sees_next, SeesFields, sees_fields}

-- A residual is written with as many bits as are read, and comes back.
pub record Residual (ls : List ℤ) (predict : ℕ → Predictor) (len d : ℕ → ℕ) (c : ℕ) : Type 0 where
  pub asked : residual_bits (predict c) (length_of ls c) ≡ len c
  pub least : len c ≤ 32
  pub back : modulo (signed (len c) (d c % 2 ^ len c)) ≡ d c

abbrev pub op_for : ℕ → (ℕ → Predictor) → (ℕ → ℕ) → ℕ → V0Op
op_for base predict d c = record { place = base + c; predictor = predict c; residual = d c }

module _ (s : List ℕ) (st : Stream s) where
  -- A length for each operation 3.
  record SeesLengths (xs : List ℕ) (ls : List ℤ) (b : Bits) (rest : List Bool) : Type 0 where
    lengths_are : (operate s (replicate (length xs) 3) ls b).lengths ≡ map pos xs
    next_sees : Sees s (operate s (replicate (length xs) 3) ls b).bits rest

  sees_lengths : (xs : List ℕ) (ls : List ℤ) (b : Bits) (rest : List Bool) → All (λ x. x < 16) xs → length ls ≡ length xs
      → Sees s b (run (bits_of 4) xs ++ rest) → SeesLengths xs ls b rest
  unfolding operate operated run
  sees_lengths [] [] b rest nil e q = record { lengths_are = refl; next_sees = q }
  sees_lengths [] (l ∷ ls) b rest nil e q = absurd (omega arith)
  sees_lengths (x ∷ xs) [] b rest (more h hs) e q = absurd (omega arith)
  sees_lengths (x ∷ xs) (l ∷ ls) b rest (more h hs) e q =
      let after : List Bool = run (bits_of 4) xs ++ rest in
      let q' : Sees s b (bits_of 4 x ++ after) = rw (← append_assoc (bits_of 4 x) (run (bits_of 4) xs) rest) q in
      let m = sees_lengths xs ls (read s b 4).bits rest hs (omega arith) (sees_next s st b 4 x after (lit≤ tt) q') in
      record {
        lengths_are = ap₂ ◌∷◌ (ap pos (sees_value s st b 4 x after (lit≤ tt) q' ∙ mod-eq_of_lt h)) m.lengths_are;
        next_sees = m.next_sees;
      }

  -- A block's head: direction 0, four operations 3, four lengths.
  pub record SeesHead (xs : List ℕ) (row : V0Row) (rest : List Bool) : Type 0 where
    pub level : (head s row).up ≡ false
    pub lengths_are : (head s row).row.lengths ≡ map pos xs
    pub next_sees : Sees s (head s row).row.bits rest

  pub sees_head : (xs : List ℕ) (row : V0Row) (rest : List Bool) → All (λ x. x < 16) xs → length xs ≡ 4 → length row.lengths ≡ 4
      → Sees s row.bits (fields_bits opening_widths opening ++ (run (bits_of 4) xs ++ rest)) → SeesHead xs row rest
  unfolding head
  sees_head xs row rest small is-four is-four' q =
      record {
        level = rw (ap (λ (l : List ℕ). get_or l 0 0) values_are);
        lengths_are = rw ops_are (rw is-four at m.lengths_are);
        next_sees = rw ops_are (rw is-four at m.next_sees);
      }
    where
      F : SeesFields s st opening_widths opening row.bits (run (bits_of 4) xs ++ rest)
      F = sees_fields s st opening_fields row.bits (run (bits_of 4) xs ++ rest) q

      direction : Got
      direction = read s row.bits 1

      ops : Taken (List ℕ)
      ops = four s 2 direction.bits

      values_are : direction.value ∷ ops.value ≡ opening
      values_are = rw (opening_read s row.bits) at F.values_are

      ops_are : ops.value ≡ 3 ∷ 3 ∷ 3 ∷ 3 ∷ []
      ops_are = ap (λ (l : List ℕ). drop 1 l) values_are

      m : SeesLengths xs row.lengths ops.bits rest
      m = sees_lengths xs row.lengths ops.bits rest small (is-four' ∙ sym is-four) (rw (opening_read s row.bits) at F.next_sees)

  -- The samples of a block.
  pub record SeesSamples (base : ℕ) (ls : List ℤ) (predict : ℕ → Predictor) (d : ℕ → ℕ) (cs : List ℕ) (b : Bits) (rest : List Bool) : Type 0 where
    pub ops_are : (samples s base ls predict cs b).ops ≡ map (op_for base predict d) cs
    pub next_sees : Sees s (samples s base ls predict cs b).bits rest

  pub sees_samples : (base : ℕ) (ls : List ℤ) (predict : ℕ → Predictor) (len d : ℕ → ℕ) (cs : List ℕ) (b : Bits) (rest : List Bool)
      → All (Residual ls predict len d) cs → Sees s b (run (λ c. bits_of (len c) (d c)) cs ++ rest) → SeesSamples base ls predict d cs b rest
  unfolding samples sample run
  sees_samples base ls predict len d [] b rest nil q = record { ops_are = refl; next_sees = q }
  sees_samples base ls predict len d (c ∷ cs) b rest (more k ks) q =
      let m = sees_samples base ls predict len d cs (read s b (len c)).bits rest ks (sees_next s st b (len c) (d c) after k.least q') in
      record {
        ops_are = rw (k.asked, read_residual_is s b (len c), capped) (ap₂ ◌∷◌ (ap (λ x. record { place = base + c; predictor = predict c; residual = x }) value_is) m.ops_are);
        next_sees = subst (λ n. Sees s (samples s base ls predict cs (read_residual s b n).bits).bits rest) (sym k.asked)
            (rw (read_residual_is s b (len c)) m.next_sees);
      }
    where
      after : List Bool
      after = run (λ c. bits_of (len c) (d c)) cs ++ rest

      q' : Sees s b (bits_of (len c) (d c) ++ after)
      q' = rw (← append_assoc (bits_of (len c) (d c)) (run (λ c. bits_of (len c) (d c)) cs) rest) q

      capped : min (len c) 32 ≡ len c
      capped = let l = k.least in omega arith

      value_is : modulo (signed (len c) (read s b (len c)).value) ≡ d c
      value_is = ap (λ v. modulo (signed (len c) v)) (sees_value s st b (len c) (d c) after k.least q') ∙ k.back
