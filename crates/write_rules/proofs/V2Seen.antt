-- What the V2 parser makes of a header and of a block that it sees.
use Prim.Native.Nat.{ℕ, zero, suc, ◌+◌, ◌*◌, ◌/◌, ◌%◌, ◌^◌, ◌<◌, ◌≤◌, min}
use mathlib.Core.Bool.{Bool, false, cond}
use mathlib.Core.Path.{◌≡◌, refl, sym, ap, ◌∙◌, subst}
use mathlib.Core.List.{List, [], ◌∷◌, ◌++◌, append_assoc}
use native.Mathlib.Omega.{arith}
use native.Mathlib.Nat.{mod-eq_of_lt}
use lib.ListN.{length, get_or, set, drop, replicate}
use lib.Seq.{sets}
use lib.Dec.{lit<, lit≤}
use lib.IntN.{ℤ, pos}
use borrow.Author.Tests.{le-ltb}
use Rattle.rules.specs.declared.reader.Bits.{Bits}
use Rattle.rules.specs.declared.reader.Got.{Got}
use Rattle.rules.specs.declared.reader.Taken.{Taken}
use Rattle.rules.specs.declared.v2.V2Hdr.{V2Hdr}
use Rattle.rules.specs.V2.{Next}
use Rattle.rules.specs.Reader.{fresh, has_filler, read, four, signed}
use Rattle.rules.specs.Frame.{tabulate}
use Rattle.rules.specs.V2.{field_widths, header, fresh_row, read_scale, read_motion, base, base_refusal, lengths_bit, read_length, Moded, length_step, lengths_from, no_lengths, flagged_lengths, read_lengths, position, Differences, difference_step, differences_from, read_differences, tail, based_tail, Block, read_block}
use Rattle.rules.proofs.Cells.{All, nil, more, all_get, Each, none, both}
use Rattle.rules.proofs.ReaderLaws.{read_signed_is}
use Rattle.write_rules.specs.Writer.{bits_of, fields_bits, run, lengths_for, length_for}
use Rattle.write_rules.specs.V2Writer.{field_values, header_bits}
use Rattle.write_rules.proofs.Ahead.{Stream, Sees, Field, sees_value, sees_next, SeesFields, sees_fields}
use Rattle.write_rules.proofs.Blocks.{opening_widths, opening, opening_fields, opening_read, lengths_most, four_lengths}

sets_four : (xs : List ℕ) → length xs ≡ 4 → sets (replicate 4 0) 0 xs ≡ xs
sets_four [] e = absurd (let q : 0 ≡ 4 = e in omega arith)
sets_four (a ∷ []) e = absurd (let q : 1 ≡ 4 = e in omega arith)
sets_four (a ∷ b ∷ []) e = absurd (let q : 2 ≡ 4 = e in omega arith)
sets_four (a ∷ b ∷ c ∷ []) e = absurd (let q : 3 ≡ 4 = e in omega arith)
sets_four (a ∷ b ∷ c ∷ d ∷ []) e = refl
sets_four (a ∷ b ∷ c ∷ d ∷ x ∷ xs) e = absurd (let q : suc (suc (suc (suc (suc (length xs))))) ≡ 4 = e in omega arith)

-- ── The header ──

header_fields : Each Field field_widths field_values
header_fields =
    both (fit (lit≤ tt) (lit< tt)) (both (fit (lit≤ tt) (lit< tt)) (both (fit (lit≤ tt) (lit< tt)) (both (fit (lit≤ tt) (lit< tt))
    (both (fit (lit≤ tt) (lit< tt)) (both (fit (lit≤ tt) (lit< tt)) (both (fit (lit≤ tt) (lit< tt)) (both (fit (lit≤ tt) (lit< tt))
    (both (fit (lit≤ tt) (lit< tt)) (both (fit (lit≤ tt) (lit< tt)) (both (fit (lit≤ tt) (lit< tt)) (both (fit (lit≤ tt) (lit< tt))
    (both (fit (lit≤ tt) (lit< tt)) none))))))))))))
  where
    fit : {n v : ℕ} → n ≤ 32 → v < 2 ^ n → Field n v
    fit l b = record { least = l; below = b }

-- What the header says.
abbrev pub written_hdr : V2Hdr
written_hdr = record { depth = 14; options = 7; initial = 0 }

-- ── Differences at their positions ──

-- n differences from number k on, each put at its position as it is read.
unfoldable pub placed : ℕ → List ℕ → (ℕ → ℕ) → ℕ → ℕ → List ℤ → List ℤ
placed row ls d zero k vs = vs
placed row ls d (suc n) k vs =
    placed row ls d n (suc k) (set vs (position row k) (signed (get_or ls (k / 4) 0) (d k % 2 ^ get_or ls (k / 4) 0)))

-- The differences of a block that is read where one was written.
abbrev pub block_differences : ℕ → (ℕ → ℕ) → List ℤ
block_differences row d = placed row (lengths_for d) d 16 0 (replicate 16 (pos 0))

abbrev pub written_block : Bool → ℕ → ℕ → ℕ → (ℕ → ℕ) → Block
written_block filler w row col d =
    record { place = row * w + col; scale = pos 0; base = base written_hdr w row col 7; differences = block_differences row d; filler = filler }

-- ── What is seen ──

not_met : {A : Type 0} (t : Bool) (a b : A) → t ≡ false → cond t a b ≡ b
not_met t a b e = rw e

module _ (s : List ℕ) (st : Stream s) where
  pub record SeesHeader (rest : List Bool) : Type 0 where
    pub hdr_is : (header s).value ≡ written_hdr
    pub next_sees : Sees s (header s).bits rest

  pub sees_header : (rest : List Bool) → Sees s (fresh 0) (header_bits ++ rest) → SeesHeader rest
  unfolding header header_bits
  sees_header rest q =
      let m = sees_fields s st header_fields (fresh 0) rest q in
      record { hdr_is = rw m.values_are; next_sees = m.next_sees }

  -- A length for each flag 3, none of them too long.
  record SeesLengths (row : ℕ) (flags xs : List ℕ) (j : ℕ) (x : Moded) (rest : List Bool) : Type 0 where
    four_are : (lengths_from s 14 row flags (length xs) j x).lengths.four ≡ sets x.lengths.four j xs
    not_long : (lengths_from s 14 row flags (length xs) j x).lengths.long ≡ false
    next_sees : Sees s (lengths_from s 14 row flags (length xs) j x).lengths.bits rest

  -- The length for one flag 3, which isn't too long.
  record SeesLength (row : ℕ) (flags : List ℕ) (l j : ℕ) (x : Moded) (rest : List Bool) : Type 0 where
    four_is : (length_step s 14 row flags j x).lengths.four ≡ set x.lengths.four j l
    not_long : (length_step s 14 row flags j x).lengths.long ≡ false
    next_sees : Sees s (length_step s 14 row flags j x).lengths.bits rest

  sees_length : (row : ℕ) (flags : List ℕ) (l j : ℕ) (x : Moded) (rest : List Bool) → l < 16 → get_or flags j 0 ≡ 3
      → Sees s x.lengths.bits (bits_of 4 l ++ rest) → SeesLength row flags l j x rest
  unfolding length_step read_length
  sees_length row flags l j x rest h three q =
      let b : Bits = x.lengths.bits in
      let v : (read s b 4).value ≡ l = sees_value s st b 4 l rest (lit≤ tt) q ∙ mod-eq_of_lt h in
      record {
        four_is = rw (three, v);
        not_long = rw (three, v) (le-ltb 15 l (omega arith));
        next_sees = rw three (sees_next s st b 4 l rest (lit≤ tt) q);
      }

  sees_lengths : (row : ℕ) (flags xs : List ℕ) (j : ℕ) (x : Moded) (rest : List Bool) → All (λ l. l < 16) xs
      → ((i : ℕ) → j ≤ i → i < j + length xs → get_or flags i 0 ≡ 3) → x.lengths.long ≡ false
      → Sees s x.lengths.bits (run (bits_of 4) xs ++ rest) → SeesLengths row flags xs j x rest
  unfolding lengths_from run
  sees_lengths row flags [] j x rest nil three e q = record { four_are = refl; not_long = e; next_sees = q }
  sees_lengths row flags (l ∷ xs) j x rest (more h hs) three e q =
      let after : List Bool = run (bits_of 4) xs ++ rest in
      let k = sees_length row flags l j x after h (three j (omega arith) (omega arith)) (rw (← append_assoc (bits_of 4 l) (run (bits_of 4) xs) rest) q) in
      let y = length_step s 14 row flags j x in
      let m = sees_lengths row flags xs (suc j) y rest hs (λ i p r. three i (omega arith) (omega arith)) k.not_long k.next_sees in
      let on = not_met y.lengths.long y (lengths_from s 14 row flags (length xs) (suc j) y) k.not_long in
      record {
        four_are = ap (λ v. v.lengths.four) on ∙ m.four_are ∙ ap (λ v. sets v (suc j) xs) k.four_is;
        not_long = ap (λ v. v.lengths.long) on ∙ m.not_long;
        next_sees = subst (λ v. Sees s v.lengths.bits rest) (sym on) m.next_sees;
      }

  -- n differences from number k on.
  record SeesDifferences (row : ℕ) (d : ℕ → ℕ) (n k : ℕ) (x : Differences) (rest : List Bool) : Type 0 where
    values_are : (differences_from s row (lengths_for d) n k x).values ≡ placed row (lengths_for d) d n k x.values
    next_sees : Sees s (differences_from s row (lengths_for d) n k x).bits rest

  sees_differences : (row : ℕ) (d : ℕ → ℕ) (n k : ℕ) (x : Differences) (rest : List Bool)
      → Sees s x.bits (run (λ k. bits_of (length_for d k) (d k)) (tabulate n k (λ k. k)) ++ rest) → SeesDifferences row d n k x rest
  unfolding differences_from difference_step placed run tabulate length_for
  sees_differences row d zero k x rest q = record { values_are = refl; next_sees = q }
  sees_differences row d (suc n) k x rest q =
      let m = sees_differences row d n (suc k) (difference_step s row (lengths_for d) k x) rest (rw (read_signed_is s b l) (sees_next s st b l (d k) after least q')) in
      record {
        values_are = m.values_are
            ∙ ap (λ v. placed row (lengths_for d) d n (suc k) (set x.values (position row k) v))
            (rw (read_signed_is s b l, capped) (ap (signed l) (sees_value s st b l (d k) after least q')));
        next_sees = m.next_sees;
      }
    where
      b : Bits
      b = x.bits

      l : ℕ
      l = get_or (lengths_for d) (k / 4) 0

      least : l ≤ 32
      least = omega (arith, all_get (λ l. l < 16) (lengths_most d) (k / 4) 0 (lit< tt))

      capped : min l 32 ≡ l
      capped = omega (arith, least)

      after : List Bool
      after = run (λ k. bits_of (get_or (lengths_for d) (k / 4) 0) (d k)) (tabulate n (suc k) (λ k. k)) ++ rest

      q' : Sees s b (bits_of l (d k) ++ after)
      q' = rw (← append_assoc (bits_of l (d k)) (run (λ k. bits_of (get_or (lengths_for d) (k / 4) 0) (d k)) (tabulate n (suc k) (λ k. k))) rest) q

  -- A block: motion 7, four flags 3, four lengths, sixteen differences.
  pub record SeesBlock (w row col : ℕ) (d : ℕ → ℕ) (b : Bits) (mode : List (List ℕ)) (rest : List Bool) : Type 0 where
    pub end : Bits
    pub outcome_is : (read_block s written_hdr w row col b fresh_row mode).outcome ≡ Next end fresh_row
    pub block_is : (read_block s written_hdr w row col b fresh_row mode).block ≡ written_block (has_filler end) w row col d
    pub end_sees : Sees s end rest

  pub sees_block : (w row col : ℕ) (d : ℕ → ℕ) (b : Bits) (mode : List (List ℕ)) (rest : List Bool)
      → Sees s b (fields_bits opening_widths opening ++ (run (bits_of 4) (lengths_for d) ++ (run (λ k. bits_of (length_for d k) (d k)) (tabulate 16 0 (λ k. k)) ++ rest)))
      → SeesBlock w row col d b mode rest
  unfolding read_block read_scale read_motion based_tail base_refusal tail read_lengths lengths_bit flagged_lengths read_differences
  sees_block w row col d b mode rest q =
      record {
        end = (differences_from s row (lengths_for d) 16 0 x).bits;
        outcome_is = rw (motion_is, flags_are, not_long, four_are);
        block_is = rw (motion_is, flags_are, not_long, four_are, D.values_are);
        end_sees = D.next_sees;
      }
    where
      written : List Bool
      written = run (λ k. bits_of (length_for d k) (d k)) (tabulate 16 0 (λ k. k))

      F : SeesFields s st opening_widths opening b (run (bits_of 4) (lengths_for d) ++ (written ++ rest))
      F = sees_fields s st opening_fields b (run (bits_of 4) (lengths_for d) ++ (written ++ rest)) q

      motion : Got
      motion = read s b 1

      flags : Taken (List ℕ)
      flags = four s 2 motion.bits

      values_are : motion.value ∷ flags.value ≡ opening
      values_are = rw (opening_read s b) at F.values_are

      motion_is : motion.value ≡ 0
      motion_is = ap (λ (l : List ℕ). get_or l 0 0) values_are

      flags_are : flags.value ≡ 3 ∷ 3 ∷ 3 ∷ 3 ∷ []
      flags_are = ap (λ (l : List ℕ). drop 1 l) values_are

      threes : List ℕ
      threes = 3 ∷ 3 ∷ 3 ∷ 3 ∷ []

      three : (i : ℕ) → 0 ≤ i → i < 0 + length (lengths_for d) → get_or threes i 0 ≡ 3
      three zero p l = refl
      three (suc zero) p l = refl
      three (suc (suc zero)) p l = refl
      three (suc (suc (suc zero))) p l = refl
      three (suc (suc (suc (suc i)))) p l = absurd (omega (arith, four_lengths d))

      m : Moded
      m = no_lengths mode flags.bits

      L : SeesLengths row threes (lengths_for d) 0 m (written ++ rest)
      L = sees_lengths row threes (lengths_for d) 0 m (written ++ rest) (lengths_most d) three refl (rw (opening_read s b) at F.next_sees)

      not_long : (lengths_from s 14 row threes 4 0 m).lengths.long ≡ false
      not_long = rw (four_lengths d) at L.not_long

      four_are : (lengths_from s 14 row threes 4 0 m).lengths.four ≡ lengths_for d
      four_are = (rw (four_lengths d) at L.four_are) ∙ sets_four (lengths_for d) (four_lengths d)

      x : Differences
      x = record { values = replicate 16 (pos 0); bits = (lengths_from s 14 row threes 4 0 m).lengths.bits }

      D : SeesDifferences row d 16 0 x rest
      D = sees_differences row d 16 0 x rest (rw (four_lengths d) at L.next_sees)
