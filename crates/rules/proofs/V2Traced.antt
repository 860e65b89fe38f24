-- What V2 reads, traced stage by stage up to a row: a block is made of at most 29 fields. Of a block only what the row takes of it is
-- traced, since a block that isn't written has differences that were never read.
use Prim.Native.Nat.{ℕ, zero, suc, ◌+◌, ◌*◌, ◌/◌, ◌%◌}
use mathlib.Core.Bool.{Bool, true, false, cond, not, ◌&&◌}
use mathlib.Core.Path.{◌≡◌, refl, sym}
use mathlib.Core.List.{List, [], ◌∷◌, ◌++◌}
use native.Mathlib.Omega.{arith}
use lib.Dec.{ltb, eqb}
use lib.IntN.{ℤ, pos, ◌+ℤ◌}
use lib.ListN.{get_or, set, replicate}
use Rattle.rules.specs.declared.reader.Bits.{Bits}
use Rattle.rules.specs.declared.reader.Got.{Got}
use Rattle.rules.specs.declared.reader.Taken.{Taken}
use Rattle.rules.specs.declared.v2.V2Hdr.{V2Hdr}
use Rattle.rules.specs.declared.v2.V2Row.{V2Row}
use Rattle.rules.specs.V2.{V2Block}
use Rattle.rules.specs.V2.{Next, EarlyMotion, Outside, LongDifference}
use Rattle.rules.specs.Reader.{has_filler, fresh, read, four}
use Rattle.rules.specs.V2.{field_widths, header, option_1, option_2, option_4, aligned, fresh_row, fresh_mode, scale_steps, rescaled, read_scale, read_motion, base, base_refusal, lengths_bit, colour, read_length, Moded, length_step, lengths_from, no_lengths, flagged_lengths, read_lengths, position, Differences, difference_step, differences_from, read_differences, Block, Parsed, Tail, tail, based_tail, read_block, state_after, Row, then, blocks, read_row}
use Rattle.rules.proofs.Tests.{by-test}
use Rattle.rules.proofs.Traced.{Traced, traced_none, traced_map, traced_then, traced_cond, traced_as, wider, read_traced, fields_traced, four_traced, read_signed_traced}

-- ── What is read ──

module _ (s : List ℕ) where
  pub header_traced : Traced s 13 (λ x. x.bits) (fresh 0) header
  unfolding header
  header_traced =
      traced_map
      (λ f. record {
        value = record { depth = get_or f.values 2 0 + 1; options = get_or f.values 8 0; initial = get_or f.values 12 0 };
        bits = f.bits;
      })
      (fields_traced s field_widths (fresh 0))

  rescaled_traced : (scale : ℤ) (b : Bits) → Traced s 2 (λ x. x.bits) b (λ u. rescaled u scale b)
  unfolding rescaled
  rescaled_traced scale b =
      let code = read s b 2 in
      traced_then
      (λ u g. let v = read u g.bits 12 in cond (eqb g.value 3) (record { value = pos v.value; bits = v.bits })
      (record { value = scale +ℤ get_or scale_steps g.value (pos 0); bits = g.bits }))
      (read_traced s b 2)
      (traced_cond (eqb code.value 3)
      (traced_map (λ g. record { value = pos g.value; bits = g.bits }) (read_traced s code.bits 12)) (traced_none _))

  scale_traced : (h : V2Hdr) (col : ℕ) (scale : ℤ) (b : Bits) → Traced s 2 (λ x. x.bits) b (λ u. read_scale u h col scale b)
  unfolding read_scale
  scale_traced h col scale b = traced_cond (not (option_4 h) && eqb (col % 64) 0) (rescaled_traced scale b) (traced_none _)

  motion_traced : (h : V2Hdr) (motion : ℕ) (b : Bits) → Traced s 2 (λ x. x.bits) b (λ u. read_motion u h motion b)
  unfolding read_motion
  motion_traced h motion b =
      let g = read s b 1 in
      traced_then
      (λ u g. cond (option_2 h) (record { value = cond (eqb g.value 1) 3 7; bits = g.bits })
      (cond (eqb g.value 0) (read u g.bits 3) (record { value = motion; bits = g.bits })))
      (read_traced s b 1)
      (traced_cond (option_2 h) (traced_none _) (traced_cond (eqb g.value 0) (read_traced s g.bits 3) (traced_none _)))

  lengths_bit_traced : (h : V2Hdr) (b : Bits) → Traced s 1 (λ x. x.bits) b (λ u. lengths_bit u h b)
  unfolding lengths_bit
  lengths_bit_traced h b = traced_cond (option_1 h) (traced_none _) (read_traced s b 1)

  length_traced : (flag first : ℕ) (b : Bits) → Traced s 1 (λ x. x.bits) b (λ u. read_length u flag first b)
  unfolding read_length
  length_traced flag first b =
      traced_cond (eqb flag 3) (read_traced s b 4)
      (traced_cond (eqb flag 2) (traced_none _) (traced_cond (eqb flag 1) (traced_none _) (traced_none _)))

  module _ (depth row : ℕ) where
    length_step_traced : (flags : List ℕ) (j : ℕ) (x : Moded)
        → Traced s 1 (λ y. y.lengths.bits) x.lengths.bits (λ u. length_step u depth row flags j x)
    unfolding length_step
    length_step_traced flags j x =
        let pair = get_or x.mode (colour row j) [] in
        traced_map
        (λ g. record {
          lengths = record { four = set x.lengths.four j g.value; long = ltb (depth + 1) g.value; bits = g.bits };
          mode = set x.mode (colour row j) (get_or pair 1 0 ∷ g.value ∷ []);
        })
        (length_traced (get_or flags j 0) (get_or pair 0 0) x.lengths.bits)

    lengths_from_traced : (flags : List ℕ) (n j : ℕ) (x : Moded)
        → Traced s n (λ y. y.lengths.bits) x.lengths.bits (λ u. lengths_from u depth row flags n j x)
    unfolding lengths_from
    lengths_from_traced flags zero j x = traced_none x
    lengths_from_traced flags (suc n) j x =
        let y = length_step s depth row flags j x in
        wider (omega arith)
        (traced_then (λ u y. cond y.lengths.long y (lengths_from u depth row flags n (suc j) y)) (length_step_traced flags j x)
        (traced_cond y.lengths.long (traced_none y) (lengths_from_traced flags n (suc j) y)))

    flagged_lengths_traced : (mode : List (List ℕ)) (b : Bits) → Traced s 8 (λ y. y.lengths.bits) b (λ u. flagged_lengths u depth row mode b)
    unfolding flagged_lengths
    flagged_lengths_traced mode b =
        traced_then (λ u f. lengths_from u depth row f.value 4 0 (no_lengths mode f.bits)) (four_traced s 2 b)
        (lengths_from_traced (four s 2 b).value 4 0 (no_lengths mode (four s 2 b).bits))

  lengths_traced : (h : V2Hdr) (row : ℕ) (mode : List (List ℕ)) (b : Bits) → Traced s 9 (λ y. y.lengths.bits) b (λ u. read_lengths u h row mode b)
  unfolding read_lengths
  lengths_traced h row mode b =
      let g = lengths_bit s h b in
      traced_then (λ u g. cond (eqb g.value 0) (flagged_lengths u h.depth row mode g.bits) (no_lengths mode g.bits))
      (lengths_bit_traced h b)
      (traced_cond (eqb g.value 0) (flagged_lengths_traced h.depth row mode g.bits) (traced_none _))

  module _ (row : ℕ) (ls : List ℕ) where
    difference_step_traced : (k : ℕ) (x : Differences) → Traced s 1 (λ y. y.bits) x.bits (λ u. difference_step u row ls k x)
    unfolding difference_step
    difference_step_traced k x =
        traced_map (λ g. record { values = set x.values (position row k) g.value; bits = g.bits })
        (read_signed_traced s x.bits (get_or ls (k / 4) 0))

    differences_from_traced : (n k : ℕ) (x : Differences) → Traced s n (λ y. y.bits) x.bits (λ u. differences_from u row ls n k x)
    unfolding differences_from
    differences_from_traced zero k x = traced_none x
    differences_from_traced (suc n) k x =
        wider (omega arith)
        (traced_then (λ u y. differences_from u row ls n (suc k) y) (difference_step_traced k x)
        (differences_from_traced n (suc k) (difference_step s row ls k x)))

    differences_traced : (b : Bits) → Traced s 16 (λ y. y.bits) b (λ u. read_differences u row ls b)
    unfolding read_differences
    differences_traced b = differences_from_traced 16 0 (record { values = replicate 16 (pos 0); bits = b })

-- ── A block, as far as it is written ──

-- The block itself where the outcome is `Next`, else none.
abbrev pub written : V2Block → Block → List Block
written (Next b st) x = x ∷ []
written (EarlyMotion b) x = []
written (Outside b) x = []
written (LongDifference b) x = []

-- What a row takes of a block that is read.
pub record Seen : Type 0 where
  pub outcome : V2Block
  pub mode : List (List ℕ)
  pub blocks : List Block

abbrev pub seen : Parsed → Seen
seen p = record { outcome = p.outcome; mode = p.mode; blocks = written p.outcome p.block }

abbrev pub state : Seen → Bits
state q = state_after q.outcome

-- The block at a column, from its scale, its motion and what follows them.
abbrev finish : V2Hdr → ℕ → ℕ → ℕ → ℤ → ℕ → Tail → Parsed
finish h w row col scale motion x =
    record {
      outcome = x.outcome;
      mode = x.mode;
      block = record {
        place = row * w + col;
        scale = scale;
        base = base h w row col motion;
        differences = x.differences;
        filler = has_filler (state_after x.outcome);
      };
    }

module _ (s : List ℕ) (h : V2Hdr) (w row : ℕ) where
  module _ (col : ℕ) (scale : ℤ) (motion : ℕ) (st : V2Row) (mode : List (List ℕ)) where
    abbrev close : Tail → Seen
    close x = seen (finish h w row col scale motion x)

    abbrev ending : List ℕ → Bool → Moded → Seen
    ending u t l =
        let d = read_differences u row l.lengths.four l.lengths.bits in
        close (record { outcome = cond t (LongDifference l.lengths.bits) (Next d.bits st); mode = l.mode; differences = d.values })

    ending_traced : (t : Bool) (l : Moded) → Traced s 16 state l.lengths.bits (λ u. ending u t l)
    ending_traced true l = traced_none (record { outcome = LongDifference l.lengths.bits; mode = l.mode; blocks = [] })
    ending_traced false l =
        traced_map (λ d. close (record { outcome = Next d.bits st; mode = l.mode; differences = d.values }))
        (differences_traced s row l.lengths.four l.lengths.bits)

    tail_traced : (b : Bits) → Traced s 25 state b (λ u. close (tail u h row st mode b))
    unfolding tail
    tail_traced b =
        let l = read_lengths s h row mode b in
        traced_then (λ u l. ending u l.lengths.long l) (lengths_traced s h row mode b) (ending_traced l.lengths.long l)

    based_tail_traced : (b : Bits) → Traced s 25 state b (λ u. close (based_tail u h row col st mode b))
    unfolding based_tail
    based_tail_traced b =
        by-test (eqb (base_refusal row col st.motion) 5)
        (λ e. rw e (traced_none (close early)))
        (λ f. rw f (by-test (eqb (base_refusal row col st.motion) 6) (λ e. rw e (traced_none (close outside))) (λ e. rw e (tail_traced b))))
      where
        early : Tail
        early = record { outcome = EarlyMotion b; mode = mode; differences = [] }

        outside : Tail
        outside = record { outcome = Outside b; mode = mode; differences = [] }

  pub block_traced : (col : ℕ) (b : Bits) (st : V2Row) (mode : List (List ℕ))
      → Traced s 29 state b (λ u. seen (read_block u h w row col b st mode))
  unfolding read_block
  block_traced col b st mode =
      let c = read_scale s h col st.scale b in
      let m = read_motion s h st.motion c.bits in
      traced_then (λ u c. from_motion u c (read_motion u h st.motion c.bits)) (scale_traced s h col st.scale b)
      (traced_then (λ u m. from_motion u c m) (motion_traced s h st.motion c.bits)
      (based_tail_traced col c.value m.value (record { motion = m.value; scale = c.value }) mode m.bits))
    where
      from_motion : List ℕ → Taken ℤ → Got → Seen
      from_motion u c m = seen (finish h w row col c.value m.value (based_tail u h row col (record { motion = m.value; scale = c.value }) mode m.bits))

-- ── A row ──

-- A block, as far as it is written, and what follows it.
unfoldable pub then_seen : V2Block → List Block → (Bits → V2Row → Row) → Row
then_seen (Next b st) xs rest = let q = rest b st in record { blocks = xs ++ q.blocks; number = q.number; bits = q.bits }
then_seen (EarlyMotion b) xs rest = record { blocks = []; number = 5; bits = b }
then_seen (Outside b) xs rest = record { blocks = []; number = 6; bits = b }
then_seen (LongDifference b) xs rest = record { blocks = []; number = 7; bits = b }

pub then_is : (o : V2Block) (x : Block) (rest : Bits → V2Row → Row) → then o x rest ≡ then_seen o (written o x) rest
unfolding then then_seen
then_is (Next b st) x rest = refl
then_is (EarlyMotion b) x rest = refl
then_is (Outside b) x rest = refl
then_is (LongDifference b) x rest = refl

module _ (s : List ℕ) (h : V2Hdr) (w row : ℕ) where
  pub blocks_traced : (k col : ℕ) (b : Bits) (st : V2Row) (mode : List (List ℕ))
      → Traced s (k * 29) (λ q. q.bits) b (λ u. blocks u h w row k col b st mode)
  unfolding blocks then_seen
  blocks_traced zero col b st mode = traced_none _
  blocks_traced (suc k) col b st mode =
      traced_as (λ u. sym (then_is (p u).outcome (p u).block _))
      (wider (omega arith)
      (traced_then (λ u q. then_seen q.outcome q.blocks (rest u q)) (block_traced s h w row col b st mode)
      (go (p s).outcome (written (p s).outcome (p s).block) (λ b' st'. blocks_traced k (col + 16) b' st' (p s).mode))))
    where
      p : List ℕ → Parsed
      p u = read_block u h w row col b st mode

      rest : List ℕ → Seen → Bits → V2Row → Row
      rest u q b' st' = blocks u h w row k (col + 16) b' st' q.mode

      go : (o : V2Block) (xs : List Block) → ((b' : Bits) (st' : V2Row) → Traced s (k * 29) (λ q. q.bits) b' (λ u. rest u (seen (p s)) b' st'))
          → Traced s (k * 29) (λ q. q.bits) (state_after o) (λ u. then_seen o xs (rest u (seen (p s))))
      go (Next b' st') xs r = traced_map (λ q. record { blocks = xs ++ q.blocks; number = q.number; bits = q.bits }) (r b' st')
      go (EarlyMotion b') xs r = traced_none _
      go (Outside b') xs r = traced_none _
      go (LongDifference b') xs r = traced_none _

  -- A row, from its start on.
  pub row_traced : (b : Bits) → Traced s (w / 16 * 29) (λ q. q.bits) (aligned b) (λ u. read_row u h w row b)
  unfolding read_row
  row_traced b = blocks_traced (w / 16) 0 (aligned b) fresh_row (fresh_mode row)
