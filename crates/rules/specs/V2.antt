-- V2 (docs/RULES.md, "V2"): what the stream says of each block of a frame, with no sample's value, and what that
-- does to the frame's cells. A frame is read block by block up to the first refusal; the blocks before it are what is written.
use Rattle.std.specs.Prelude.{ℕ, zero, suc, ◌+◌, ◌-◌, ◌*◌, ◌/◌, ◌%◌, ◌^◌, min, Bool, true, false, not, ◌&&◌, cond, List, [], ◌∷◌, ◌++◌, get_or, set, replicate, ltb, eqb, ℤ, pos, negsuc, nat_abs, ◌+ℤ◌, ◌*ℤ◌}
use Rattle.std.proofs.lemmas.List.Edits.{sets}
use Rattle.rules.specs.declared.answer.Answer.{Answer}
use Rattle.rules.specs.declared.answer.Size.{Size}
use Rattle.rules.specs.declared.reader.Bits.{Bits}
use Rattle.rules.specs.declared.reader.Got.{Got}
use Rattle.rules.specs.declared.reader.Taken.{Taken}
use Rattle.rules.specs.declared.v2.V2Hdr.{V2Hdr}
use Rattle.rules.specs.declared.v2.V2Row.{V2Row}
use Rattle.rules.specs.Reader.{has_filler, fresh, reset_at, read, fields, four, read_signed}
use Rattle.rules.specs.Frame.{tabulate, ended}

-- ── The header ──

-- The bits of the header's fields, 128 in all: field 2 is depth − 1, field 8 the options, field 12 the initial sample; the rest
-- is ignored.
abbrev pub field_widths : List ℕ
field_widths = 16 ∷ 4 ∷ 4 ∷ 8 ∷ 16 ∷ 16 ∷ 16 ∷ 4 ∷ 4 ∷ 16 ∷ 8 ∷ 2 ∷ 14 ∷ []

unfoldable pub header : List ℕ → Taken V2Hdr
header s =
    let f = fields s field_widths (fresh 0) in
    record {
      value = record { depth = get_or f.values 2 0 + 1; options = get_or f.values 8 0; initial = get_or f.values 12 0 };
      bits = f.bits;
    }

-- Top, the greatest sample: 2^depth − 1.
unfoldable pub top : V2Hdr → ℕ
top h = 2 ^ h.depth - 1

-- Options 1, 2 and 4, each a bit of the options.
abbrev pub option_1 : V2Hdr → Bool
option_1 h = eqb (h.options % 2) 1

abbrev pub option_2 : V2Hdr → Bool
option_2 h = eqb (h.options / 2 % 2) 1

abbrev pub option_4 : V2Hdr → Bool
option_4 h = eqb (h.options / 4 % 2) 1

-- ── A row's state ──

-- Each row starts at the next multiple of 16 at or after the reader's position; the count of missing words stays.
unfoldable pub aligned : Bits → Bits
aligned b = reset_at b ((b.pos + (16 - b.pos % 16) % 16) % 2 ^ 64)

-- A row starts with motion 7 and scale 0.
abbrev pub fresh_row : V2Row
fresh_row = record { motion = 7; scale = pos 0 }

-- Three colours of two remembered lengths each: all 7 in rows 0 and 1, else 4.
unfoldable pub fresh_mode : ℕ → List (List ℕ)
fresh_mode row = replicate 3 (replicate 2 (cond (ltb row 2) 7 4))

-- ── A block: 1. scale ──

-- What the codes 0, 1 and 2 add to the scale.
abbrev pub scale_steps : List ℤ
scale_steps = pos 0 ∷ negsuc 1 ∷ pos 2 ∷ []

-- Code 3 sets the scale from 12 bits.
unfoldable pub rescaled : List ℕ → ℤ → Bits → Taken ℤ
rescaled s scale b =
    let code = read s b 2 in
    let v = read s code.bits 12 in
    cond (eqb code.value 3) (record { value = pos v.value; bits = v.bits })
    (record { value = scale +ℤ get_or scale_steps code.value (pos 0); bits = code.bits })

-- A code is read if option 4 is clear and the column is a multiple of 64.
unfoldable pub read_scale : List ℕ → V2Hdr → ℕ → ℤ → Bits → Taken ℤ
read_scale s h col scale b =
    cond (not (option_4 h) && eqb (col % 64) 0) (rescaled s scale b) (record { value = scale; bits = b })

-- ── 2. motion ──

-- With option 2 a bit: 1 gives motion 3, 0 gives 7. Else a bit: 0 takes the motion from 3 bits, 1 keeps it.
unfoldable pub read_motion : List ℕ → V2Hdr → ℕ → Bits → Got
read_motion s h motion b =
    let g = read s b 1 in
    cond (option_2 h) (record { value = cond (eqb g.value 1) 3 7; bits = g.bits })
    (cond (eqb g.value 0) (read s g.bits 3) (record { value = motion; bits = g.bits }))

-- ── 3. base ──

-- A sample's base: a number of the stream, the cell at a place, or the average of two cells.
pub data Base : Type 0 where
  given : ℕ → Base
  copied : ℕ → Base
  averaged : ℕ → ℕ → Base

-- Motion 7 repeats the two samples before the block, the first for even i and the second for odd; at column 0 the initial sample.
unfoldable pub repeated : V2Hdr → ℕ → ℕ → ℕ → ℕ → Base
repeated h w row col i = cond (eqb col 0) (given h.initial) (copied (row * w + col - 2 + i % 2))

-- The column offsets of motions 0 to 6, and which of them average.
abbrev pub motion_offsets : List ℤ
motion_offsets = negsuc 3 ∷ negsuc 1 ∷ negsuc 1 ∷ pos 0 ∷ pos 0 ∷ pos 2 ∷ pos 4 ∷ []

abbrev pub motion_averages : List Bool
motion_averages = false ∷ false ∷ true ∷ false ∷ true ∷ false ∷ false ∷ []

-- Where sample i refers to, as a position in the whole frame. If row + i is odd: two rows up, at column + i + offset. Else: one
-- row up, and 1 further right for even i, 1 further left for odd.
unfoldable pub reference : ℕ → ℕ → ℕ → ℕ → ℕ → ℤ
reference w row col motion i =
    cond (eqb ((row + i) % 2) 1)
    (pos ((row - 2) * w + col + i) +ℤ get_or motion_offsets motion (pos 0))
    (pos ((row - 1) * w + col + i) +ℤ get_or motion_offsets motion (pos 0) +ℤ cond (eqb (i % 2) 0) (pos 1) (negsuc 0))

-- A motion that averages takes the cell two places on, too.
unfoldable pub referred : ℕ → ℕ → ℕ → ℕ → ℕ → Base
referred w row col motion i =
    let p = nat_abs (reference w row col motion i) in
    cond (get_or motion_averages motion false) (averaged p (p + 2)) (copied p)

unfoldable pub base : V2Hdr → ℕ → ℕ → ℕ → ℕ → ℕ → Base
base h w row col motion i = cond (eqb motion 7) (repeated h w row col i) (referred w row col motion i)

-- Whether a block refers to before the frame's first sample: row 2, column 0, motion 0, 1 or 2. No other reference is outside
-- the frame (References.antt).
unfoldable pub refers_before : ℕ → ℕ → ℕ → Bool
refers_before row col motion = eqb row 2 && (eqb col 0 && ltb motion 3)

-- The refusal that the base meets, or 0: 5 for a motion other than 7 in row 0 or 1, 6 for a reference before the frame.
unfoldable pub base_refusal : ℕ → ℕ → ℕ → ℕ
base_refusal row col motion = cond (eqb motion 7) 0 (cond (ltb row 2) 5 (cond (refers_before row col motion) 6 0))

-- ── 4. lengths ──

-- Lengths follow if option 1 is set, or if the next bit is 0: this is 0 where they follow.
unfoldable pub lengths_bit : List ℕ → V2Hdr → Bits → Got
lengths_bit s h b = cond (option_1 h) (record { value = 0; bits = b }) (read s b 1)

-- The colour of length j: j/2 rounded down in odd rows; 2, 2, 0, 0 in even rows.
unfoldable pub colour : ℕ → ℕ → ℕ
colour row j = cond (eqb (row % 2) 1) (j / 2) ((j / 2 + 2) % 3)

-- Flag 0 is the colour's first remembered length, 1 one more, 2 one less (0 less 1 is 2^32 − 1), 3 reads 4 bits.
unfoldable pub read_length : List ℕ → ℕ → ℕ → Bits → Got
read_length s flag first b =
    cond (eqb flag 3) (read s b 4)
    (cond (eqb flag 2) (record { value = (first + 0xffff_ffff) % 2 ^ 32; bits = b })
    (cond (eqb flag 1) (record { value = (first + 1) % 2 ^ 32; bits = b })
    (record { value = first; bits = b })))

-- Four lengths, whether one was too long, and the reader's state after them.
pub record V2Lengths : Type 0 where
  pub four : List ℕ
  pub long : Bool
  pub bits : Bits

-- Lengths, with what is then remembered.
pub record Moded : Type 0 where
  pub lengths : V2Lengths
  pub mode : List (List ℕ)

-- Length j: the colour's second remembered length becomes its first, the new one its second; then it is too long above depth + 1.
unfoldable pub length_step : List ℕ → ℕ → ℕ → List ℕ → ℕ → Moded → Moded
length_step s depth row flags j x =
    let pair = get_or x.mode (colour row j) [] in
    let g = read_length s (get_or flags j 0) (get_or pair 0 0) x.lengths.bits in
    record {
      lengths = record { four = set x.lengths.four j g.value; long = ltb (depth + 1) g.value; bits = g.bits };
      mode = set x.mode (colour row j) (get_or pair 1 0 ∷ g.value ∷ []);
    }

-- n lengths from number j on, up to the first that is too long.
unfoldable pub lengths_from : List ℕ → ℕ → ℕ → List ℕ → ℕ → ℕ → Moded → Moded
lengths_from s depth row flags zero j x = x
lengths_from s depth row flags (suc n) j x =
    let y = length_step s depth row flags j x in
    cond y.lengths.long y (lengths_from s depth row flags n (suc j) y)

-- Four lengths that are all 0, with nothing more remembered.
abbrev pub no_lengths : List (List ℕ) → Bits → Moded
no_lengths mode b = record { lengths = record { four = replicate 4 0; long = false; bits = b }; mode = mode }

-- Four 2-bit flags, then the lengths.
unfoldable pub flagged_lengths : List ℕ → ℕ → ℕ → List (List ℕ) → Bits → Moded
flagged_lengths s depth row mode b =
    let f = four s 2 b in
    lengths_from s depth row f.value 4 0 (no_lengths mode f.bits)

unfoldable pub read_lengths : List ℕ → V2Hdr → ℕ → List (List ℕ) → Bits → Moded
read_lengths s h row mode b =
    let g = lengths_bit s h b in
    cond (eqb g.value 0) (flagged_lengths s h.depth row mode g.bits) (no_lengths mode g.bits)

-- ── 5. differences ──

-- The position of difference k in its block.
unfoldable pub position : ℕ → ℕ → ℕ
position row k = cond (eqb (row % 2) 0) (2 * (k % 8) + k / 8) (2 * (k % 8) + 1 - k / 8)

-- Differences by position, and the reader's state after them.
pub record Differences : Type 0 where
  pub values : List ℤ
  pub bits : Bits

-- Difference k is read with length number k/4 rounded down, in two's complement.
unfoldable pub difference_step : List ℕ → ℕ → List ℕ → ℕ → Differences → Differences
difference_step s row ls k x =
    let d = read_signed s x.bits (get_or ls (k / 4) 0) in
    record { values = set x.values (position row k) d.value; bits = d.bits }

-- n differences from number k on.
unfoldable pub differences_from : List ℕ → ℕ → List ℕ → ℕ → ℕ → Differences → Differences
differences_from s row ls zero k x = x
differences_from s row ls (suc n) k x = differences_from s row ls n (suc k) (difference_step s row ls k x)

unfoldable pub read_differences : List ℕ → ℕ → List ℕ → Bits → Differences
read_differences s row ls b = differences_from s row ls 16 0 (record { values = replicate 16 (pos 0); bits = b })

-- ── The whole block ──

-- What a block does: its first place, the scale, each sample's base and difference, and whether the reader had fetched a filler word
-- by the block's end, from the header on.
pub record Block : Type 0 where
  pub place : ℕ
  pub scale : ℤ
  pub base : ℕ → Base
  pub differences : List ℤ
  pub filler : Bool

-- A block's outcome: the next reader state, motion and scale; or refusal 5, 6 or 7, with the reader's state as it then stands.
pub data V2Block : Type 0 where
  Next : Bits → V2Row → V2Block
  EarlyMotion : Bits → V2Block
  Outside : Bits → V2Block
  LongDifference : Bits → V2Block

-- A block as the stream has it: its outcome, what is remembered after it, and, where the outcome is `Next`, what it does.
pub record Parsed : Type 0 where
  pub outcome : V2Block
  pub mode : List (List ℕ)
  pub block : Block

-- The answer's number of an outcome.
abbrev pub number : V2Block → ℕ
number (Next b st) = 0
number (EarlyMotion b) = 5
number (Outside b) = 6
number (LongDifference b) = 7

-- The reader's state after an outcome.
abbrev pub state_after : V2Block → Bits
state_after (Next b st) = b
state_after (EarlyMotion b) = b
state_after (Outside b) = b
state_after (LongDifference b) = b

-- What lengths and differences give: the outcome, what is remembered, and the differences.
pub record Tail : Type 0 where
  pub outcome : V2Block
  pub mode : List (List ℕ)
  pub differences : List ℤ

-- The block after its base, `st` being the row's state with the block's own motion and scale: refusal 7, or the differences.
unfoldable pub tail : List ℕ → V2Hdr → ℕ → V2Row → List (List ℕ) → Bits → Tail
tail s h row st mode b =
    let l = read_lengths s h row mode b in
    let d = read_differences s row l.lengths.four l.lengths.bits in
    record {
      outcome = cond l.lengths.long (LongDifference l.lengths.bits) (Next d.bits st);
      mode = l.mode;
      differences = d.values;
    }

-- The same, unless the base meets refusal 5 or 6: then not even the lengths bit is read.
unfoldable pub based_tail : List ℕ → V2Hdr → ℕ → ℕ → V2Row → List (List ℕ) → Bits → Tail
based_tail s h row col st mode b =
    let refusal = base_refusal row col st.motion in
    cond (eqb refusal 5) (record { outcome = EarlyMotion b; mode = mode; differences = [] })
    (cond (eqb refusal 6) (record { outcome = Outside b; mode = mode; differences = [] }) (tail s h row st mode b))

-- The block at a column of a row, in a frame of w cells to a row.
unfoldable pub read_block : List ℕ → V2Hdr → ℕ → ℕ → ℕ → Bits → V2Row → List (List ℕ) → Parsed
read_block s h w row col b st mode =
    let c = read_scale s h col st.scale b in
    let m = read_motion s h st.motion c.bits in
    let x = based_tail s h row col (record { motion = m.value; scale = c.value }) mode m.bits in
    record {
      outcome = x.outcome;
      mode = x.mode;
      block = record {
        place = row * w + col;
        scale = c.value;
        base = base h w row col m.value;
        differences = x.differences;
        filler = has_filler (state_after x.outcome);
      };
    }

-- ── Rows ──

-- A row: its blocks before the first refusal, the refusal's number or 0, and the reader's state.
pub record Row : Type 0 where
  pub blocks : List Block
  pub number : ℕ
  pub bits : Bits

-- A block and what follows it: a refusal is met at once, and its block is not written.
unfoldable pub then : V2Block → Block → (Bits → V2Row → Row) → Row
then (Next b st) block rest =
    let q = rest b st in
    record { blocks = block ∷ q.blocks; number = q.number; bits = q.bits }
then (EarlyMotion b) block rest = record { blocks = []; number = number (EarlyMotion b); bits = b }
then (Outside b) block rest = record { blocks = []; number = number (Outside b); bits = b }
then (LongDifference b) block rest = record { blocks = []; number = number (LongDifference b); bits = b }

-- k blocks from a column on.
unfoldable pub blocks : List ℕ → V2Hdr → ℕ → ℕ → ℕ → ℕ → Bits → V2Row → List (List ℕ) → Row
blocks s h w row zero col b st mode = record { blocks = []; number = 0; bits = b }
blocks s h w row (suc k) col b st mode =
    let p = read_block s h w row col b st mode in
    then p.outcome p.block (λ b' st'. blocks s h w row k (col + 16) b' st' p.mode)

-- Only whole blocks are read: the last (width mod 16) samples of a row are not written.
unfoldable pub read_row : List ℕ → V2Hdr → ℕ → ℕ → Bits → Row
read_row s h w row b = blocks s h w row (w / 16) 0 (aligned b) fresh_row (fresh_mode row)

-- A frame: the blocks that are written, and the answer.
pub record Frame : Type 0 where
  pub blocks : List Block
  pub answer : Answer

-- A row and the rest of the frame. A refusal keeps the blocks before it; 8 is tested only after a row without 5 to 7, and keeps
-- that row too: a word was missing so far, from the header on. A refusal's answer has the count of missing words as it then stands.
unfoldable pub then_rows : ℕ → Row → Frame → Frame
then_rows row q rest =
    cond (eqb q.number 0)
    (cond (eqb q.bits.filler 0) (record { blocks = q.blocks ++ rest.blocks; answer = rest.answer })
    (record { blocks = q.blocks; answer = record { number = 8; row = row; filler = q.bits.filler } }))
    (record { blocks = q.blocks; answer = record { number = q.number; row = row; filler = q.bits.filler } })

-- k rows from a row on.
unfoldable pub rows : List ℕ → V2Hdr → ℕ → ℕ → ℕ → Bits → Frame
rows s h w zero row b = record { blocks = []; answer = record { number = 0; row = 0; filler = b.filler } }
rows s h w (suc k) row b =
    let q = read_row s h w row b in
    then_rows row q (rows s h w k (suc row) q.bits)

unfoldable pub read_frame : List ℕ → Size → Frame
read_frame s z =
    let x = header s in
    rows s x.value z.width z.height 0 x.bits

-- ── Cells ──

-- A kind of cell: a number of the stream, the average of two cells, a base with its scale and difference, and what a cell becomes
-- whose block ended with filler.
pub record Kind (A : Type 0) : Type 0 where
  pub constant : ℕ → A
  pub average : A → A → A
  pub adjust : ℤ → ℤ → A → A
  pub filled : A → A

module _ {A : Type 0} (k : Kind A) where
  unfoldable pub base_cell : List A → Base → A
  base_cell f (given v) = k.constant v
  base_cell f (copied p) = get_or f p (k.constant 0)
  base_cell f (averaged p q) = k.average (get_or f p (k.constant 0)) (get_or f q (k.constant 0))

  -- The sixteen cells of a block: all bases are read before a cell is written.
  unfoldable pub block_cells : List A → Block → List A
  block_cells f b = tabulate 16 0 (λ i. k.adjust b.scale (get_or b.differences i (pos 0)) (base_cell f (b.base i)))

  -- One block, and what filler makes of its cells.
  unfoldable pub write : Block → List A → List A
  write b f = ended k.filled (k.constant 0) b.filler b.place (sets f b.place (block_cells f b))

  unfoldable pub apply : List Block → List A → List A
  apply [] f = f
  apply (b ∷ bs) f = apply bs (write b f)

  -- A whole frame.
  unfoldable pub frame : List ℕ → Size → List A → List A
  frame s z f = apply (read_frame s z).blocks f

-- The average of two samples, rounded up at a half.
unfoldable pub average : ℕ → ℕ → ℕ
average a b = (a + b + 1) / 2

-- ── 6. samples ──

-- Base + difference times (2 scale + 1) + scale.
unfoldable pub value : ℕ → ℤ → ℤ → ℤ
value b d scale = pos b +ℤ d *ℤ (pos 2 *ℤ scale +ℤ pos 1) +ℤ scale

-- Held to 0..top.
unfoldable pub hold : ℕ → ℤ → ℕ
hold t (pos n) = min n t
hold t (negsuc n) = 0

abbrev pub sample : ℕ → ℤ → ℤ → ℕ → ℕ
sample t scale d b = hold t (value b d scale)

abbrev pub sample_kind : ℕ → Kind ℕ
sample_kind t = record { constant = λ v. v; average = average; adjust = sample t; filled = λ a. a }

-- The samples that the decoder leaves.
unfoldable pub decoded : List ℕ → Size → List ℕ → List ℕ
decoded s z f = frame (sample_kind (top (header s).value)) s z f
