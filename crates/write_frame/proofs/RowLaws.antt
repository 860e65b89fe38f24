-- A row: its blocks, one after another, written and measured, in either format.
use Prim.Native.Nat.{ℕ, zero, suc, ◌+◌, ◌-◌, ◌*◌, ◌/◌, ◌%◌, ◌<◌, ◌≤◌}
use mathlib.Core.Bool.{Bool, false}
use mathlib.Core.Path.{◌≡◌, refl, sym, ap, ap₂, ◌∙◌}
use mathlib.Core.List.{List, ◌++◌, append-nil, append_assoc}
use native.Mathlib.Omega.{arith}
use lib.Dec.{lit<}
use lib.ListN.{length, replicate, length-append, length-replicate}
use lib.Seq.{sets}
use Rattle.rules.specs.Limits.{most_side}
use Rattle.rules.specs.Frame.{tabulate}
use Rattle.rules.specs.V0.{blocks_in}
use Rattle.write_rules.specs.Writer.{bits_of, gap, padded, bytes, words_bytes, run, lengths_for, length_for, block_bits, Coding, Unit, word, line, blocks_bits, row_bytes}
use Rattle.write_rules.specs.declared.Pending.{Pending}
use Rattle.write_rules.specs.Pending.{nothing, put_state, put_out}
use Rattle.write_rules.proofs.Blocks.{block_length}
use Rattle.write_rules.proofs.WrittenBytes.{padded_length}
use Rattle.write_rules.proofs.PendingLaws.{Wrote, wrote_none, wrote_both}
use Rattle.write_rules.proofs.Rows.{row_bits, gap_whole, blocks_length, row_is}
use Rattle.write_bits.specs.Block.{numbers}
use Rattle.write_frame.specs.Frames.{block_of}

-- ── Blocks ──

blocks_snoc : (x : Coding) (row n col : ℕ) → blocks_bits x row (suc n) col ≡ blocks_bits x row n col ++ block_bits (x.number row (col + 16 * n))
unfolding blocks_bits
blocks_snoc x row zero col = let e : col + 16 * 0 ≡ col = omega arith in rw e (append-nil (block_bits (x.number row col)))
blocks_snoc x row (suc n) col =
    let e : col + 16 * suc n ≡ col + 16 + 16 * n = omega arith in
    rw e (ap (λ l. block_bits (x.number row col) ++ l) (blocks_snoc x row n (col + 16))
    ∙ sym (append_assoc (block_bits (x.number row col)) (blocks_bits x row n (col + 16)) (block_bits (x.number row (col + 16 + 16 * n)))))

blocks_prefix : (x : Coding) (row k n : ℕ) → length (blocks_bits x row k 0) ≤ length (blocks_bits x row (k + n) 0)
blocks_prefix x row k zero = let e : k + 0 ≡ k = omega arith in rw e (omega arith)
blocks_prefix x row k (suc n) =
    let e : k + suc n ≡ suc (k + n) = omega arith in
    rw (e, blocks_snoc x row (k + n) 0)
    (omega (arith, blocks_prefix x row k n, length-append (blocks_bits x row (k + n) 0) (block_bits (x.number row (0 + 16 * (k + n))))))

-- A list of a block's numbers has them as its numbers.
block_of_list : (x : Coding) (row col : ℕ) (d : List ℕ) → d ≡ block_of x row col → block_bits (numbers d) ≡ block_bits (x.number row col)
unfolding block_bits lengths_for length_for run tabulate
block_of_list x row col d e = ap (λ l. block_bits (numbers l)) e

-- A block has at most 265 bits.
pub block_most : (d : List ℕ) (n : ℕ) → n ≡ length (block_bits (numbers d)) → n ≤ 265
block_most d n e = rw e (block_length (numbers d))

-- ── Writing ──

-- The blocks before a column have been written.
pub record Rowing (x : Coding) (row at : ℕ) (f f' : List ℕ) (p : Pending) (col : ℕ) : Type 0 where
  pub whole : col % 16 ≡ 0
  pub most : col < x.width + 16
  pub wrote : Wrote f (nothing at) (blocks_bits x row (col / 16) 0) f' p

pub row_begun : (x : Coding) (row at : ℕ) (f : List ℕ) (p : Pending) → p ≡ nothing at → Rowing x row at f f p 0
unfolding blocks_bits
row_begun x row at f p e = rw e (record { whole = refl; most = omega arith; wrote = wrote_none f (nothing at) (lit< tt) (lit< tt) })

-- Units before them do not matter to how bits are padded.
past_units : {unit : ℕ} (at n : ℕ) → Unit unit → at % unit ≡ 0 → gap (8 * unit) (8 * at + 0 + n) ≡ gap (8 * unit) n
past_units at n word e = let m : (8 * at + 0 + n) % 32 ≡ n % 32 = go (at / 4) (omega arith) in rw m
  where
    go : (j : ℕ) → at ≡ 4 * j → (8 * at + 0 + n) % 32 ≡ n % 32
    go j q = omega arith
past_units at n line e = let m : (8 * at + 0 + n) % 128 ≡ n % 128 = go (at / 16) (omega arith) in rw m
  where
    go : (j : ℕ) → at ≡ 16 * j → (8 * at + 0 + n) % 128 ≡ n % 128
    go j q = omega arith

-- What was written from nothing on, where it is whole words: nothing waits, and its bytes are stored.
wrote_whole : (f : List ℕ) (at : ℕ) (bs : List Bool) (f' : List ℕ) (q : Pending) → length bs % 32 ≡ 0 → Wrote f (nothing at) bs f' q
    → (q.count ≡ 0) × (f' ≡ sets f at (bytes bs))
unfolding put_state put_out bits_of bytes
wrote_whole f at bs f' q words w =
    let n : 0 + length bs ≡ length bs = omega arith in
    (rw w.state (omega arith), w.stored ∙ ap (λ m. sets f at (words_bytes (m / 32) bs)) n)

module _ {x : Coding} (u : Unit x.unit) {row at : ℕ} {f f' : List ℕ} {p : Pending} {col : ℕ} (r : Rowing x row at f f' p col) where
  here : 16 * (col / 16) ≡ col
  here = let q = r.whole in omega arith

  -- There is room for the next block.
  pub block_room : (d : List ℕ) → d ≡ block_of x row col → col < x.width → at + length (row_bytes x row) ≤ length f
      → 8 * p.pos + p.count + length (block_bits (numbers d)) ≤ 8 * length f'
  block_room d e l room =
      let n = col / 16 in
      let all : suc n + (blocks_in x.width - suc n) ≡ blocks_in x.width = omega arith in
      let col_is : 0 + 16 * n ≡ col = omega (arith, here) in
      let a : length (blocks_bits x row (suc n) 0) ≤ length (row_bits x row) = rw all at (blocks_prefix x row (suc n) (blocks_in x.width - suc n)) in
      let b : length (blocks_bits x row (suc n) 0) ≡ length (blocks_bits x row n 0) + length (block_bits (x.number row col))
      = ap length (blocks_snoc x row n 0) ∙ length-append (blocks_bits x row n 0) (block_bits (x.number row (0 + 16 * n)))
      ∙ ap (λ c. length (blocks_bits x row n 0) + length (block_bits (x.number row c))) col_is in
      rw (block_of_list x row col d e) (omega (arith, r.wrote.grown, r.wrote.length_is, row_is x u row, gap_whole (length (row_bits x row)) u))

  -- With room for it, the next block is written.
  pub row_on : (d f'' : List ℕ) (q : Pending) (next : ℕ) → next ≡ col + 16 → d ≡ block_of x row col → col < x.width → Wrote f' p (block_bits (numbers d)) f'' q → Rowing x row at f f'' q next
  row_on d f'' q next on e l wrote =
      let one_more : next / 16 ≡ suc (col / 16) = omega arith in
      let col_is : 0 + 16 * (col / 16) ≡ col = omega (arith, here) in
      record {
        whole = let k = r.whole in omega arith;
        most = omega arith;
        wrote = rw (one_more, blocks_snoc x row (col / 16) 0, col_is) (wrote_both r.wrote (rw (block_of_list x row col d e) at wrote));
      }

  -- At the row's end the padding is known.
  module _ (v : ℕ) (same : v ≡ x.unit) (whole : at % v ≡ 0) (l : x.width ≤ col) where
    count_is : col / 16 ≡ blocks_in x.width
    count_is = let a = r.whole in let b = r.most in omega arith

    all : Wrote f (nothing at) (row_bits x row) f' p
    all = rw count_is at r.wrote

    before : 8 * p.pos + p.count ≡ 8 * at + 0 + length (row_bits x row)
    before = all.grown

    gap_is : gap (8 * v) (8 * p.pos + p.count) ≡ gap (8 * x.unit) (length (row_bits x row))
    gap_is = rw (same, before) (past_units at (length (row_bits x row)) u (rw same at whole))

    pub fourth : p.pos % 4 ≡ 0
    fourth = all.whole ∙ words_first u (rw same at whole)
      where
        words_first : {unit : ℕ} → Unit unit → at % unit ≡ 0 → at % 4 ≡ 0
        words_first word e = e
        words_first line e = omega arith

    -- The padding fits the buffer.
    pub end_is : 8 * p.pos + p.count + gap (8 * v) (8 * p.pos + p.count) ≡ 8 * (at + length (row_bytes x row))
    end_is = let w = gap_whole (length (row_bits x row)) u in rw gap_is (omega (arith, before, row_is x u row, w))

    -- With the padding written, the buffer has the row.
    pub row_gone : (f'' : List ℕ) (q : Pending) → Wrote f' p (replicate (gap (8 * v) (8 * p.pos + p.count)) false) f'' q
        → (q.pos ≡ at + length (row_bytes x row)) × (f'' ≡ sets f at (row_bytes x row))
    unfolding row_bytes padded
    row_gone f'' q w =
        let n = gap (8 * x.unit) (length (row_bits x row)) in
        let w' : Wrote f' p (replicate n false) f'' q = rw gap_is at w in
        let words : length (padded (8 * x.unit) (row_bits x row)) % 32 ≡ 0 = rw (padded_length (8 * x.unit) (row_bits x row)) (gap_whole (length (row_bits x row)) u) in
        let r = wrote_whole f at (padded (8 * x.unit) (row_bits x row)) f'' q words (wrote_both all w') in
        (omega (arith, r.0, w.grown, length-replicate (gap (8 * v) (8 * p.pos + p.count)) false, end_is), r.1)

-- ── Measuring ──

-- The bits of the blocks before a column have been counted.
pub record Counting (x : Coding) (row bits col : ℕ) : Type 0 where
  pub whole : col % 16 ≡ 0
  pub most : col < x.width + 16
  pub counted : bits ≡ length (blocks_bits x row (col / 16) 0)

pub count_begun : (x : Coding) (row : ℕ) → Counting x row 0 0
unfolding blocks_bits
count_begun x row = record { whole = refl; most = omega arith; counted = refl }

module _ {x : Coding} {row bits col : ℕ} (r : Counting x row bits col) where
  -- The sum of the blocks' bits is small.
  pub count_most : x.width ≤ most_side → bits ≤ 265 * 1_024
  count_most l = omega (arith, r.counted, r.most, blocks_length x row (col / 16) 0)

  -- A block's bits are added to the sum.
  pub count_on : (d : List ℕ) (n next : ℕ) → next ≡ col + 16 → d ≡ block_of x row col → col < x.width → n ≡ length (block_bits (numbers d)) → Counting x row (bits + n) next
  count_on d n next on e l is =
      let one_more : next / 16 ≡ suc (col / 16) = omega arith in
      let here : 0 + 16 * (col / 16) ≡ col = let k = r.whole in omega arith in
      record {
        whole = let k = r.whole in omega arith;
        most = omega arith;
        counted =
            ap₂ ◌+◌ r.counted (is ∙ ap length (block_of_list x row col d e))
            ∙ rw (one_more, blocks_snoc x row (col / 16) 0, here) (sym (length-append (blocks_bits x row (col / 16) 0) (block_bits (x.number row col))));
      }

  -- At the row's end the whole units are the row's bytes.
  pub count_gone : Unit x.unit → x.width ≤ col → (n : ℕ) → n ≡ (bits + gap (8 * x.unit) bits) / 8 → n ≡ length (row_bytes x row)
  count_gone u l n e =
      let last : col / 16 ≡ blocks_in x.width = let a = r.whole in let b = r.most in omega arith in
      let all : bits ≡ length (row_bits x row) = r.counted ∙ ap (λ n. length (blocks_bits x row n 0)) last in
      e ∙ ap (λ m. (m + gap (8 * x.unit) m) / 8) all ∙ sym (row_is x u row)
