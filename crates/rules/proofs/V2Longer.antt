-- V2 of a longer stream: up to the first missing word both are read alike, so their blocks are the same; what follows in the shorter
-- one are blocks with filler.
use Prim.Native.Nat.{ℕ, zero, suc, ◌+◌, ◌*◌, ◌/◌, ◌≤◌}
use mathlib.Core.Bool.{true}
use mathlib.Core.Path.{◌≡◌, refl, sym, ap, ◌∙◌}
use mathlib.Core.Logic.{◌≢◌}
use mathlib.Core.List.{List, [], ◌∷◌, ◌++◌, append-nil}
use native.Mathlib.Omega.{arith}
use native.Mathlib.Nat.{mul-le-mul_right}
use lib.Dec.{eqb}
use borrow.Author.Tests.{eqb-true, eqb-false}
use Rattle.rules.specs.declared.answer.Size.{Size}
use Rattle.rules.specs.declared.reader.Bits.{Bits}
use Rattle.rules.specs.declared.v2.V2Hdr.{V2Hdr}
use Rattle.rules.specs.declared.v2.V2Row.{V2Row}
use Rattle.rules.specs.V2.{Next}
use Rattle.rules.specs.Reader.{has_filler}
use Rattle.rules.specs.V2.{header, aligned, fresh_row, fresh_mode, Block, Parsed, read_block, state_after, Row, then, blocks, read_row, Frame, then_rows, rows, read_frame}
use Rattle.rules.proofs.Cells.{All, nil, more, all_map}
use Rattle.rules.proofs.Longer.{Longer, Sure, sure}
use Rattle.rules.proofs.Traced.{leads_kept}
use Rattle.rules.proofs.V2Rows.{then_cases, then_rows_cases}
use Rattle.rules.proofs.V2Traced.{written, then_seen, then_is, header_traced, block_traced, row_traced}
use Rattle.rules.proofs.Tests.{by-test}

-- ── A row ──

-- Two lists of blocks that are the same up to where the first has filler to its end.
pub data Split : List Block → List Block → Type 0 where
  same : {b : Block} {bs cs : List Block} → Split bs cs → Split (b ∷ bs) (b ∷ cs)
  apart : {bs cs : List Block} → All (λ b. b.filler ≡ true) bs → Split bs cs

split_same : (bs : List Block) {xs ys : List Block} → Split xs ys → Split (bs ++ xs) (bs ++ ys)
split_same [] p = p
split_same (b ∷ bs) p = same (split_same bs p)

split_more : {bs cs : List Block} (ds : List Block) → Split bs cs → Split bs (cs ++ ds)
split_more ds (same p) = same (split_more ds p)
split_more ds (apart h) = apart h

filler_there : (b : Bits) → b.filler ≢ 0 → has_filler b ≡ true
filler_there b e = by-test (eqb b.filler 0) (λ q. rw q (absurd (e (eqb-true b.filler 0 q)))) (λ q. rw q)

module _ (s : List ℕ) (h : V2Hdr) (w row : ℕ) where
  module _ (col : ℕ) (b : Bits) (st : V2Row) (mode : List (List ℕ)) where
    pub block_filler : (b' : Bits) (st' : V2Row) → (read_block s h w row col b st mode).outcome ≡ Next b' st'
        → (read_block s h w row col b st mode).block.filler ≡ has_filler b'
    unfolding read_block
    block_filler b' st' e = ap (λ o. has_filler (state_after o)) e

    block_kept : (b' : Bits) (st' : V2Row) → (read_block s h w row col b st mode).outcome ≡ Next b' st' → b'.filler ≡ 0 → b.filler ≡ 0
    block_kept b' st' e z = leads_kept (block_traced s h w row col b st mode).leads (ap (λ o. (state_after o).filler) e ∙ z)

  -- From a state with filler on every block has filler.
  blocks_filled : (k col : ℕ) (b : Bits) (st : V2Row) (mode : List (List ℕ)) → b.filler ≢ 0
      → All (λ x. x.filler ≡ true) (blocks s h w row k col b st mode).blocks
  unfolding blocks
  blocks_filled zero col b st mode e = nil
  blocks_filled (suc k) col b st mode e =
      let p = read_block s h w row col b st mode in
      then_cases (λ q. All (λ x. x.filler ≡ true) q.blocks) p.outcome p.block _
      (λ b' st' q. let m : b'.filler ≢ 0 = λ z. e (block_kept col b st mode b' st' q z) in
      more (block_filler col b st mode b' st' q ∙ filler_there b' m) (blocks_filled k (col + 16) b' st' p.mode m))
      (λ n b' l m. nil)

module _ (s u : List ℕ) (longer : Longer s u) (h : V2Hdr) (w row : ℕ) where
  blocks_split : (k col : ℕ) (b : Bits) (st : V2Row) (mode : List (List ℕ))
      → Split (blocks s h w row k col b st mode).blocks (blocks u h w row k col b st mode).blocks
  unfolding blocks then_seen
  blocks_split zero col b st mode = apart nil
  blocks_split (suc k) col b st mode =
      then_cases (λ q. Split q.blocks other.blocks) (p s).outcome (p s).block _
      (λ b' st' e. by-test (eqb b'.filler 0)
      (λ z. rw (as_seen (ap (λ o. (state_after o).filler) e ∙ eqb-true b'.filler 0 z), e) (same (blocks_split k (col + 16) b' st' (p s).mode)))
      (λ z. let m : b'.filler ≢ 0 = eqb-false b'.filler 0 z in
      apart (more (block_filler s h w row col b st mode b' st' e ∙ filler_there b' m) (blocks_filled s h w row k (col + 16) b' st' (p s).mode m))))
      (λ n b' l m. apart nil)
    where
      p : List ℕ → Parsed
      p v = read_block v h w row col b st mode

      rest : List (List ℕ) → Bits → V2Row → Row
      rest m b' st' = blocks u h w row k (col + 16) b' st' m

      other : Row
      other = then (p u).outcome (p u).block (rest (p u).mode)

      -- Where no word was missing by the block's end, the other stream has the same block.
      as_seen : (state_after (p s).outcome).filler ≡ 0 → other ≡ then_seen (p s).outcome (written (p s).outcome (p s).block) (rest (p s).mode)
      as_seen e =
          then_is (p u).outcome (p u).block _
          ∙ ap (λ x. then_seen x.outcome x.blocks (rest x.mode)) (sym ((sure s u longer (block_traced s h w row col b st mode)).same e))

-- ── A frame ──

then_split : (row : ℕ) (q : Row) (x y : Frame) → Split x.blocks y.blocks → Split (then_rows row q x).blocks (then_rows row q y).blocks
unfolding then_rows
then_split row q x y p =
    by-test (eqb q.number 0)
    (λ f. rw f (by-test (eqb q.bits.filler 0) (λ e. rw e (split_same q.blocks p)) (λ e. rw e whole)))
    (λ e. rw e whole)
  where
    whole : Split q.blocks q.blocks
    whole = rw append-nil at (split_same q.blocks {xs = []} {ys = []} (apart nil))

-- A row with filler is the last.
then_last : (row : ℕ) (q : Row) (x : Frame) → q.bits.filler ≢ 0 → (then_rows row q x).blocks ≡ q.blocks
then_last row q x e = then_rows_cases (λ y. y.blocks ≡ q.blocks) row q x (λ r. refl) (λ r m. refl) (λ r m. absurd (e m))

module _ (s u : List ℕ) (longer : Longer s u) (h : V2Hdr) (w : ℕ) where
  pub row_sure : (row : ℕ) (b : Bits) → Sure (λ q. q.bits) b (read_row s h w row b) (read_row u h w row b)
  unfolding aligned
  row_sure row b =
      let p = sure s u longer (row_traced s h w row b) in record { kept = p.kept; same = p.same }

  row_split : (row : ℕ) (b : Bits) → Split (read_row s h w row b).blocks (read_row u h w row b).blocks
  unfolding read_row
  row_split row b = blocks_split s u longer h w row (w / 16) 0 (aligned b) fresh_row (fresh_mode row)

  row_filled : (row : ℕ) (b : Bits) → b.filler ≢ 0 → All (λ x. x.filler ≡ true) (read_row s h w row b).blocks
  unfolding read_row aligned
  row_filled row b e = blocks_filled s h w row (w / 16) 0 (aligned b) fresh_row (fresh_mode row) e

  rows_split : (k row : ℕ) (b : Bits) → Split (rows s h w k row b).blocks (rows u h w k row b).blocks
  unfolding rows
  rows_split zero row b = apart nil
  rows_split (suc k) row b =
      by-test (eqb (q s).bits.filler 0)
      (λ e. rw (← (row_sure row b).same (eqb-true (q s).bits.filler 0 e)) (then_split row (q s) (rest s (q s).bits) (rest u (q s).bits) (rows_split k (suc row) (q s).bits)))
      (λ e. rw (then_last row (q s) (rest s (q s).bits) (eqb-false (q s).bits.filler 0 e))
      (then_rows_cases (λ y. Split (q s).blocks y.blocks) row (q u) (rest u (q u).bits) (λ r. row_split row b) (λ r m. row_split row b)
      (λ r m. split_more (rest u (q u).bits).blocks (row_split row b))))
    where
      q : List ℕ → Row
      q v = read_row v h w row b

      rest : List ℕ → Bits → Frame
      rest v b' = rows v h w k (suc row) b'

  rows_filled : (k row : ℕ) (b : Bits) → b.filler ≢ 0 → All (λ x. x.filler ≡ true) (rows s h w k row b).blocks
  unfolding rows
  rows_filled zero row b e = nil
  rows_filled (suc k) row b e =
      let q = read_row s h w row b in
      rw (then_last row q (rows s h w k (suc row) q.bits) (λ z. e ((row_sure row b).kept z))) (row_filled row b e)

-- The headers are the same and the blocks split, or every block of the shorter stream has filler.
pub data Parted (s u : List ℕ) (z : Size) : Type 0 where
  alike : header s ≡ header u → Split (read_frame s z).blocks (read_frame u z).blocks → Parted s u z
  filled : All (λ b. b.filler ≡ true) (read_frame s z).blocks → Parted s u z

pub frame_parted : (s u : List ℕ) → Longer s u → (z : Size) → Parted s u z
unfolding read_frame
frame_parted s u longer z =
    by-test (eqb (header s).bits.filler 0)
    (λ e. let q = (sure s u longer (header_traced s)).same (eqb-true (header s).bits.filler 0 e) in
    alike q (rw (← q) (rows_split s u longer (header s).value z.width z.height 0 (header s).bits)))
    (λ e. filled (rows_filled s u longer (header s).value z.width z.height 0 (header s).bits (eqb-false (header s).bits.filler 0 e)))

-- ── Places ──

-- Blocks that follow one another from place n to place m.
pub data Run : ℕ → ℕ → List Block → Type 0 where
  stop : {n m : ℕ} → n ≤ m → Run n m []
  step : {n m : ℕ} {b : Block} {bs : List Block} → n ≤ b.place → Run (b.place + 16) m bs → Run n m (b ∷ bs)

run_widen : {n m n' m' : ℕ} {bs : List Block} → Run n m bs → n' ≤ n → m ≤ m' → Run n' m' bs
run_widen {n' = n'} {m' = m'} (stop l) p q = let k : n' ≤ m' = omega arith in stop k
run_widen {n' = n'} (step {b = b} l r) p q = let k : n' ≤ b.place = omega arith in step k (run_widen r (omega arith) q)

run_append : {n m k : ℕ} {xs ys : List Block} → Run n m xs → Run m k ys → Run n k (xs ++ ys)
run_append (stop l) q = run_widen q l (omega arith)
run_append (step l r) q = step l (run_append r q)

-- No block of a run lies before it.
pub run_from : {n m : ℕ} {bs : List Block} → Run n m bs → All (λ b. n ≤ b.place) bs
run_from (stop l) = nil
run_from (step l r) = more l (all_map _ _ (λ b q. omega arith) (run_from r))

module _ (s : List ℕ) (h : V2Hdr) (w : ℕ) where
  place_is : (row col : ℕ) (b : Bits) (st : V2Row) (mode : List (List ℕ)) → (read_block s h w row col b st mode).block.place ≡ row * w + col
  unfolding read_block
  place_is row col b st mode = refl

  blocks_run : (row k col : ℕ) (b : Bits) (st : V2Row) (mode : List (List ℕ))
      → Run (row * w + col) (row * w + col + 16 * k) (blocks s h w row k col b st mode).blocks
  unfolding blocks
  blocks_run row zero col b st mode = let l : row * w + col ≤ row * w + col + 0 = omega arith in stop l
  blocks_run row (suc k) col b st mode =
      let p = read_block s h w row col b st mode in
      let on : row * w + col ≤ row * w + col + 16 * suc k = omega arith in
      then_cases (λ q. Run (row * w + col) (row * w + col + 16 * suc k) q.blocks) p.outcome p.block _
      (λ b' st' q. let e = place_is row col b st mode in
      let l : row * w + col ≤ p.block.place = omega arith in
      step l (run_widen (blocks_run row k (col + 16) b' st' p.mode) (omega arith) (omega arith)))
      (λ n b' l m. stop on)

  row_run : (row : ℕ) (b : Bits) → Run (row * w) (suc row * w) (read_row s h w row b).blocks
  unfolding read_row
  row_run row b = run_widen (blocks_run row (w / 16) 0 (aligned b) fresh_row (fresh_mode row)) (omega arith) (omega arith)

  pub rows_run : (k row : ℕ) (b : Bits) → Run (row * w) ((row + k) * w) (rows s h w k row b).blocks
  unfolding rows
  rows_run zero row b = let l : row ≤ row + 0 = omega arith in stop (mul-le-mul_right w l)
  rows_run (suc k) row b =
      let q = read_row s h w row b in
      let more : (suc row) * w ≤ (row + suc k) * w = mul-le-mul_right w (omega arith) in
      let end : suc row + k ≡ row + suc k = omega arith in
      let this : Run (row * w) ((row + suc k) * w) q.blocks = run_widen (row_run row b) (omega arith) more in
      then_rows_cases (λ x. Run (row * w) ((row + suc k) * w) x.blocks) row q (rows s h w k (suc row) q.bits) (λ e. this) (λ e m. this)
      (λ e m. run_append (row_run row b) (rw end at (rows_run k (suc row) q.bits)))
