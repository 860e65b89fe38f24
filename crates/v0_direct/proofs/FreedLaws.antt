-- A pair of rows can be exchanged before the rows that do not read it: what stays before a place goes past blocks that stay after
-- it, and a row stays after the pairs that are freed before it.
use Prim.Native.Nat.{ℕ, zero, suc, ◌+◌, ◌-◌, ◌*◌, ◌/◌, ◌%◌, ◌≤◌, ◌<◌}
use mathlib.Core.Bool.{Bool, true, false, ◌&&◌}
use mathlib.Core.Path.{◌≡◌, refl, sym, ap, ap₂, ◌∙◌}
use mathlib.Core.List.{List}
use native.Mathlib.Omega.{arith}
use native.Mathlib.Nat.{mul-le-mul_right}
use lib.Dec.{ltb, eqb}
use lib.ListN.{set}
use lib.Seq.{get_or-set_other, set_comm}
use borrow.Author.Tests.{eqb-false}
use Rattle.rules.specs.Frame.{change_cells}
use Rattle.rules.specs.V0.{Kind, Block, put, apply, write, write_all, swap, exchange_columns, exchange_rows, exchange, predictor, bounded, limit, rows_up, head, order, blocks, blocks_in, row_blocks, rows}
use Rattle.rules.specs.declared.answer.Size.{Size}
use Rattle.rules.specs.declared.v0.Predictor.{Predictor}
use Rattle.rules.specs.declared.v0.Predictor.TheVariants.{Skipped, Constant, Sample}
use Rattle.rules.specs.declared.v0.V0Op.{V0Op}
use Rattle.rules.specs.declared.v0.V0Row.{V0Row}
use Rattle.rules.proofs.Cells.{All, nil, more, all_append, all_every}
use Rattle.rules.proofs.Spill.{cell, samples_all}
use Rattle.rules.proofs.Tests.{by-test}
use Rattle.rules.proofs.V0Blocks.{block, after}
use Rattle.v0_direct.specs.Freed.{freed_pairs}

-- ── What keeps off some places ──

module _ {A : Type 0} (k : Kind A) (S : ℕ → Type 0) where
  -- It neither reads nor changes a cell of those.
  pub record Apart (g : List A → List A) : Type 0 where
    pub reads : (f : List A) (p : ℕ) → S p → cell k (g f) p ≡ cell k f p
    pub stores : (f : List A) (p : ℕ) (v : A) → S p → g (set f p v) ≡ set (g f) p v

  -- Nothing, and one after another.
  pub apart_none : Apart (λ f. f)
  apart_none = record { reads = λ f p l. refl; stores = λ f p v l. refl }

  pub apart_then : (g h : List A → List A) → Apart g → Apart h → Apart (λ f. h (g f))
  apart_then g h a b = record {
    reads = λ f p l. b.reads (g f) p l ∙ a.reads f p l;
    stores = λ f p v l. ap h (a.stores f p v l) ∙ b.stores (g f) p v l;
  }

-- A predictor that reads no other cell.
abbrev pub Reads : (ℕ → Type 0) → Predictor → Type 0
Reads S Skipped = Unit {0}
Reads S Constant = Unit {0}
Reads S (Sample p) = S p

-- An operation on those cells goes past it.
pub put_past : {A : Type 0} (k : Kind A) (S : ℕ → Type 0) (g : List A → List A) → Apart k S g
    → (place : ℕ) (p : Predictor) (d : ℕ) (f : List A) → S place → Reads S p → g (put k place p d f) ≡ put k place p d (g f)
unfolding put
put_past k S g e place Skipped d f l r = refl
put_past k S g e place Constant d f l r = e.stores f place _ l
put_past k S g e place (Sample p) d f l r = e.stores f place _ l ∙ ap (λ x. set (g f) place (k.plus x d)) (sym (e.reads f p r))

-- ── What stays before a place ──

module _ {A : Type 0} (k : Kind A) (m : ℕ) where
  -- It neither reads nor changes a cell from m on.
  abbrev pub Early : (List A → List A) → Type 0
  Early g = Apart k (λ p. m ≤ p) g

  -- Two cells before m that change places.
  swap_early : (i j : ℕ) → i < m → j < m → Early (swap k i j)
  unfolding swap
  swap_early i j li lj = record {
    reads = λ f p l. get_or-set_other (set f i (cell k f j)) j p _ _ (λ e. omega arith) ∙ get_or-set_other f i p _ _ (λ e. omega arith);
    stores = λ f p v l.
        ap₂ (λ x y. set (set (set f p v) i x) j y) (get_or-set_other f p j v _ (λ e. omega arith)) (get_or-set_other f p i v _ (λ e. omega arith))
        ∙ ap (λ r. set r j (cell k f i)) (set_comm f p i v _ (λ e. omega arith))
        ∙ set_comm (set f i (cell k f j)) p j v _ (λ e. omega arith);
  }

  module _ (w : ℕ) where
    -- A pair of rows that ends before m.
    columns_early : (row n col : ℕ) → col + 2 * n ≤ w → (row + 2) * w ≤ m → Early (exchange_columns k w row n col)
    unfolding exchange_columns
    columns_early row zero col l h = apart_none k _
    columns_early row (suc n) col l h =
        apart_then k _ _ _ (swap_early (row * w + col + 1) ((row + 1) * w + col) (omega arith) (omega arith)) (columns_early row n (col + 2) (omega arith) h)

    -- Pairs of rows that end before m.
    pub rows_early : (n row : ℕ) → (row + 2 * n) * w ≤ m → Early (exchange_rows k w n row)
    unfolding exchange_rows
    rows_early zero row h = apart_none k _
    rows_early (suc n) row h =
        let first : (row + 2) * w ≤ (row + 2 * suc n) * w = mul-le-mul_right w (omega arith) in
        let end : row + 2 + 2 * n ≡ row + 2 * suc n = omega arith in
        apart_then k _ _ _ (columns_early row (w / 2) 0 (omega arith) (omega arith)) (rows_early n (row + 2) (rw end h))

-- ── What stays after it ──

-- A predictor that reads no cell before a place.
abbrev From : ℕ → Predictor → Type 0
From m = Reads (λ p. m ≤ p)

-- An operation, or a block, that neither reads nor changes one.
record LateOp (m : ℕ) (o : V0Op) : Type 0 where
  place : m ≤ o.place
  reads : From m o.predictor

record Late (m : ℕ) (b : Block) : Type 0 where
  place : m ≤ b.place
  ops : All (LateOp m) b.ops

-- ── The one goes past the other ──

-- The same frame is left, whichever of them is first: for a list of operations, cells with filler, a block, and blocks.
module _ {A : Type 0} (k : Kind A) (m : ℕ) (g : List A → List A) (e : Early k m g) where
  apply_past : {os : List V0Op} → All (LateOp m) os → (f : List A) → g (apply k os f) ≡ apply k os (g f)
  unfolding apply
  apply_past nil f = refl
  apply_past (more {a = o} {xs = os} h hs) f =
      apply_past hs (put k o.place o.predictor o.residual f)
      ∙ ap (apply k os) (put_past k _ g e o.place o.predictor o.residual f h.place h.reads)

  change_past : (n p : ℕ) (f : List A) → m ≤ p
      → g (change_cells k.filled (k.constant 0) n p f) ≡ change_cells k.filled (k.constant 0) n p (g f)
  unfolding change_cells
  change_past zero p f l = refl
  change_past (suc n) p f l =
      change_past n (suc p) (set f p (k.filled (cell k f p))) (omega arith)
      ∙ ap (change_cells k.filled (k.constant 0) n (suc p))
      (e.stores f p _ l ∙ ap (λ x. set (g f) p (k.filled x)) (sym (e.reads f p l)))

  write_past : (b : Block) → Late m b → (f : List A) → g (write k b f) ≡ write k b (g f)
  unfolding write
  write_past b h f =
      by-test b.filler
      (λ t. rw t (change_past 16 b.place (apply k b.ops f) h.place ∙ ap (change_cells k.filled (k.constant 0) 16 b.place) (apply_past h.ops f)))
      (λ t. rw t (apply_past h.ops f))

  write_all_past : {bs : List Block} → All (Late m) bs → (f : List A) → g (write_all k bs f) ≡ write_all k bs (g f)
  unfolding write_all
  write_all_past nil f = refl
  write_all_past (more {a = b} {xs = bs} h hs) f = write_all_past hs (write k b f) ∙ ap (write_all k bs) (write_past b h f)

-- ── A row stays after the second row above it ──

bounded_from : (m : ℕ) (z : Size) (place p : ℕ) → m ≤ p → From m (bounded z place p)
unfolding bounded
bounded_from m z place p l = by-test (ltb place (limit z) && ltb p (limit z)) (λ e. rw e l) (λ e. rw e tt)

-- A sample looks two rows up at most; to its left it looks from a block after the first, and so not past the row's start.
module _ (m : ℕ) (z : Size) (row : ℕ) (h : m ≤ (row - 2) * z.width) where
  predictor_from : (col : ℕ) (up : Bool) (c : ℕ) → col % 16 ≡ 0 → From m (predictor z row col up c)
  unfolding predictor
  predictor_from col true c l =
      let q : (row - 2) * z.width ≤ (row - rows_up c) * z.width = mul-le-mul_right z.width (omega arith) in
      by-test (ltb row (rows_up c)) (λ e. rw e tt) (λ e. rw e (bounded_from m z _ _ (omega arith)))
  predictor_from col false c l =
      let q : (row - 2) * z.width ≤ row * z.width = mul-le-mul_right z.width (omega arith) in
      by-test (eqb col 0) (λ e. rw e tt) (λ e. rw e (let n = eqb-false col 0 e in bounded_from m z _ _ (omega arith)))

module _ (m : ℕ) (s : List ℕ) (first : ℕ) (predict : ℕ → Bool → ℕ → Predictor) (low : m ≤ first)
    (from : (col : ℕ) (up : Bool) (c : ℕ) → col % 16 ≡ 0 → From m (predict col up c)) where
  -- What a row's last block spills past the row's end lies after it, too.
  blocks_late : (n col : ℕ) (st : V0Row) → col % 16 ≡ 0 → All (Late m) (blocks s first predict n col st).blocks
  unfolding blocks
  blocks_late zero col st l = nil
  blocks_late (suc n) col st l = more (record { place = starts; ops = ops }) (blocks_late n (col + 16) (after s first predict col st) (omega arith))
    where
      starts : m ≤ first + col
      starts = omega arith

      ops : All (LateOp m) (block s first predict col st).ops
      ops = samples_all (LateOp m) s (first + col) _ (predict col (head s st).up) order _
          (all_every _ (λ c d. let q : m ≤ first + col + c = omega arith in record { place = q; reads = from col (head s st).up c l }) order)

rows_late : (m : ℕ) (s offsets : List ℕ) (z : Size) (n row : ℕ) → m ≤ (row - 2) * z.width → All (Late m) (rows s offsets z n row)
unfolding rows row_blocks
rows_late m s offsets z zero row h = nil
rows_late m s offsets z (suc n) row h =
    let this : (row - 2) * z.width ≤ row * z.width = mul-le-mul_right z.width (omega arith) in
    let next : (row - 2) * z.width ≤ (suc row - 2) * z.width = mul-le-mul_right z.width (omega arith) in
    all_append (Late m) (blocks_late m s (row * z.width) (predictor z row) (omega arith) (predictor_from m z row h) (blocks_in z.width) 0 _ refl)
    (rows_late m s offsets z n (suc row) (omega arith))

-- ── The laws ──

module _ {A : Type 0} (k : Kind A) where
  -- The exchange of pairs that end two rows above a row goes past the rows from there on.
  pub exchange_past : (s offsets : List ℕ) (z : Size) (n from c row : ℕ) → from + 2 * n ≤ row - 2 → (f : List A)
      → exchange_rows k z.width n from (write_all k (rows s offsets z c row) f) ≡ write_all k (rows s offsets z c row) (exchange_rows k z.width n from f)
  exchange_past s offsets z n from c row l f =
      write_all_past k ((row - 2) * z.width) (exchange_rows k z.width n from)
      (rows_early k _ z.width n from (mul-le-mul_right z.width l)) (rows_late _ s offsets z c row (omega arith)) f

  -- Pairs of rows one after another.
  pub exchange_append : (w a b row : ℕ) (f : List A) → exchange_rows k w (a + b) row f ≡ exchange_rows k w b (row + 2 * a) (exchange_rows k w a row f)
  unfolding exchange_rows
  exchange_append w zero b row f = let n : 0 + b ≡ b = omega arith in let e : row + 2 * 0 ≡ row = omega arith in rw (n, e)
  exchange_append w (suc a) b row f =
      let n : suc a + b ≡ suc (a + b) = omega arith in
      let e : row + 2 + 2 * a ≡ row + 2 * suc a = omega arith in
      rw n (exchange_append w a b (row + 2) (exchange_columns k w row (w / 2) 0 f) ∙ rw e)

  -- The pairs that a row frees are exchanged before the rows after it, where they go past those; the later pairs follow.
  pub freed_on : (w count row from to : ℕ) (rest : List A → List A) (f : List A) → row < count → from ≡ freed_pairs row → to ≡ freed_pairs (row + 1)
      → exchange_rows k w (to - from) (from * 2) (rest f) ≡ rest (exchange_rows k w (to - from) (from * 2) f)
      → exchange_rows k w (freed_pairs count - freed_pairs row) (freed_pairs row * 2) (rest f)
      ≡ exchange_rows k w (freed_pairs count - freed_pairs (row + 1)) (freed_pairs (row + 1) * 2) (rest (exchange_rows k w (to - from) (from * 2) f))
  freed_on w count row from to rest f l ef et past =
      let pairs : freed_pairs count - freed_pairs row ≡ to - from + (freed_pairs count - freed_pairs (row + 1)) = omega arith in
      let start : freed_pairs row * 2 ≡ from * 2 = omega arith in
      let next : from * 2 + 2 * (to - from) ≡ freed_pairs (row + 1) * 2 = omega arith in
      ap₂ (λ n a. exchange_rows k w n a (rest f)) pairs start
      ∙ exchange_append w (to - from) (freed_pairs count - freed_pairs (row + 1)) (from * 2) (rest f)
      ∙ ap₂ (exchange_rows k w (freed_pairs count - freed_pairs (row + 1))) next past

  -- All the pairs that rows free, and then those that are left, are the whole exchange.
  pub freed_then_left : (z : Size) (from to : ℕ) (f g r : List A) → from ≡ freed_pairs z.height → to ≡ z.height / 2
      → g ≡ exchange_rows k z.width (freed_pairs z.height) 0 f → r ≡ exchange_rows k z.width (to - from) (from * 2) g → r ≡ exchange k z f
  unfolding exchange
  freed_then_left z from to f g r ef et eg er =
      let pairs : freed_pairs z.height + (to - from) ≡ z.height / 2 = omega arith in
      let start : from * 2 ≡ 0 + 2 * freed_pairs z.height = omega arith in
      er
      ∙ ap₂ (exchange_rows k z.width (to - from)) start eg
      ∙ sym (exchange_append z.width (freed_pairs z.height) (to - from) 0 f)
      ∙ ap (λ n. exchange_rows k z.width n 0 f) pairs
