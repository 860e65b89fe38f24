-- Old values in the V2 map (docs/RULES.md, "The map"): an accepted V2 frame of a width divisible by 16 has no 1, by the first part
-- of the map's bytes. Its blocks follow one another without a gap from the first sample to the last, and each reads only before
-- itself.
use Prim.Native.Nat.{ℕ, zero, suc, ◌+◌, ◌*◌, ◌/◌, ◌%◌, ◌<◌, ◌≤◌, max}
use mathlib.Core.Bool.{false}
use mathlib.Core.Path.{◌≡◌, refl, ap₂, ◌∙◌, subst₂}
use mathlib.Core.Logic.{inl, by_cases}
use mathlib.Core.List.{List, [], ◌∷◌, ◌++◌}
use native.Mathlib.Omega.{arith}
use native.Mathlib.Decide.{ℕ_discrete}
use native.Mathlib.Nat.{mul_comm, add-zero}
use lib.ListN.{length, get_or, set, length-set, length-replicate}
use lib.Seq.{sets, get_or-set_same, get_or-set_other, length-sets}
use lib.Dec.{ltb, eqb}
use borrow.Author.Tests.{ltb-false, le-ltb, eqb-false}
use Rattle.rules.specs.declared.answer.Size.{Size}
use Rattle.rules.specs.declared.reader.Bits.{Bits}
use Rattle.rules.specs.declared.v2.V2Hdr.{V2Hdr}
use Rattle.rules.specs.declared.v2.V2Row.{V2Row}
use Rattle.rules.specs.V2.{Next}
use Rattle.rules.specs.Frame.{cells, tabulate}
use Rattle.rules.specs.V2.{Kind, Base, given, copied, averaged, motion_averages, repeated, referred, base, refers_before, base_refusal, Block, read_block, blocks, fresh_row, fresh_mode, aligned, read_row, rows, read_frame, header, base_cell, block_cells, apply, frame}
use Rattle.rules.specs.Map.{old_part, either_part, v2_marks, v2_map, all_old}
use Rattle.rules.specs.Answer.{v2, Ask, Lent, stream_answer, answer, frame_marks, marks}
use Rattle.rules.specs.Ranges.{reference_5}
use Rattle.rules.proofs.Cells.{Each, each_get}
use Rattle.rules.proofs.Parts.{either_first}
use Rattle.rules.proofs.V0NoMarks.{all_joined}
use Rattle.rules.proofs.V2Cells.{Joined, frame_joined, write_plain}
use Rattle.rules.proofs.Refusals.{passed, answer_passed, v2_size_least}
use Rattle.rules.proofs.V2Rows.{then_cases, then_rows_cases}
use Rattle.rules.proofs.V2Places.{reference_is, reference_before}
use Rattle.rules.proofs.V2References.{reference_least}
use Rattle.rules.proofs.V2Bounds.{next_state, next_unrefused}
use Rattle.rules.proofs.Tests.{by-test}

-- ── Blocks one after another ──

-- A base that reads before a place.
abbrev Before : ℕ → Base → Type 0
Before n (given v) = Unit {0}
Before n (copied p) = p < n
Before n (averaged p q) = (p < n) × (q < n)

-- Blocks one after another from place n to place m, each reading before itself.
data Chain : ℕ → List Block → ℕ → Type 0 where
  stop : {n : ℕ} → Chain n [] n
  link : {n m : ℕ} {b : Block} {bs : List Block} → b.place ≡ n → ((i : ℕ) → i < 16 → Before n (b.base i)) → Chain (n + 16) bs m → Chain n (b ∷ bs) m

chain_append : {n m k : ℕ} {xs ys : List Block} → Chain n xs m → Chain m ys k → Chain n (xs ++ ys) k
chain_append stop d = d
chain_append (link at before c) d = link at before (chain_append c d)

chain_le : {n m : ℕ} {bs : List Block} → Chain n bs m → n ≤ m
chain_le stop = omega arith
chain_le (link at before c) = let q = chain_le c in omega arith

-- The first part alone, which filler leaves as it is.
abbrev pub old_kind : Kind ℕ
old_kind = record { constant = λ v. 0; average = max; adjust = λ scale d a. a; filled = λ a. a }

abbrev pub Old : ℕ → ℕ → Type 0
Old a b = old_part a ≡ b

old_joined : Joined Old v2_marks old_kind
old_joined = record { constant = λ v. refl; average = averages; adjust = λ scale d a b e. e; filled = λ a b e. omega arith }
  where
    averages : (a b a' b' : ℕ) → Old a b → Old a' b' → Old (either_part a a') (max b b')
    averages a b a' b' e e' = either_first a a' ∙ ap₂ max e e'

-- A map of first parts alone is what every map's first parts are.
pub v2_first_parts : (s : List ℕ) (z : Size) → Each Old (v2_map s z) (frame old_kind s z (all_old z))
unfolding v2_map
v2_first_parts s z = frame_joined Old v2_marks old_kind old_joined s z (all_joined (cells z))

-- The first n marks are 0.
abbrev Zero : ℕ → List ℕ → Type 0
Zero n f = (i : ℕ) → i < n → get_or f i 0 ≡ 0

sets_zero : (k i : ℕ) (g : ℕ → ℕ) (n : ℕ) (f : List ℕ) → n + k ≤ length f → ((j : ℕ) → j < i + k → g j ≡ 0) → Zero n f
    → Zero (n + k) (sets f n (tabulate k i g))
unfolding tabulate
sets_zero zero i g n f l e z = rw (add-zero n) z
sets_zero (suc k) i g n f l e z =
    let q : n + suc k ≡ suc n + k = omega arith in
    rw q (sets_zero k (suc i) g (suc n) (set f n (g i)) (rw length-set (omega arith)) (λ j h. e j (omega arith)) first)
  where
    first : Zero (suc n) (set f n (g i))
    first j h =
        by_cases (ℕ_discrete j n)
        (λ r. rw r (get_or-set_same f n (g i) 0 (omega arith) ∙ e i (omega arith)))
        (λ r. get_or-set_other f n j (g i) 0 r ∙ z j (omega arith))

base_zero : (n : ℕ) (f : List ℕ) → Zero n f → (b : Base) → Before n b → base_cell old_kind f b ≡ 0
unfolding base_cell
base_zero n f z (given v) p = refl
base_zero n f z (copied q) p = z q p
base_zero n f z (averaged q r) p = ap₂ max (z q p.0) (z r p.1)

chain_zero : {n m : ℕ} {bs : List Block} → Chain n bs m → (f : List ℕ) → m ≤ length f → Zero n f → Zero m (apply old_kind bs f)
unfolding apply block_cells
chain_zero stop f l z = z
chain_zero (link {n = n} {b = b} at before c) f l z =
    rw (write_plain old_kind (λ a. refl) b f)
    (chain_zero c (sets f b.place (block_cells old_kind f b)) (rw length-sets l)
    (rw at (sets_zero 16 0 (λ i. base_cell old_kind f (b.base i)) n f (let q = chain_le c in omega arith) (λ i h. base_zero n f z (b.base i) (before i h)) z)))

-- ── A block reads before itself ──

module _ (w row col motion i : ℕ) (wide : 20 ≤ w) (two : 2 ≤ row) (l : i < 16) where
  referred_before : 5 ≤ reference_5 w row col motion i → Before (row * w + col) (referred w row col motion i)
  unfolding referred
  referred_before k =
      rw (reference_is w row col motion i, le-ltb (reference_5 w row col motion i) 5 k) (by-test (get_or motion_averages motion false)
      (λ f. rw f (let q = rw f at (reference_before w row col motion i two l wide) in (omega arith, omega arith)))
      (λ f. rw f (let q = rw f at (reference_before w row col motion i two l wide) in omega arith)))

module _ (h : V2Hdr) (w row col : ℕ) (wide : 20 ≤ w) (column : col % 16 ≡ 0) where
  repeated_before : (i : ℕ) → Before (row * w + col) (repeated h w row col i)
  unfolding repeated
  repeated_before i = by-test (eqb col 0) (λ e. rw e tt) (λ e. rw e (let q = eqb-false col 0 e in omega arith))

  -- A base that met no refusal reads before its block.
  base_before : (motion i : ℕ) → i < 16 → base_refusal row col motion ≡ 0 → Before (row * w + col) (base h w row col motion i)
  unfolding base base_refusal
  base_before motion i l =
      by-test (eqb motion 7)
      (λ e. rw e (λ r. repeated_before i))
      (λ g. rw g (by-test (ltb row 2)
      (λ e. rw e (λ r. absurd (let q : 5 ≡ 0 = r in omega arith)))
      (λ e. rw e (by-test (refers_before row col motion)
      (λ f. rw f (λ r. absurd (let q : 6 ≡ 0 = r in omega arith)))
      (λ f. rw f (λ r. referred_before w row col motion i wide (ltb-false row 2 e) l (reference_least w row col motion (ltb-false row 2 e) (omega arith) column f i)))))))

-- ── Rows and frames ──

module _ (s : List ℕ) (h : V2Hdr) (w : ℕ) (wide : 20 ≤ w) where
  module _ (row col : ℕ) (b : Bits) (st : V2Row) (mode : List (List ℕ)) where
    place_is : (read_block s h w row col b st mode).block.place ≡ row * w + col
    unfolding read_block
    place_is = refl

    next_before : (b' : Bits) (st' : V2Row) → col % 16 ≡ 0 → (read_block s h w row col b st mode).outcome ≡ Next b' st'
        → (i : ℕ) → i < 16 → Before (row * w + col) ((read_block s h w row col b st mode).block.base i)
    unfolding read_block
    next_before b' st' c e i l =
        base_before h w row col wide c _ i l
        (rw (next_state s h w row col b st mode b' st' e) at (next_unrefused s h w row col b st mode b' st' e))

  -- The blocks of a row that was not refused.
  blocks_chain : (row k col : ℕ) (b : Bits) (st : V2Row) (mode : List (List ℕ)) → col % 16 ≡ 0 → (blocks s h w row k col b st mode).number ≡ 0
      → Chain (row * w + col) (blocks s h w row k col b st mode).blocks (row * w + col + 16 * k)
  unfolding blocks
  blocks_chain row zero col b st mode c = λ e. rw (add-zero (row * w + col)) stop
  blocks_chain row (suc k) col b st mode c =
      let p = read_block s h w row col b st mode in
      then_cases (λ q. q.number ≡ 0 → Chain (row * w + col) q.blocks (row * w + col + 16 * suc k)) p.outcome p.block _
      (λ b' st' q e. link (place_is row col b st mode) (next_before row col b st mode b' st' c q)
      (subst₂ (λ x y. Chain x (blocks s h w row k (col + 16) b' st' p.mode).blocks y) (omega arith) (omega arith)
      (blocks_chain row k (col + 16) b' st' p.mode (omega arith) e)))
      (λ n b' l m e. absurd (omega arith))

  -- The blocks of rows that were accepted, where the width is a multiple of 16.
  rows_chain : w % 16 ≡ 0 → (k row : ℕ) (b : Bits) → (rows s h w k row b).answer.number ≡ 0
      → Chain (row * w) (rows s h w k row b).blocks ((row + k) * w)
  unfolding rows read_row
  rows_chain whole zero row b = λ e. rw (add-zero row) stop
  rows_chain whole (suc k) row b =
      let q = read_row s h w row b in
      then_rows_cases (λ x. x.answer.number ≡ 0 → Chain (row * w) x.blocks ((row + suc k) * w)) row q (rows s h w k (suc row) q.bits)
      (λ r e. absurd (r e)) (λ r m e. absurd (let z : 8 ≡ 0 = e in omega arith))
      (λ r m e. rw on (chain_append (this r) (rows_chain whole k (suc row) q.bits e)))
    where
      on : row + suc k ≡ suc row + k
      on = omega arith

      this : (read_row s h w row b).number ≡ 0 → Chain (row * w) (read_row s h w row b).blocks (suc row * w)
      this e =
          subst₂ (λ x y. Chain x (read_row s h w row b).blocks y) (omega arith) (omega arith)
          (blocks_chain row (w / 16) 0 (aligned b) fresh_row (fresh_mode row) refl e)

-- An accepted V2 frame of a width divisible by 16, from 32 on, has no 1.
pub v2_unmarked : (s : List ℕ) (z : Size) → 20 ≤ z.width → z.width % 16 ≡ 0 → (read_frame s z).answer.number ≡ 0
    → (i : ℕ) → i < cells z → old_part (get_or (v2_map s z) i 0) ≡ 0
unfolding v2_map frame read_frame
v2_unmarked s z wide whole done i l =
    let x = header s in
    each_get Old (v2_first_parts s z) i 0 0 refl
    ∙ chain_zero (rows_chain s x.value z.width wide whole z.height 0 x.bits done) (all_old z)
    (rw length-replicate (omega (arith, mul_comm z.width z.height))) (λ j h. absurd (omega arith)) i (omega (arith, mul_comm z.width z.height))

-- So every V2 call that is accepted at such a width has no 1: refusal 2 keeps smaller frames out.
pub accepted_unmarked : (a : Ask) (l : Lent) → a.decoder ≡ v2 → a.size.width % 16 ≡ 0 → (answer a l).number ≡ 0
    → (i : ℕ) → i < cells a.size → old_part (get_or (marks a) i 0) ≡ 0
unfolding stream_answer frame_marks
accepted_unmarked a l is_v2 whole e =
    let ok = passed a l (inl e) in
    let wide = (v2_size_least a l ok is_v2).0 in
    rw is_v2 (v2_unmarked a.stream a.size (omega arith) whole (rw is_v2 at (rw (answer_passed a l ok) at e)))
