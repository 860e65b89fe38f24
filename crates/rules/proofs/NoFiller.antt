-- A frame in which no word was missing carries no filler: V0 whose count is 0, and accepted V2. Its map is then as a map was that knew
-- no filler. So V0 without an upward block in rows 0 and 1, and accepted V2 of a width divisible by 16, have a map that is all 0.
use Prim.Native.Nat.{ℕ, zero, suc, ◌+◌, ◌*◌, ◌/◌, ◌%◌, ◌≤◌, ◌<◌, min}
use mathlib.Core.Bool.{Bool, false}
use mathlib.Core.Path.{◌≡◌, refl, ap₂, ◌∙◌}
use mathlib.Core.List.{List, [], ◌∷◌}
use native.Mathlib.Omega.{arith}
use lib.Dec.{lit<}
use lib.ListN.{get_or}
use lib.Seq.{sets}
use Rattle.rules.specs.declared.answer.Size.{Size}
use Rattle.rules.specs.declared.reader.Bits.{Bits}
use Rattle.rules.specs.declared.v0.Predictor.{Predictor}
use Rattle.rules.specs.declared.v0.Predictor.TheVariants.{Skipped, Constant, Sample}
use Rattle.rules.specs.declared.v0.V0Op.{V0Op}
use Rattle.rules.specs.declared.v0.V0Row.{V0Row}
use Rattle.rules.specs.declared.v2.V2Hdr.{V2Hdr}
use Rattle.rules.specs.declared.v2.V2Row.{V2Row}
use Rattle.rules.specs.Reader.{most_filler, has_filler}
use Rattle.rules.specs.Frame.{cells, tabulate}
use Rattle.rules.specs.V0 as V0
use Rattle.rules.specs.V2 as V2
use Rattle.rules.specs.Map.{all_old, old_part, v0_marks, v2_marks, v0_map, v2_map}
use Rattle.rules.proofs.Cells.{All, nil, more, all_append, all_get, all_replicate, all_set, Each, none, both}
use Rattle.rules.proofs.Parts.{either_below}
use Rattle.rules.proofs.V0Blocks.{block, after}
use Rattle.rules.proofs.Traced.{leads_kept}
use Rattle.rules.proofs.V0Traced.{block_traced}
use Rattle.rules.proofs.V0NoMarks as V0Old
use Rattle.rules.proofs.V0NoMarks.{NoUpward, no_marks}
use Rattle.rules.proofs.V2Longer.{block_filler}
use Rattle.rules.proofs.V2Traced.{blocks_traced}
use Rattle.rules.proofs.V2NoMarks as V2Old
use Rattle.rules.proofs.V2NoMarks.{v2_unmarked}
use Rattle.rules.proofs.V2Rows.{then_cases, then_rows_cases}

none_there : (b : Bits) → b.filler ≡ 0 → has_filler b ≡ false
none_there b e = rw e

-- ── V0 ──

-- A block without filler.
abbrev pub Clear : V0.Block → Type 0
Clear b = b.filler ≡ false

module _ (s : List ℕ) (first : ℕ) (predict : ℕ → Bool → ℕ → Predictor) where
  blocks_clear : (n col : ℕ) (st : V0Row) → (V0.blocks s first predict n col st).bits.filler ≡ 0
      → (st.bits.filler ≡ 0) × All Clear (V0.blocks s first predict n col st).blocks
  unfolding V0.blocks
  blocks_clear zero col st e = (e, nil)
  blocks_clear (suc n) col st e =
      let q = blocks_clear n (col + 16) (after s first predict col st) e in
      (leads_kept (block_traced s first predict col st).leads q.0, more (none_there (block s first predict col st).bits q.0) q.1)

module _ (s offsets : List ℕ) (z : Size) where
  row_clear : (row : ℕ) → (V0.row_blocks s z row (get_or offsets row 0)).bits.filler ≡ 0 → All Clear (V0.row_blocks s z row (get_or offsets row 0)).blocks
  unfolding V0.row_blocks
  row_clear row e = (blocks_clear s (row * z.width) (V0.predictor z row) (V0.blocks_in z.width) 0 (V0.fresh_row row (get_or offsets row 0)) e).1

  pub rows_clear : (n row k : ℕ) → V0.rows_filler s offsets z n row k ≡ 0 → (k ≡ 0) × All Clear (V0.rows s offsets z n row)
  unfolding V0.rows_filler V0.rows
  rows_clear zero row k e = (e, nil)
  rows_clear (suc n) row k e =
      let r = (V0.row_blocks s z row (get_or offsets row 0)).bits.filler in
      let q = rows_clear n (suc row) (min (k + r) most_filler) e in
      let m = q.0 in
      (omega arith, all_append Clear (row_clear row (omega arith)) q.1)

abbrev Low : ℕ → Type 0
Low x = x < 2

-- Bytes below 2 are their first parts.
first_parts_are : {xs ys : List ℕ} → All Low xs → Each (λ x y. old_part x ≡ y) xs ys → xs ≡ ys
first_parts_are nil none = refl
first_parts_are (more {a = x} l ls) (both {b = y} e es) = let q : x ≡ y = omega arith in ap₂ ◌∷◌ q (first_parts_are ls es)

put_low : (place : ℕ) (p : Predictor) (d : ℕ) {f : List ℕ} → All Low f → All Low (V0.put v0_marks place p d f)
unfolding V0.put
put_low place Skipped d h = h
put_low place Constant d h = all_set Low h place (lit< tt)
put_low place (Sample p) d h = all_set Low h place (all_get Low h p 0 (lit< tt))

apply_low : (os : List V0Op) {f : List ℕ} → All Low f → All Low (V0.apply v0_marks os f)
unfolding V0.apply
apply_low [] h = h
apply_low (o ∷ os) h = apply_low os (put_low o.place o.predictor o.residual h)

write_low : {bs : List V0.Block} → All Clear bs → {f : List ℕ} → All Low f → All Low (V0.write_all v0_marks bs f)
unfolding V0.write_all V0.write
write_low nil h = h
write_low (more {a = b} e es) h = write_low es (rw e (apply_low b.ops h))

columns_low : (w row n col : ℕ) {f : List ℕ} → All Low f → All Low (V0.exchange_columns v0_marks w row n col f)
unfolding V0.exchange_columns V0.swap
columns_low w row zero col h = h
columns_low w row (suc n) col h =
    columns_low w row n (col + 2)
    (all_set Low (all_set Low h (row * w + col + 1) (all_get Low h ((row + 1) * w + col) 0 (lit< tt))) ((row + 1) * w + col) (all_get Low h (row * w + col + 1) 0 (lit< tt)))

exchange_low : (w n row : ℕ) {f : List ℕ} → All Low f → All Low (V0.exchange_rows v0_marks w n row f)
unfolding V0.exchange_rows
exchange_low w zero row h = h
exchange_low w (suc n) row h = exchange_low w n (row + 2) (columns_low w row (w / 2) 0 h)

-- A V0 frame whose count of missing words is 0 has no map byte with 2.
pub v0_no_filler : (s offsets : List ℕ) (z : Size) → V0.frame_filler s offsets z ≡ 0 → All Low (v0_map s offsets z)
unfolding V0.frame_filler v0_map V0.frame V0.exchange
v0_no_filler s offsets z e = exchange_low z.width (z.height / 2) 0 (write_low (rows_clear s offsets z z.height 0 0 e).1 (all_replicate Low (cells z) (lit< tt)))

-- Such a V0 frame's map is that of first parts alone.
pub v0_as_before : (s offsets : List ℕ) (z : Size) → V0.frame_filler s offsets z ≡ 0 → v0_map s offsets z ≡ V0.frame V0Old.old_kind s offsets z (all_old z)
v0_as_before s offsets z e = first_parts_are (v0_no_filler s offsets z e) (V0Old.v0_first_parts s offsets z)

-- Such a V0 frame without an upward block in rows 0 and 1 has only map bytes 0.
pub v0_all_0 : (s offsets : List ℕ) (z : Size) → V0.frame_filler s offsets z ≡ 0 → ((row : ℕ) → row < 2 → row < z.height → NoUpward s offsets z row)
    → All (λ x. x ≡ 0) (v0_map s offsets z)
v0_all_0 s offsets z e early = both_parts (v0_no_filler s offsets z e) (no_marks s offsets z early)
  where
    both_parts : {xs : List ℕ} → All Low xs → All (λ x. old_part x ≡ 0) xs → All (λ x. x ≡ 0) xs
    both_parts nil nil = nil
    both_parts (more {a = x} l ls) (more m ms) = let z : x ≡ 0 = omega arith in more z (both_parts ls ms)

-- ── V2 ──

abbrev V2Clear : V2.Block → Type 0
V2Clear b = b.filler ≡ false

module _ (s : List ℕ) (h : V2Hdr) (w : ℕ) where
  v2_blocks_clear : (row k col : ℕ) (b : Bits) (st : V2Row) (mode : List (List ℕ)) → (V2.blocks s h w row k col b st mode).bits.filler ≡ 0
      → All V2Clear (V2.blocks s h w row k col b st mode).blocks
  unfolding V2.blocks
  v2_blocks_clear row zero col b st mode = λ e. nil
  v2_blocks_clear row (suc k) col b st mode =
      let p = V2.read_block s h w row col b st mode in
      then_cases (λ q. q.bits.filler ≡ 0 → All V2Clear q.blocks) p.outcome p.block _
      (λ b' st' q e. let z = leads_kept (blocks_traced s h w row k (col + 16) b' st' p.mode).leads e in
      more (block_filler s h w row col b st mode b' st' q ∙ none_there b' z) (v2_blocks_clear row k (col + 16) b' st' p.mode e))
      (λ n b' l m e. nil)

  v2_row_clear : (row : ℕ) (b : Bits) → (V2.read_row s h w row b).bits.filler ≡ 0 → All V2Clear (V2.read_row s h w row b).blocks
  unfolding V2.read_row
  v2_row_clear row b e = v2_blocks_clear row (w / 16) 0 (V2.aligned b) V2.fresh_row (V2.fresh_mode row) e

  v2_rows_clear : (k row : ℕ) (b : Bits) → (V2.rows s h w k row b).answer.number ≡ 0 → All V2Clear (V2.rows s h w k row b).blocks
  unfolding V2.rows
  v2_rows_clear zero row b = λ e. nil
  v2_rows_clear (suc k) row b =
      let q = V2.read_row s h w row b in
      then_rows_cases (λ x. x.answer.number ≡ 0 → All V2Clear x.blocks) row q (V2.rows s h w k (suc row) q.bits)
      (λ r e. absurd (r e)) (λ r m e. absurd (let z : 8 ≡ 0 = e in omega arith))
      (λ r m e. all_append V2Clear (v2_row_clear row b m) (v2_rows_clear k (suc row) q.bits e))

base_low : {f : List ℕ} → All Low f → (b : V2.Base) → V2.base_cell v2_marks f b < 2
unfolding V2.base_cell
base_low h (V2.given v) = lit< tt
base_low h (V2.copied p) = all_get Low h p 0 (lit< tt)
base_low {f} h (V2.averaged p q) = either_below 1 (get_or f p 0) (get_or f q 0) (all_get Low h p 0 (lit< tt)) (all_get Low h q 0 (lit< tt))

sets_low : (c i p : ℕ) (v : ℕ → ℕ) → ((j : ℕ) → v j < 2) → {f : List ℕ} → All Low f → All Low (sets f p (tabulate c i v))
unfolding tabulate
sets_low zero i p v l h = h
sets_low (suc c) i p v l h = sets_low c (suc i) (suc p) v l (all_set Low h p (l i))

v2_apply_low : {bs : List V2.Block} → All V2Clear bs → {f : List ℕ} → All Low f → All Low (V2.apply v2_marks bs f)
unfolding V2.apply V2.write V2.block_cells
v2_apply_low nil h = h
v2_apply_low (more {a = b} e es) {f} h =
    v2_apply_low es (rw e (sets_low 16 0 b.place (λ i. V2.base_cell v2_marks f (b.base i)) (λ i. base_low h (b.base i)) h))

-- An accepted V2 frame has no map byte with 2.
pub v2_no_filler : (s : List ℕ) (z : Size) → (V2.read_frame s z).answer.number ≡ 0 → All Low (v2_map s z)
unfolding v2_map V2.frame V2.read_frame
v2_no_filler s z e =
    let x = V2.header s in
    v2_apply_low (v2_rows_clear s x.value z.width z.height 0 x.bits e) (all_replicate Low (cells z) (lit< tt))

-- An accepted V2 frame's map is that of first parts alone.
pub v2_as_before : (s : List ℕ) (z : Size) → (V2.read_frame s z).answer.number ≡ 0 → v2_map s z ≡ V2.frame V2Old.old_kind s z (all_old z)
v2_as_before s z e = first_parts_are (v2_no_filler s z e) (V2Old.v2_first_parts s z)

-- An accepted V2 frame of a width divisible by 16 has only map bytes 0.
pub v2_all_0 : (s : List ℕ) (z : Size) → 20 ≤ z.width → z.width % 16 ≡ 0 → (V2.read_frame s z).answer.number ≡ 0
    → (i : ℕ) → i < cells z → get_or (v2_map s z) i 0 ≡ 0
v2_all_0 s z wide whole e i l =
    let a = all_get Low (v2_no_filler s z e) i 0 (lit< tt) in
    let b = v2_unmarked s z wide whole e i l in
    omega arith
