-- A row: what is left of its blocks comes to the whole row, and its lengths stay near 0.
use mathlib.Core.Path.{◌≡◌, refl, sym, ap, ap₂, ◌∙◌}
use mathlib.Core.List.{List, [], ◌∷◌, ◌++◌}
use Prim.Native.Nat.{ℕ, suc, ◌+◌, ◌-◌, ◌*◌, ◌/◌, ◌%◌, ◌≤◌, ◌<◌}
use native.Mathlib.Omega.{arith}
use lib.ListN.{length}
use Rattle.rules.specs.Reader.{has_filler}
use Rattle.rules.specs.Frame.{ended}
use Rattle.rules.specs.V0.{Block, Blocks, Kind, apply, write, write_all, sample_kind, head, predictor, order, blocks, row_blocks, fresh_row}
use Rattle.rules.specs.Map.{with_filler, v0_marks}
use Rattle.rules.specs.declared.answer.Size.{Size}
use Rattle.rules.specs.declared.reader.Bits.{Bits}
use Rattle.rules.specs.declared.v0.V0Row.{V0Row}
use Rattle.rules.specs.declared.v0.V0Head.{V0Head}
use Rattle.v0_parse.specs.Lengths.{Within, furthest}
use Rattle.v0_cells.specs.Places.{InFrame}
use Rattle.v0_direct.specs.FrameLent.{InRow, BlockLent, RunLent}
use Rattle.v0_direct.specs.Block.{samples_of, block_ops, after_block, Decoded, BlockRun, none, also, Ran}
use Rattle.v0_parse.proofs.HeadLaws.{within_more, fresh_within, head_within}
use Rattle.rules.proofs.V0Cells.{write_plain}
use Rattle.v0_cells.proofs.CellLaws.{blocks_walk, Left, left_begun, left_on, left_none}

-- ── One block ──

module _ (s : List ℕ) (z : Size) (row col : ℕ) (st : V0Row) (h : V0Head) (eh : h ≡ head s st) (b : Bits) where
  pub block_state : b ≡ (samples_of s z row col h order h.row.bits).bits → record { lengths = h.row.lengths; bits = b } ≡ after_block s z row col st
  unfolding after_block block_ops
  block_state e = rw (e, eh)

  -- A block is decoded once its samples are, after its head.
  pub block_decoded : (out out' map map' : List ℕ)
      → (b ≡ (samples_of s z row col h order h.row.bits).bits)
      × ((out' ≡ apply sample_kind (samples_of s z row col h order h.row.bits).ops out) × (map' ≡ apply v0_marks (samples_of s z row col h order h.row.bits).ops map))
      → Decoded s z row col st out map (record { lengths = h.row.lengths; bits = b }) out' map'
  unfolding block_ops
  block_decoded out out' map map' (eb, (eo, em)) = record { state = block_state eb; samples = rw (← eh) eo; marks = rw (← eh) em }

-- The block with its place and its end.
abbrev this_block : List ℕ → Size → ℕ → ℕ → V0Row → Block
this_block s z row col st = record { place = row * z.width + col; ops = (block_ops s z row col st).ops; filler = has_filler (block_ops s z row col st).bits }

module _ (s : List ℕ) (z : Size) (row col : ℕ) (st : V0Row) where
  samples_written : (f f' : List ℕ) → f' ≡ apply sample_kind (block_ops s z row col st).ops f → f' ≡ write_all sample_kind (this_block s z row col st ∷ []) f
  unfolding write_all
  samples_written f f' e = e ∙ sym (write_plain sample_kind (λ a. refl) (this_block s z row col st) f)

  marks_written : (st' : V0Row) (f g f' : List ℕ) → st' ≡ after_block s z row col st → g ≡ apply v0_marks (block_ops s z row col st).ops f
      → f' ≡ ended with_filler 0 (has_filler st'.bits) (row * z.width + col) g → f' ≡ write_all v0_marks (this_block s z row col st ∷ []) f
  unfolding write_all write after_block
  marks_written st' f g f' es eg ef = ef ∙ ap₂ (λ b x. ended with_filler 0 (has_filler b) (row * z.width + col) x) (ap (λ x. x.bits) es) eg

-- ── A run, and the block after it ──

-- No run is one.
pub none_ran : (s : List ℕ) {z : Size} {row col : ℕ} {st : V0Row} {out map : List ℕ} → InFrame z row col → RunLent z col st.lengths out map → Ran s z row col st out map col st out map
none_ran s i l = record { blocks = none; on = omega arith; whole = i.block; near = l.near }

module _ {s : List ℕ} {z : Size} {row col : ℕ} {st : V0Row} {out map : List ℕ} {col' : ℕ} {st' : V0Row} {out' map' : List ℕ}
    (i : InFrame z row col) (more : col' < z.width) (x : Ran s z row col st out map col' st' out' map') where
  -- The block after it lies in the frame, its lengths near enough to 0.
  pub block_after : RunLent z col st.lengths out map → length out' ≡ length out → length map' ≡ length map → InFrame z row col' × BlockLent z st'.lengths out' map'
  block_after l so sm = (
    record { width = i.width; height = i.height; row_in = i.row_in; col_in = more; block = x.whole },
    record {
      near = within_more (15 + col' / 16) furthest st'.lengths (omega (arith, i.width)) x.near;
      samples_lent = so ∙ l.samples_lent;
      map_lent = rw sm l.map_lent;
    },
  )

  pub ran_on : {st'' : V0Row} {out'' marked map'' : List ℕ} → Decoded s z row col' st' out' map' st'' out'' marked
      → map'' ≡ ended with_filler 0 (has_filler st''.bits) (row * z.width + col') marked → (col < col' + 16) × BlockRun s z row col st out map (col' + 16) st'' out'' map''
  ran_on d e = (omega (arith, x.on), also x.blocks more d e)

-- ── The blocks of a row ──

-- A row's state at a column where a block may begin: a block moves each length by 1 at most, or sets it to at most 15.
pub record Along (z : Size) (st : V0Row) (col : ℕ) : Type 0 where
  pub whole : col % 16 ≡ 0
  pub below : col ≤ z.width + 15
  pub near : Within (15 + col / 16) st.lengths

module _ {z : Size} {st : V0Row} where
  pub along_begun : (row offset : ℕ) → st ≡ fresh_row row offset → Along z st 0
  along_begun row offset e = record { whole = refl; below = omega arith; near = rw e (fresh_within row offset) }

  pub along_on : {st' : V0Row} {col : ℕ} (s : List ℕ) → col < z.width → st'.lengths ≡ (head s st).row.lengths → Along z st col → Along z st' (col + 16)
  along_on {col = col} s l e a = record {
    whole = omega arith;
    below = omega arith;
    near = rw e (within_more (suc (15 + col / 16)) (15 + (col + 16) / 16) (head s st).row.lengths (omega arith) (head_within s st (15 + col / 16) (omega arith) a.near));
  }

-- What is left of a row from a column on.
abbrev pub rest_of : List ℕ → Size → ℕ → ℕ → V0Row → Blocks
rest_of s z row col st = blocks s (row * z.width) (predictor z row) ((z.width + 15 - col) / 16) col st

pub record Rowing (s : List ℕ) (z : Size) (row offset : ℕ) (out₀ out map₀ map : List ℕ) (st : V0Row) (col : ℕ) : Type 0 where
  pub along : Along z st col
  pub samples_left : Left (blocks_walk sample_kind) (rest_of s z row col st).blocks (row_blocks s z row offset).blocks out₀ out
  pub marks_left : Left (blocks_walk v0_marks) (rest_of s z row col st).blocks (row_blocks s z row offset).blocks map₀ map
  pub reader_left : (rest_of s z row col st).bits ≡ (row_blocks s z row offset).bits

module _ (s : List ℕ) (z : Size) (row offset : ℕ) (out₀ map₀ : List ℕ) where
  pub rowing_begun : (st : V0Row) → st ≡ fresh_row row offset → Rowing s z row offset out₀ out₀ map₀ map₀ st 0
  unfolding row_blocks
  rowing_begun st e =
      record {
        along = along_begun row offset e;
        samples_left = left_begun (blocks_walk sample_kind) _ _ out₀ (ap (λ x. x.blocks) all);
        marks_left = left_begun (blocks_walk v0_marks) _ _ map₀ (ap (λ x. x.blocks) all);
        reader_left = ap (λ x. x.bits) all;
      }
    where
      all : rest_of s z row 0 st ≡ row_blocks s z row offset
      all = let q : z.width + 15 - 0 ≡ z.width + 15 = omega arith in ap₂ (λ n x. blocks s (row * z.width) (predictor z row) (n / 16) 0 x) q e

  -- A block that the row still has lies in the frame.
  pub row_block : (out map : List ℕ) (st : V0Row) (col : ℕ) → col < z.width → InRow z row out₀ map₀ → Rowing s z row offset out₀ out map₀ map st col
      → InFrame z row col × RunLent z col st.lengths out map
  row_block out map st col l i r = (
    record { width = i.width; height = i.height; row_in = i.row_in; col_in = l; block = r.along.whole },
    record { near = r.along.near; samples_lent = r.samples_left.same_length ∙ i.samples_lent; map_lent = rw r.marks_left.same_length i.map_lent },
  )

  pub rowing_on : (out out' map marked map' : List ℕ) (st st' : V0Row) (col : ℕ) → col < z.width → Decoded s z row col st out map st' out' marked
      → map' ≡ ended with_filler 0 (has_filler st'.bits) (row * z.width + col) marked
      → Rowing s z row offset out₀ out map₀ map st col → Rowing s z row offset out₀ out' map₀ map' st' (col + 16)
  unfolding blocks block_ops after_block
  rowing_on out out' map marked map' st st' col l d ee r =
      record {
        along = along_on s l (ap (λ x. x.lengths) d.state) r.along;
        samples_left = left_on (blocks_walk sample_kind) (this ∷ []) _ _ _ out₀ out out' first (samples_written s z row col st out out' d.samples) r.samples_left;
        marks_left = left_on (blocks_walk v0_marks) (this ∷ []) _ _ _ map₀ map map' first (marks_written s z row col st st' map marked map' d.state d.marks ee) r.marks_left;
        reader_left = sym on ∙ r.reader_left;
      }
    where
      this : Block
      this = this_block s z row col st

      more : (z.width + 15 - col) / 16 ≡ suc ((z.width + 15 - (col + 16)) / 16)
      more = omega arith

      first : (rest_of s z row col st).blocks ≡ (this ∷ []) ++ (rest_of s z row (col + 16) st').blocks
      first =
          ap (λ n. (blocks s (row * z.width) (predictor z row) n col st).blocks) more
          ∙ ap (λ x. (this ∷ []) ++ (rest_of s z row (col + 16) x).blocks) (sym d.state)

      on : (rest_of s z row col st).bits ≡ (rest_of s z row (col + 16) st').bits
      on =
          ap (λ n. (blocks s (row * z.width) (predictor z row) n col st).bits) more
          ∙ ap (λ x. (rest_of s z row (col + 16) x).bits) (sym d.state)

  pub rowing_blocks : {out map out' map' : List ℕ} {st st' : V0Row} {col col' : ℕ} → BlockRun s z row col st out map col' st' out' map'
      → Rowing s z row offset out₀ out map₀ map st col → Rowing s z row offset out₀ out' map₀ map' st' col'
  rowing_blocks none r = r
  rowing_blocks (also x l d e) r = rowing_on _ _ _ _ _ _ _ _ l d e (rowing_blocks x r)

  -- From the row's end on nothing is left.
  none_left : (st : V0Row) (col : ℕ) → z.width ≤ col → rest_of s z row col st ≡ record { blocks = []; bits = st.bits }
  unfolding blocks
  none_left st col l =
      let e : (z.width + 15 - col) / 16 ≡ 0 = omega arith in
      ap (λ n. blocks s (row * z.width) (predictor z row) n col st) e

  pub rowed : (k : Kind ℕ) (st : V0Row) (col : ℕ) (f₀ f : List ℕ) → z.width ≤ col → Left (blocks_walk k) (rest_of s z row col st).blocks (row_blocks s z row offset).blocks f₀ f
      → f ≡ write_all k (row_blocks s z row offset).blocks f₀
  rowed k st col f₀ f l r = left_none (blocks_walk k) _ _ f₀ f (ap (λ x. x.blocks) (none_left st col l)) r

  pub row_read : (st : V0Row) (col : ℕ) → z.width ≤ col → (rest_of s z row col st).bits ≡ (row_blocks s z row offset).bits
      → st.bits.filler ≡ (row_blocks s z row offset).bits.filler
  row_read st col l e = ap (λ b. b.filler) (sym (ap (λ x. x.bits) (none_left st col l)) ∙ e)
