-- Where a row and a frame stand: what is left from here comes to what the whole comes to, for samples and marks alike.
use mathlib.Core.Bool.{Bool, false}
use mathlib.Core.List.{List, [], ◌∷◌, ◌++◌}
use mathlib.Core.Logic.{◌⊎◌, ⊎_elim}
use mathlib.Core.Path.{◌≡◌, refl, sym, ap, ap₂, ◌∙◌}
use Prim.Native.Nat.{ℕ, suc, ◌+◌, ◌*◌, ◌-◌, ◌/◌, ◌%◌, ◌≤◌, ◌<◌}
use native.Mathlib.Nat.{sub-zero}
use native.Mathlib.Numerals.{add-one}
use native.Mathlib.Omega.{arith}
use lib.Dec.{eqb}
use lib.Seq.{sets}
use borrow.Author.Tests.{ne_eqb}
use Rattle.rules.specs.declared.answer.Answer.{Answer}
use Rattle.rules.specs.declared.answer.Size.{Size}
use Rattle.rules.specs.declared.answer.Refusal.{Refusal}
use Rattle.rules.specs.declared.reader.Bits.{Bits}
use Rattle.rules.specs.V2.{Next, EarlyMotion, Outside, LongDifference}
use Rattle.rules.specs.V2.{V2Block}
use Rattle.rules.specs.declared.v2.V2Hdr.{V2Hdr}
use Rattle.rules.specs.declared.v2.V2Row.{V2Row}
use Rattle.rules.specs.declared.reader.Taken.{Taken}
use Rattle.rules.specs.Reader.{has_filler}
use Rattle.rules.specs.Frame.{tabulate, ended}
use Rattle.rules.specs.Map.{with_filler, v2_marks}
use Rattle.rules.specs.V2.{header, aligned, fresh_row, fresh_mode, state_after, base, Block, read_block, Row, then, blocks, read_row, Frame, then_rows, rows, read_frame, Kind, base_cell, block_cells, write, apply, frame, top, sample_kind, decoded}
use Rattle.rules.specs.Answer.{done_with}
use Rattle.rules.specs.Ranges.{ScaleAt}
use Rattle.rules.proofs.V2Bounds.{depth_most, scale_starts, next_state, next_unrefused, next_motion, next_scale}
use Rattle.rules.proofs.V2Cells.{write_plain}
use Rattle.v2_cells.specs.declared.V2Place.{V2Place}
use Rattle.v2_cells.specs.Places.{Placed, Markable}
use Rattle.v2_frame.specs.declared.block.Refused.{Refused}
use Rattle.v2_frame.specs.Blocks.{block_result, row_number}
use Rattle.rules.specs.Refusals.{refusal_number}
use Rattle.std.specs.Prelude.{Ok, Err}
use Rattle.rules.proofs.Tests.{by-test, clash}
use Rattle.v2_parse.proofs.LengthLaws.{left_suc, left_none}

-- ── Blocks applied to samples and marks ──

apply_append : (K : Kind ℕ) (xs ys : List Block) (f : List ℕ) → apply K (xs ++ ys) f ≡ apply K ys (apply K xs f)
unfolding apply
apply_append K [] ys f = refl
apply_append K (x ∷ xs) ys f = apply_append K xs ys (write K x f)

-- The blocks `rest` over samples f and marks g come to what the blocks `whole` come to over f₀ and g₀.
pub record Comes (t : ℕ) (whole : List Block) (f₀ g₀ : List ℕ) (rest : List Block) (f g : List ℕ) : Type 0 where
  pub samples : apply (sample_kind t) whole f₀ ≡ apply (sample_kind t) rest f
  pub marks : apply v2_marks whole g₀ ≡ apply v2_marks rest g

module _ {t : ℕ} {whole : List Block} {f₀ g₀ : List ℕ} where
  comes_on : {rest : List Block} {f g : List ℕ} → Comes t whole f₀ g₀ rest f g → {end : List Block} {f' g' : List ℕ} → Comes t rest f g end f' g'
      → Comes t whole f₀ g₀ end f' g'
  comes_on c d = record { samples = c.samples ∙ d.samples; marks = c.marks ∙ d.marks }

  comes_append : {f g : List ℕ} → Comes t whole f₀ g₀ [] f g → (rest : List Block) → Comes t (whole ++ rest) f₀ g₀ rest f g
  unfolding apply
  comes_append {f} {g} c rest = record {
    samples = apply_append (sample_kind t) whole rest f₀ ∙ ap (λ (x : List ℕ). apply (sample_kind t) rest x) c.samples;
    marks = apply_append v2_marks whole rest g₀ ∙ ap (λ (x : List ℕ). apply v2_marks rest x) c.marks;
  }

  comes_same : (rest : List Block) → whole ≡ rest → Comes t whole f₀ g₀ rest f₀ g₀
  comes_same rest e = record { samples = rw e; marks = rw e }

comes_block : (t : ℕ) (x : Block) (rest : List Block) (f g f' g' : List ℕ) → f' ≡ sets f x.place (block_cells (sample_kind t) f x)
    → g' ≡ ended with_filler 0 x.filler x.place (sets g x.place (block_cells v2_marks g x)) → Comes t (x ∷ rest) f g rest f' g'
unfolding apply write
comes_block t x rest f g f' g' ef eg =
    let samples_are : f' ≡ write (sample_kind t) x f = ef ∙ sym (write_plain (sample_kind t) (λ a. refl) x f) in
    record { samples = rw (← samples_are); marks = rw (← eg) }

-- ── A row ──

abbrev pub Left : List ℕ → V2Hdr → ℕ → ℕ → ℕ → Bits → V2Row → List (List ℕ) → Row
Left s h w row col b st mode = blocks s h w row (w / 16 - col / 16) col b st mode

-- A row at a column.
pub record RowGoing (t : ℕ) (s : List ℕ) (h : V2Hdr) (w row : ℕ) (whole : Row) (f₀ g₀ : List ℕ) (col : ℕ) (b : Bits) (st : V2Row) (mode : List (List ℕ)) (f g : List ℕ) : Type 0 where
  pub within : col ≤ w
  pub whole_blocks : col % 16 ≡ 0
  pub motion : st.motion ≤ 7
  pub scale : ScaleAt col st.scale
  pub number_is : whole.number ≡ (Left s h w row col b st mode).number
  pub bits_are : whole.bits ≡ (Left s h w row col b st mode).bits
  pub comes : Comes t whole.blocks f₀ g₀ (Left s h w row col b st mode).blocks f g

-- The rule's row is its blocks from the first column on, where the reader is aligned and nothing of the row was read.
pub whole_row : (s : List ℕ) (h : V2Hdr) (w row : ℕ) (b₀ b : Bits) (st : V2Row) (mode : List (List ℕ)) → b ≡ aligned b₀ → st ≡ fresh_row → mode ≡ fresh_mode row
    → read_row s h w row b₀ ≡ Left s h w row 0 b st mode
unfolding read_row
whole_row s h w row b₀ b st mode eb es em =
    let all : w / 16 - 0 / 16 ≡ w / 16 = omega arith in
    rw (← eb, ← es, ← em, all)

-- The blocks of a row, from its first column on.
pub blocks_start : (t : ℕ) (s : List ℕ) (h : V2Hdr) (w row : ℕ) (b : Bits) (st : V2Row) (mode : List (List ℕ)) (f g : List ℕ) → st ≡ fresh_row
    → RowGoing t s h w row (Left s h w row 0 b st mode) f g 0 b st mode f g
blocks_start t s h w row b st mode f g es = record {
  within = omega arith;
  whole_blocks = refl;
  motion = rw es (omega arith);
  scale = rw es scale_starts;
  number_is = refl;
  bits_are = refl;
  comes = comes_same _ refl;
}

-- The rule's row, where its first block starts.
pub row_starts : (t : ℕ) (s : List ℕ) (h : V2Hdr) (w row : ℕ) (b₀ b : Bits) (st : V2Row) (mode : List (List ℕ)) (f g : List ℕ)
    → b ≡ aligned b₀ → st ≡ fresh_row → mode ≡ fresh_mode row → RowGoing t s h w row (read_row s h w row b₀) f g 0 b st mode f g
row_starts t s h w row b₀ b st mode f g eb es em = rw (whole_row s h w row b₀ b st mode eb es em) (blocks_start t s h w row b st mode f g es)

-- What a row comes to: its number, the reader's state, and its blocks applied.
pub record RowEnded (t : ℕ) (q : Row) (f₀ g₀ : List ℕ) (k : ℕ) (b : Bits) (f g : List ℕ) : Type 0 where
  pub number : k ≡ row_number q
  pub bits : b ≡ q.bits
  pub samples : f ≡ apply (sample_kind t) q.blocks f₀
  pub marks : g ≡ apply v2_marks q.blocks g₀

-- It is what the rule says of the row, where the blocks began at its start.
pub whole_ended : (t : ℕ) (s : List ℕ) (h : V2Hdr) (w row : ℕ) (b₀ b : Bits) (st : V2Row) (mode : List (List ℕ)) (f g : List ℕ) (k : ℕ) (b' : Bits) (f' g' : List ℕ)
    → b ≡ aligned b₀ → st ≡ fresh_row → mode ≡ fresh_mode row
    → RowEnded t (Left s h w row 0 b st mode) f g k b' f' g' → RowEnded t (read_row s h w row b₀) f g k b' f' g'
whole_ended t s h w row b₀ b st mode f g k b' f' g' eb es em d = rw (whole_row s h w row b₀ b st mode eb es em) d

-- What follows a refusal is nothing, and its number is not 0.
refused : (o : V2Block) (e : Refused) → Err e ≡ block_result o → (x : Block) (rest : Bits → V2Row → Row)
    → (then o x rest ≡ record { blocks = []; number = refusal_number e.refusal; bits = e.bits }) × (eqb (refusal_number e.refusal) 0 ≡ false)
unfolding then
refused (Next b st) e eo x rest = absurd cc
refused (EarlyMotion b) e eo x rest = let is : e ≡ record { refusal = Refusal.EarlyMotion; bits = b } = cc in (rw is, rw is)
refused (Outside b) e eo x rest = let is : e ≡ record { refusal = Refusal.Outside; bits = b } = cc in (rw is, rw is)
refused (LongDifference b) e eo x rest = let is : e ≡ record { refusal = Refusal.LongDifference; bits = b } = cc in (rw is, rw is)

-- A block that goes on, by what it answers.
pub goes_on : (o : V2Block) (x : Taken V2Row) → Ok x ≡ block_result o → o ≡ Next x.bits x.value
goes_on (Next b st) x eo = let is : x ≡ record { value = st; bits = b } = cc in rw is
goes_on (EarlyMotion b) x eo = absurd cc
goes_on (Outside b) x eo = absurd cc
goes_on (LongDifference b) x eo = absurd cc

module _ (t : ℕ) (s : List ℕ) (h : V2Hdr) (w row : ℕ) (whole : Row) (f₀ g₀ : List ℕ) (col : ℕ) (b : Bits) (st : V2Row) (mode : List (List ℕ)) (f g : List ℕ)
    (r : RowGoing t s h w row whole f₀ g₀ col b st mode f g) where
  abbrev This : Row
  This = Left s h w row col b st mode

  -- Where no whole block is left, the row has come to its end.
  module _ (l : w < col + 16) where
    at_end : This ≡ record { blocks = []; number = 0; bits = b }
    unfolding blocks
    at_end = let z : w / 16 - col / 16 ≡ 0 = omega (arith, r.whole_blocks) in rw z

    over : (k : ℕ) → k ≡ row_number whole → RowEnded t whole f₀ g₀ k b f g
    unfolding apply
    over k e =
        let c = comes_on r.comes (comes_same _ (ap (λ (x : Row). x.blocks) at_end)) in
        record { number = e; bits = sym (r.bits_are ∙ ap (λ (x : Row). x.bits) at_end); samples = sym c.samples; marks = sym c.marks }

    none : whole.number ≡ 0
    none = r.number_is ∙ ap (λ (x : Row). x.number) at_end

    same_bits : whole.bits ≡ b
    same_bits = r.bits_are ∙ ap (λ (x : Row). x.bits) at_end

    pub row_ends : b.filler ≡ 0 → RowEnded t whole f₀ g₀ 0 b f g
    row_ends z = over 0 (rw (none, same_bits, z))

    -- A word was missing.
    pub row_short : (b.filler ≡ 0 → ⊥) → RowEnded t whole f₀ g₀ 8 b f g
    row_short z = over 8 (rw (none, same_bits, ne_eqb b.filler 0 z))

  module _ (l : col + 16 ≤ w) where
    abbrev Here : V2Block
    Here = (read_block s h w row col b st mode).outcome

    first_block : This ≡ then Here (read_block s h w row col b st mode).block (λ b' st'. Left s h w row (col + 16) b' st' (read_block s h w row col b st mode).mode)
    unfolding blocks
    first_block = let z : w / 16 - col / 16 ≡ suc (w / 16 - (col + 16) / 16) = omega (arith, r.whole_blocks) in rw z

    -- At a refusal the row has come to its end, without the block.
    pub row_stops : (e : Refused) → Err e ≡ block_result Here → RowEnded t whole f₀ g₀ (refusal_number e.refusal) e.bits f g
    unfolding apply
    row_stops e ee =
        let q = refused Here e ee (read_block s h w row col b st mode).block (λ b' st'. Left s h w row (col + 16) b' st' (read_block s h w row col b st mode).mode) in
        let is = first_block ∙ q.0 in
        let k : whole.number ≡ refusal_number e.refusal = r.number_is ∙ ap (λ (x : Row). x.number) is in
        let c = comes_on r.comes (comes_same _ (ap (λ (x : Row). x.blocks) is)) in
        record { number = rw (k, q.1); bits = sym (r.bits_are ∙ ap (λ (x : Row). x.bits) is); samples = sym c.samples; marks = sym c.marks }

    module _ (b' : Bits) (st' : V2Row) (en : Here ≡ Next b' st') (mode' : List (List ℕ)) (em : mode' ≡ (read_block s h w row col b st mode).mode) where
      block_next : This ≡ record {
        blocks = (read_block s h w row col b st mode).block ∷ (Left s h w row (col + 16) b' st' mode').blocks;
        number = (Left s h w row (col + 16) b' st' mode').number;
        bits = (Left s h w row (col + 16) b' st' mode').bits;
      }
      unfolding then
      block_next = first_block ∙ rw (en, em)

      marks_are : (h' : List ℕ) → block_cells v2_marks h' (read_block s h w row col b st mode).block ≡ tabulate 16 0 (λ i. base_cell v2_marks h' (base h w row col st'.motion i))
      unfolding read_block block_cells
      marks_are h' = rw (next_state s h w row col b st mode b' st' (en))

      -- The reader's state at its end is the next one.
      filler_is : (read_block s h w row col b st mode).block.filler ≡ has_filler b'
      unfolding read_block
      filler_is = ap (λ x. has_filler (state_after x)) (en)

      -- Its samples and marks are written at its place.
      comes_first : (rest : List Block) (new f' g' : List ℕ) (p : ℕ) → p ≡ row * w + col → new ≡ block_cells (sample_kind t) f (read_block s h w row col b st mode).block
          → f' ≡ sets f p new → g' ≡ ended with_filler 0 (has_filler b') (row * w + col) (sets g (row * w + col) (tabulate 16 0 (λ i. base_cell v2_marks g (base h w row col st'.motion i))))
          → Comes t ((read_block s h w row col b st mode).block ∷ rest) f g rest f' g'
      unfolding read_block
      comes_first rest new f' g' p ep ev ef eg =
          comes_block t (read_block s h w row col b st mode).block rest f g f' g' (ef ∙ ap₂ (λ (x : ℕ) (v : List ℕ). sets f x v) ep ev)
          (eg ∙ ap₂ (λ (x : Bool) (v : List ℕ). ended with_filler 0 x (row * w + col) (sets g (row * w + col) v)) (sym filler_is) (sym (marks_are g)))

      -- The row goes on after a block that goes on.
      pub row_goes : (new f' g' : List ℕ) (p : ℕ) → p ≡ row * w + col → new ≡ block_cells (sample_kind t) f (read_block s h w row col b st mode).block
          → f' ≡ sets f p new → g' ≡ ended with_filler 0 (has_filler b') (row * w + col) (sets g (row * w + col) (tabulate 16 0 (λ i. base_cell v2_marks g (base h w row col st'.motion i))))
          → RowGoing t s h w row whole f₀ g₀ (col + 16) b' st' mode' f' g'
      row_goes new f' g' p ep ev ef eg = record {
        within = l;
        whole_blocks = omega (arith, r.whole_blocks);
        motion = next_motion s h w row col b st mode b' st' (en) r.motion;
        scale = next_scale s h w row col b st mode b' st' (en) r.scale;
        number_is = r.number_is ∙ ap (λ (x : Row). x.number) block_next;
        bits_are = r.bits_are ∙ ap (λ (x : Row). x.bits) block_next;
        comes = comes_on r.comes (comes_on (comes_same _ (ap (λ (x : Row). x.blocks) block_next)) (comes_first _ new f' g' p ep ev ef eg));
      }

-- ── A frame ──

-- A frame at a row.
pub record FrameGoing (t : ℕ) (s : List ℕ) (h : V2Hdr) (w height : ℕ) (whole : Frame) (f₀ g₀ : List ℕ) (row : ℕ) (b : Bits) (f g : List ℕ) : Type 0 where
  pub answer_is : whole.answer ≡ (rows s h w (height - row) row b).answer
  pub comes : Comes t whole.blocks f₀ g₀ (rows s h w (height - row) row b).blocks f g

pub frame_starts : (t : ℕ) (s : List ℕ) (h : V2Hdr) (w height : ℕ) (b : Bits) (f g : List ℕ)
    → FrameGoing t s h w height (rows s h w height 0 b) f g 0 b f g
frame_starts t s h w height b f g = record { answer_is = rw sub-zero; comes = rw sub-zero (comes_same _ refl) }

module _ (t : ℕ) (s : List ℕ) (h : V2Hdr) (w height : ℕ) (whole : Frame) (f₀ g₀ : List ℕ) (row : ℕ) (b : Bits) (f g : List ℕ)
    (r : FrameGoing t s h w height whole f₀ g₀ row b f g) where
  -- The answer, and all blocks applied.
  abbrev Ended : Answer → List ℕ → List ℕ → Type 0
  Ended a f' g' = (whole.answer ≡ a) × Comes t whole.blocks f₀ g₀ [] f' g'

  abbrev These : Frame
  These = rows s h w (height - row) row b

  pub frame_ends : height ≤ row → Ended (done_with b.filler) f g
  unfolding rows
  frame_ends l =
      let e : These ≡ record { blocks = []; answer = done_with b.filler } = rw (left_none height row l) in
      (r.answer_is ∙ ap (λ (x : Frame). x.answer) e, comes_on r.comes (comes_same _ (ap (λ (x : Frame). x.blocks) e)))

  module _ (l : row < height) (k : ℕ) (b' : Bits) (f' g' : List ℕ) (d : RowEnded t (read_row s h w row b) f g k b' f' g') where
    abbrev ThisRow : Row
    ThisRow = read_row s h w row b

    abbrev rest : Frame
    rest = rows s h w (height - (row + 1)) (row + 1) b'

    first_row : These ≡ then_rows row ThisRow (rows s h w (height - (row + 1)) (row + 1) b')
    unfolding rows
    first_row = rw (left_suc height row l, d.bits, add-one)

    applied : Comes t ThisRow.blocks f g [] f' g'
    unfolding apply
    applied = record { samples = sym d.samples; marks = sym d.marks }

    -- The frame ends with the row, for a refusal, which may be 8.
    pub frame_stops : eqb k 0 ≡ false → Ended (record { number = k; row = row; filler = b'.filler }) f' g'
    unfolding then_rows
    frame_stops some =
        let a : Answer = record { number = k; row = row; filler = b'.filler } in
        let same : k ≡ row_number ThisRow = d.number in
        let e : These ≡ record { blocks = ThisRow.blocks; answer = a } =
        by-test (eqb ThisRow.number 0)
        (λ x. by-test (eqb ThisRow.bits.filler 0)
        (λ y. absurd (clash {t = eqb k 0} (rw (rw (x, y) at same)) some))
        (λ y. first_row ∙ rw (x, y, rw (x, y) at same, d.bits)))
        (λ x. first_row ∙ rw (x, rw x at same, d.bits))
        in
        (r.answer_is ∙ ap (λ (x : Frame). x.answer) e, comes_on r.comes (comes_on (comes_same _ (ap (λ (x : Frame). x.blocks) e)) applied))

    -- The frame goes on after a row without a refusal.
    pub frame_goes : k ≡ 0 → FrameGoing t s h w height whole f₀ g₀ (row + 1) b' f' g'
    unfolding then_rows
    frame_goes zero_is =
        let same : k ≡ row_number ThisRow = d.number in
        let e : These ≡ record { blocks = ThisRow.blocks ++ rest.blocks; answer = rest.answer } =
        by-test (eqb ThisRow.number 0)
        (λ x. by-test (eqb ThisRow.bits.filler 0)
        (λ y. first_row ∙ rw (x, y))
        (λ y. absurd (omega (arith, rw (x, y) at same, zero_is))))
        (λ x. let z : ThisRow.number ≡ 0 = sym (rw x at same) ∙ zero_is in
        absurd (clash {t = eqb ThisRow.number 0} (rw z) x))
        in
        record {
          answer_is = r.answer_is ∙ ap (λ (x : Frame). x.answer) e;
          comes = comes_on r.comes (comes_on (comes_same _ (ap (λ (x : Frame). x.blocks) e)) (comes_append applied rest.blocks));
        }

pub depth_is : (s : List ℕ) (x : Taken V2Hdr) → x ≡ header s → x.value.depth ≤ 16
depth_is s x e = rw e (depth_most s)

-- A block that goes on can be marked, in a map of the whole frame or in an empty one.
pub markable : (s : List ℕ) (h : V2Hdr) (n k m : ℕ) (at : V2Place) (b : Bits) (st : V2Row) (mode : List (List ℕ)) (b' : Bits) (st' : V2Row)
    → (read_block s h at.width at.row at.col b st mode).outcome ≡ Next b' st' → st.motion ≤ 7 → Placed at → at.row * at.width + at.col + 16 ≤ n
    → k ≡ m → (m ≡ n) ⊎ (m ≡ 0) → Markable k at st'.motion
markable s h n k m at b st mode b' st' e small placed room ek lent = record {
  placed = placed;
  small = next_motion s h at.width at.row at.col b st mode b' st' e small;
  inside = λ filled. record { placed = placed; room = omega (arith, whole filled) };
  unrefused = next_unrefused s h at.width at.row at.col b st mode b' st' e;
}
  where
    whole : (k ≡ 0 → ⊥) → k ≡ n
    whole filled = ⊎_elim (λ q. ek ∙ q) (λ q. absurd (filled (ek ∙ q))) lent

-- The frame's answer, samples and marks, from its header.
pub frame_is : (s : List ℕ) (z : Size) (f g f' g' : List ℕ) (x : Taken V2Hdr) (a : Answer) → x ≡ header s
    → ((rows s x.value z.width z.height 0 x.bits).answer ≡ a)
    × Comes (top x.value) (rows s x.value z.width z.height 0 x.bits).blocks f g [] f' g'
    → (a ≡ (read_frame s z).answer) × ((f' ≡ decoded s z f) × (g' ≡ frame v2_marks s z g))
unfolding read_frame decoded frame apply
frame_is s z f g f' g' x a e (ea, c) = (rw (← e) (sym ea), (rw (← e) (sym c.samples), rw (← e) (sym c.marks)))
