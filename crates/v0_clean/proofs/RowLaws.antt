-- A row: what is left of its blocks has the row's first fault, as long as no block had one.
use Prim.Native.Nat.{ℕ, suc, ◌+◌, ◌-◌, ◌/◌, ◌≤◌, ◌<◌}
use mathlib.Core.Path.{◌≡◌, refl, sym, ap, ap₂, ◌∙◌}
use mathlib.Core.Logic.{◌≢◌}
use mathlib.Core.List.{List}
use native.Mathlib.Omega.{arith}
use borrow.Author.Tests.{ne_eqb}
use Rattle.rules.specs.declared.answer.Size.{Size}
use Rattle.rules.specs.declared.v0.V0Row.{V0Row}
use Rattle.rules.specs.declared.v0.V0Head.{V0Head}
use Rattle.rules.specs.V0.{fresh_row}
use Rattle.rules_clean.specs.Verdict.{or_next, block_fault, blocks_fault, row_fault}
use Rattle.v0_parse.specs.Lengths.{Within, furthest}
use Rattle.v0_parse.proofs.HeadLaws.{within_more}
use Rattle.v0_cells.specs.Places.{InFrame}
use Rattle.v0_direct.specs.Block.{block_ops, after_block}
use Rattle.v0_direct.specs.declared.run.Run.{Run}
use Rattle.v0_direct.proofs.RowLaws.{Along, along_begun, along_on}
use Rattle.v0_clean.specs.OffsetsLent.{InRow}
use Rattle.v0_clean.specs.Block.{seen}
use Rattle.v0_clean.specs.Row.{Placed, fault_from, Decides}

-- A point is where the direct decoder's row may be.
along_of : {z : Size} {p : Run} → Placed z p → Along z p.state p.col
along_of p = record { whole = p.whole; below = p.below; near = p.near }

placed_of : {z : Size} {col : ℕ} {st : V0Row} → Along z st col → Placed z (record { col = col; state = st })
placed_of a = record { whole = a.whole; below = a.below; near = a.near }

module _ (s : List ℕ) (z : Size) (row : ℕ) where
  -- A row begins with its own fault before it, and any point with that from there on.
  pub row_begun : (offset : ℕ) (st : V0Row) → st ≡ fresh_row row offset → Decides s z row (row_fault s z row offset) (record { col = 0; state = st })
  unfolding row_fault fault_from
  row_begun offset st e =
      let q : z.width + 15 - 0 ≡ z.width + 15 = omega arith in
      record { placed = placed_of (along_begun row offset e); left = ap₂ (λ n x. blocks_fault s z row (n / 16) 0 x) q e }

  pub from_point : (p : Run) → Placed z p → Decides s z row (fault_from s z row p) p
  from_point p x = record { placed = x; left = refl }

  module _ (k₀ : ℕ) (st : V0Row) (col : ℕ) where
    abbrev here : Run
    here = record { col = col; state = st }

    module _ (l : col < z.width) where
      -- A block that the row still has lies in the frame, its lengths near enough to 0.
      pub check_block : InRow z row → Decides s z row k₀ here → InFrame z row col × Within furthest st.lengths
      check_block i c = (
        record { width = i.width; height = i.height; row_in = i.row_in; col_in = l; block = c.placed.whole },
        within_more (15 + col / 16) furthest st.lengths (omega (arith, i.width)) c.placed.near,
      )

      more : (z.width + 15 - col) / 16 ≡ suc ((z.width + 15 - (col + 16)) / 16)
      more = omega arith

      -- The rest begins with this block.
      module _ (h : V0Head) (k : ℕ) (eh : h ≡ seen s z row col st) (ek : k ≡ block_fault row h h.row.bits) where
        pub rest_here : fault_from s z row here ≡ or_next k (fault_from s z row (record { col = col + 16; state = h.row }))
        unfolding fault_from blocks_fault seen after_block block_ops block_fault
        rest_here =
            ap (λ n. blocks_fault s z row n col st) more
            ∙ sym (ap₂ or_next (ek ∙ ap (λ x. block_fault row x x.row.bits) eh) (ap (λ x. blocks_fault s z row ((z.width + 15 - (col + 16)) / 16) (col + 16) x.row) eh))

        -- The block has a fault, which is then the row's.
        pub check_found : k ≢ 0 → Decides s z row k₀ here → k ≡ k₀
        check_found ne c = sym (rest_here ∙ rw (ne_eqb k 0 ne)) ∙ c.left

        -- The block has no fault, and the rest of the row decides.
        pub checking_on : k ≡ 0 → Decides s z row k₀ here → Decides s z row k₀ (record { col = col + 16; state = h.row })
        unfolding seen after_block
        checking_on none c =
            record { placed = placed_of (along_on s l (ap (λ x. x.row.lengths) eh) (along_of c.placed)); left = sym (rest_here ∙ rw none) ∙ c.left }

    -- No block is left.
    pub checked : z.width ≤ col → Decides s z row k₀ here → 0 ≡ k₀
    unfolding fault_from blocks_fault
    checked l c =
        let e : (z.width + 15 - col) / 16 ≡ 0 = omega arith in
        sym (ap (λ n. blocks_fault s z row n col st) e) ∙ c.left
