-- A row from row 2 on that is lent as parts is finished where it lies.
use mathlib.Core.Path.{◌≡◌, ap, ◌∙◌}
use mathlib.Core.List.{List, ◌++◌, map, append_assoc}
use Prim.Native.Nat.{ℕ, ◌+◌, ◌-◌, ◌*◌, ◌≤◌}
use native.Mathlib.Omega.{arith}
use lib.ListN.{length, take, drop}
use lib.Seq.{length-take-le, take_at, drop_at}
use borrow.Rule.Slice.PartMut.{mid_of, put_mid}
use Rattle.rules.specs.V0.{blocks_in}
use Rattle.rules.specs.Phases.{row_records, store_blocks, direction, predict_blocks, sample_stage}
use Rattle.rules.proofs.TwoPhase.{row_directions_length}
use Rattle.v0_phase1.proofs.RowsLaws.{row_stored, row_directed}
use Rattle.v0_phase2.proofs.PredictionLaws.{whole_row}
use Rattle.v0_two_phase.specs.LateRow.{late_row}

module _ (s : List ℕ) (w r offset : ℕ) where
  abbrev n : ℕ
  n = blocks_in w

  abbrev bytes : List ℕ
  bytes = map direction (row_records s w (r + 2) offset)

  -- The row's part of the scratch holds its own directions.
  own_directions : (ds ds' : List ℕ) → r * n + n ≤ length ds → ds' ≡ (take (r * n) ds ++ bytes) ++ drop (r * n + n) ds
      → take n (drop (r * n) ds') ≡ bytes
  own_directions ds ds' room e =
      rw (
        e,
        append_assoc (take (r * n) ds) bytes (drop (r * n + n) ds),
        drop_at (take (r * n) ds) (bytes ++ drop (r * n + n) ds) (r * n) (length-take-le (r * n) ds (omega arith)),
        take_at bytes (drop (r * n + n) ds) n (row_directions_length s w (r + 2) offset),
      )

  -- Its predictions, added by them to what phase one left.
  row_finished : (ds ds' f f₁ f₂ : List ℕ) → r * n + n ≤ length ds → ds' ≡ (take (r * n) ds ++ bytes) ++ drop (r * n + n) ds
      → f₁ ≡ store_blocks ((r + 2) * w) w 0 (row_records s w (r + 2) offset) f
      → f₂ ≡ predict_blocks sample_stage w (r + 2) 0 (take n (drop (r * n) ds')) f₁
      → f₂ ≡ late_row s w (r + 2) offset f
  row_finished ds ds' f f₁ f₂ room ed e₁ e₂ =
      e₂ ∙ ap (λ x. predict_blocks sample_stage w (r + 2) 0 x f₁) (own_directions ds ds' room ed)
      ∙ ap (predict_blocks sample_stage w (r + 2) 0 bytes) e₁

  -- The same as the code has it: the row is lent as a part of the frame and of the scratch, and its blocks are counted.
  pub row_done : (k : ℕ) (f ds ys zs f₂ : List ℕ) → k ≡ n → r * n + n ≤ length ds
      → ys ≡ store_blocks 0 w 0 (row_records s w 2 offset) (mid_of ((r + 2) * w) (length f - (r + 2) * w) f)
      → zs ≡ map direction (row_records s w 2 offset) ++ drop n (mid_of (r * k) (length ds - r * k) ds)
      → f₂ ≡ predict_blocks sample_stage w (r + 2) (0 * 16) (take (k - 0) (drop (r * k + 0) (put_mid (r * k) (length ds - r * k) ds zs)))
      (put_mid ((r + 2) * w) (length f - (r + 2) * w) f ys)
      → (f₂ ≡ late_row s w (r + 2) offset f)
      × (put_mid (r * k) (length ds - r * k) ds zs ≡ (take (r * n) ds ++ bytes) ++ drop (r * n + n) ds)
  row_done k f ds ys zs f₂ ek room ey ez e₂ =
      let directed = row_directed s w r offset n ds zs (rw ek at ez) in
      let added = whole_row sample_stage w (r + 2) (r * n) n _ _ _ (rw ek at e₂) in
      (row_finished ds _ f _ f₂ room directed (row_stored s w r offset f ys ey) added, rw ek directed)
