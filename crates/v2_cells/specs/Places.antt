-- Places in a frame within the limits, and references as the code has them: 5 more than they are, so that none is below 0.
use Rattle.std.specs.Prelude.{ℕ, ◌+◌, ◌-◌, ◌*◌, ◌%◌, ◌≤◌, ◌<◌, ◌≡◌, Bool, false, cond, List, eqb, get_or, Result, Ok, Err}
use Rattle.std.proofs.lemmas.List.Edits.{sets}
use Rattle.rules.specs.Limits.{most_side}
use Rattle.rules.specs.declared.answer.Refusal.{Refusal}
use Rattle.rules.specs.declared.answer.Refusal.TheVariants.{EarlyMotion, Outside}
use Rattle.rules.specs.declared.v2.V2Hdr.{V2Hdr}
use Rattle.rules.specs.Frame.{tabulate}
use Rattle.rules.specs.Ranges.{reference_5}
use Rattle.rules.specs.V2.{motion_averages, base_refusal, base_cell, base, repeated, Kind}
use Rattle.rules.specs.Map.{v2_marks}
use Rattle.v2_cells.specs.declared.V2Place.{V2Place}
use Rattle.v2_cells.specs.declared.base.References.{References}

-- A block's place in a row of a frame within the limits.
pub record Placed (at : V2Place) : Type 0 where
  pub wide : at.width ≤ most_side
  pub high : at.row < most_side
  pub column : at.col + 16 ≤ at.width
  pub whole : at.col % 16 ≡ 0

-- The same, with all sixteen samples among the n of the frame.
pub record Inside (n : ℕ) (at : V2Place) : Type 0 where
  pub placed : Placed at
  pub room : at.row * at.width + at.col + 16 ≤ n

-- A block of a map of n bytes, which is empty or has all sixteen and met no refusal.
pub record Markable (n : ℕ) (at : V2Place) (motion : ℕ) : Type 0 where
  pub placed : Placed at
  pub small : motion ≤ 7
  pub inside : (n ≡ 0 → ⊥) → Inside n at
  pub unrefused : base_refusal at.row at.col motion ≡ 0

-- A block that meets no refusal, with all sixteen samples among the n of the frame; and room for its sixteen values.
pub record Based (n : ℕ) (at : V2Place) (motion values : ℕ) : Type 0 where
  pub inside : Inside n at
  pub small : motion ≤ 7
  pub sixteen : values ≡ 16
  pub unrefused : base_refusal at.row at.col motion ≡ 0

-- A block of motions 0 to 6 that meets no refusal.
pub record Referring (at : V2Place) (motion : ℕ) : Type 0 where
  pub placed : Placed at
  pub other : motion < 7
  pub unrefused : base_refusal at.row at.col motion ≡ 0

-- Sample 0 or 1 of a block of motions 0 to 6, with two rows above it.
pub record ReferringAt (at : V2Place) (motion i : ℕ) : Type 0 where
  pub placed : Placed at
  pub other : motion < 7
  pub rows_above : 2 ≤ at.row
  pub first : i < 2

-- Where sample i refers to, 5 places on; and the references of motions 0 to 6.
abbrev pub reference : V2Place → ℕ → ℕ → ℕ
reference at motion i = reference_5 at.width at.row at.col motion i

abbrev pub references : V2Place → ℕ → References
references at motion = record { even = reference at motion 0 - 5; odd = reference at motion 1 - 5; averaging = get_or motion_averages motion false }

-- Sample i refers as far on from sample 0 or 1, whichever has its parity, as it stands on from that one.
abbrev pub along : References → ℕ → ℕ
along refs i = cond (eqb (i % 2) 0) (refs.even + i) (refs.odd + i - 1)

-- Both runs of eight places, two apart, end among the n of the frame, with averaging too.
pub record Runs (n : ℕ) (refs : References) : Type 0 where
  pub even_end : refs.even + 14 + cond refs.averaging 2 0 < n
  pub odd_end : refs.odd + 14 + cond refs.averaging 2 0 < n

-- A block's base met no refusal, or 5 or 6.
abbrev pub base_result : V2Place → ℕ → Result Unit Refusal
base_result at motion =
    let refusal = base_refusal at.row at.col motion in
    cond (eqb refusal 5) (Err EarlyMotion) (cond (eqb refusal 6) (Err Outside) (Ok tt))

-- The cell at p, or its average with the one two places on.
abbrev pub cell_from : {A : Type 0} → Kind A → List A → Bool → ℕ → A
cell_from K f averaging p =
    cond averaging (K.average (get_or f p (K.constant 0)) (get_or f (p + 2) (K.constant 0))) (get_or f p (K.constant 0))

-- ── A block's cells ──

-- The sixteen cells of a block's bases, by its motion, over a frame of cells; and those that motion 7 repeats.
abbrev pub base_cells : {A : Type 0} → Kind A → V2Hdr → V2Place → ℕ → List A → List A
base_cells K h at motion f = tabulate 16 0 (λ i. base_cell K f (base h at.width at.row at.col motion i))

abbrev pub repeated_cells : {A : Type 0} → Kind A → V2Hdr → V2Place → List A → List A
repeated_cells K h at f = tabulate 16 0 (λ i. base_cell K f (repeated h at.width at.row at.col i))

-- A map with a block's marks: each is that of the cells that the sample's base is read from.
abbrev pub with_marks : V2Hdr → V2Place → ℕ → List ℕ → List ℕ
with_marks h at motion map = sets map (at.row * at.width + at.col) (base_cells v2_marks h at motion map)
