-- A block's base: references from the first two, which refusal it meets, and its cells, of any kind.
use mathlib.Core.Bool.{Bool, true, false, cond}
use mathlib.Core.List.{List}
use mathlib.Core.Path.{◌≡◌, refl, ◌∙◌}
use Prim.Native.Nat.{ℕ, ◌+◌, ◌*◌, ◌-◌, ◌%◌, ◌≤◌, ◌<◌}
use native.Mathlib.Nat.{mul-le-mul}
use native.Mathlib.Omega.{arith}
use lib.Dec.{ltb, eqb, lit≤}
use lib.IntN.{pos, ◌+ℤ◌}
use lib.ListN.{get_or}
use lib.Signed.{mag}
use mir.Syntax.{w64}
use mir.Val.{to_z, of_z}
use mir.ValLaws.{to_z-of_z}
use borrow.Author.Tests.{lt-ltb, le-ltb, ltb-false, eqb-true, eqb-false, ne_eqb}
use Rattle.rules.specs.Limits.{most_side}
use Rattle.rules.specs.declared.v2.V2Hdr.{V2Hdr}
use Rattle.rules.specs.Frame.{tabulate}
use Rattle.rules.specs.V2.{motion_offsets, motion_averages, refers_before, base_refusal, repeated, referred, base, Kind, base_cell}
use Rattle.rules.specs.Ranges.{offset_4, reference_5}
use Rattle.rules.proofs.Cells.{All, nil, more, all_get}
use Rattle.rules.proofs.V2Places.{further, offset_is, reference_is}
use Rattle.rules.proofs.V2References.{reference_inside}
use Rattle.rules.proofs.Tests.{by-test}
use Rattle.v2_cells.specs.declared.V2Place.{V2Place}
use Rattle.v2_cells.specs.declared.base.References.{References}
use Rattle.v2_cells.specs.Places.{Inside, reference, references, along, Runs, cell_from}
use Rattle.v2_cells.proofs.Fill.{tabulate_same}

-- ── References ──

-- A row within the limits, and the rows above it, have their places below 2^28.
pub rows_room : (row w : ℕ) → row < most_side → w ≤ most_side
    → ((row - 2) * w ≤ 268_435_456) × (((row - 1) * w ≤ 268_435_456) × (row * w ≤ 268_435_456))
rows_room row w h k = (
  mul-le-mul {n₂ = 16_384} {m₂ = 16_384} (omega arith) k,
  (mul-le-mul {n₂ = 16_384} {m₂ = 16_384} (omega arith) k, mul-le-mul {n₂ = 16_384} {m₂ = 16_384} (omega arith) k),
)

-- An offset is −4 to 4, and the code's table has it in 64 bits.
offset_small : (motion : ℕ) → mag (get_or motion_offsets motion (pos 0)) ≤ 4
offset_small motion = all_get (λ z. mag z ≤ 4) table motion (pos 0) (lit≤ tt)
  where
    table : All (λ z. mag z ≤ 4) motion_offsets
    table = more (lit≤ tt) (more (lit≤ tt) (more (lit≤ tt) (more (lit≤ tt) (more (lit≤ tt) (more (lit≤ tt) (more (lit≤ tt) nil))))))

pub offset_code : (motion : ℕ) → to_z w64 (of_z w64 (get_or motion_offsets motion (pos 0))) +ℤ pos 4 ≡ pos (offset_4 motion)
offset_code motion = rw (to_z-of_z w64 (get_or motion_offsets motion (pos 0)) (record { sfits = omega (arith, offset_small motion) })) (offset_is motion)

-- A sample refers as far on from one of the same parity as it stands on from it.
same_parity : (at : V2Place) (motion i d : ℕ) → d % 2 ≡ 0 → reference at motion (i + d) ≡ reference at motion i + d
unfolding reference_5
same_parity at motion i d e =
    let p : (at.row + (i + d)) % 2 ≡ (at.row + i) % 2 = omega arith in
    let q : (i + d) % 2 ≡ i % 2 = omega arith in
    rw (p, q) (by-test (eqb ((at.row + i) % 2) 1) (λ f. rw f (omega arith)) (λ f. rw f (omega arith)))

-- ── Which refusal the base meets ──

module _ (row col motion : ℕ) where
  pub other_row : (row ≡ 2 → ⊥) → false ≡ refers_before row col motion
  unfolding refers_before
  other_row n = rw (ne_eqb row 2 n)

  pub first_column : row ≡ 2 → col ≡ 0 → ltb motion 3 ≡ refers_before row col motion
  unfolding refers_before
  first_column er ec = rw (er, ec)

  pub other_column : row ≡ 2 → (col ≡ 0 → ⊥) → eqb col 0 ≡ refers_before row col motion
  unfolding refers_before
  other_column er n = rw (er, ne_eqb col 0 n)

  pub refusal_7 : motion ≡ 7 → 0 ≡ base_refusal row col motion
  unfolding base_refusal
  refusal_7 e = rw e

  module _ (e : eqb motion 7 ≡ false) where
    pub refusal_5 : row < 2 → 5 ≡ base_refusal row col motion
    unfolding base_refusal
    refusal_5 h = rw (e, lt-ltb row 2 h)

    pub refusal_6 : 2 ≤ row → refers_before row col motion ≡ true → 6 ≡ base_refusal row col motion
    unfolding base_refusal
    refusal_6 h s = rw (e, le-ltb row 2 h, s)

    pub refusal_none : 2 ≤ row → refers_before row col motion ≡ false → 0 ≡ base_refusal row col motion
    unfolding base_refusal
    refusal_none h s = rw (e, le-ltb row 2 h, s)

    unrefused : base_refusal row col motion ≡ 0 → (2 ≤ row) × (refers_before row col motion ≡ false)
    unfolding base_refusal
    unrefused r = go (ltb row 2) refl (refers_before row col motion) (rw e at r)
      where
        go : (t : Bool) → ltb row 2 ≡ t → (u : Bool) → ◌≡◌ {A = ℕ} (cond t 5 (cond u 6 0)) 0 → (2 ≤ row) × (u ≡ false)
        go true p u q = absurd (omega arith)
        go false p true q = absurd (omega arith)
        go false p false q = (ltb-false row 2 p, refl)

-- ── The base's cells ──

pub bases_7 : {A : Type 0} (K : Kind A) (f : List A) (h : V2Hdr) (w row col motion : ℕ) (l : List A) → motion ≡ 7
    → l ≡ tabulate 16 0 (λ i. base_cell K f (repeated h w row col i)) → l ≡ tabulate 16 0 (λ i. base_cell K f (base h w row col motion i))
unfolding base
bases_7 K f h w row col motion l e el = simp e el

-- A block among the n samples of its frame, of motion 0 to 6, whose base meets no refusal.
module _ {n : ℕ} {at : V2Place} {motion : ℕ} (inside : Inside n at) (other : motion ≡ 7 → ⊥) (none : base_refusal at.row at.col motion ≡ 0) where
  free : (2 ≤ at.row) × (refers_before at.row at.col motion ≡ false)
  free = unrefused at.row at.col motion (ne_eqb motion 7 other) none

  pub low_row : 2 ≤ at.row
  low_row = free.0

  -- Each of its references is a place among them, and so is the one that averaging reads.
  pub each : (i : ℕ) → i < 16 → (5 ≤ reference at motion i) × (reference at motion i - 5 + further motion < n)
  each i l =
      reference_inside at.width at.row at.col motion low_row (omega arith) inside.placed.whole free.1 n i l inside.placed.column inside.room

  pub runs : Runs n (references at motion)
  runs = record {
    even_end = omega (arith, each 14 (omega arith), same_parity at motion 0 14 refl, each 0 (omega arith));
    odd_end = omega (arith, each 15 (omega arith), same_parity at motion 1 14 refl, each 1 (omega arith));
  }

  place_is : (i : ℕ) → along (references at motion) i + 5 ≡ reference at motion i
  place_is i =
      by-test (eqb (i % 2) 0)
      (λ e. rw e (let p : i % 2 ≡ 0 = eqb-true (i % 2) 0 e in
      let q : 0 + i ≡ i = omega arith in
      let r = rw q at (same_parity at motion 0 i p) in
      omega (arith, each 0 (omega arith))))
      (λ e. rw e (let m : i % 2 ≡ 0 → ⊥ = eqb-false (i % 2) 0 e in
      let p : (i - 1) % 2 ≡ 0 = omega arith in
      let q : 1 + (i - 1) ≡ i = omega arith in
      let r = rw q at (same_parity at motion 1 (i - 1) p) in
      omega (arith, each 1 (omega arith))))

  -- A sample's cell is the one at its place on the runs.
  referred_is : {A : Type 0} (K : Kind A) (f : List A) (i : ℕ)
      → cell_from K f (get_or motion_averages motion false) (along (references at motion) i) ≡ base_cell K f (referred at.width at.row at.col motion i)
  unfolding referred base_cell
  referred_is K f i =
      let p = along (references at motion) i in
      let l : 5 ≤ p + 5 = omega arith in
      let q : p + 5 - 5 ≡ p = omega arith in
      rw (reference_is at.width at.row at.col motion i, ← place_is i, le-ltb (p + 5) 5 l, q) (by-test (get_or motion_averages motion false) (λ e. rw e) (λ e. rw e))

  pub bases_referred : {A : Type 0} (K : Kind A) (f : List A) (h : V2Hdr) {l : List A} {refs : References} → refs ≡ references at motion
      → l ≡ tabulate 16 0 (λ i. cell_from K f refs.averaging (along refs i)) → l ≡ tabulate 16 0 (λ i. base_cell K f (base h at.width at.row at.col motion i))
  unfolding base
  bases_referred K f h er el = simp (ne_eqb motion 7 other) ((rw er at el) ∙ tabulate_same 16 0 _ _ (referred_is K f))
