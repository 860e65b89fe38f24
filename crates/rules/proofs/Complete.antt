-- A count of 0 says that nothing is missing: a longer stream then decodes to the same frame and map, and V2 answers the same, with a
-- refusal too.
use Prim.Native.Nat.{ℕ, zero, suc}
use mathlib.Core.Path.{◌≡◌, refl, ap, ap₂, ◌∙◌}
use mathlib.Core.Logic.{◌≢◌, ◌⊎◌, inl, inr}
use mathlib.Core.List.{List, ◌∷◌}
use borrow.Author.Tests.{ne_eqb}
use Rattle.rules.specs.declared.answer.Size.{Size}
use Rattle.rules.specs.declared.reader.Bits.{Bits}
use Rattle.rules.specs.declared.v2.V2Hdr.{V2Hdr}
use Rattle.rules.specs.V0 as V0
use Rattle.rules.specs.V2 as V2
use Rattle.rules.specs.Map.{all_old, v2_marks, v0_map, v2_map}
use Rattle.rules.proofs.Cells.{All, nil, more, Each, none, both}
use Rattle.rules.proofs.Longer.{Longer, sure}
use Rattle.rules.proofs.NoFiller.{Clear, rows_clear}
use Rattle.rules.proofs.V0Longer.{Alike, rows_alike}
use Rattle.rules.proofs.V2Longer.{row_sure}
use Rattle.rules.proofs.V2Traced.{header_traced}
use Rattle.rules.proofs.V2Rows.{then_rows_cases}

-- ── V0 ──

alike_clear : {bs cs : List V0.Block} → Each Alike bs cs → All Clear bs → bs ≡ cs
alike_clear none nil = refl
alike_clear (both r rs) (more e es) = ap₂ ◌∷◌ (r.same e) (alike_clear rs es)

module _ (s u : List ℕ) (longer : Longer s u) (offsets : List ℕ) (z : Size) (clear : V0.frame_filler s offsets z ≡ 0) where
  rows_same : V0.rows s offsets z z.height 0 ≡ V0.rows u offsets z z.height 0
  unfolding V0.frame_filler
  rows_same = alike_clear (rows_alike s u longer offsets z z.height 0) (rows_clear s offsets z z.height 0 0 clear).1

  -- Every kind of frame is the same.
  pub v0_frame_same : {A : Type 0} (k : V0.Kind A) (f : List A) → V0.frame k s offsets z f ≡ V0.frame k u offsets z f
  unfolding V0.frame
  v0_frame_same k f = ap (λ bs. V0.exchange k z (V0.write_all k bs f)) rows_same

  pub v0_decoded_same : (f : List ℕ) → V0.decoded s offsets z f ≡ V0.decoded u offsets z f
  unfolding V0.decoded
  v0_decoded_same f = v0_frame_same V0.sample_kind f

  pub v0_map_same : v0_map s offsets z ≡ v0_map u offsets z
  unfolding v0_map
  v0_map_same = v0_frame_same _ _

-- ── V2 ──

-- A refused row ends its frame, whatever would follow.
then_refused : (row : ℕ) (q : V2.Row) (x y : V2.Frame) → q.number ≢ 0 → V2.then_rows row q x ≡ V2.then_rows row q y
unfolding V2.then_rows
then_refused row q x y e = rw (ne_eqb q.number 0 e)

-- A frame whose count is 0: the row's count is 0, and the row was refused or the rest's count is 0.
then_complete : (row : ℕ) (q : V2.Row) (x : V2.Frame) → (V2.then_rows row q x).answer.filler ≡ 0
    → (q.bits.filler ≡ 0) × ((q.number ≢ 0) ⊎ (x.answer.filler ≡ 0))
then_complete row q x =
    then_rows_cases (λ f. f.answer.filler ≡ 0 → (q.bits.filler ≡ 0) × ((q.number ≢ 0) ⊎ (x.answer.filler ≡ 0))) row q x (λ r e. (e, inl r))
    (λ r m e. absurd (m e)) (λ r m e. (m, inr e))

module _ (s u : List ℕ) (longer : Longer s u) (h : V2Hdr) (w : ℕ) where
  -- From a state on: a count of 0 at the end was one at the start, and the rows are the same.
  rows_complete : (k row : ℕ) (b : Bits) → (V2.rows s h w k row b).answer.filler ≡ 0
      → (b.filler ≡ 0) × (V2.rows s h w k row b ≡ V2.rows u h w k row b)
  unfolding V2.rows
  rows_complete zero row b e = (e, refl)
  rows_complete (suc k) row b e = go (then_complete row (q s) (rest s (q s).bits) e) (λ f. (rows_complete k (suc row) (q s).bits f).1)
    where
      q : List ℕ → V2.Row
      q v = V2.read_row v h w row b

      rest : List ℕ → Bits → V2.Frame
      rest v b' = V2.rows v h w k (suc row) b'

      as_read : (q s).bits.filler ≡ 0 → V2.then_rows row (q s) (rest u (q s).bits) ≡ V2.then_rows row (q u) (rest u (q u).bits)
      as_read m = ap (λ x. V2.then_rows row x (rest u x.bits)) ((row_sure s u longer h w row b).same m)

      go : ((q s).bits.filler ≡ 0) × (((q s).number ≢ 0) ⊎ ((rest s (q s).bits).answer.filler ≡ 0))
          → ((rest s (q s).bits).answer.filler ≡ 0 → rest s (q s).bits ≡ rest u (q s).bits)
          → (b.filler ≡ 0) × (V2.then_rows row (q s) (rest s (q s).bits) ≡ V2.then_rows row (q u) (rest u (q u).bits))
      go (m, inl r) ih =
          ((row_sure s u longer h w row b).kept m, then_refused row (q s) (rest s (q s).bits) (rest u (q s).bits) r ∙ as_read m)
      go (m, inr f) ih = ((row_sure s u longer h w row b).kept m, ap (V2.then_rows row (q s)) (ih f) ∙ as_read m)

module _ (s u : List ℕ) (longer : Longer s u) (z : Size) (clear : (V2.read_frame s z).answer.filler ≡ 0) where
  header_same : V2.header s ≡ V2.header u
  unfolding V2.read_frame
  header_same =
      let x = V2.header s in
      (sure s u longer (header_traced s)).same (rows_complete s u longer x.value z.width z.height 0 x.bits clear).0

  -- The blocks and the answer are the same.
  pub v2_frame_same : V2.read_frame s z ≡ V2.read_frame u z
  unfolding V2.read_frame
  v2_frame_same =
      let x = V2.header s in
      (rows_complete s u longer x.value z.width z.height 0 x.bits clear).1
      ∙ ap (λ y. V2.rows u y.value z.width z.height 0 y.bits) header_same

  pub v2_decoded_same : (f : List ℕ) → V2.decoded s z f ≡ V2.decoded u z f
  unfolding V2.decoded V2.frame
  v2_decoded_same f = ap₂ (λ x y. V2.apply (V2.sample_kind (V2.top x.value)) y.blocks f) header_same v2_frame_same

  pub v2_map_same : v2_map s z ≡ v2_map u z
  unfolding v2_map V2.frame
  v2_map_same = ap (λ y. V2.apply v2_marks y.blocks (all_old z)) v2_frame_same
