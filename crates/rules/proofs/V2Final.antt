-- What a cut upload shows is final, in V2: where the map of a stream has byte 0, so has the map of every longer stream, and the sample
-- is the same. The blocks of the two are the same up to the first with filler; from there on the shorter stream leaves no byte 0, and
-- the longer one writes no earlier place.
use Prim.Native.Nat.{ℕ, zero, suc, ◌+◌, ◌*◌, ◌≤◌, ◌<◌}
use mathlib.Core.Bool.{true, cond}
use mathlib.Core.Path.{◌≡◌, refl, ap, ap₂, ◌∙◌}
use mathlib.Core.Logic.{◌≢◌, ◌⊎◌, inl, inr}
use mathlib.Core.List.{List, [], ◌∷◌, ◌++◌}
use native.Mathlib.Omega.{arith}
use native.Mathlib.Decide.{dec_lt}
use lib.ListN.{length, get_or, set, replicate, length-replicate, get_or-replicate}
use lib.Seq.{sets, length-sets, get_or-set_other}
use lib.IntN.{pos}
use Rattle.rules.specs.declared.answer.Size.{Size}
use Rattle.rules.specs.Frame.{cells, tabulate, change_cells}
use Rattle.rules.specs.V2.{Kind, Base, given, copied, averaged, Block, base_cell, block_cells, write, apply, average, sample, sample_kind, header, top, read_frame, frame, decoded}
use Rattle.rules.specs.Map.{with_filler, v2_marks, v2_map}
use Rattle.rules.proofs.Cells.{All, nil, more, change_other, change_at}
use Rattle.rules.proofs.Kept.{Final, Kept, kept_entry, kept_set, kept_filled, kept_apart}
use Rattle.rules.proofs.Parts.{either_none, none_either}
use Rattle.rules.proofs.Longer.{Longer, longer_append}
use Rattle.rules.proofs.V2Cells.{write_length, apply_length}
use Rattle.rules.proofs.V2Longer.{Split, same, apart, Parted, alike, filled, frame_parted, Run, step, run_from, rows_run}
use Rattle.rules.proofs.Tests.{by-test}

-- ── The same block in both runs ──

module _ (t : ℕ) where
  base_final : {n : ℕ} {m a m' a' : List ℕ} → Kept n m a m' a' → (b : Base)
      → Final (base_cell v2_marks m b) (base_cell (sample_kind t) a b) (base_cell v2_marks m' b) (base_cell (sample_kind t) a' b)
  unfolding base_cell
  base_final k (given v) e = (refl, refl)
  base_final k (copied p) e = k.cell p e
  base_final {m = m} k (averaged p q) e =
      let z = either_none (get_or m p 0) (get_or m q 0) e in
      let x = k.cell p z.0 in
      let y = k.cell q z.1 in
      (none_either _ _ x.0 y.0, ap₂ average x.1 y.1)

  sets_kept : (c i p : ℕ) (v x v' x' : ℕ → ℕ) → ((j : ℕ) → Final (v j) (x j) (v' j) (x' j)) → {n : ℕ} {m a m' a' : List ℕ} → Kept n m a m' a'
      → Kept n (sets m p (tabulate c i v)) (sets a p (tabulate c i x)) (sets m' p (tabulate c i v')) (sets a' p (tabulate c i x'))
  unfolding tabulate
  sets_kept zero i p v x v' x' h k = k
  sets_kept (suc c) i p v x v' x' h k = sets_kept c (suc i) (suc p) v x v' x' h (kept_set k p _ _ _ _ (h i))

  write_kept : (b : Block) {n : ℕ} {m a m' a' : List ℕ} → Kept n m a m' a'
      → Kept n (write v2_marks b m) (write (sample_kind t) b a) (write v2_marks b m') (write (sample_kind t) b a')
  unfolding write block_cells
  write_kept b k =
      let q = sets_kept 16 0 b.place _ _ _ _
      (λ j e. let q = base_final k (b.base j) e in (q.0, ap (sample t b.scale (get_or b.differences j (pos 0))) q.1)) k in
      by-test b.filler (λ e. rw e (kept_filled q 16 b.place)) (λ e. rw e q)

-- ── What blocks leave alone ──

module _ {A : Type 0} (k : Kind A) where
  sets_other : (c j p : ℕ) (g : ℕ → A) (f : List A) (i : ℕ) (d : A) → (p ≤ i → p + c ≤ i) → get_or (sets f p (tabulate c j g)) i d ≡ get_or f i d
  unfolding tabulate
  sets_other zero j p g f i d h = refl
  sets_other (suc c) j p g f i d h =
      sets_other c (suc j) (suc p) g (set f p (g j)) i d (λ l. let q = h (omega arith) in omega arith)
      ∙ get_or-set_other f p i (g j) d (λ e. let q = h (omega arith) in omega arith)

  -- A block changes no cell outside it.
  write_other : (b : Block) (f : List A) (i : ℕ) → (b.place ≤ i → b.place + 16 ≤ i) → get_or (write k b f) i (k.constant 0) ≡ get_or f i (k.constant 0)
  unfolding write block_cells
  write_other b f i h = by-test b.filler (λ e. rw e (change_other k.filled (k.constant 0) 16 b.place g i h ∙ others)) (λ e. rw e others)
    where
      g : List A
      g = sets f b.place (block_cells k f b)

      others : get_or g i (k.constant 0) ≡ get_or f i (k.constant 0)
      others = sets_other 16 0 b.place _ f i (k.constant 0) h

  -- Blocks from n on change no cell before n.
  apply_before : (n : ℕ) {bs : List Block} → All (λ b. n ≤ b.place) bs → (f : List A) (i : ℕ) → i < n
      → get_or (apply k bs f) i (k.constant 0) ≡ get_or f i (k.constant 0)
  unfolding apply
  apply_before n nil f i l = refl
  apply_before n (more {a = b} h hs) f i l = apply_before n hs _ i l ∙ write_other b f i (λ q. absurd (omega arith))

-- ── Filler leaves no byte 0 ──

-- Every byte from n on isn't 0.
abbrev Marked : ℕ → List ℕ → Type 0
Marked n m = (i : ℕ) → n ≤ i → i < length m → get_or m i 0 ≢ 0

write_filled : (b : Block) → b.filler ≡ true → (n : ℕ) (m : List ℕ) → Marked n m → Marked n (write v2_marks b m)
unfolding write
write_filled b t n m h i l r = at (dec_lt i b.place) (dec_lt i (b.place + 16))
  where
    g : List ℕ
    g = sets m b.place (block_cells v2_marks m b)

    low : i < length m
    low = rw (write_length v2_marks b m) at r

    at : Dec (i < b.place) → Dec (i < b.place + 16) → get_or (write v2_marks b m) i 0 ≢ 0
    at (no p) (yes q) =
        let e = ap (λ f. get_or (cond f (change_cells with_filler 0 16 b.place g) g) i 0) t ∙ change_at with_filler 0 16 b.place g i (omega arith) q (rw length-sets low) in
        λ z. omega arith
    at (yes p) q = rw (write_other v2_marks b m i (λ z. absurd (omega arith))) (h i l low)
    at (no p) (no q) = rw (write_other v2_marks b m i (λ z. omega arith)) (h i l low)

apply_filled : (n : ℕ) {bs : List Block} → All (λ b. b.filler ≡ true) bs → (m : List ℕ) → Marked n m → Marked n (apply v2_marks bs m)
unfolding apply
apply_filled n nil m h = h
apply_filled n (more {a = b} t ts) m h = apply_filled n ts (write v2_marks b m) (write_filled b t n m h)

-- ── Two runs ──

-- From n on, where no byte is 0, the first run has blocks with filler, and the second any.
apart_kept : (t t' n : ℕ) {bs cs : List Block} → All (λ b. b.filler ≡ true) bs → All (λ b. n ≤ b.place) bs → All (λ c. n ≤ c.place) cs
    → {c : ℕ} {m a m' a' : List ℕ} → Marked n m → Kept c m a m' a'
    → Kept c (apply v2_marks bs m) (apply (sample_kind t) bs a) (apply v2_marks cs m') (apply (sample_kind t') cs a')
apart_kept t t' n {bs} {cs} full from from' {c} {m} {a} {m'} {a'} h k =
    kept_apart k _ _ _ _ (apply_length v2_marks bs m) (apply_length (sample_kind t) bs a) (apply_length v2_marks cs m') (apply_length (sample_kind t') cs a')
    (λ i l. at i l (dec_lt i n))
  where
    at : (i : ℕ) → i < c → Dec (i < n) → (get_or (apply v2_marks bs m) i 0 ≢ 0)
        ⊎ ((get_or (apply v2_marks bs m) i 0 ≡ get_or m i 0) × ((get_or (apply (sample_kind t) bs a) i 0 ≡ get_or a i 0)
        × ((get_or (apply v2_marks cs m') i 0 ≡ get_or m' i 0) × (get_or (apply (sample_kind t') cs a') i 0 ≡ get_or a' i 0))))
    at i l (yes q) =
        inr
        (apply_before v2_marks n from m i q, (apply_before (sample_kind t) n from a i q, (apply_before v2_marks n from' m' i q, apply_before (sample_kind t') n from' a' i q)))
    at i l (no q) = inl (apply_filled n full m h i (omega arith) (rw (apply_length v2_marks) (omega (arith, k.marks_long))))

split_kept : (t : ℕ) {bs cs : List Block} → Split bs cs → {n e e' : ℕ} → Run n e bs → Run n e' cs → {c : ℕ} {m a m' a' : List ℕ} → Marked n m → Kept c m a m' a'
    → Kept c (apply v2_marks bs m) (apply (sample_kind t) bs a) (apply v2_marks cs m') (apply (sample_kind t) cs a')
unfolding apply
split_kept t (apart full) {n} r r' h k = apart_kept t t n full (run_from r) (run_from r') h k
split_kept t (same {b = b} p) {n} (step l r) (step l' r') {m = m} h k =
    split_kept t p r r'
    (λ i q s. rw (write_other v2_marks b m i (λ z. q)) (h i (omega arith) (rw (write_length v2_marks b m) at s)))
    (write_kept t b k)

-- ── The theorem ──

entry_marked : (n : ℕ) → Marked 0 (replicate n 1)
entry_marked n i l r = let q = get_or-replicate {A = ℕ} n i 1 0 (rw length-replicate at r) in λ e. omega arith

frame_run : (s : List ℕ) (z : Size) → Run (0 * z.width) ((0 + z.height) * z.width) (read_frame s z).blocks
unfolding read_frame
frame_run s z = rows_run s (header s).value z.width z.height 0 (header s).bits

-- Over any old samples, the same or not, the frame of a longer stream has byte 0 and the same sample where the frame of s has byte 0.
pub longer_final : (s u : List ℕ) → Longer s u → (z : Size) (f g : List ℕ) → length f ≡ cells z → length g ≡ cells z
    → (i : ℕ) → get_or (v2_map s z) i 0 ≡ 0 → (get_or (v2_map u z) i 0 ≡ 0) × (get_or (decoded s z f) i 0 ≡ get_or (decoded u z g) i 0)
unfolding v2_map decoded frame
longer_final s u longer z f g lf lg = go (frame_parted s u longer z)
  where
    entry : Kept (cells z) (replicate (cells z) 1) f (replicate (cells z) 1) g
    entry = kept_entry (cells z) f g lf lg

    low : (bs : List Block) → All (λ b. 0 ≤ b.place) bs
    low [] = nil
    low (b ∷ bs) = let l : 0 ≤ b.place = omega arith in more l (low bs)

    go : Parted s u z → (i : ℕ)
        → Final (get_or (apply v2_marks (read_frame s z).blocks (replicate (cells z) 1)) i 0) (get_or (apply (sample_kind (top (header s).value)) (read_frame s z).blocks f) i 0)
        (get_or (apply v2_marks (read_frame u z).blocks (replicate (cells z) 1)) i 0) (get_or (apply (sample_kind (top (header u).value)) (read_frame u z).blocks g) i 0)
    go (alike e p) = rw (← e) (split_kept (top (header s).value) p (frame_run s z) (frame_run u z) (λ i l r. entry_marked (cells z) i (omega arith) r) entry).cell
    go (filled p) = (apart_kept (top (header s).value) (top (header u).value) 0 p (low _) (low _) (entry_marked (cells z)) entry).cell

-- What a cut upload shows is final.
pub cut_final : (s t : List ℕ) (z : Size) (f : List ℕ) → length f ≡ cells z → (i : ℕ) → get_or (v2_map s z) i 0 ≡ 0
    → (get_or (v2_map (s ++ t) z) i 0 ≡ 0) × (get_or (decoded s z f) i 0 ≡ get_or (decoded (s ++ t) z f) i 0)
cut_final s t z f l = longer_final s (s ++ t) (longer_append s t) z f f l l
