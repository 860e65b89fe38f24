-- Runs of a row: how many there are, and where the next one is.
use mathlib.Core.Path.{◌≡◌, refl, sym, ap, ap₂, ◌∙◌}
use mathlib.Core.Bool.{Bool, true, false, ◌&&◌, not}
use mathlib.Core.List.{List, [], ◌∷◌, ◌++◌}
use Prim.Native.Nat.{ℕ, zero, suc, ◌+◌, ◌*◌, ◌≤◌, ◌<◌}
use native.Mathlib.Omega.{arith}
use native.Mathlib.Numerals.{add-one}
use native.Mathlib.Nat.{add-zero}
use lib.ListN.{length, get_or, take, drop, drop_of_length-le, length-append, length-take, length-drop}
use lib.Seq.{sets, drop-drop, get_or-drop}
use Rattle.frame_blank.specs.Blanking.{marked, bit, Run, run, stretch, runs_from, row_runs, rows_runs, numbers}
use Rattle.frame_blank.specs.MapLent.{gap}
use Rattle.frame_blank.proofs.ByteLaws.{zero_unmarked, bit_most}
use Rattle.rules.proofs.Tests.{by-test}
use Rattle.frame_map.specs.Greatest.{greatest}
use Rattle.frame_map.proofs.GreatestLaws.{left_more}

-- ── How many ──

-- A sample more: one run more where one starts.
pub runs_step : (row : ℕ) (joined : Bool) (c b : ℕ) (m : List ℕ)
    → length (runs_from row joined c (b ∷ m)) ≡ bit (marked b && not joined) + length (runs_from row (marked b) (suc c) m)
unfolding runs_from bit
runs_step row joined c b m = by-test (marked b && not joined) (λ e. rw e (omega arith)) (λ e. rw e (omega arith))

-- They are as many in whichever row.
pub runs_same : (row row' : ℕ) (joined : Bool) (c : ℕ) (m : List ℕ) → length (runs_from row joined c m) ≡ length (runs_from row' joined c m)
unfolding runs_from
runs_same row row' joined c [] = refl
runs_same row row' joined c (b ∷ m) =
    runs_step row joined c b m ∙ ap (λ n. bit (marked b && not joined) + n) (runs_same row row' (marked b) (suc c) m) ∙ sym (runs_step row' joined c b m)

pub runs_most : (row : ℕ) (joined : Bool) (c : ℕ) (m : List ℕ) → length (runs_from row joined c m) ≤ length m
unfolding runs_from
runs_most row joined c [] = omega arith
runs_most row joined c (b ∷ m) = omega (arith, runs_step row joined c b m, runs_most row (marked b) (suc c) m, bit_most (marked b && not joined))

pub rows_most : (w n row : ℕ) (m : List ℕ) → length (rows_runs w n row m) ≤ length m
unfolding rows_runs
rows_most w zero row m = omega arith
rows_most w (suc n) row m =
    let few : length (row_runs row (take w m)) ≤ length (take w m) = runs_most row _ 0 (take w m) in
    omega (arith, few, length-append (row_runs row (take w m)) (rows_runs w n (suc row) (drop w m)), rows_most w n (suc row) (drop w m), length-take w m, length-drop w m)

-- A row with nothing marked has none.
pub runs_none : (row : ℕ) (joined : Bool) (c : ℕ) (m : List ℕ) → greatest m ≡ 0 → runs_from row joined c m ≡ []
unfolding runs_from greatest
runs_none row joined c [] e = refl
runs_none row joined c (b ∷ m) e = rw (zero_unmarked b (omega arith)) (runs_none row false (suc c) m (omega arith))

-- ── The next run ──

pub stretch_more : (m : List ℕ) (i : ℕ) → i < length m → marked (get_or m i 0) ≡ true → stretch (drop i m) ≡ 1 + stretch (drop (i + 1) m)
unfolding stretch
stretch_more m i h e = rw (left_more m i h, e) (omega arith)

pub stretch_stops : (m : List ℕ) (i : ℕ) → i < length m → marked (get_or m i 0) ≡ false → stretch (drop i m) ≡ 0
unfolding stretch
stretch_stops m i h e = rw (left_more m i h, e)

pub stretch_gone : (m : List ℕ) (i : ℕ) → length m ≤ i → stretch (drop i m) ≡ 0
unfolding stretch
stretch_gone m i h = rw (drop_of_length-le m {i = i} h)

pub stretch_most : (m : List ℕ) → stretch m ≤ length m
unfolding stretch
stretch_most [] = omega arith
stretch_most (b ∷ m) = by-test (marked b) (λ e. rw e (omega (arith, stretch_most m))) (λ e. rw e (omega arith))

-- A list begins with marked bytes as far as its stretch goes.
pub stretch_marked : (m : List ℕ) (i : ℕ) → i < stretch m → marked (get_or m i 0) ≡ true
unfolding stretch
stretch_marked [] i h = absurd (omega arith)
stretch_marked (b ∷ m) zero h = by-test (marked b) (λ e. e) (λ e. let k = rw e at h in absurd (omega arith))
stretch_marked (b ∷ m) (suc i) h =
    by-test (marked b) (λ e. let k = rw e at h in stretch_marked m i (omega arith)) (λ e. let k = rw e at h in absurd (omega arith))

-- ── The next marked sample ──

pub gap_more : (m : List ℕ) (i : ℕ) → i < length m → marked (get_or m i 0) ≡ false → gap (drop i m) ≡ 1 + gap (drop (i + 1) m)
unfolding gap
gap_more m i h e = rw (left_more m i h, e) (omega arith)

pub gap_stops : (m : List ℕ) (i : ℕ) → i < length m → marked (get_or m i 0) ≡ true → gap (drop i m) ≡ 0
unfolding gap
gap_stops m i h e = rw (left_more m i h, e)

pub gap_gone : (m : List ℕ) (i : ℕ) → length m ≤ i → gap (drop i m) ≡ 0
unfolding gap
gap_gone m i h = rw (drop_of_length-le m {i = i} h)

pub gap_most : (m : List ℕ) → gap m ≤ length m
unfolding gap
gap_most [] = omega arith
gap_most (b ∷ m) = by-test (marked b) (λ e. rw e (omega arith)) (λ e. rw e (omega (arith, gap_most m)))

-- A list begins with unmarked bytes as far as its gap goes.
gap_unmarked : (m : List ℕ) (i : ℕ) → i < gap m → marked (get_or m i 0) ≡ false
unfolding gap
gap_unmarked [] i h = absurd (omega arith)
gap_unmarked (b ∷ m) zero h = by-test (marked b) (λ e. let k = rw e at h in absurd (omega arith)) (λ e. e)
gap_unmarked (b ∷ m) (suc i) h =
    by-test (marked b) (λ e. let k = rw e at h in absurd (omega arith)) (λ e. let k = rw e at h in gap_unmarked m i (omega arith))

gap_end : (m : List ℕ) → gap m < length m → marked (get_or m (gap m) 0) ≡ true
unfolding gap
gap_end [] h = absurd (omega arith)
gap_end (b ∷ m) h = by-test (marked b) (λ e. rw (e, e)) (λ e. let k = rw e at h in rw e (gap_end m (omega arith)))

-- Where it ends before the list does a marked byte is.
pub gap_ends : (m : List ℕ) (i next : ℕ) → next ≡ i + gap (drop i m) → next < length m → marked (get_or m next 0) ≡ true
gap_ends m i next is h =
    ap (λ j. marked (get_or m j 0)) is ∙ ap marked (sym (get_or-drop i m (gap (drop i m)) 0)) ∙ gap_end (drop i m) (omega (arith, is, length-drop i m))

-- What passes an unmarked sample passes as many as follow each other.
pub gap_passed : (m : List ℕ) (P : ℕ → Type 0) → ((i : ℕ) → i < length m → marked (get_or m i 0) ≡ false → P i → P (i + 1)) → (i : ℕ) → P i → P (i + gap (drop i m))
gap_passed m P passed i p = go (gap (drop i m)) (omega arith)
  where
    go : (k : ℕ) → k ≤ gap (drop i m) → P (i + k)
    go zero h = rw (add-zero i) p
    go (suc k) h =
        let on : i + suc k ≡ i + k + 1 = omega arith in
        let none : marked (get_or m (i + k) 0) ≡ false = ap marked (sym (get_or-drop i m k 0)) ∙ gap_unmarked (drop i m) k (omega arith) in
        rw on (passed (i + k) (omega (arith, h, gap_most (drop i m), length-drop i m)) none (go k (omega (arith, h))))

-- Inside a run none starts before its end.
runs_joined : (row c : ℕ) (m : List ℕ) → runs_from row true c m ≡ runs_from row false (c + stretch m) (drop (stretch m) m)
unfolding runs_from stretch
runs_joined row c [] = refl
runs_joined row c (b ∷ m) =
    by-test (marked b)
    (λ e. rw e (let q : c + suc (stretch m) ≡ suc c + stretch m = omega arith in rw q (runs_joined row (suc c) m)))
    (λ e. rw e (rw (add-zero c, e)))

module _ (row : ℕ) (m : List ℕ) (i : ℕ) where
  -- The runs that are left at a column.
  abbrev pub left_at : List Run
  left_at = runs_from row false i (drop i m)

  pub left_passed : i < length m → marked (get_or m i 0) ≡ false → left_at ≡ runs_from row false (i + 1) (drop (i + 1) m)
  unfolding runs_from
  left_passed h e = rw (left_more m i h, e, add-one i)

  pub left_run : i < length m → marked (get_or m i 0) ≡ true → (k : ℕ) → k ≡ stretch (drop i m) → left_at ≡ run row i k ∷ runs_from row false (i + k) (drop (i + k) m)
  unfolding runs_from
  left_run h e k is =
      let s : k ≡ suc (stretch (drop (i + 1) m)) = is ∙ stretch_more m i h e ∙ omega arith in
      let n : suc i + stretch (drop (i + 1) m) ≡ i + k = omega (arith, s) in
      let n' : i + 1 + stretch (drop (i + 1) m) ≡ i + k = omega (arith, s) in
      let d : drop (stretch (drop (i + 1) m)) (drop (i + 1) m) ≡ drop (i + k) m = drop-drop (stretch (drop (i + 1) m)) (i + 1) m ∙ ap (λ j. drop j m) n' in
      let rest : runs_from row true (suc i) (drop (i + 1) m) ≡ runs_from row false (i + k) (drop (i + k) m) =
      runs_joined row (suc i) (drop (i + 1) m) ∙ ap₂ (λ c l. runs_from row false c l) n d in
      ap (runs_from row false i) (left_more m i h) ∙ by-test (marked (get_or m i 0)) (λ f. rw f) (λ f. rw f cc) ∙ ap₂ (λ l r. run row i l ∷ r) (sym (is ∙ ap stretch (left_more m i h))) rest

-- ── As numbers ──

pub numbers_length : (rs : List Run) → length (numbers rs) ≡ 3 * length rs
unfolding numbers
numbers_length [] = refl
numbers_length (r ∷ rs) = omega (arith, numbers_length rs)

pub numbers_append : (rs ss : List Run) → numbers (rs ++ ss) ≡ numbers rs ++ numbers ss
unfolding numbers
numbers_append [] ss = refl
numbers_append (r ∷ rs) ss = ap (λ l. r.row ∷ r.first ∷ r.length ∷ l) (numbers_append rs ss)

pub sets_append : (xs ys l : List ℕ) (i : ℕ) → sets l i (xs ++ ys) ≡ sets (sets l i xs) (i + length xs) ys
sets_append [] ys l i = rw (add-zero i)
sets_append (x ∷ xs) ys l i = sets_append xs ys _ (suc i) ∙ ap (λ k. sets (sets l i (x ∷ xs)) k ys) (omega arith)
