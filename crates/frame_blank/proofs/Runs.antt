-- The runs are the marked samples: each marked sample lies in a run and nothing else does, every run lies in its row, no two touch
-- each other, they come in reading order, and their lengths add up to the count. So each run is as long as can be.
use mathlib.Core.Path.{◌≡◌, refl, sym, ap, ap₂, ◌∙◌}
use mathlib.Core.Bool.{Bool, true, false, ◌||◌, ◌&&◌, not, cond}
use mathlib.Core.Logic.{◌⊎◌, inl, inr}
use mathlib.Core.List.{List, [], ◌∷◌, ◌++◌}
use Prim.Native.Nat.{ℕ, zero, suc, ◌+◌, ◌*◌, ◌≤◌, ◌<◌}
use native.Mathlib.Omega.{arith}
use native.Mathlib.Nat.{add-zero, zero-add, zero-mul, mul_comm}
use lib.Dec.{ltb, eqb}
use lib.ListN.{length, get_or, take, drop, length-take}
use lib.Seq.{get_or-take, get_or-drop, take-add, take_all}
use borrow.Author.Tests.{lt-ltb, le-ltb, ltb-true, ltb-false, ne_eqb, eq-eqb}
use Rattle.rules.specs.declared.answer.Size.{Size}
use Rattle.rules.specs.Frame.{cells}
use Rattle.rules.proofs.Cells.{All, all_append, all_map}
use Rattle.rules.proofs.Cells.All.{nil, more}
use Rattle.rules.proofs.Tests.{by-test}
use Rattle.frame_blank.specs.Blanking.{marked, bit, count, Run, run, stretch, runs_from, row_runs, rows_runs, runs_of}
use Rattle.frame_blank.proofs.ByteLaws.{zero_unmarked, count_append}
use Rattle.frame_blank.proofs.RunLaws.{stretch_most, stretch_marked}

-- ── The statements ──

-- A sample, by its row and column, lies in a run.
unfoldable pub in_run : Run → ℕ → ℕ → Bool
in_run r row c = eqb r.row row && (not (ltb c r.first) && ltb c (r.first + r.length))

unfoldable pub covered : List Run → ℕ → ℕ → Bool
covered [] row c = false
covered (r ∷ rs) row c = in_run r row c || covered rs row c

-- A run comes before another and doesn't touch it.
abbrev pub Before : Run → Run → Type 0
Before r s = (r.row < s.row) ⊎ ((r.row ≡ s.row) × (r.first + r.length < s.first))

pub data Apart : List Run → Type 0 where
  none : Apart []
  first : {r : Run} {rs : List Run} → All (Before r) rs → Apart rs → Apart (r ∷ rs)

-- A run has samples, and lies in its row and its frame.
pub record Inside (z : Size) (r : Run) : Type 0 where
  pub some : 0 < r.length
  pub wide : r.first + r.length ≤ z.width
  pub high : r.row < z.height

unfoldable pub total : List Run → ℕ
total [] = 0
total (r ∷ rs) = r.length + total rs

-- ── Tests ──

and_true : (t : Bool) → (t && true) ≡ t
and_true true = refl
and_true false = refl

or_false : (t : Bool) → (t || false) ≡ t
or_false true = refl
or_false false = refl

or_assoc : (t u v : Bool) → ((t || u) || v) ≡ (t || (u || v))
or_assoc true u v = refl
or_assoc false u v = refl

-- ── A row ──

-- A property of the runs from a column on: one step.
module _ (row : ℕ) (P : Run → Type 0) where
  each_step : (joined : Bool) (c b : ℕ) (m : List ℕ) → (joined ≡ false → marked b ≡ true → P (run row c (suc (stretch m)))) → All P (runs_from row (marked b) (suc c) m)
      → All P (runs_from row joined c (b ∷ m))
  unfolding runs_from stretch
  each_step joined c b m p ps =
      by-test joined
      (λ e. rw e (by-test (marked b) (λ f. rw f (rw f at ps)) (λ f. rw f (rw f at ps))))
      (λ e. rw e (by-test (marked b) (λ f. rw f (more ((rw (e, f) at p) refl refl) (rw f at ps))) (λ f. rw f (rw f at ps))))

-- Where the next run may start: after a sample that isn't marked.
abbrev from_on : Bool → ℕ → List ℕ → ℕ
from_on joined c m = c + cond joined (suc (stretch m)) 0

starts_on : (row : ℕ) (joined : Bool) (c : ℕ) (m : List ℕ)
    → All (λ r. (r.row ≡ row) × (from_on joined c m ≤ r.first)) (runs_from row joined c m)
unfolding runs_from stretch
starts_on row joined c [] = nil
starts_on row joined c (b ∷ m) =
    by-test joined
    (λ f. rw f (by-test (marked b)
    (λ e. rw e (all_map _ _ (λ r p. (p.0, omega (arith, p.1))) (rw e at (starts_on row (marked b) (suc c) m))))
    (λ e. rw e (all_map _ _ (λ r p. (p.0, omega (arith, p.1))) (rw e at (starts_on row (marked b) (suc c) m))))))
    (λ f. rw f (by-test (marked b)
    (λ e. rw e (more {a = run row c (suc (stretch m))} (refl, omega arith) (all_map _ _ (λ r p. (p.0, omega (arith, p.1))) (rw e at (starts_on row (marked b) (suc c) m)))))
    (λ e. rw e (all_map _ _ (λ r p. (p.0, omega (arith, p.1))) (rw e at (starts_on row (marked b) (suc c) m))))))

row_apart : (row : ℕ) (joined : Bool) (c : ℕ) (m : List ℕ) → Apart (runs_from row joined c m)
unfolding runs_from stretch
row_apart row joined c [] = none
row_apart row joined c (b ∷ m) =
    by-test joined
    (λ f. rw f (by-test (marked b)
    (λ e. rw e (rw e at (row_apart row (marked b) (suc c) m)))
    (λ e. rw e (rw e at (row_apart row (marked b) (suc c) m)))))
    (λ f. rw f (by-test (marked b)
    (λ e. rw e (first (all_map _ (Before (run row c (suc (stretch m)))) (λ r q. let k : c + suc (stretch m) < r.first = omega (arith, q.1) in inr (sym q.0, k)) (rw e at (starts_on row (marked b) (suc c) m))) (rw e at (row_apart row (marked b) (suc c) m))))
    (λ e. rw e (rw e at (row_apart row (marked b) (suc c) m)))))

row_inside : (row : ℕ) (joined : Bool) (c : ℕ) (m : List ℕ)
    → All (λ r. (r.row ≡ row) × ((0 < r.length) × (r.first + r.length ≤ c + length m))) (runs_from row joined c m)
unfolding runs_from stretch
row_inside row joined c [] = nil
row_inside row joined c (b ∷ m) =
    each_step row _ joined c b m (λ e t. (refl, (omega arith, omega (arith, stretch_most m))))
    (all_map _ _ (λ r p. (p.0, (p.1.0, omega (arith, p.1.1)))) (row_inside row (marked b) (suc c) m))

row_total : (row : ℕ) (joined : Bool) (c : ℕ) (m : List ℕ) → total (runs_from row joined c m) + cond joined (stretch m) 0 ≡ count m
unfolding runs_from stretch total count bit
row_total row true c [] = refl
row_total row false c [] = refl
row_total row joined c (b ∷ m) =
    by-test joined
    (λ f. rw f (by-test (marked b)
    (λ g. rw g (omega (arith, (rw g at (row_total row (marked b) (suc c) m)))))
    (λ g. rw g (omega (arith, (rw g at (row_total row (marked b) (suc c) m)))))))
    (λ f. rw f (by-test (marked b)
    (λ g. rw g (omega (arith, (rw g at (row_total row (marked b) (suc c) m)))))
    (λ g. rw g (omega (arith, (rw g at (row_total row (marked b) (suc c) m)))))))

-- No run lies before where it starts, and none in another row.
not_covered : (rs : List Run) (row c : ℕ) → All (λ r. in_run r row c ≡ false) rs → covered rs row c ≡ false
unfolding covered
not_covered [] row c nil = refl
not_covered (r ∷ rs) row c (more p ps) = rw p (not_covered rs row c ps)

in_before : (r : Run) (row c : ℕ) → c < r.first → in_run r row c ≡ false
unfolding in_run
in_before r row c h = rw (lt-ltb c r.first h) (by-test (eqb r.row row) (λ e. rw e) (λ e. rw e))

in_other : (r : Run) (row c : ℕ) → (r.row ≡ row → ⊥) → in_run r row c ≡ false
unfolding in_run
in_other r row c n = rw (ne_eqb r.row row n)

-- The column i after the first, in a run that starts there or not.
in_first : (row c s i : ℕ) → in_run (run row c s) row (c + i) ≡ ltb i s
unfolding in_run
in_first row c s i = rw (eq-eqb row row refl, le-ltb (c + i) c (omega arith)) (shifted (ltb i s) refl)
  where
    shifted : (t : Bool) → ltb i s ≡ t → ltb (c + i) (c + s) ≡ ltb i s
    shifted true e = let k = ltb-true i s e in lt-ltb (c + i) (c + s) (omega arith) ∙ sym e
    shifted false e = let k = ltb-false i s e in le-ltb (c + i) (c + s) (omega arith) ∙ sym e

suc_ltb : (i s : ℕ) (t : Bool) → ltb i s ≡ t → ltb (suc i) (suc s) ≡ t
suc_ltb i s true e = let k = ltb-true i s e in lt-ltb (suc i) (suc s) (omega arith)
suc_ltb i s false e = let k = ltb-false i s e in le-ltb (suc i) (suc s) (omega arith)

-- The runs from a column on cover what is marked there, but for what belongs to a run that is under way.
row_covered : (row : ℕ) (joined : Bool) (c : ℕ) (m : List ℕ) (i : ℕ)
    → covered (runs_from row joined c m) row (c + i) ≡ (marked (get_or m i 0) && not (joined && ltb i (stretch m)))
unfolding runs_from stretch covered
row_covered row joined c [] i = rw (zero_unmarked 0 refl)
row_covered row joined c (b ∷ m) i = go joined (marked b) refl i (λ j. row_covered row (marked b) (suc c) m j) (starts_on row (marked b) (suc c) m)
  where
    none_yet : (t : Bool) → All (λ r. (r.row ≡ row) × (from_on t (suc c) m ≤ r.first)) (runs_from row t (suc c) m) → covered (runs_from row t (suc c) m) row (c + 0) ≡ false
    none_yet t ps = not_covered (runs_from row t (suc c) m) row (c + 0) (all_map _ _ (λ r p. in_before r row (c + 0) (omega (arith, p.1))) ps)

    both : (t u : Bool) (e : t ≡ true → u ≡ true) → (t || (u && not t)) ≡ u
    both true u e = sym (e refl)
    both false true e = refl
    both false false e = refl

    go : (joined t : Bool) → marked b ≡ t → (i : ℕ)
        → ((j : ℕ) → covered (runs_from row t (suc c) m) row (suc c + j) ≡ (marked (get_or m j 0) && not (t && ltb j (stretch m))))
        → All (λ r. (r.row ≡ row) × (from_on t (suc c) m ≤ r.first)) (runs_from row t (suc c) m)
        → covered (cond (t && not joined) (run row c (cond t (suc (stretch m)) 0) ∷ runs_from row t (suc c) m) (runs_from row t (suc c) m)) row (c + i)
        ≡ (marked (get_or (b ∷ m) i 0) && not (joined && ltb i (cond t (suc (stretch m)) 0)))
    go true true e zero again ps = rw (e, lt-ltb 0 (suc (stretch m)) (omega arith)) (none_yet true ps)
    go true false e zero again ps = rw e (none_yet false ps)
    go false false e zero again ps = rw e (none_yet false ps)
    go false true e zero again ps = rw e (ap (λ x. x || covered (runs_from row true (suc c) m) row (c + 0)) (in_first row c (suc (stretch m)) 0 ∙ lt-ltb 0 (suc (stretch m)) (omega arith)))
    go true true e (suc i) again ps =
        let at : c + suc i ≡ suc c + i = omega arith in
        ap (covered (runs_from row true (suc c) m) row) at ∙ again i ∙ ap (λ x. marked (get_or m i 0) && not x) (sym (suc_ltb i (stretch m) (ltb i (stretch m)) refl))
    go true false e (suc i) again ps =
        let at : c + suc i ≡ suc c + i = omega arith in
        ap (covered (runs_from row false (suc c) m) row) at ∙ again i ∙ ap (λ x. marked (get_or m i 0) && not x) (sym (le-ltb (suc i) 0 (omega arith)))
    go false false e (suc i) again ps =
        let at : c + suc i ≡ suc c + i = omega arith in
        ap (covered (runs_from row false (suc c) m) row) at ∙ again i
    go false true e (suc i) again ps =
        let at : c + suc i ≡ suc c + i = omega arith in
        ap₂ (λ x y. x || y) (in_first row c (suc (stretch m)) (suc i) ∙ suc_ltb i (stretch m) (ltb i (stretch m)) refl)
        (ap (covered (runs_from row true (suc c) m) row) at ∙ again i)
        ∙ both (ltb i (stretch m)) (marked (get_or m i 0)) (λ q. stretch_marked m i (ltb-true i (stretch m) q)) ∙ sym (and_true (marked (get_or m i 0)))

-- ── A frame ──

covered_append : (rs ss : List Run) (row c : ℕ) → covered (rs ++ ss) row c ≡ (covered rs row c || covered ss row c)
unfolding covered
covered_append [] ss row c = refl
covered_append (r ∷ rs) ss row c = ap (λ x. in_run r row c || x) (covered_append rs ss row c) ∙ sym (or_assoc (in_run r row c) (covered rs row c) (covered ss row c))

total_append : (rs ss : List Run) → total (rs ++ ss) ≡ total rs + total ss
unfolding total
total_append [] ss = omega arith
total_append (r ∷ rs) ss = omega (arith, total_append rs ss)

apart_append : {rs ss : List Run} → Apart rs → Apart ss → All (λ r. All (Before r) ss) rs → Apart (rs ++ ss)
apart_append none q ps = q
apart_append (first b p) q (more k ps) = first (all_append (Before _) b k) (apart_append p q ps)

rows_on : (w n row : ℕ) (m : List ℕ) → All (λ r. row ≤ r.row) (rows_runs w n row m)
unfolding rows_runs
rows_on w zero row m = nil
rows_on w (suc n) row m =
    all_append _ (all_map _ _ (λ r p. omega (arith, p.0)) (starts_on row _ 0 (take w m)))
    (all_map _ _ (λ r p. omega (arith, p)) (rows_on w n (suc row) (drop w m)))

rows_covered : (w n row : ℕ) (m : List ℕ) (k c : ℕ) → k < n → c < w → covered (rows_runs w n row m) (row + k) c ≡ marked (get_or m (k * w + c) 0)
unfolding rows_runs
rows_covered w zero row m k c h i = absurd (omega arith)
rows_covered w (suc n) row m zero c h i =
    let here : row + 0 ≡ row = omega arith in
    let at : 0 * w + c ≡ c = omega (arith, zero-mul w) in
    rw (here, at)
    (covered_append (row_runs row (take w m)) (rows_runs w n (suc row) (drop w m)) row c
    ∙ ap₂ (λ x y. x || y) (ap (covered (row_runs row (take w m)) row) (sym (zero-add c)) ∙ row_covered row false 0 (take w m) c ∙ and_true (marked (get_or (take w m) c 0)) ∙ ap marked (get_or-take w m c 0 i))
    (not_covered (rows_runs w n (suc row) (drop w m)) row c (all_map _ _ (λ r p. in_other r row c (λ e. omega (arith, p, e))) (rows_on w n (suc row) (drop w m))))
    ∙ or_false (marked (get_or m c 0)))
rows_covered w (suc n) row m (suc k) c h i =
    let there : row + suc k ≡ suc row + k = omega arith in
    let at : w + (k * w + c) ≡ suc k * w + c = omega arith in
    rw there
    (covered_append (row_runs row (take w m)) (rows_runs w n (suc row) (drop w m)) (suc row + k) c
    ∙ ap₂ (λ x y. x || y) (not_covered (row_runs row (take w m)) (suc row + k) c (all_map _ _ (λ r p. in_other r (suc row + k) c (λ e. omega (arith, p.0, e))) (starts_on row _ 0 (take w m))))
    (rows_covered w n (suc row) (drop w m) k c (omega arith) i ∙ ap marked (get_or-drop w m (k * w + c) 0 ∙ ap (λ j. get_or m j 0) at)))

rows_apart : (w n row : ℕ) (m : List ℕ) → Apart (rows_runs w n row m)
unfolding rows_runs
rows_apart w zero row m = none
rows_apart w (suc n) row m =
    apart_append (row_apart row _ 0 (take w m)) (rows_apart w n (suc row) (drop w m))
    (all_map _ _ (λ r p. all_map _ (Before r) (λ s q. let k : r.row < s.row = omega (arith, p.0, q) in inl k) (rows_on w n (suc row) (drop w m))) (starts_on row _ 0 (take w m)))

rows_inside : (z : Size) (n row : ℕ) (m : List ℕ) → row + n ≤ z.height → All (Inside z) (rows_runs z.width n row m)
unfolding rows_runs
rows_inside z zero row m h = nil
rows_inside z (suc n) row m h =
    all_append (Inside z)
    (all_map _ (Inside z) (λ r p. record { some = p.1.0; wide = omega (arith, p.1.1, length-take z.width m); high = omega (arith, p.0) }) (row_inside row _ 0 (take z.width m)))
    (rows_inside z n (suc row) (drop z.width m) (omega arith))

rows_total : (w n row : ℕ) (m : List ℕ) → total (rows_runs w n row m) ≡ count (take (n * w) m)
unfolding rows_runs total count
rows_total w zero row m = rw (zero-mul w)
rows_total w (suc n) row m =
    let e : suc n * w ≡ w + n * w = omega arith in
    total_append (row_runs row (take w m)) (rows_runs w n (suc row) (drop w m))
    ∙ ap₂ (λ x y. x + y) (sym (add-zero (total (row_runs row (take w m)))) ∙ row_total row false 0 (take w m)) (rows_total w n (suc row) (drop w m))
    ∙ sym (count_append (take w m) (take (n * w) (drop w m))) ∙ ap count (sym (take-add w (n * w) m) ∙ ap (λ k. take k m) (sym e))

-- ── The claims, of a frame's map ──

module _ (z : Size) (m : List ℕ) where
  -- The runs cover exactly the marked samples.
  pub runs_cover : (row c : ℕ) → row < z.height → c < z.width → covered (runs_of z m) row c ≡ marked (get_or m (row * z.width + c) 0)
  runs_cover row c h i = rw zero-add at (rows_covered z.width z.height 0 m row c h i)

  -- They come in reading order and don't touch each other.
  pub runs_apart : Apart (runs_of z m)
  runs_apart = rows_apart z.width z.height 0 m

  -- They lie in the frame.
  pub runs_inside : All (Inside z) (runs_of z m)
  runs_inside = rows_inside z z.height 0 m (omega arith)

  -- Their lengths add up to the count.
  pub runs_total : length m ≡ cells z → total (runs_of z m) ≡ count m
  runs_total l = rows_total z.width z.height 0 m ∙ ap count (take_all (z.height * z.width) m (omega (arith, l, mul_comm z.width z.height)))
