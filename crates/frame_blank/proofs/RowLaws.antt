-- What the loops over a row keep: what is done, with what is left from here, is the whole row's.
use Rattle.std.specs.Prelude.{Option, Some, None}
use mathlib.Core.Path.{◌≡◌, refl, sym, ap, ap₂, ◌∙◌}
use mathlib.Core.Bool.{true, false, ◌&&◌, not, cond}
use mathlib.Core.List.{List, [], ◌∷◌, ◌++◌, append-nil}
use Prim.Native.Nat.{ℕ, zero, suc, ◌+◌, ◌-◌, ◌*◌, ◌≤◌, ◌<◌}
use native.Mathlib.Omega.{arith}
use native.Mathlib.Numerals.{add-one}
use native.Mathlib.Nat.{add-zero, zero-add}
use lib.Dec.{ltb}
use lib.ListN.{length, get_or, take, drop, set, length-set, length-drop, drop_of_length-le, get_or-append}
use lib.Seq.{sets, length-sets, drop-cons, take-suc, set_at, get_or-take, get_or-drop, take_all, length-take-le, append_snoc, ext_get_or}
use borrow.Author.Tests.{le-ltb}
use Rattle.rules.specs.Frame.{tabulate}
use Rattle.frame_map.specs.Greatest.{greatest}
use Rattle.frame_map.proofs.GreatestLaws.{left_more}
use Rattle.frame_blank.specs.declared.Tally.{Tally}
use Rattle.frame_blank.specs.Blanking.{Fill, marked, bit, count, unstated, blank_row, run, stretch, runs_from, row_runs, numbers}
use Rattle.frame_blank.specs.MapLent.{tally, gap, meant, left_of, turns, by_turns, RowBlanked}
use Rattle.frame_blank.specs.declared.Turns.{Turns}
use Rattle.frame_blank.proofs.ByteLaws.{bit_most, bit_set, start_is, none_marked, count_none}
use Rattle.frame_blank.proofs.RunLaws.{runs_step, runs_none, left_at, left_passed, left_run, stretch_most, stretch_marked, gap_passed, gap_ends}

-- ── Counting ──

pub record Tallied (m : List ℕ) (marks runs before i : ℕ) : Type 0 where
  pub below : i ≤ length m
  pub few_marks : marks ≤ i
  pub few_runs : runs ≤ i
  pub marks_are : count m ≡ marks + count (drop i m)
  pub runs_are : length (row_runs 0 m) ≡ runs + length (runs_from 0 (ltb 0 before) i (drop i m))

pub tallied_none : (m : List ℕ) → Tallied m 0 0 0 0
tallied_none m = record { below = omega arith; few_marks = omega arith; few_runs = omega arith; marks_are = omega arith; runs_are = omega arith }

pub tallied_more : {m : List ℕ} {marks runs before i : ℕ} (now start : ℕ) → i < length m → now ≡ bit (marked (get_or m i 0)) → start ≡ bit (ltb before now)
    → Tallied m marks runs before i → Tallied m (marks + now) (runs + start) now (i + 1)
unfolding count
tallied_more {m} {marks} {runs} {before} {i} now start h e s t =
    let b = get_or m i 0 in
    let begins : start ≡ bit (marked b && not (ltb 0 before)) = s ∙ ap (λ n. bit (ltb before n)) e ∙ start_is before (marked b) in
    let counted : count (drop i m) ≡ now + count (drop (i + 1) m) = ap count (left_more m i h) ∙ ap (λ n. n + count (drop (i + 1) m)) (sym e) in
    let again : ltb 0 now ≡ marked b = ap (ltb 0) e ∙ bit_set (marked b) in
    let listed : length (runs_from 0 (ltb 0 before) i (drop i m)) ≡ start + length (runs_from 0 (ltb 0 now) (i + 1) (drop (i + 1) m)) =
    ap (λ l. length (runs_from 0 (ltb 0 before) i l)) (left_more m i h) ∙ runs_step 0 (ltb 0 before) i b (drop (i + 1) m)
    ∙ ap₂ (λ x y. x + y) (sym begins) (rw (again, add-one i)) in
    let now-most : now ≤ 1 = rw e (bit_most (marked b)) in
    let start-most : start ≤ 1 = rw s (bit_most (ltb before now)) in
    record {
      below = omega arith;
      few_marks = omega (arith, t.few_marks);
      few_runs = omega (arith, t.few_runs);
      marks_are = omega (arith, t.marks_are, counted);
      runs_are = omega (arith, t.runs_are, listed);
    }

pub tallied_all : {m : List ℕ} {marks runs before i : ℕ} → length m ≤ i → Tallied m marks runs before i → ◌≡◌ {A = Tally} (record { marked = marks; runs = runs }) (tally m (row_runs 0 m))
unfolding count runs_from
tallied_all {m} {marks} {runs} {before} {i} h t =
    let none = drop_of_length-le m {i = i} h in
    let c : marks ≡ count m = sym (t.marks_are ∙ ap (λ l. marks + count l) none ∙ add-zero marks) in
    let r : runs ≡ length (row_runs 0 m) = sym (t.runs_are ∙ ap (λ l. runs + length (runs_from 0 (ltb 0 before) i l)) none ∙ add-zero runs) in
    ap₂ (λ x y. record { marked = x; runs = y }) c r

-- A row with nothing marked.
pub tally_none : (m : List ℕ) → greatest m ≡ 0 → ◌≡◌ {A = Tally} (record { marked = 0; runs = 0 }) (tally m (row_runs 0 m))
tally_none m e = ap₂ (λ x y. record { marked = x; runs = length y }) (sym (count_none m e)) (sym (runs_none 0 _ 0 m e))

-- ── Setting ──

pub tabulate_length : (n i : ℕ) (f : ℕ → ℕ) → length (tabulate n i f) ≡ n
unfolding tabulate
tabulate_length zero i f = refl
tabulate_length (suc n) i f = ap suc (tabulate_length n (suc i) f)

pub tabulate_get : (n i : ℕ) (f : ℕ → ℕ) (k d : ℕ) → k < n → get_or (tabulate n i f) k d ≡ f (i + k)
unfolding tabulate
tabulate_get zero i f k d h = absurd (omega arith)
tabulate_get (suc n) i f zero d h = rw (add-zero i)
tabulate_get (suc n) i f (suc k) d h = let e : suc i + k ≡ i + suc k = omega arith in tabulate_get n (suc i) f k d (omega arith) ∙ ap f e

module _ (fill : Fill) (row map : List ℕ) where
  pub blank_row_length : length (blank_row fill row map) ≡ length row
  unfolding blank_row
  blank_row_length = tabulate_length (length row) 0 _

  -- A blanked sample is its fill if it is marked.
  pub blank_row_get : (c : ℕ) → c < length row → get_or (blank_row fill row map) c 0 ≡ cond (marked (get_or map c 0)) (fill row map c) (get_or row c 0)
  unfolding blank_row
  blank_row_get c h = tabulate_get (length row) 0 _ c 0 h ∙ rw (zero-add c)

  -- Where nothing is marked all stays.
  blank_row_none : greatest map ≡ 0 → blank_row fill row map ≡ row
  blank_row_none e =
      ext_get_or 0 (blank_row fill row map) row blank_row_length (λ c h. blank_row_get c (rw blank_row_length at h) ∙ rw (none_marked map e c))

-- The first i samples are those of the row that is wanted, the others as they were.
pub record Filled (want row₀ row : List ℕ) (i : ℕ) : Type 0 where
  pub below : i ≤ length row₀
  pub kept : length row ≡ length row₀
  pub is : row ≡ take i want ++ drop i row₀

pub filled_none : (want row : List ℕ) → Filled want row row 0
filled_none want row = record { below = omega arith; kept = refl; is = refl }

module _ {want row₀ row : List ℕ} {i : ℕ} (l : length want ≡ length row₀) (f : Filled want row₀ row i) where
  front : length (take i want) ≡ i
  front = length-take-le i want (omega (arith, f.below))

  next_is : i < length row₀ → take i want ++ (get_or want i 0 ∷ drop (suc i) row₀) ≡ take (i + 1) want ++ drop (i + 1) row₀
  next_is h =
      sym (append_snoc (take i want) (get_or want i 0) (drop (suc i) row₀))
      ∙ rw (add-one i) (sym (ap (λ x. x ++ drop (suc i) row₀) (take-suc want i 0 (omega (arith, l)))))

  -- What is behind is set.
  pub filled_get : (j : ℕ) → j < i → get_or row j 0 ≡ get_or want j 0
  filled_get j h =
      ap (λ x. get_or x j 0) f.is ∙ get_or-append (take i want) (drop i row₀) 0 j (omega (arith, front)) ∙ get_or-take i want j 0 h

  -- A sample is set, or passed over where it stays.
  pub filled_more : (v : ℕ) → i < length row₀ → v ≡ get_or want i 0 → Filled want row₀ (set row i v) (i + 1)
  filled_more v h e =
      record {
        below = omega arith;
        kept = length-set row i v ∙ f.kept;
        is =
            rw (f.is, drop-cons row₀ i 0 h) (set_at (take i want) (get_or row₀ i 0) (drop (suc i) row₀) v i front)
            ∙ ap (λ x. take i want ++ (x ∷ drop (suc i) row₀)) e ∙ next_is h;
      }

  pub filled_passed : i < length row₀ → get_or want i 0 ≡ get_or row₀ i 0 → Filled want row₀ row (i + 1)
  filled_passed h e =
      record {
        below = omega arith;
        kept = f.kept;
        is = f.is ∙ ap (λ x. take i want ++ x) (drop-cons row₀ i 0 h) ∙ ap (λ x. take i want ++ (x ∷ drop (suc i) row₀)) (sym e) ∙ next_is h;
      }

  pub filled_all : length row₀ ≤ i → row ≡ want
  filled_all h = f.is ∙ ap₂ (λ x y. x ++ y) (take_all i want (omega (arith, l))) (drop_of_length-le row₀ {i = i} h) ∙ rw append-nil

-- ── A run ──

-- What is set, with what is left of a run from here.
pub record Turned (row₀ : List ℕ) (from columns a b end : ℕ) (row : List ℕ) (at : ℕ) : Type 0 where
  pub ends : end ≡ from + columns
  pub below : at ≤ end
  pub kept : length row ≡ length row₀
  pub left : sets row at (by_turns (end - at) a b) ≡ sets row₀ from (by_turns columns a b)

pub turned_none : (row : List ℕ) (from columns a b at : ℕ) → at ≡ from → Turned row from columns a b (from + columns) row at
turned_none row from columns a b at same =
    let e : from + columns - from ≡ columns = omega arith in
    record { ends = refl; below = omega arith; kept = refl; left = rw (same, e) }

module _ {row₀ : List ℕ} {from columns a b end : ℕ} {row : List ℕ} {at : ℕ} (t : Turned row₀ from columns a b end row at) where
  pub turned_two : (next : ℕ) → next ≡ at + 2 → 1 < end - at → Turned row₀ from columns a b end (set (set row at a) (at + 1) b) next
  unfolding by_turns
  turned_two next e h =
      let one : at + 1 ≡ suc at = omega arith in
      let two : next ≡ suc (suc at) = omega arith in
      let more : end - at ≡ suc (suc (end - suc (suc at))) = omega arith in
      record {
        ends = t.ends;
        below = omega arith;
        kept = length-set (set row at a) (at + 1) b ∙ length-set row at a ∙ t.kept;
        left = rw (one, two) (rw more at t.left);
      }

  pub turned_last : (last : ℕ) → last ≡ at → end ≡ at + 1 → set row last a ≡ sets row₀ from (by_turns columns a b)
  unfolding by_turns
  turned_last last same h = let one : end - at ≡ 1 = omega arith in rw same (rw one at t.left)

  pub turned_all : end ≤ at → row ≡ sets row₀ from (by_turns columns a b)
  unfolding by_turns
  turned_all h = let none : end - at ≡ 0 = omega arith in rw none at t.left

-- A fill has two values in a run, by turns.
by_turns_fill : (fill : Option ℕ) (row map : List ℕ) (c : ℕ) → marked (get_or map c 0) ≡ true → meant fill row map (suc (suc c)) ≡ meant fill row map c
unfolding meant unstated
by_turns_fill (Some v) row map c e = refl
by_turns_fill None row map c e = rw e

-- What a blanked sample is, the next of its parity is set to, if it is marked.
unstated_next : (row map : List ℕ) (c : ℕ) → c < length row → get_or (blank_row unstated row map) c 0 ≡ unstated row map (suc (suc c))
unfolding unstated
unstated_next row map c h = blank_row_get unstated row map c h

left_is : (row : List ℕ) (i c by : ℕ) → i ≡ c + by → left_of row i by ≡ get_or row c 0
unfolding left_of
left_is row i c by e = let back : i - by ≡ c = omega arith in rw (le-ltb i by (omega arith), back)

module _ (fill : Option ℕ) (row₀ map : List ℕ) where
  abbrev want : List ℕ
  want = blank_row (meant fill) row₀ map

  long : length want ≡ length row₀
  long = blank_row_length (meant fill) row₀ map

  -- These two values are read off, where all before the run is set.
  pub turns_are : {row : List ℕ} {i : ℕ} → Filled want row₀ row i → ((turns fill row i).first ≡ meant fill row₀ map i) × ((turns fill row i).second ≡ meant fill row₀ map (suc i))
  unfolding turns meant unstated left_of
  turns_are {row} {i} f = go fill i f
    where
      before : (c i : ℕ) → Filled (blank_row unstated row₀ map) row₀ row i → c < i → get_or row c 0 ≡ unstated row₀ map (suc (suc c))
      before c i f h = filled_get (blank_row_length unstated row₀ map) f c h ∙ unstated_next row₀ map c (omega (arith, f.below))

      go : (fill : Option ℕ) (i : ℕ) → Filled (blank_row (meant fill) row₀ map) row₀ row i
          → ((turns fill row i).first ≡ meant fill row₀ map i) × ((turns fill row i).second ≡ meant fill row₀ map (suc i))
      go (Some v) i f = (refl, refl)
      go None zero f = (refl, refl)
      go None (suc zero) f = (refl, before 0 1 f (omega arith))
      go None (suc (suc c)) f = (left_is row (suc (suc c)) c 2 (omega arith) ∙ before c (suc (suc c)) f (omega arith), left_is row (suc (suc c)) (suc c) 1 (omega arith) ∙ before (suc c) (suc (suc c)) f (omega arith))

  filled_turns : (k a b : ℕ) (row : List ℕ) (i : ℕ) → Filled want row₀ row i → i + k ≤ length row₀ → ((j : ℕ) → j < k → marked (get_or map (i + j) 0) ≡ true)
      → a ≡ meant fill row₀ map i → b ≡ meant fill row₀ map (suc i) → Filled want row₀ (sets row i (by_turns k a b)) (i + k)
  unfolding by_turns
  filled_turns zero a b row i f h marks p q = rw (add-zero i) f
  filled_turns (suc k) a b row i f h marks p q =
      let m : marked (get_or map i 0) ≡ true = ap (λ c. marked (get_or map c 0)) (sym (add-zero i)) ∙ marks 0 (omega arith) in
      let is : a ≡ get_or want i 0 = p ∙ sym (blank_row_get (meant fill) row₀ map i (omega arith) ∙ rw m) in
      let one : Filled want row₀ (set row i a) (suc i) = rw (add-one i) at (filled_more long f a (omega arith) is) in
      let on : (j : ℕ) → suc i + j ≡ i + suc j = λ j. omega arith in
      rw (← on k)
      (filled_turns k b a (set row i a) (suc i) one (omega arith) (λ j d. ap (λ c. marked (get_or map c 0)) (on j) ∙ marks (suc j) (omega arith)) q
      (p ∙ sym (by_turns_fill fill row₀ map i m)))

  -- A run is set.
  pub filled_run : {row : List ℕ} {i : ℕ} (k : ℕ) (t : Turns) (new : List ℕ) → Filled want row₀ row i → length row₀ ≡ length map → i + k ≤ length map
      → k ≡ stretch (drop i map) → t ≡ turns fill row i → new ≡ sets row i (by_turns k t.first t.second) → Filled want row₀ new (i + k)
  filled_run {row} {i} k t new f l h is told q =
      let two = turns_are f in
      rw q
      (filled_turns k t.first t.second row i f (omega arith) (λ j d. ap marked (sym (get_or-drop i map j 0)) ∙ stretch_marked (drop i map) j (omega (arith, is)))
      (ap (λ x. x.first) told ∙ two.0) (ap (λ x. x.second) told ∙ two.1))

  -- An unmarked sample is passed over.
  pub filled_unmarked : {row : List ℕ} {i : ℕ} → Filled want row₀ row i → i < length row₀ → marked (get_or map i 0) ≡ false → Filled want row₀ row (i + 1)
  filled_unmarked {row} {i} f h e = filled_passed long f h (blank_row_get (meant fill) row₀ map i h ∙ rw e)

-- ── Listing ──

-- What is listed from a place on, with the runs that are left at a column.
pub record Listed (row : ℕ) (m : List ℕ) (from : ℕ) (runs₀ runs : List ℕ) (at col : ℕ) : Type 0 where
  pub below : col ≤ length m
  pub kept : length runs ≡ length runs₀
  pub place : at + 3 * length (left_at row m col) ≡ from + 3 * length (row_runs row m)
  pub lists : sets runs at (numbers (left_at row m col)) ≡ sets runs₀ from (numbers (row_runs row m))

pub listed_none : (row : ℕ) (m : List ℕ) (from : ℕ) (runs : List ℕ) → Listed row m from runs runs from 0
listed_none row m from runs = record { below = omega arith; kept = refl; place = refl; lists = refl }

module _ {row : ℕ} {m : List ℕ} {from : ℕ} {runs₀ runs : List ℕ} {at col : ℕ} (g : Listed row m from runs₀ runs at col) where
  pub listed_passed : col < length m → marked (get_or m col 0) ≡ false → Listed row m from runs₀ runs at (col + 1)
  listed_passed h e =
      let p = left_passed row m col h e in
      record { below = omega arith; kept = g.kept; place = rw p at g.place; lists = rw p at g.lists }

  module _ (h : col < length m) (e : marked (get_or m col 0) ≡ true) (k : ℕ) (is : k ≡ stretch (drop col m)) where
    next : left_at row m col ≡ run row col k ∷ runs_from row false (col + k) (drop (col + k) m)
    next = left_run row m col h e k is

    pub run_within : col + k ≤ length m
    run_within = omega (arith, stretch_most (drop col m), length-drop col m, is)

    pub run_room : from + 3 * length (row_runs row m) ≤ length runs₀ → at + 3 ≤ length runs
    run_room r = omega (arith, g.place, g.kept, ap length next)

    pub listed_run : (runs' : List ℕ) → runs' ≡ sets runs at (row ∷ col ∷ k ∷ []) → Listed row m from runs₀ runs' (at + 3) (col + k)
    unfolding numbers
    listed_run runs' q =
        let three : at + 3 ≡ suc (suc (suc at)) = omega arith in
        record {
          below = run_within;
          kept = ap length q ∙ length-sets runs at (row ∷ col ∷ k ∷ []) ∙ g.kept;
          place = omega (arith, g.place, ap length next);
          lists = rw (q, three) (rw next at g.lists);
        }

-- ── A row's call ──

module _ (fill : Option ℕ) {row : ℕ} {m : List ℕ} {from : ℕ} {samples₀ runs₀ : List ℕ} where
  -- Unmarked samples are passed over, as many as follow each other; what comes then is marked.
  pub unmarked_passed : {samples runs : List ℕ} {at col : ℕ} → length samples₀ ≡ length m → Listed row m from runs₀ runs at col
      → Filled (blank_row (meant fill) samples₀ m) samples₀ samples col → (next : ℕ) → next ≡ col + gap (drop col m)
      → Listed row m from runs₀ runs at next × (Filled (blank_row (meant fill) samples₀ m) samples₀ samples next × (next < length m → marked (get_or m next 0) ≡ true))
  unmarked_passed {samples} {runs} {at} {col} same g f next is =
      let listed : Listed row m from runs₀ runs at next = rw is (gap_passed m (λ i. Listed row m from runs₀ runs at i) (λ i h e p. listed_passed p h e) col g) in
      let filled : Filled (blank_row (meant fill) samples₀ m) samples₀ samples next =
      rw is (gap_passed m (λ i. Filled (blank_row (meant fill) samples₀ m) samples₀ samples i) (λ i h e p. filled_unmarked fill samples₀ m p (omega arith) e) col f) in
      (listed, (filled, gap_ends m col next is))

  -- Where nothing is left at a column all is set and listed.
  pub row_blanked : {samples runs : List ℕ} {at col : ℕ} → Listed row m from runs₀ runs at col → Filled (blank_row (meant fill) samples₀ m) samples₀ samples col
      → length samples₀ ≡ length m → length m ≤ col → RowBlanked (meant fill) row samples₀ m from runs₀ at samples runs
  unfolding runs_from numbers
  row_blanked {samples} {runs} {at} {col} g f e h =
      let none = drop_of_length-le m {i = col} h in
      record {
        place = omega (arith, rw none at g.place);
        samples_left = filled_all (blank_row_length (meant fill) samples₀ m) f (omega arith);
        runs_left = rw none at g.lists;
      }

  -- A row with nothing marked stays.
  pub row_unmarked : greatest m ≡ 0 → RowBlanked (meant fill) row samples₀ m from runs₀ from samples₀ runs₀
  unfolding numbers
  row_unmarked e =
      let none : row_runs row m ≡ [] = runs_none row _ 0 m e in
      record { place = omega (arith, ap length none); samples_left = sym (blank_row_none (meant fill) samples₀ m e); runs_left = rw none }
