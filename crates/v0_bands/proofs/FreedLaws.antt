-- The steps with the exchange by blocks leave what the whole exchange leaves after all steps: no step reads or changes a cell that
-- a step before it freed, so that each frame is the plain one of the same steps with the freed cells exchanged.
use Prim.Native.Nat.{ℕ, zero, suc, ◌+◌, ◌-◌, ◌*◌, ◌/◌, ◌%◌, ◌≤◌, ◌<◌}
use mathlib.Core.Bool.{true}
use mathlib.Core.Path.{◌≡◌, refl, sym, ap, ◌∙◌}
use mathlib.Core.Logic.{◌≢◌, by_cases}
use mathlib.Core.List.{List}
use native.Mathlib.Omega.{arith}
use native.Mathlib.Nat.{mul-le-mul_right, suc-mul, zero-mul, le-div_iff_mul-le}
use native.Mathlib.Decide.{ℕ_discrete, dec_lt}
use lib.Dec.{eqb}
use lib.ListN.{length, get_or}
use borrow.Author.Tests.{lt-ltb, le-ltb, eq-eqb, ne_eqb}
use Rattle.rules.specs.V0.{blocks_in, exchange, sample_kind}
use Rattle.rules.specs.Phases.{sample_stage}
use Rattle.rules.proofs.V0Cells.{exchange_length}
use Rattle.rules_bands.specs.declared.Cut.{Cut}
use Rattle.rules_bands.specs.Bands.{late_rows, fits, band_start, blocks_per_band, step_count, step_band, step_block, after, in_turn, none_done, good, do_step, do_steps}
use Rattle.rules_bands.proofs.Finished.{still}
use Rattle.rules_bands.proofs.Counters.{zeros, Stands, stands, Counts, after_own, after_other, done_after, Turns, end, next, turns, good_full}
use Rattle.rules_bands.proofs.AnySequence.{column_of, same_cells, Fitting, fitting, start_zero, start_last, start_up, step_from, step_to, Of_step, Bands_done, Step_ready, Step_left, step_left, elsewhere, step_ready, step_done, none_done_yet, reach, good_done}
use Rattle.v0_bands.specs.Freed.{freed_rows, freed_columns, exchange_freed, steps_freed}
use Rattle.v0_bands.proofs.PartLaws.{Partner, near, at, Exchanged, part_exchanged, whole_exchanged}
use Rattle.v0_bands.proofs.PartLaws as Part
use Rattle.rules.proofs.Tests.{by-test, both}

-- ── What is freed ──

module _ (c : Cut) (fit : Fitting c) where
  abbrev w : ℕ
  w = c.size.width

  abbrev h : ℕ
  h = c.size.height

  abbrev b : ℕ
  b = c.block_width

  pub rows_is : (k : ℕ) → k < c.bands → freed_rows c k ≡ band_start c k / 2 * 2
  unfolding freed_rows
  rows_is k l = rw (ne_eqb k c.bands (λ e. omega arith))

  pub rows_last : freed_rows c c.bands ≡ h / 2 * 2
  unfolding freed_rows
  rows_last = rw (eq-eqb c.bands c.bands refl)

  pub rows_up : (k l : ℕ) → k ≤ l → l ≤ c.bands → freed_rows c k ≤ freed_rows c l
  rows_up k l q m =
      by_cases (ℕ_discrete k c.bands)
      (λ e. let z : k ≡ l = omega arith in rw z (omega arith))
      (λ e. by_cases (ℕ_discrete l c.bands)
      (λ f. let u = start_up c fit k c.bands (omega arith) in rw (f, rows_is k (omega arith), rows_last) (omega (arith, start_last c fit)))
      (λ f. let u = start_up c fit k l q in rw (rows_is k (omega arith), rows_is l (omega arith)) (omega arith)))

  pub rows_even : (k : ℕ) → k ≤ c.bands → freed_rows c k % 2 ≡ 0
  rows_even k l = by_cases (ℕ_discrete k c.bands) (λ e. rw (e, rows_last) (omega arith)) (λ e. rw (rows_is k (omega arith)) (omega arith))

  pub rows_most : (k : ℕ) → k ≤ c.bands → freed_rows c k ≤ h / 2 * 2
  rows_most k l = let z = rows_up k c.bands l (omega arith) in omega (arith, rows_last)

  -- The one band that frees a row.
  record Frees (k r : ℕ) : Type 0 where
    low : k < c.bands
    from : freed_rows c k ≤ r
    to : r < freed_rows c (suc k)

  frees_up : (k k' r : ℕ) → Frees k' r → freed_rows c k ≤ r → k ≤ c.bands → k ≤ k'
  frees_up k k' r p l lk =
      by_cases (dec_lt k' k) (λ q. let z = rows_up (suc k') k q lk in let y = p.to in absurd (omega arith)) (λ q. omega arith)

  frees_one : (k k' r : ℕ) → Frees k r → Frees k' r → k' ≡ k
  frees_one k k' r p p' =
      let x = frees_up k k' r p' p.from (let z = p.low in omega arith) in
      let y = frees_up k' k r p p'.from (let z = p'.low in omega arith) in
      omega arith

  frees_pair : (k r r' : ℕ) → r' / 2 ≡ r / 2 → Frees k r → Frees k r'
  frees_pair k r r' e p =
      let l = p.low in
      let x = p.from in
      let y = p.to in
      record {
        low = l;
        from = omega (arith, rows_even k (omega arith));
        to = omega (arith, rows_even (suc k) (omega arith));
      }

  freeing : (n r : ℕ) → n ≤ c.bands → r < freed_rows c n → (k : ℕ) × Frees k r
  freeing zero r l q =
      let z = fit.some_band in
      absurd (omega (arith, rows_is 0 (omega arith), start_zero c fit))
  freeing (suc n) r l q =
      by_cases (dec_lt r (freed_rows c n)) (λ m. freeing n r (omega arith) m) (λ m. (n, record { low = l; from = omega arith; to = q }))

  multiple : (j : ℕ) → j * b % 2 ≡ 0
  multiple j = omega (arith, column_of b j fit.blocks_16)

  pub columns_is : (j : ℕ) → j * b < w → freed_columns c j ≡ j * b - 2
  unfolding freed_columns
  columns_is j l = rw (lt-ltb (j * b) w l)

  pub columns_end : (j : ℕ) → w ≤ j * b → freed_columns c j ≡ w / 2 * 2
  unfolding freed_columns
  columns_end j l = rw (le-ltb (j * b) w l)

  pub columns_most : (j : ℕ) → freed_columns c j ≤ w / 2 * 2
  columns_most j = by_cases (dec_lt (j * b) w) (λ p. rw (columns_is j p) (omega arith)) (λ p. rw (columns_end j (omega arith)) (omega arith))

  pub columns_up : (i j : ℕ) → i ≤ j → freed_columns c i ≤ freed_columns c j
  columns_up i j l =
      let m : i * b ≤ j * b = mul-le-mul_right b l in
      by_cases (dec_lt (j * b) w)
      (λ q. let p : i * b < w = omega arith in rw (columns_is i p, columns_is j q) (omega arith))
      (λ q. rw (columns_end j (omega arith)) (columns_most i))

  pub columns_even : (j : ℕ) → freed_columns c j % 2 ≡ 0
  columns_even j = by_cases (dec_lt (j * b) w) (λ p. rw (columns_is j p) (omega (arith, multiple j))) (λ p. rw (columns_end j (omega arith)) (omega arith))

  columns_zero : freed_columns c 0 ≡ 0
  columns_zero =
      by_cases (dec_lt (0 * b) w) (λ p. columns_is 0 p ∙ omega (arith, zero-mul b)) (λ p. columns_end 0 (omega arith) ∙ omega (arith, zero-mul b))

  -- Where there are blocks there are late rows.
  pub some_late : 0 < blocks_per_band c → late_rows c.size ≢ 0
  unfolding blocks_per_band
  some_late l e = let z : blocks_per_band c ≡ 0 = rw (eq-eqb (late_rows c.size) 0 e) in omega arith

  -- A block begins within the row.
  pub begins : (j : ℕ) → j < blocks_per_band c → j * b < w
  unfolding blocks_per_band
  begins j l =
      by-test (eqb (late_rows c.size) 0)
      (λ e. let q = rw e at l in absurd (omega arith))
      (λ e. let z : suc j * b ≤ w + (b - 1) = (le-div_iff_mul-le fit.some_column).0 (rw e at l) in
      let y = fit.some_column in
      omega (arith, suc-mul j b))

  -- ── The frames ──

  -- A frame is a plain one with the cells exchanged that are freed where so many blocks of each band are done.
  record Mirrors (done : List ℕ) (v f : List ℕ) : Type 0 where
    room : length f ≡ h * w
    falls : (k : ℕ) → suc k < c.bands → get_or done (suc k) 0 ≤ get_or done k 0
    stays : (r d : ℕ) → d < w → ((k : ℕ) → Frees k r → freed_columns c (get_or done k 0) ≤ d) → at w f r d ≡ at w v r d
    moved : (k r d r' d' : ℕ) → Frees k r → d < freed_columns c (get_or done k 0) → Partner r d r' d' → at w f r d ≡ at w v r' d'

  -- A band below has done no more.
  falls_to : (done : List ℕ) → ((k : ℕ) → suc k < c.bands → get_or done (suc k) 0 ≤ get_or done k 0) → (n k : ℕ) → k + n < c.bands
      → get_or done (k + n) 0 ≤ get_or done k 0
  falls_to done fall zero k l = let e : k + 0 ≡ k = omega arith in rw e (omega arith)
  falls_to done fall (suc n) k l =
      let e : k + suc n ≡ suc (k + n) = omega arith in
      let a = fall (k + n) (omega arith) in
      let r = falls_to done fall n k (omega arith) in
      rw e (omega arith)

  mirrors_begun : (f : List ℕ) → length f ≡ h * w → Mirrors (none_done c) f f
  mirrors_begun f e = record {
    room = e;
    falls = λ k l. let x = zeros c.bands k in let y = zeros c.bands (suc k) in omega arith;
    stays = λ r d lw out. refl;
    moved = λ k r d r' d' p l s. let z : freed_columns c (get_or (none_done c) k 0) ≡ 0 = ap (freed_columns c) (zeros c.bands k) ∙ columns_zero in absurd (omega arith);
  }

  module _ (ds start : List ℕ) (bytes : blocks_in w * (h - 2) ≤ length ds) where
    module _ (done : List ℕ) (n : ℕ) (s : Stands c done n) where
      abbrev k : ℕ
      k = step_band c n

      abbrev j : ℕ
      j = step_block c n

      -- ── A step ──

      -- What it reads or changes is not freed.
      not_freed : {v f : List ℕ} → Mirrors done v f → (r d k' : ℕ) → Frees k' r → step_from c n ≤ r → j * b ≤ d + 2
          → freed_columns c (get_or done k' 0) ≤ d
      not_freed m r d k' p lr ld =
          let lb = s.band in
          let up = frees_up k k' r p (omega (arith, rows_is k lb)) (omega arith) in
          let e : k + (k' - k) ≡ k' = omega arith in
          let fall : get_or done k' 0 ≤ get_or done k 0 = rw e at (falls_to done m.falls (k' - k) k (rw e p.low)) in
          let col = columns_up (get_or done k' 0) j (omega (arith, s.next)) in
          omega (arith, columns_is j (begins j s.block))

      -- Whether a cell is of its block.
      of_step : (r d : ℕ) → Dec (Of_step c n r d)
      of_step r d = go (dec_lt r (2 + step_from c n)) (dec_lt r (2 + step_to c n)) (dec_lt d (j * b)) (dec_lt d (suc j * b))
        where
          go : Dec (r < 2 + step_from c n) → Dec (r < 2 + step_to c n) → Dec (d < j * b) → Dec (d < suc j * b) → Dec (Of_step c n r d)
          go (yes a) t x y = no (λ o. omega arith)
          go (no a) (no t) x y = no (λ o. omega arith)
          go (no a) (yes t) (yes x) y = no (λ o. omega arith)
          go (no a) (yes t) (no x) (no y) = no (λ o. omega arith)
          go (no a) (yes t) (no x) (yes y) = yes (record { from = omega arith; to = t; left = omega arith; right = y })

      abbrev Left_by : List ℕ → List ℕ → Type 0
      Left_by = Step_left sample_stage c fit ds start bytes n

      same_cell : {x y : List ℕ} → Left_by x y → (r d : ℕ) → d < w → (Of_step c n r d → ⊥) → at w y r d ≡ at w x r d
      same_cell = elsewhere sample_stage c fit ds start bytes n

      step_mirrors : (v f : List ℕ) → Bands_done sample_stage c fit ds start bytes done v → Mirrors done v f
          → Mirrors done (do_step sample_stage c ds n v) (do_step sample_stage c ds n f)
      step_mirrors v f q m = record {
        room = pf.room ∙ m.room;
        falls = m.falls;
        stays = λ r d lw out. by_cases (of_step r d)
            (λ o. sym (pf.new r d o.from (omega arith) o.left o.right lw (suc (r * w + d)) (omega arith)) ∙ pv.new r d o.from (omega arith) o.left o.right lw (suc (r * w + d)) (omega arith))
            (λ o. same_cell pf r d lw o ∙ m.stays r d lw out ∙ sym (same_cell pv r d lw o));
        moved = moved;
      }
        where
          agrees : (r d : ℕ) → step_from c n ≤ r → j * b ≤ d + 2 → d < w → at w f r d ≡ at w v r d
          agrees r d lr ld lw = m.stays r d lw (λ k' p. not_freed m r d k' p lr ld)

          ready_v : Step_ready sample_stage c fit ds start bytes n v
          ready_v = step_ready sample_stage c fit ds start bytes done n s v q

          ready_f : Step_ready sample_stage c fit ds start bytes n f
          ready_f = record {
            room = m.room;
            above = λ u d one l2 la lb lw. still sample_stage w ds start v f (2 + step_from c n - u) d (ready_v.above u d one l2 la lb lw)
                (agrees (2 + step_from c n - u) d (omega arith) (omega arith) lw);
            left = λ r d lr lt la lb lw. still sample_stage w ds start v f r d (ready_v.left r d lr lt la lb lw) (agrees r d (omega arith) la lw);
            kept = λ r d lr lt la lw. agrees r d (omega arith) (omega arith) lw ∙ ready_v.kept r d lr lt la lw;
          }

          pv : Left_by v (do_step sample_stage c ds n v)
          pv = step_left sample_stage c fit ds start bytes n s.band v ready_v

          pf : Left_by f (do_step sample_stage c ds n f)
          pf = step_left sample_stage c fit ds start bytes n s.band f ready_f

          moved : (k' r d r' d' : ℕ) → Frees k' r → d < freed_columns c (get_or done k' 0) → Partner r d r' d'
              → at w (do_step sample_stage c ds n f) r d ≡ at w (do_step sample_stage c ds n v) r' d'
          moved k' r d r' d' p l t =
              let most = columns_most (get_or done k' 0) in
              let even = columns_even (get_or done k' 0) in
              let nr = (near t).0 in
              let nd = (near t).1 in
              let p' = frees_pair k' r r' nr p in
              same_cell pf r d (omega arith) (λ o. let z = not_freed m r d k' p (omega arith) (omega arith) in omega arith)
              ∙ m.moved k' r d r' d' p l t
              ∙ sym (same_cell pv r' d' (omega arith) (λ o. let z = not_freed m r' d' k' p' (omega arith) (omega arith) in omega arith))

      -- ── What it frees ──

      freed_mirrors : (v f : List ℕ) → Counts c done → Mirrors done v f → Mirrors (after c done n) v (exchange_freed c n f)
      unfolding exchange_freed
      freed_mirrors v f counts m = record {
        room = e.room ∙ m.room;
        falls = λ i l. falls i l (ℕ_discrete i k) (ℕ_discrete (suc i) k);
        stays = λ r d lw out. e.same r d lw
            (λ a t x y. let z = out k (freed_by r a t) in let z' : freed_columns c (suc j) ≤ d = rw own at z in omega (arith, columns_even (suc j), columns_even j))
            ∙ m.stays r d lw (λ i p. let z = out i p in omega (arith, rise i (ℕ_discrete i k)));
        moved = λ i r d r' d' p l t. moved i r d r' d' p l t (ℕ_discrete i k);
      }
        where
          done' : List ℕ
          done' = after c done n

          own : get_or done' k 0 ≡ suc j
          own = after_own c done n counts s

          other : (i : ℕ) → i ≢ k → get_or done' i 0 ≡ get_or done i 0
          other = after_other c done n

          lb : k < c.bands
          lb = s.band

          up : freed_rows c k ≤ freed_rows c (suc k)
          up = rows_up k (suc k) (omega arith) lb

          evens : (freed_rows c k % 2 ≡ 0) × (freed_rows c (suc k) % 2 ≡ 0)
          evens = (rows_even k (omega (arith, lb)), rows_even (suc k) lb)

          e : Exchanged w (freed_rows c k) ((freed_rows c (suc k) - freed_rows c k) / 2) (freed_columns c j) ((freed_columns c (suc j) - freed_columns c j) / 2) f
              (exchange_freed c n f)
          e =
              let z : (freed_rows c k + 2 * ((freed_rows c (suc k) - freed_rows c k) / 2)) * w ≤ h * w =
              mul-le-mul_right w (omega (arith, up, rows_most (suc k) lb)) in
              part_exchanged w _ _ _ _ evens.0 (columns_even j) f
              (omega (arith, columns_up j (suc j) (omega arith), columns_most (suc j))) (omega (arith, m.room))

          freed_by : (r : ℕ) → freed_rows c k ≤ r → r < freed_rows c k + 2 * ((freed_rows c (suc k) - freed_rows c k) / 2) → Frees k r
          freed_by r a t = record { low = lb; from = a; to = omega (arith, up) }

          rise : (i : ℕ) → Dec (i ≡ k) → freed_columns c (get_or done i 0) ≤ freed_columns c (get_or done' i 0)
          rise i (yes q) = rw (q, own, s.next) (columns_up j (suc j) (omega arith))
          rise i (no q) = rw (other i q) (omega arith)

          falls : (i : ℕ) → suc i < c.bands → Dec (i ≡ k) → Dec (suc i ≡ k) → get_or done' (suc i) 0 ≤ get_or done' i 0
          falls i l (yes q) d =
              let x = m.falls i l in
              let x' : get_or done (suc i) 0 ≤ j = omega (arith, ap (λ y. get_or done y 0) q, s.next) in
              rw (other (suc i) (λ z. omega arith)) (rw (q, own) (let y : get_or done (suc k) 0 ≤ j = rw q at x' in omega arith))
          falls i l (no q) (yes q') =
              let a = s.above (λ z. omega arith) in
              let i-is : k - 1 ≡ i = omega arith in
              let a' : j < get_or done i 0 = rw i-is at a in
              rw (other i q, q', own) (omega arith)
          falls i l (no q) (no q') = rw (other i q, other (suc i) q') (m.falls i l)

          moved : (i r d r' d' : ℕ) → Frees i r → d < freed_columns c (get_or done' i 0) → Partner r d r' d' → Dec (i ≡ k)
              → at w (exchange_freed c n f) r d ≡ at w v r' d'
          moved i r d r' d' p l t (no ne) =
              e.same r d (omega (arith, columns_most (get_or done' i 0))) (λ a u _ _. ne (frees_one k i r (freed_by r a u) p))
              ∙ m.moved i r d r' d' p (rw (other i ne) at l) t
          moved i r d r' d' p l t (yes q) = go (rw q at p) (rw own at (rw q at l)) (dec_lt d (freed_columns c j))
            where
              go : Frees k r → d < freed_columns c (suc j) → Dec (d < freed_columns c j)
                  → at w (exchange_freed c n f) r d ≡ at w v r' d'
              go p l (yes x) =
                  e.same r d (omega (arith, columns_most j)) (λ _ _ x' _. omega arith)
                  ∙ m.moved k r d r' d' p (rw s.next x) t
              go p l (no x) =
                  let nr = (near t).0 in
                  let nd = (near t).1 in
                  let a = p.from in
                  let z = p.to in
                  e.moved r d r' d' a (omega (arith, evens.0, evens.1)) (omega arith) (omega (arith, columns_even j, columns_even (suc j))) t
                  ∙ m.stays r' d' (omega (arith, columns_even (suc j), columns_most (suc j)))
                  (λ i' p'. let e' = frees_one k i' r' (frees_pair k r r' nr p) p' in rw (e', s.next) (omega (arith, columns_even j)))

    -- ── The steps of a list ──

    steps_mirror : {done ns : List ℕ} → Turns c done ns → (v f : List ℕ) → Bands_done sample_stage c fit ds start bytes done v → Mirrors done v f
        → Mirrors (done_after c done ns) (do_steps sample_stage c ds ns v) (steps_freed c ds ns f)
    unfolding done_after do_steps steps_freed
    steps_mirror end v f q m = m
    steps_mirror (next {done = done} {n = n} e rest) v f q m =
        let s = stands c done n e in
        steps_mirror rest (do_step sample_stage c ds n v) (exchange_freed c n (do_step sample_stage c ds n f)) (step_done sample_stage c fit ds start bytes done n s v q)
        (freed_mirrors done n s (do_step sample_stage c ds n v) (do_step sample_stage c ds n f) q.counts (step_mirrors done n s v f q m))

-- A good list of steps that frees its blocks leaves what the whole exchange leaves after it.
pub steps_exchanged : (c : Cut) → fits c ≡ true → late_rows c.size ≢ 0 → (ds : List ℕ) → blocks_in c.size.width * (c.size.height - 2) ≤ length ds
    → (f : List ℕ) → length f ≡ c.size.height * c.size.width → (steps : List ℕ) → good c steps ≡ true
    → steps_freed c ds steps f ≡ exchange sample_kind c.size (do_steps sample_stage c ds steps f)
unfolding good
steps_exchanged c e late ds bytes f len steps ok =
    same_cells c.size.width sample_kind c.size.height _ _ m.room (exchange_length sample_kind c.size _ ∙ plain_room)
    (λ r d lr lw. go r d lr lw (dec_lt r (c.size.height / 2 * 2)) (dec_lt d (c.size.width / 2 * 2)))
  where
    fit : Fitting c
    fit = fitting c e

    v : List ℕ
    v = do_steps sample_stage c ds steps f

    plain_room : length v ≡ c.size.height * c.size.width
    plain_room = (good_done sample_stage c fit ds f bytes steps ok len).room

    m : Mirrors c fit (done_after c (none_done c) steps) v (steps_freed c ds steps f)
    m = steps_mirror c fit ds f bytes (turns c (none_done c) steps (both (eqb (length steps) (step_count c)) (in_turn c (none_done c) steps) ok).1) f f
        (none_done_yet sample_stage c fit ds f bytes len) (mirrors_begun c fit f len)

    x : Exchanged c.size.width 0 (c.size.height / 2) 0 (c.size.width / 2) v (exchange sample_kind c.size v)
    x = whole_exchanged c.size v plain_room

    -- All bands have done all blocks.
    all : (k : ℕ) → k < c.bands → freed_columns c (get_or (done_after c (none_done c) steps) k 0) ≡ c.size.width / 2 * 2
    all k l = ap (freed_columns c) (good_full c steps ok k l) ∙ columns_end c fit (blocks_per_band c) (reach c fit late)

    partner : (r d : ℕ) → (r' : ℕ) × ((d' : ℕ) × Partner r d r' d')
    partner r d = by (ℕ_discrete (r % 2) (d % 2)) (ℕ_discrete (r % 2) 0)
      where
        by : Dec (r % 2 ≡ d % 2) → Dec (r % 2 ≡ 0) → (r' : ℕ) × ((d' : ℕ) × Partner r d r' d')
        by (yes q) z = (r, (d, Part.own q refl refl))
        by (no q) (yes z) = (r + 1, (d - 1, Part.below z (omega arith) refl (omega arith)))
        by (no q) (no z) = (r - 1, (d + 1, Part.above (omega arith) (omega arith) (omega arith) refl))

    go : (r d : ℕ) → r < c.size.height → d < c.size.width → Dec (r < c.size.height / 2 * 2) → Dec (d < c.size.width / 2 * 2)
        → at c.size.width (steps_freed c ds steps f) r d ≡ at c.size.width (exchange sample_kind c.size v) r d
    go r d lr lw (yes p) (yes q) =
        let k = freeing c fit c.bands r (omega arith) (rw (rows_last c fit) p) in
        let t = partner r d in
        m.moved k.0 r d t.0 t.1.0 k.1 (rw (all k.0 k.1.low) q) t.1.1
        ∙ sym (x.moved r d t.0 t.1.0 (omega arith) (omega arith) (omega arith) (omega arith) t.1.1)
    go r d lr lw (no p) q =
        m.stays r d lw (λ k z. let y = z.to in absurd (omega (arith, rows_most c fit (suc k) z.low))) ∙ sym (x.same r d lw (λ _ y _ _. omega arith))
    go r d lr lw (yes p) (no q) =
        m.stays r d lw (λ k z. omega (arith, columns_most c fit (get_or (done_after c (none_done c) steps) k 0))) ∙ sym (x.same r d lw (λ _ _ _ y. omega arith))
