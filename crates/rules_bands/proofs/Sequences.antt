-- The good lists are the lists that do each block once, always ready.
use Prim.Native.Nat.{ℕ, suc, ◌+◌, ◌-◌, ◌*◌, ◌≤◌, ◌<◌}
use mathlib.Core.Bool.{true}
use mathlib.Core.Path.{◌≡◌, refl, sym, ap, subst, ◌∙◌}
use mathlib.Core.Logic.{◌≢◌, by_cases}
use mathlib.Core.List.{List, [], ◌∷◌}
use native.Mathlib.Omega.{arith}
use native.Mathlib.Nat.{mul-le-mul_right, suc-mul, mod-lt, div-add-mod', div-lt_iff_lt-mul, div-eq_of_lt, mul-zero}
use native.Mathlib.Decide.{ℕ_discrete, dec_lt}
use lib.Dec.{eqb}
use lib.ListN.{length, get_or, set}
use lib.Seq.{get_or-set_same, get_or-set_other}
use borrow.Author.Tests.{eq-eqb}
use Rattle.rules.specs.Frame.{cells}
use Rattle.rules.specs.Phases.{two_phase}
use Rattle.rules_bands.specs.declared.Cut.{Cut}
use Rattle.rules_bands.specs.Bands.{late_rows, blocks_per_band, step_count, step_band, step_block, fits, ready, after, in_turn, none_done, good, in_bands}
use Rattle.rules_bands.specs.Sequence.{Among, here, later, Once, now, Ready, AllReady, Does}
use Rattle.rules_bands.specs.Sequence as Sequence
use Rattle.rules_bands.proofs.Counters.{some_block, Stands, stands, is_ready, Step_of, step_of, all_full, sum_zeros, zeros, Counts, none_counts, counts_after, done_after, Turns, end, next, turns, is_in_turn, Adds, adds, sum_most, good_full, good_length, one_ready}
use Rattle.rules_bands.proofs.AnySequence.{in_bands_two_phase}
use Rattle.rules.proofs.Tests.{by-test, both}

-- ── Steps before, and counters ──

-- The counters say which steps are among those before.
record Tells (c : Cut) (before done : List ℕ) : Type 0 where
  counts : Counts c done
  among : (m : ℕ) → m < step_count c → step_block c m < get_or done (step_band c m) 0 → Among m before
  counted : (m : ℕ) → Among m before → (m < step_count c) × (step_block c m < get_or done (step_band c m) 0)

among_empty : {m : ℕ} {ms : List ℕ} → Among m ms → ms ≡ [] → ⊥
among_empty here e = let z : ◌≡◌ {A = ℕ} 0 1 = cc in omega arith
among_empty (later a) e = let z : ◌≡◌ {A = ℕ} 0 1 = cc in omega arith

tells_none : (c : Cut) → Tells c [] (none_done c)
tells_none c = record {
  counts = none_counts c;
  among = λ m l q. absurd (let z = zeros c.bands (step_band c m) in omega arith);
  counted = λ m a. absurd (among_empty a refl);
}

-- The block to the left, and the same block of the band above.
left_of : (c : Cut) (n : ℕ) → n < step_count c → step_block c n ≢ 0 → Step_of c (step_band c n) (step_block c n - 1) (n - 1)
left_of c n l ne =
    let full = some_block c n l in
    let q = mod-lt n full in
    let e = div-add-mod' n (blocks_per_band c) in
    step_of c (step_band c n) (step_block c n - 1) (n - 1) (omega arith) (omega arith)

above_of : (c : Cut) (n : ℕ) → n < step_count c → step_band c n ≢ 0 → Step_of c (step_band c n - 1) (step_block c n) (n - blocks_per_band c)
above_of c n l ne =
    let full = some_block c n l in
    let e = div-add-mod' n (blocks_per_band c) in
    let z : suc (step_band c n - 1) ≡ step_band c n = omega arith in
    let y : (step_band c n - 1) * blocks_per_band c + blocks_per_band c ≡ step_band c n * blocks_per_band c =
    sym (suc-mul (step_band c n - 1) (blocks_per_band c)) ∙ ap (λ x. x * blocks_per_band c) z in
    step_of c (step_band c n - 1) (step_block c n) (n - blocks_per_band c) (mod-lt n full) (omega arith)

-- A step is ready by the counters just if it is by the steps before.
to_ready : (c : Cut) (before done : List ℕ) (n : ℕ) → Tells c before done → ready c done n ≡ true → Ready c before n
to_ready c before done n t e = record {
  number = low;
  not_done = λ a. let z = (t.counted n a).1 in let y = s.next in omega arith;
  left = λ ne. let o = left_of c n low ne in t.among (n - 1) (omega (arith, low)) (rw (o.band, o.block) (let y = s.next in omega arith));
  above = λ ne. let o = above_of c n low ne in
      t.among (n - blocks_per_band c) (omega (arith, low)) (rw (o.band, o.block) (s.above ne));
}
  where
    s : Stands c done n
    s = stands c done n e

    low : n < step_count c
    low = s.low

from_ready : (c : Cut) (before done : List ℕ) (n : ℕ) → Tells c before done → Ready c before n → ready c done n ≡ true
from_ready c before done n t r = is_ready c done n low (by_cases (ℕ_discrete (step_block c n) 0)
    (λ z. omega (arith, most))
    (λ z. let o = left_of c n low z in
    let q = (t.counted (n - 1) (r.left z)).1 in
    let q' : step_block c n - 1 < get_or done (step_band c n) 0 = rw (o.band, o.block) at q in
    omega (arith, most))) above
  where
    low : n < step_count c
    low = r.number

    most : get_or done (step_band c n) 0 ≤ step_block c n
    most = up_to (dec_lt (step_block c n) (get_or done (step_band c n) 0))
      where
        up_to : Dec (step_block c n < get_or done (step_band c n) 0) → get_or done (step_band c n) 0 ≤ step_block c n
        up_to (yes q) = absurd (r.not_done (t.among n low q))
        up_to (no q) = omega arith

    above : step_band c n ≢ 0 → step_block c n < get_or done (step_band c n - 1) 0
    above ne =
        let o = above_of c n low ne in
        rw (o.band, o.block) at (t.counted (n - blocks_per_band c) (r.above ne)).1

tells_after : (c : Cut) (before done : List ℕ) (n : ℕ) → Tells c before done → ready c done n ≡ true → Tells c (n ∷ before) (after c done n)
unfolding after
tells_after c before done n t e = record {
  counts = counts_after c done n t.counts s;
  among = λ m l q. new m l q (ℕ_discrete (step_band c m) k) (ℕ_discrete (step_block c m) j);
  counted = λ m a. old m a;
}
  where
    s : Stands c done n
    s = stands c done n e

    k : ℕ
    k = step_band c n

    j : ℕ
    j = step_block c n

    own : get_or (set done k (suc j)) k 0 ≡ suc j
    own = get_or-set_same done k (suc j) 0 (let z = s.band in rw t.counts.bands z)

    other : (m : ℕ) → m ≢ k → get_or (set done k (suc j)) m 0 ≡ get_or done m 0
    other m ne = get_or-set_other done k m (suc j) 0 ne

    same : (m : ℕ) → step_band c m ≡ k → step_block c m ≡ j → n ≡ m
    same m p q =
        let x = div-add-mod' m (blocks_per_band c) in
        let y = s.number in
        let z : step_band c m * blocks_per_band c ≡ k * blocks_per_band c = ap (λ v. v * blocks_per_band c) p in
        omega arith

    new : (m : ℕ) → m < step_count c → step_block c m < get_or (set done k (suc j)) (step_band c m) 0 → Dec (step_band c m ≡ k)
        → Dec (step_block c m ≡ j) → Among m (n ∷ before)
    new m l q (yes p) (yes r) = subst (λ (x : ℕ). Among x (n ∷ before)) (same m p r) here
    new m l q (yes p) (no r) =
        let y : step_block c m < suc j = rw (p, own) at q in
        let x = s.next in
        later (t.among m l (rw p (omega arith)))
    new m l q (no p) d = later (t.among m l (rw (other (step_band c m) p) at q))

    rise : (m : ℕ) → step_block c m < get_or done (step_band c m) 0 → Dec (step_band c m ≡ k)
        → step_block c m < get_or (set done k (suc j)) (step_band c m) 0
    rise m q (yes p) =
        let y : step_block c m < get_or done k 0 = rw p at q in
        let x = s.next in
        rw (p, own) (omega arith)
    rise m q (no p) = rw (other (step_band c m) p) q

    old : (m : ℕ) → Among m (n ∷ before) → (m < step_count c) × (step_block c m < get_or (set done k (suc j)) (step_band c m) 0)
    old m here = (s.low, rw own (omega arith))
    old m (later a) = let x = t.counted m a in (x.0, rise m x.1 (ℕ_discrete (step_band c m) k))

-- ── Lists ──

to_all_ready : (c : Cut) {before done ns : List ℕ} → Turns c done ns → Tells c before done → AllReady c before ns
to_all_ready c end t = Sequence.end
to_all_ready c {before} (next {done = done} {n = n} e rest) t =
    Sequence.next (to_ready c before done n t e) (to_all_ready c {before = n ∷ before} rest (tells_after c before done n t e))

from_all_ready : (c : Cut) {before done ns : List ℕ} → AllReady c before ns → Tells c before done → Turns c done ns
from_all_ready c Sequence.end t = end
from_all_ready c {done = done} (Sequence.next {before = before} {n = n} r rest) t =
    let e = from_ready c before done n t r in
    next e (from_all_ready c rest (tells_after c before done n t e))

-- The steps before, after a list of steps.
backwards : List ℕ → List ℕ → List ℕ
backwards [] bs = bs
backwards (n ∷ ns) bs = backwards ns (n ∷ bs)

tells_end : (c : Cut) {before done ns : List ℕ} → Turns c done ns → Tells c before done → Tells c (backwards ns before) (done_after c done ns)
unfolding backwards done_after
tells_end c end t = t
tells_end c {before} (next {done = done} {n = n} e rest) t = tells_end c {before = n ∷ before} rest (tells_after c before done n t e)

among_cons : {X : Type 0} {m n : ℕ} {bs : List ℕ} (ns : List ℕ) → Among m (n ∷ bs) → (Among m (n ∷ ns) → X) → (Among m bs → X) → X
among_cons ns here l r = l here
among_cons ns (later b) l r = r b

among_or : {X : Type 0} (m : ℕ) (ns bs : List ℕ) → Among m (backwards ns bs) → (Among m ns → X) → (Among m bs → X) → X
unfolding backwards
among_or m [] bs a l r = r a
among_or m (n ∷ ns) bs a l r = among_or m ns (n ∷ bs) a (λ b. l (later b)) (λ b. among_cons ns b l r)

backwards_before : (m : ℕ) (ns bs : List ℕ) → Among m bs → Among m (backwards ns bs)
unfolding backwards
backwards_before m [] bs a = a
backwards_before m (n ∷ ns) bs a = backwards_before m ns (n ∷ bs) (later a)

backwards_among : (m : ℕ) {ns : List ℕ} (bs : List ℕ) → Among m ns → Among m (backwards ns bs)
unfolding backwards
backwards_among m bs (here {ms = ns}) = backwards_before m ns (m ∷ bs) here
backwards_among m bs (later {m = n} a) = backwards_among m (n ∷ bs) a

-- ── Once ──

no_more : (c : Cut) (m : ℕ) {before ns : List ℕ} → AllReady c before ns → Among m before → Among m ns → ⊥
no_more c m (Sequence.next r rest) a here = r.not_done a
no_more c m (Sequence.next r rest) a (later b) = no_more c m rest (later a) b
no_more c m Sequence.end a b = elim b [ ]

to_once : (c : Cut) (m : ℕ) {before ns : List ℕ} → AllReady c before ns → Among m ns → Once m ns
to_once c m (Sequence.next r rest) here = now (λ b. no_more c m rest here b)
to_once c m (Sequence.next {before = before} {n = n} {ns = ns} r rest) (later b) =
    by_cases (ℕ_discrete n m)
    (λ e. absurd (no_more c m rest (subst (λ (x : ℕ). Among x (n ∷ before)) e here) b))
    (λ e. Sequence.after e (to_once c m rest b))
to_once c m Sequence.end b = elim b [ ]

once_among : {m : ℕ} {ns : List ℕ} → Once m ns → Among m ns
once_among (now h) = here
once_among (Sequence.after ne o) = later (once_among o)

-- ── The good lists ──

-- A good list does each block once, always ready.
pub good_does : (c : Cut) (steps : List ℕ) → good c steps ≡ true → Does c steps
unfolding good
good_does c steps e = record {
  once = λ n l. to_once c n ready_all (among_or n steps [] (t.among n l (rw (good_full c steps e (step_band c n) ((div-lt_iff_lt-mul (some_block c n l)).1 l)) (mod-lt n (some_block c n l)))) (λ a. a) (λ a. absurd (among_empty a refl)));
  all_ready = ready_all;
}
  where
    in_order : Turns c (none_done c) steps
    in_order = turns c (none_done c) steps (both (eqb (length steps) (step_count c)) (in_turn c (none_done c) steps) e).1

    ready_all : AllReady c [] steps
    ready_all = to_all_ready c in_order (tells_none c)

    t : Tells c (backwards steps []) (done_after c (none_done c) steps)
    t = tells_end c in_order (tells_none c)

-- Every list that does each block once, always ready, is good.
pub does_good : (c : Cut) (steps : List ℕ) → Does c steps → good c steps ≡ true
unfolding good
does_good c steps does = rw (eq-eqb (length steps) (step_count c) len, is_in_turn c in_order)
  where
    in_order : Turns c (none_done c) steps
    in_order = from_all_ready c does.all_ready (tells_none c)

    t : Tells c (backwards steps []) (done_after c (none_done c) steps)
    t = tells_end c in_order (tells_none c)

    r : Adds c (none_done c) steps
    r = adds c in_order (none_counts c)

    full : (k : ℕ) → k < c.bands → Dec (0 < blocks_per_band c) → get_or (done_after c (none_done c) steps) k 0 ≡ blocks_per_band c
    full k l (no z) = let y = t.counts.most k in omega arith
    full k l (yes z) =
        let n = k * blocks_per_band c + (blocks_per_band c - 1) in
        let m : suc k * blocks_per_band c ≤ c.bands * blocks_per_band c = mul-le-mul_right (blocks_per_band c) l in
        let o = step_of c k (blocks_per_band c - 1) n (omega arith) refl in
        let a = (t.counted n (backwards_among n [] (once_among (does.once n (omega (arith, suc-mul k (blocks_per_band c))))))).1 in
        let v : blocks_per_band c - 1 < get_or (done_after c (none_done c) steps) k 0 = rw (o.band, o.block) at a in
        let y = t.counts.most k in
        omega arith

    len : length steps ≡ step_count c
    len =
        let x = all_full (blocks_per_band c) (done_after c (none_done c) steps) (λ k l. full k (rw r.counts.bands at l) (dec_lt 0 (blocks_per_band c))) in
        omega (arith, x, r.total, sum_zeros c.bands, ap (λ y. y * blocks_per_band c) r.counts.bands)

-- So every such list gives the samples of the plain call.
pub does_two_phase : (s offsets : List ℕ) (c : Cut) → fits c ≡ true → (steps : List ℕ) → Does c steps
    → (f : List ℕ) → length f ≡ cells c.size → in_bands s offsets c steps f ≡ two_phase s offsets c.size f
does_two_phase s offsets c e steps does f len = in_bands_two_phase s offsets c e steps (does_good c steps does) f len

-- ── While blocks remain, one is ready ──

pub remains_ready : (c : Cut) (steps : List ℕ) → AllReady c [] steps → (m : ℕ) → m < step_count c → (Among m steps → ⊥)
    → (n : ℕ) × Ready c steps n
unfolding good
remains_ready c steps all m l out = go (dec_lt (length steps) (step_count c))
  where
    in_order : Turns c (none_done c) steps
    in_order = from_all_ready c all (tells_none c)

    done : List ℕ
    done = done_after c (none_done c) steps

    t : Tells c (backwards steps []) done
    t = tells_end c in_order (tells_none c)

    r : Adds c (none_done c) steps
    r = adds c in_order (none_counts c)

    -- The steps before are those of the list.
    is : (x : ℕ) → Among x (backwards steps []) → Among x steps
    is x a = among_or x steps [] a (λ b. b) (λ b. absurd (among_empty b refl))

    go : Dec (length steps < step_count c) → (n : ℕ) × Ready c steps n
    go (yes q) =
        let o = one_ready c steps (is_in_turn c in_order) q in
        let y = to_ready c (backwards steps []) done o.0 t o.1 in (
          o.0,
          record {
            number = y.number;
            not_done = λ a. y.not_done (backwards_among o.0 [] a);
            left = λ ne. is (o.0 - 1) (y.left ne);
            above = λ ne. is (o.0 - blocks_per_band c) (y.above ne);
          },
        )
    go (no q) =
        let most = sum_most (blocks_per_band c) done t.counts.most in
        let e : length steps ≡ step_count c =
        omega (arith, r.total, sum_zeros c.bands, ap (λ y. y * blocks_per_band c) r.counts.bands) in
        absurd (out (once_among ((good_does c steps (rw (eq-eqb (length steps) (step_count c) e, is_in_turn c in_order))).once m l)))

-- ── No rows, or no columns ──

pub no_rows : (c : Cut) → late_rows c.size ≡ 0 → blocks_per_band c ≡ 0
unfolding blocks_per_band
no_rows c e = rw (eq-eqb (late_rows c.size) 0 e)

pub no_columns : (c : Cut) → 0 < c.block_width → c.size.width ≡ 0 → blocks_per_band c ≡ 0
unfolding blocks_per_band
no_columns c l e = by-test (eqb (late_rows c.size) 0) (λ f. rw f) (λ f. rw f (div-eq_of_lt (omega arith)))

-- Then the list is empty, and only then.
pub empty_good : (c : Cut) → blocks_per_band c ≡ 0 → good c [] ≡ true
unfolding good in_turn
empty_good c e = rw (eq-eqb 0 (step_count c) (sym (ap (λ x. c.bands * x) e ∙ mul-zero c.bands)))

pub good_empty : (c : Cut) → blocks_per_band c ≡ 0 → (steps : List ℕ) → good c steps ≡ true → steps ≡ []
good_empty c e [] ok = refl
good_empty c e (n ∷ ns) ok = absurd (omega (arith, good_length c (n ∷ ns) ok, ap (λ x. c.bands * x) e, mul-zero c.bands))
