-- What the counters of a good list say: every step adds one to its band's, so that a list of as many steps as there are blocks
-- does them all; and while blocks remain, one is ready.
use Prim.Native.Nat.{ℕ, zero, suc, ◌+◌, ◌-◌, ◌*◌, ◌≤◌, ◌<◌}
use mathlib.Core.Bool.{Bool, true, false, ◌&&◌, ◌||◌}
use mathlib.Core.Path.{◌≡◌, refl, sym, ap, ◌∙◌}
use mathlib.Core.Logic.{◌≢◌, by_cases}
use mathlib.Core.List.{List, [], ◌∷◌}
use native.Mathlib.Omega.{arith}
use native.Mathlib.Nat.{mul-le-mul_right, mod-lt, div-add-mod', div-lt_iff_lt-mul, mul-add-div_right, mul-add-mod_self_right, div-eq_of_lt, mod-eq_of_lt, suc-mul, mul-zero}
use native.Mathlib.Decide.{ℕ_discrete, dec_lt}
use lib.Dec.{ltb, eqb}
use lib.ListN.{length, get_or, set, replicate, length-set, length-replicate}
use lib.Seq.{get_or-set_same, get_or-set_other}
use borrow.Author.Tests.{ltb-true, eqb-true, lt-ltb, eq-eqb, ne_eqb}
use Rattle.rules_bands.specs.declared.Cut.{Cut}
use Rattle.rules_bands.specs.Bands.{blocks_per_band, step_count, step_band, step_block, ready, after, in_turn, none_done, good}
use Rattle.rules.proofs.Tests.{both}

-- ── Tests ──

-- One of two tests holds.
pub data Either (s t : Bool) : Type 0 where
  this : s ≡ true → Either s t
  that : t ≡ true → Either s t

pub either : (s t : Bool) → (s || t) ≡ true → Either s t
either true t e = this refl
either false t e = that e

-- ── A ready step ──

-- Where a number is below the number of steps there are blocks.
pub some_block : (c : Cut) (n : ℕ) → n < step_count c → 0 < blocks_per_band c
some_block c n l =
    by_cases (dec_lt 0 (blocks_per_band c))
    (λ h. h)
    (λ h. let z : blocks_per_band c ≡ 0 = omega arith in
    let e : step_count c ≡ 0 = ap (λ x. c.bands * x) z ∙ mul-zero c.bands in
    absurd (omega arith))

-- Where a step stands, and what it finds done.
pub record Stands (c : Cut) (done : List ℕ) (n : ℕ) : Type 0 where
  pub low : n < step_count c
  pub band : step_band c n < c.bands
  pub block : step_block c n < blocks_per_band c
  pub number : n ≡ step_band c n * blocks_per_band c + step_block c n
  pub next : get_or done (step_band c n) 0 ≡ step_block c n
  pub above : step_band c n ≢ 0 → step_block c n < get_or done (step_band c n - 1) 0

pub stands : (c : Cut) (done : List ℕ) (n : ℕ) → ready c done n ≡ true → Stands c done n
unfolding ready
stands c done n e = record {
  low = low;
  band = (div-lt_iff_lt-mul full).1 low;
  block = mod-lt n full;
  number = sym (div-add-mod' n (blocks_per_band c));
  next = eqb-true _ _ b.1;
  above = λ h. go (either _ _ a.1) h;
}
  where
    a : (ltb n (step_count c) && eqb (get_or done (step_band c n) 0) (step_block c n) ≡ true)
        × (eqb (step_band c n) 0 || ltb (step_block c n) (get_or done (step_band c n - 1) 0) ≡ true)
    a = both _ _ e

    b : (ltb n (step_count c) ≡ true) × (eqb (get_or done (step_band c n) 0) (step_block c n) ≡ true)
    b = both _ _ a.0

    low : n < step_count c
    low = ltb-true n (step_count c) b.0

    full : 0 < blocks_per_band c
    full = some_block c n low

    go : Either (eqb (step_band c n) 0) (ltb (step_block c n) (get_or done (step_band c n - 1) 0)) → step_band c n ≢ 0
        → step_block c n < get_or done (step_band c n - 1) 0
    go (this z) h = absurd (h (eqb-true _ _ z))
    go (that l) h = ltb-true _ _ l

-- And back.
pub is_ready : (c : Cut) (done : List ℕ) (n : ℕ) → n < step_count c → get_or done (step_band c n) 0 ≡ step_block c n
    → (step_band c n ≢ 0 → step_block c n < get_or done (step_band c n - 1) 0) → ready c done n ≡ true
unfolding ready
is_ready c done n low e above = rw (lt-ltb n (step_count c) low, eq-eqb _ _ e) (by_cases (ℕ_discrete (step_band c n) 0)
    (λ z. rw (eq-eqb (step_band c n) 0 z))
    (λ z. rw (ne_eqb (step_band c n) 0 z, lt-ltb _ _ (above z))))

-- The step of a block of a band.
pub record Step_of (c : Cut) (k j n : ℕ) : Type 0 where
  pub band : step_band c n ≡ k
  pub block : step_block c n ≡ j

pub step_of : (c : Cut) (k j n : ℕ) → j < blocks_per_band c → n ≡ k * blocks_per_band c + j → Step_of c k j n
step_of c k j n l e = rw e (record {
  band = mul-add-div_right (omega arith) k j ∙ ap (λ x. k + x) (div-eq_of_lt l) ∙ omega arith;
  block = mul-add-mod_self_right k (blocks_per_band c) j ∙ mod-eq_of_lt l;
})

-- ── Sums ──

pub sum : List ℕ → ℕ
sum [] = 0
sum (x ∷ xs) = x + sum xs

set_sum : (xs : List ℕ) (k : ℕ) → k < length xs → sum (set xs k (suc (get_or xs k 0))) ≡ suc (sum xs)
unfolding sum
set_sum [] k l = absurd (omega arith)
set_sum (x ∷ xs) zero l = omega arith
set_sum (x ∷ xs) (suc k) l = ap (λ y. x + y) (set_sum xs k (omega arith)) ∙ omega arith

pub sum_most : (b : ℕ) (xs : List ℕ) → ((k : ℕ) → get_or xs k 0 ≤ b) → sum xs ≤ length xs * b
unfolding sum
sum_most b [] h = omega arith
sum_most b (x ∷ xs) h = let l = sum_most b xs (λ k. h (suc k)) in omega (arith, h 0, suc-mul (length xs) b)

full_all : (b : ℕ) (xs : List ℕ) → ((k : ℕ) → get_or xs k 0 ≤ b) → sum xs ≡ length xs * b → (k : ℕ) → k < length xs → get_or xs k 0 ≡ b
unfolding sum
full_all b [] h e k l = absurd (omega arith)
full_all b (x ∷ xs) h e zero l =
    let m = sum_most b xs (λ k. h (suc k)) in
    omega (arith, h 0, suc-mul (length xs) b)
full_all b (x ∷ xs) h e (suc k) l =
    let m = sum_most b xs (λ k. h (suc k)) in
    full_all b xs (λ k. h (suc k)) (omega (arith, h 0, suc-mul (length xs) b)) k (omega arith)

pub all_full : (b : ℕ) (xs : List ℕ) → ((k : ℕ) → k < length xs → get_or xs k 0 ≡ b) → sum xs ≡ length xs * b
unfolding sum
all_full b [] h = omega arith
all_full b (x ∷ xs) h =
    let e = all_full b xs (λ k l. h (suc k) (omega arith)) in
    omega (arith, h 0 (omega arith), suc-mul (length xs) b)

pub sum_zeros : (n : ℕ) → sum (replicate n 0) ≡ 0
unfolding sum
sum_zeros zero = refl
sum_zeros (suc n) = omega (arith, sum_zeros n)

pub zeros : (n k : ℕ) → ◌≡◌ {A = ℕ} (get_or (replicate n 0) k 0) 0
zeros zero k = refl
zeros (suc n) zero = refl
zeros (suc n) (suc k) = zeros n k

-- ── Counters ──

-- A counter for each band, none above the blocks of a band.
pub record Counts (c : Cut) (done : List ℕ) : Type 0 where
  pub bands : length done ≡ c.bands
  pub most : (k : ℕ) → get_or done k 0 ≤ blocks_per_band c

pub none_counts : (c : Cut) → Counts c (none_done c)
none_counts c = record { bands = length-replicate c.bands 0; most = λ k. let e = zeros c.bands k in omega arith }

-- A step counts its block, and no other band's.
module _ (c : Cut) (done : List ℕ) (n : ℕ) where
  pub after_own : Counts c done → Stands c done n → get_or (after c done n) (step_band c n) 0 ≡ suc (step_block c n)
  unfolding after
  after_own h s = get_or-set_same done (step_band c n) (suc (step_block c n)) 0 (let z = s.band in rw h.bands z)

  pub after_other : (k : ℕ) → k ≢ step_band c n → get_or (after c done n) k 0 ≡ get_or done k 0
  unfolding after
  after_other k e = get_or-set_other done (step_band c n) k (suc (step_block c n)) 0 e

pub counts_after : (c : Cut) (done : List ℕ) (n : ℕ) → Counts c done → Stands c done n → Counts c (after c done n)
unfolding after
counts_after c done n h s = record {
  bands = length-set done (step_band c n) _ ∙ h.bands;
  most = λ k. by_cases (ℕ_discrete k (step_band c n))
      (λ e. rw (e, after_own c done n h s) s.block)
      (λ e. rw (after_other c done n k e) (h.most k));
}

-- What is done in each band after a list of steps.
unfoldable pub done_after : Cut → List ℕ → List ℕ → List ℕ
done_after c done [] = done
done_after c done (n ∷ ns) = done_after c (after c done n) ns

-- Steps that are ready when they come.
pub data Turns (c : Cut) : List ℕ → List ℕ → Type 0 where
  end : {done : List ℕ} → Turns c done []
  next : {done : List ℕ} {n : ℕ} {ns : List ℕ} → ready c done n ≡ true → Turns c (after c done n) ns → Turns c done (n ∷ ns)

pub turns : (c : Cut) (done ns : List ℕ) → in_turn c done ns ≡ true → Turns c done ns
unfolding in_turn
turns c done [] e = end
turns c done (n ∷ ns) e = let b = both (ready c done n) (in_turn c (after c done n) ns) e in next b.0 (turns c (after c done n) ns b.1)

pub is_in_turn : (c : Cut) {done ns : List ℕ} → Turns c done ns → in_turn c done ns ≡ true
unfolding in_turn
is_in_turn c end = refl
is_in_turn c (next e rest) = rw (e, is_in_turn c rest)

-- Each step adds one.
pub record Adds (c : Cut) (done ns : List ℕ) : Type 0 where
  pub counts : Counts c (done_after c done ns)
  pub total : sum (done_after c done ns) ≡ sum done + length ns

pub adds : (c : Cut) {done ns : List ℕ} → Turns c done ns → Counts c done → Adds c done ns
unfolding done_after after
adds c end h = record { counts = h; total = omega arith }
adds c (next {done = done} {n = n} {ns = ns} e rest) h = go (adds c rest (counts_after c done n h s))
  where
    s : Stands c done n
    s = stands c done n e

    one_more : sum (after c done n) ≡ suc (sum done)
    one_more = rw (← s.next) (set_sum done (step_band c n) (let z = s.band in rw h.bands z))

    go : Adds c (after c done n) ns → Adds c done (n ∷ ns)
    go r = record { counts = r.counts; total = let z = r.total in omega (arith, one_more) }

-- After a good list all blocks of each band are done.
pub good_full : (c : Cut) (steps : List ℕ) → good c steps ≡ true → (k : ℕ) → k < c.bands
    → get_or (done_after c (none_done c) steps) k 0 ≡ blocks_per_band c
unfolding good
good_full c steps e k l =
    let b = both (eqb (length steps) (step_count c)) (in_turn c (none_done c) steps) e in
    let r = adds c (turns c (none_done c) steps b.1) (none_counts c) in
    full_all (blocks_per_band c) _ r.counts.most
    (r.total ∙ ap (λ x. x + length steps) (sum_zeros c.bands) ∙ omega (arith, eqb-true (length steps) (step_count c) b.0) ∙ ap (λ x. x * blocks_per_band c) (sym r.counts.bands))
    k (rw r.counts.bands l)

-- A good list has as many steps as there are blocks.
pub good_length : (c : Cut) (steps : List ℕ) → good c steps ≡ true → length steps ≡ c.bands * blocks_per_band c
unfolding good
good_length c steps e = eqb-true (length steps) (step_count c) (both (eqb (length steps) (step_count c)) (in_turn c (none_done c) steps) e).0

-- ── While blocks remain, one is ready ──

-- The first band of some that has blocks left.
record Behind (c : Cut) (done : List ℕ) : Type 0 where
  band : ℕ
  low : band < c.bands
  left : get_or done band 0 < blocks_per_band c
  above : band ≢ 0 → get_or done (band - 1) 0 ≡ blocks_per_band c

behind : (c : Cut) (done : List ℕ) → Counts c done → sum done < step_count c → (m k : ℕ) → k + m ≡ c.bands
    → ((i : ℕ) → i < k → get_or done i 0 ≡ blocks_per_band c) → Behind c done
behind c done h l zero k e full =
    let z = all_full (blocks_per_band c) done (λ i q. full i (let y = h.bands in omega arith)) in
    absurd (omega (arith, ap (λ x. x * blocks_per_band c) h.bands))
behind c done h l (suc m) k e full =
    by_cases (dec_lt (get_or done k 0) (blocks_per_band c))
    (λ q. let lk : k < c.bands = omega arith in record { band = k; low = lk; left = q; above = λ n. full (k - 1) (omega arith) })
    (λ q. behind c done h l m (suc k) (omega arith)
    (λ i j. by_cases (ℕ_discrete i k) (λ z. rw z (let y = h.most k in omega arith)) (λ z. full i (omega arith))))

ready_of : (c : Cut) (done : List ℕ) → Behind c done → (n : ℕ) × (ready c done n ≡ true)
ready_of c done b = (n, is_ready c done n low (ap (λ x. get_or done x 0) s.band ∙ sym s.block) above)
  where
    k : ℕ
    k = b.band

    n : ℕ
    n = k * blocks_per_band c + get_or done k 0

    s : Step_of c k (get_or done k 0) n
    s = step_of c k (get_or done k 0) n b.left refl

    low : n < step_count c
    low =
        let z : suc k * blocks_per_band c ≤ c.bands * blocks_per_band c = mul-le-mul_right (blocks_per_band c) b.low in
        let y = b.left in
        omega (arith, suc-mul k (blocks_per_band c))

    above : step_band c n ≢ 0 → step_block c n < get_or done (step_band c n - 1) 0
    above h = rw (s.band, s.block, b.above (λ e. h (s.band ∙ e))) b.left

-- After any steps that were ready when they came, while blocks remain one is ready.
pub one_ready : (c : Cut) (steps : List ℕ) → in_turn c (none_done c) steps ≡ true → length steps < step_count c
    → (n : ℕ) × (ready c (done_after c (none_done c) steps) n ≡ true)
one_ready c steps e l =
    let r = adds c (turns c (none_done c) steps e) (none_counts c) in
    ready_of c _ (behind c _ r.counts (let z = r.total in omega (arith, sum_zeros c.bands)) c.bands 0 (omega arith) (λ i q. absurd (omega arith)))
