-- The code's tests of a cut and of a list of steps are the definitions'.
use Prim.Native.Nat.{ℕ, zero, suc, ◌+◌, ◌-◌, ◌*◌, ◌/◌, ◌%◌, ◌≤◌, ◌<◌, min, max}
use mathlib.Core.Bool.{Bool, true, false, ◌&&◌, ◌||◌}
use mathlib.Core.Path.{◌≡◌, refl, sym, ap, ◌∙◌}
use mathlib.Core.Logic.{◌≢◌, by_cases}
use mathlib.Core.List.{List, ◌∷◌}
use native.Mathlib.Omega.{arith}
use native.Mathlib.Nat.{mul-le-mul_right, div-lt_iff_lt-mul, mod-lt, mul-le-mul_left, suc-mul, div-add-mod'}
use native.Mathlib.Numerals.{add-one}
use native.Mathlib.Decide.{ℕ_discrete}
use lib.Arith.{digits_div}
use lib.Dec.{ltb, leb, eqb}
use lib.ListN.{length, get_or, set, take, drop, replicate, drop_of_length-le}
use lib.Seq.{drop-cons, get_or-take, take-set-lt}
use borrow.Author.Tests.{leb-true, lt-ltb, le-ltb, eq-eqb, ne_eqb}
use Rattle.rules_bands.specs.declared.Cut.{Cut}
use Rattle.rules_bands.specs.Bands.{fits, blocks_per_band, step_count, step_band, step_block, ready, after, in_turn, none_done, good}
use Rattle.rules_bands.specs.Call.{list_refusal}
use Rattle.rules_bands.proofs.AnySequence.{fitting}
use Rattle.rules_bands.proofs.Counters.{some_block}
use Rattle.rules.specs.Limits.{most_side}
use Rattle.rules.proofs.Tests.{by-test, both}

-- ── A cut ──

-- The code's `&&`, from the first test on.
pub and_then : {a b v : Bool} → a ≡ true → v ≡ b → v ≡ (a && b)
and_then e is = rw e is

pub and_else : {a v : Bool} (b : Bool) → a ≡ false → v ≡ a → v ≡ (a && b)
and_else b e is = rw e (rw e at is)

-- ── The blocks of a band ──

-- Rounded up in one of two ways.
rounded : (w b : ℕ) → 0 < b → w / b + min 1 (w % b) ≡ (w + (b - 1)) / b
rounded w b l =
    let e = div-add-mod' w b in
    let m = mod-lt w l in
    by_cases (ℕ_discrete (w % b) 0)
    (λ z. let n : w + (b - 1) ≡ w / b * b + (b - 1) = omega arith in
    let q : b - 1 < b = omega arith in
    rw (z, n, digits_div (w / b) {m = b} {r = b - 1} q) (omega arith))
    (λ z. let n : w + (b - 1) ≡ (w / b + 1) * b + (w % b - 1) = omega (arith, suc-mul (w / b) b) in
    let q : w % b - 1 < b = omega arith in
    rw (n, digits_div (w / b + 1) {m = b} {r = w % b - 1} q) (omega arith))

module _ (c : Cut) where
  pub none_late : c.size.height ≤ 2 → 0 ≡ blocks_per_band c
  unfolding blocks_per_band
  none_late l = rw (eq-eqb (c.size.height - 2) 0 (omega arith))

  pub some_blocks : 2 < c.size.height → 0 < c.block_width → c.size.width / c.block_width + min 1 (c.size.width % c.block_width) ≡ blocks_per_band c
  unfolding blocks_per_band
  some_blocks l q = rw (ne_eqb (c.size.height - 2) 0 (omega arith)) (rounded c.size.width c.block_width q)

  pub blocks_most : 0 < c.block_width → blocks_per_band c ≤ c.size.width
  unfolding blocks_per_band
  blocks_most q =
      let w = c.size.width in
      let b = c.block_width in
      by-test (eqb (c.size.height - 2) 0)
      (λ e. rw e (omega arith))
      (λ e. rw e (let z : (w + (b - 1)) / b < suc w = (div-lt_iff_lt-mul q).1 (omega (arith, inner, suc-mul w b)) in omega arith))
    where
      inner : c.size.width + (c.block_width - 1) < c.size.width * c.block_width + c.block_width
      inner = let z : c.size.width * 1 ≤ c.size.width * c.block_width = mul-le-mul_left c.size.width q in omega arith

-- ── The steps ──

module _ (c : Cut) (done steps : List ℕ) (i n : ℕ) (low : i < length steps) (here : get_or steps i 0 ≡ n) where
  split : drop i steps ≡ n ∷ drop (suc i) steps
  split = drop-cons steps i 0 low ∙ ap (λ x. x ∷ drop (suc i) steps) here

  -- A number that is no block's.
  pub no_number : step_count c ≤ n → in_turn c done (drop i steps) ≡ false
  unfolding in_turn ready
  no_number l = rw (split, le-ltb n (step_count c) l)

  -- The code's counters are more than the bands; those of the bands count.
  module _ (k : c.bands ≤ 64) (small : n < step_count c) where
    band_low : step_band c n < c.bands
    band_low = (div-lt_iff_lt-mul (some_block c n small)).1 small

    abbrev next_test : Bool
    next_test = eqb (get_or done (step_band c n) 0) (step_block c n) && (eqb (step_band c n) 0 || ltb (step_block c n) (get_or done (step_band c n - 1) 0))

    ready_is : ready c (take c.bands done) n ≡ next_test
    unfolding ready
    ready_is =
        let l = band_low in
        let p = get_or-take c.bands done (step_band c n) 0 l in
        let q = get_or-take c.bands done (step_band c n - 1) 0 (omega arith) in
        rw (lt-ltb n (step_count c) small, p, q)

    pub not_next : next_test ≡ false → in_turn c (take c.bands done) (drop i steps) ≡ false
    unfolding in_turn
    not_next e = rw (split, ready_is, e)

    pub goes_on : next_test ≡ true
        → in_turn c (take c.bands done) (drop i steps) ≡ in_turn c (take c.bands (set done (step_band c n) (step_block c n + 1))) (drop (i + 1) steps)
    unfolding in_turn after
    goes_on e = rw (split, ready_is, e, take-set-lt c.bands done (step_band c n) (step_block c n + 1) band_low, add-one i, add-one (step_block c n))

pub zeros_taken : (k n : ℕ) → k ≤ n → take {A = ℕ} k (replicate n 0) ≡ replicate k 0
zeros_taken zero n l = refl
zeros_taken (suc k) zero l = absurd (omega arith)
zeros_taken (suc k) (suc n) l = ap (λ x. 0 ∷ x) (zeros_taken k n (omega arith))

-- ── The loop over the steps ──

-- Whether a block is the next of its band, and the band above has done it, by the code's counters.
abbrev pub next_by : List ℕ → ℕ → ℕ → Bool
next_by done band block = eqb (get_or done band 0) block && (eqb band 0 || ltb block (get_or done (band - 1) 0))

module _ (c : Cut) (wide : c.size.width ≤ most_side) (fit : fits c ≡ true) where
  pub some_column : 0 < c.block_width
  some_column = (fitting c fit).some_column

  pub bands_most : c.bands ≤ 64
  unfolding fits
  bands_most =
      let b = c.block_width in
      let most = min 64 (max 1 ((c.size.height - 2) / 2)) in
      let x = both (leb 1 b && eqb (b % 16) 0 && leb 1 c.bands) (leb c.bands most) fit in
      let y = leb-true c.bands most x.1 in
      omega arith

  module _ (blocks : ℕ) (is : blocks ≡ blocks_per_band c) where
    pub few_blocks : blocks ≤ most_side
    few_blocks = omega (arith, blocks_most c some_column)

    pub count_most : c.bands * blocks ≤ 1_048_576
    count_most =
        let x : c.bands * blocks ≤ 64 * blocks = mul-le-mul_right blocks bands_most in
        omega (arith, few_blocks)

    pub some_blocks_left : (n : ℕ) → n < c.bands * blocks → 0 < blocks
    some_blocks_left n l = rw is (some_block c n (rw is at l))

    pub band_most : (n : ℕ) → n < c.bands * blocks → n / blocks < 64
    band_most n l =
        let x : n / blocks < c.bands = (div-lt_iff_lt-mul (some_blocks_left n l)).1 l in
        omega (arith, bands_most)

    pub block_most : (n : ℕ) → n < c.bands * blocks → n % blocks < most_side
    block_most n l = omega (arith, mod-lt n (some_blocks_left n l), few_blocks)

    module _ (steps : List ℕ) where
      pub wrong_length : length steps ≢ c.bands * blocks → false ≡ good c steps
      unfolding good
      wrong_length ne = let ne' : length steps ≢ step_count c = rw is at ne in rw (ne_eqb (length steps) (step_count c) ne')

      -- What is left of the list, by the counters, is in turn just if the whole list is.
      abbrev pub Left_is : List ℕ → ℕ → Type 0
      Left_is done i =
          in_turn c (none_done c) steps ≡ in_turn c (take c.bands done) (drop i steps)

      pub at_first : Left_is (replicate 64 0) 0
      at_first = rw (zeros_taken c.bands 64 bands_most)

      module _ (whole : length steps ≡ c.bands * blocks) where
        good_is : good c steps ≡ in_turn c (none_done c) steps
        unfolding good
        good_is = let e : length steps ≡ step_count c = rw is at whole in rw (eq-eqb (length steps) (step_count c) e)

        pub at_end : (done : List ℕ) (i : ℕ) → length steps ≤ i → Left_is done i → true ≡ good c steps
        unfolding in_turn
        at_end done i l inv = sym (good_is ∙ inv ∙ rw (drop_of_length-le steps l))

        module _ (done : List ℕ) (i : ℕ) (inv : Left_is done i) (low : i < length steps) where
          pub outside : c.bands * blocks ≤ get_or steps i 0 → false ≡ good c steps
          outside l = sym (good_is ∙ inv ∙ no_number c (take c.bands done) steps i (get_or steps i 0) low refl (rw is at l))

          pub not_ready : get_or steps i 0 < c.bands * blocks → next_by done (get_or steps i 0 / blocks) (get_or steps i 0 % blocks) ≡ false
              → false ≡ good c steps
          not_ready l e = sym
              (good_is ∙ inv ∙ not_next c done steps i (get_or steps i 0) low refl bands_most (rw is at l) (rw is at e))

          pub ready_then : get_or steps i 0 < c.bands * blocks → next_by done (get_or steps i 0 / blocks) (get_or steps i 0 % blocks) ≡ true
              → Left_is (set done (get_or steps i 0 / blocks) (get_or steps i 0 % blocks + 1)) (i + 1)
          ready_then l e =
              rw is (inv ∙ goes_on c done steps i (get_or steps i 0) low refl bands_most (rw is at l) (rw is at e))

-- ── 11, then 12 ──

module _ (c : Cut) (steps : List ℕ) where
  pub cut_unfit : fits c ≡ false → 11 ≡ list_refusal c steps
  unfolding list_refusal
  cut_unfit e = rw e

  pub list_bad : fits c ≡ true → good c steps ≡ false → 12 ≡ list_refusal c steps
  unfolding list_refusal
  list_bad e q = rw (e, q)

  pub list_fine : fits c ≡ true → good c steps ≡ true → 0 ≡ list_refusal c steps
  unfolding list_refusal
  list_fine e q = rw (e, q)
