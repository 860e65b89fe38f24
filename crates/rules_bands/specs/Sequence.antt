-- The good lists of steps (docs/RULES.md, "V0 in bands") said without counters: the steps before tell which blocks are done.
use Rattle.std.specs.Prelude.{ℕ, ◌-◌, ◌<◌, ◌≢◌, List, [], ◌∷◌}
use Rattle.rules_bands.specs.declared.Cut.{Cut}
use Rattle.rules_bands.specs.Bands.{blocks_per_band, step_count, step_band, step_block}

-- A number is among those of a list.
pub data Among (n : ℕ) : List ℕ → Type 0 where
  here : {ms : List ℕ} → Among n (n ∷ ms)
  later : {m : ℕ} {ms : List ℕ} → Among n ms → Among n (m ∷ ms)

-- A number is in a list just once.
pub data Once (n : ℕ) : List ℕ → Type 0 where
  now : {ms : List ℕ} → (Among n ms → ⊥) → Once n (n ∷ ms)
  after : {m : ℕ} {ms : List ℕ} → m ≢ n → Once n ms → Once n (m ∷ ms)

-- After the steps `before` a step is ready if it is a block's number, isn't done, and the block to its left and the same block of
-- the band above are, where there are such.
pub record Ready (c : Cut) (before : List ℕ) (n : ℕ) : Type 0 where
  pub number : n < step_count c
  pub not_done : Among n before → ⊥
  pub left : step_block c n ≢ 0 → Among (n - 1) before
  pub above : step_band c n ≢ 0 → Among (n - blocks_per_band c) before

-- Each step of a list is ready when it comes, after the steps `before`.
pub data AllReady (c : Cut) : List ℕ → List ℕ → Type 0 where
  end : {before : List ℕ} → AllReady c before []
  next : {before : List ℕ} {n : ℕ} {ns : List ℕ} → Ready c before n → AllReady c (n ∷ before) ns → AllReady c before (n ∷ ns)

-- A list that does each block once, always ready.
pub record Does (c : Cut) (steps : List ℕ) : Type 0 where
  pub once : (n : ℕ) → n < step_count c → Once n steps
  pub all_ready : AllReady c [] steps
