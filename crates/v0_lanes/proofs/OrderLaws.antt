-- A block's residuals, from where their lanes came to their own columns: what phase one stores, and before the next block's or after them.
use Rattle.std.proofs.Common.{◌≡◌, ℕ, ◌+◌, ◌<◌, ◌≤◌, ltb, ◌≢◌, List, [], ◌∷◌, map, length, get_or, set, refl, ap, ◌∙◌, subst, arith, length-set, get_or-set_other, get_or-set_same, lt-ltb}
use native.Mathlib.Decide.{ℕ_discrete}
use Rattle.rules.specs.V0.{order, sample_kind}
use Rattle.rules.specs.Phases.{store_samples}
use Rattle.rules.proofs.Cells.{All, nil, more}
use Rattle.rules.proofs.Order.{all_order, order_whole}
use Rattle.rules.proofs.Tests.{by-test}
use Rattle.v0_cells.specs.Inner.{Replaced}
use Rattle.v0_cells.proofs.StagedLaws.{replaced_same}
use Rattle.v0_lanes.specs.Blocks.{stored, listed, lane_of, Columns, order_lanes}
use Rattle.v0_lanes.proofs.StoredLaws.{stored_length, stored_before, stored_outside, read_back, replaced_past}

-- ── Residuals stored one by one ──

module _ (w col : ℕ) (d : ℕ → ℕ) where
  same_length : (cs f : List ℕ) → length (store_samples 0 w col cs (map d cs) f) ≡ length f
  unfolding store_samples
  same_length [] f = refl
  same_length (c ∷ cs) f = same_length cs _ ∙ by-test (ltb (col + c) w) (λ t. rw t (length-set f (0 + col + c) (d c))) (λ t. rw t)

  outside : (i : ℕ) {cs : List ℕ} → All (λ c. i ≢ col + c) cs → (f : List ℕ) → get_or (store_samples 0 w col cs (map d cs) f) i 0 ≡ get_or f i 0
  unfolding store_samples
  outside i nil f = refl
  outside i (more {a = c} q qs) f =
      outside i qs _ ∙ by-test (ltb (col + c) w) (λ t. rw t (get_or-set_other f (0 + col + c) i (d c) 0 (λ e. q (omega arith)))) (λ t. rw t)

  -- A cell holds its own residual once no other is left that is stored there.
  inside : col + 16 ≤ w → (c : ℕ) {bs : List ℕ} → All (λ b. b < 16) bs → (f : List ℕ) → col + 16 ≤ length f
      → (All (λ b. b ≢ c) bs → get_or f (col + c) 0 ≡ d c) → get_or (store_samples 0 w col bs (map d bs) f) (col + c) 0 ≡ d c
  unfolding store_samples
  inside wide c nil f room r = r nil
  inside wide c (more {a = b} {xs = bs} h hs) f room r =
      let first : 0 + col + b ≡ col + b = omega arith in
      rw (lt-ltb (col + b) w (omega arith), first)
      (inside wide c hs (set f (col + b) (d b)) (omega (arith, length-set f (col + b) (d b))) (λ none. at (ℕ_discrete b c) none))
    where
      at : Dec (b ≡ c) → All (λ b. b ≢ c) bs → get_or (set f (col + b) (d b)) (col + c) 0 ≡ d c
      at (yes e) none = subst (λ x. get_or (set f (col + b) (d b)) (col + x) 0 ≡ d x) e (get_or-set_same f (col + b) (d b) 0 (omega arith))
      at (no q) none = get_or-set_other f (col + b) (col + c) (d b) 0 (λ e. q (omega arith)) ∙ r (more q none)

  -- They replace the cells of a block within its row, and no others.
  pub samples_replace : (f : List ℕ) → col + 16 ≤ w → col + 16 ≤ length f → Replaced sample_kind col 16 d f (store_samples 0 w col order (map d order) f)
  samples_replace f wide room =
      record {
        same_length = same_length order f;
        inside = λ c l. inside wide c (all_order (λ b. b < 16) (λ b h. h)) f room (λ none. absurd (order_whole c l none));
        outside = λ j h. outside j (all_order (λ c. j ≢ col + c) h) f;
      }

-- ── A block put in order ──

module _ (base : ℕ) (f : List ℕ) where
  -- The residual of sample c.
  abbrev lane : ℕ → ℕ
  lane c = get_or f (base + lane_of c) 0

  pub order_replace : base + 16 ≤ length f → Replaced sample_kind base 16 lane f (order_lanes base f)
  unfolding order_lanes
  order_replace room = samples_replace (base + 16) base lane f (omega arith) room

  -- Values that are the block's lanes, stored.
  pub ordered : {d g : List ℕ} → base + 16 ≤ length f → Columns f base 16 d → Replaced sample_kind base 16 (λ c. get_or d c 0) f g → g ≡ order_lanes base f
  ordered room m r =
      replaced_same 16 _ _ (record { same_length = r.same_length; inside = λ c l. r.inside c l ∙ m.each c l; outside = r.outside }) (order_replace room)

  pub order_length : base + 16 ≤ length f → length (order_lanes base f) ≡ length f
  order_length room = (order_replace room).same_length

-- A block that was stored as its lanes came is what phase one stores.
pub order_stored : (w base : ℕ) (f r : List ℕ) → base + 16 ≤ w → base + 16 ≤ length f
    → order_lanes base (stored f base r) ≡ store_samples 0 w base order (listed r) f
order_stored w base f r wide room =
    replaced_same 16 _ _
    (record { same_length = x.same_length ∙ stored_length f base r room; inside = x.inside; outside = λ j h. x.outside j h ∙ stored_outside f base r room j h })
    (samples_replace w base (lane base (stored f base r)) f wide room)
    ∙ ap (λ rs. store_samples 0 w base order rs f) (read_back f base r room)
  where
    x : Replaced sample_kind base 16 (lane base (stored f base r)) (stored f base r) (order_lanes base (stored f base r))
    x = order_replace base (stored f base r) (omega (arith, stored_length f base r room))

-- It is put in order alike before and after the next block is stored.
pub order_past : (base at : ℕ) (f r : List ℕ) → at ≡ base + 16 → at + 16 ≤ length f → order_lanes base (stored f at r) ≡ stored (order_lanes base f) at r
order_past base at f r ea room =
    replaced_past at f r _ _ ea room (order_replace base f (omega arith)) (order_replace base (stored f at r) (omega (arith, stored_length f at r room)))
    (λ c l. stored_before f at r room (base + lane_of c) (omega arith))
