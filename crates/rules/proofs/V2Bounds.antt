-- The ranges that the V2 rules keep: they say which types hold a decoder's numbers.
use Prim.Native.Nat.{ℕ, zero, suc, ◌+◌, ◌-◌, ◌*◌, ◌/◌, ◌%◌, ◌≤◌, ◌<◌}
use mathlib.Core.Path.{◌≡◌, refl, sym, ap, ◌∙◌}
use mathlib.Core.Bool.{Bool, true, false, cond}
use mathlib.Core.List.{List}
use native.Mathlib.Nat.{mul-le-mul}
use native.Mathlib.Omega.{arith}
use lib.Dec.{eqb, ltb, lit≤, lit<}
use lib.IntN.{ℤ, pos, negsuc, nat_abs, neg_ℤ, sub_ℕ, ◌+ℤ◌, ◌*ℤ◌}
use lib.ListN.{get_or, replicate}
use lib.Pow.{pow_mono, pow_pos}
use lib.Signed.{mag, nat_abs-le}
use borrow.Author.Tests.{ltb-false, eqb-true}
use Rattle.rules.specs.Limits.{most_side}
use Rattle.rules.specs.declared.answer.Size.{Size}
use Rattle.rules.specs.declared.reader.Bits.{Bits}
use Rattle.rules.specs.declared.reader.Got.{Got}
use Rattle.rules.specs.declared.reader.Taken.{Taken}
use Rattle.rules.specs.declared.v2.V2Hdr.{V2Hdr}
use Rattle.rules.specs.declared.v2.V2Row.{V2Row}
use Rattle.rules.specs.V2.{Next}
use Rattle.rules.specs.Reader.{fresh, read, four}
use Rattle.rules.specs.Ranges.{Between, not_above, not_below, ScaleAt, Small, Fits}
use Rattle.rules.specs.V2.{field_widths, header, top, option_2, option_4, scale_steps, rescaled, read_scale, read_motion, Base, given, copied, averaged, repeated, referred, base, motion_averages, refers_before, base_refusal, lengths_bit, Moded, length_step, lengths_from, no_lengths, flagged_lengths, read_lengths, position, Differences, difference_step, differences_from, read_differences, tail, based_tail, Block, read_block, blocks, fresh_row, fresh_mode, aligned, read_row, rows, read_frame, base_cell, average, value, sample_kind}
use Rattle.rules.proofs.Cells.{All, nil, more, all_append, all_get, all_map, all_set, all_replicate}
use Rattle.rules.proofs.ReaderLaws.{read_below, fields_below, read_signed_mag}
use Rattle.rules.proofs.V2Rows.{then_cases, then_rows_cases}
use Rattle.rules.proofs.Tests.{by-test}

-- ── The header ──

-- The depth is 1 to 16.
pub depth_least : (s : List ℕ) → 1 ≤ (header s).value.depth
unfolding header
depth_least s = omega arith

pub depth_most : (s : List ℕ) → (header s).value.depth ≤ 16
unfolding header
depth_most s = omega (arith, fields_below s field_widths (fresh 0) 2)

-- The initial sample is below 2^14.
pub initial_below : (s : List ℕ) → (header s).value.initial < 16_384
unfolding header
initial_below s = omega (arith, fields_below s field_widths (fresh 0) 12)

-- Top fits 16 bits.
pub top_below : (h : V2Hdr) → h.depth ≤ 16 → top h < 65_536
unfolding top
top_below h l = omega (arith, pow_mono l, pow_pos h.depth)

-- ── 1. scale ──

pub between_abs : {lo hi : ℕ} {z : ℤ} → Between lo hi z → lo ≤ hi → nat_abs z ≤ hi
between_abs (not_above n p) l = p
between_abs (not_below n p) l = omega arith

between_wider : {a b c d : ℕ} {z : ℤ} → a ≤ c → b ≤ d → Between a b z → Between c d z
between_wider l m (not_above n p) = not_above n (omega arith)
between_wider l m (not_below n p) = not_below n (omega arith)

between_sub : (m n : ℕ) {lo hi : ℕ} → m ≤ hi → n < lo → Between lo hi (sub_ℕ m (suc n))
between_sub m n p q =
    by-test (ltb m (suc n)) (λ e. rw e (not_below (suc n - suc m) (omega arith))) (λ e. rw e (not_above (m - suc n) (omega arith)))

pub between_add : {x y : ℤ} {a b c d : ℕ} → Between a b x → Between c d y → Between (a + c) (b + d) (x +ℤ y)
between_add (not_above m p) (not_above n q) = not_above (m + n) (omega arith)
between_add (not_above m p) (not_below n q) = between_sub m n (omega arith) (omega arith)
between_add (not_below m p) (not_above n q) = between_sub n m (omega arith) (omega arith)
between_add (not_below m p) (not_below n q) = not_below (suc (m + n)) (omega arith)

-- A row starts with scale 0.
pub scale_starts : ScaleAt 0 (pos 0)
scale_starts = record { range = not_above 0 (omega arith) }

-- What a code adds is −2 to 2.
pub step_between : (code : ℕ) → Between 2 2 (get_or scale_steps code (pos 0))
step_between code = all_get (Between 2 2) (more (not_above 0 (lit≤ tt)) (more (not_below 1 (lit< tt)) (more (not_above 2 (lit≤ tt)) nil))) code (pos 0) (not_above 0 (lit≤ tt))

rescaled_between : (s : List ℕ) {scale : ℤ} (b : Bits) {k : ℕ} → Between k (4_093 + k) scale → Between (k + 2) (4_093 + k + 2) (rescaled s scale b).value
unfolding rescaled
rescaled_between s b p =
    by-test (eqb (read s b 2).value 3)
    (λ e. rw e (not_above (read s (read s b 2).bits 12).value (omega (arith, read_below s (read s b 2).bits 12))))
    (λ e. rw e (between_add p (step_between (read s b 2).value)))

-- A block keeps the range: what is read at a column is what a scale can be before the next block's.
pub scale_read : (s : List ℕ) (h : V2Hdr) {col : ℕ} {scale : ℤ} (b : Bits) → ScaleAt col scale → ScaleAt (col + 16) (read_scale s h col scale b).value
unfolding read_scale
scale_read s h {col} b p = record {
  range = by-test (option_4 h)
      (λ e. rw e (between_wider (omega arith) (omega arith) p.range))
      (λ f. rw f (by-test (eqb (col % 64) 0)
      (λ e. rw e (let m = eqb-true (col % 64) 0 e in between_wider (omega arith) (omega arith) (rescaled_between s b p.range)))
      (λ e. rw e (between_wider (omega arith) (omega arith) p.range))));
}

-- Within the limits a scale lies in −512..4,605.
pub scale_within : {col : ℕ} {scale : ℤ} → ScaleAt col scale → col ≤ most_side → Between 512 4_605 scale
scale_within p l = between_wider (omega arith) (omega arith) p.range

-- ── 2. motion ──

-- A motion is one of 0 to 7.
pub motion_most : (s : List ℕ) (h : V2Hdr) (motion : ℕ) (b : Bits) → motion ≤ 7 → (read_motion s h motion b).value ≤ 7
unfolding read_motion
motion_most s h motion b l =
    by-test (option_2 h)
    (λ f. rw f (by-test (eqb (read s b 1).value 1) (λ e. rw e (lit≤ tt)) (λ e. rw e (lit≤ tt))))
    (λ f. rw f (by-test (eqb (read s b 1).value 0) (λ e. rw e (omega (arith, read_below s (read s b 1).bits 3))) (λ e. rw e l)))

-- ── 4. lengths ──

abbrev pub Most : ℕ → ℕ → Type 0
Most n x = x ≤ n

lengths_from_most : (s : List ℕ) (depth row : ℕ) (flags : List ℕ) (n j : ℕ) (x : Moded) → All (Most (depth + 1)) x.lengths.four
    → (let y = lengths_from s depth row flags n j x in y.lengths.long ≡ false → All (Most (depth + 1)) y.lengths.four)
unfolding lengths_from length_step
lengths_from_most s depth row flags zero j x ps = λ e. ps
lengths_from_most s depth row flags (suc n) j x ps =
    let y = length_step s depth row flags j x in
    go y y.lengths.long refl _ (λ e. all_set (Most (depth + 1)) ps j (ltb-false _ _ e)) (lengths_from_most s depth row flags n (suc j) y)
  where
    go : (y : Moded) (t : Bool) → y.lengths.long ≡ t → (z : Moded) → (y.lengths.long ≡ false → All (Most (depth + 1)) y.lengths.four)
        → (All (Most (depth + 1)) y.lengths.four → z.lengths.long ≡ false → All (Most (depth + 1)) z.lengths.four)
        → (cond t y z).lengths.long ≡ false → All (Most (depth + 1)) (cond t y z).lengths.four
    go y true e z p rest f = p f
    go y false e z p rest f = rest (p e) f

-- Where no length is too long, all four are at most depth + 1, and so at most 17.
pub lengths_most : (s : List ℕ) (h : V2Hdr) (row : ℕ) (mode : List (List ℕ)) (b : Bits)
    → (let y = read_lengths s h row mode b in y.lengths.long ≡ false → All (Most (h.depth + 1)) y.lengths.four)
unfolding read_lengths flagged_lengths
lengths_most s h row mode b =
    by-test (eqb (lengths_bit s h b).value 0)
    (λ e. rw e (lengths_from_most s h.depth row (four s 2 g).value 4 0 (no_lengths mode (four s 2 g).bits) zeros))
    (λ f. rw f (λ e. zeros))
  where
    g : Bits
    g = (lengths_bit s h b).bits

    zeros : All (Most (h.depth + 1)) (replicate 4 0)
    zeros = all_replicate (Most (h.depth + 1)) 4 (omega arith)

pub lengths_small : (s : List ℕ) (h : V2Hdr) (row : ℕ) (mode : List (List ℕ)) (b : Bits) → h.depth ≤ 16
    → (let y = read_lengths s h row mode b in y.lengths.long ≡ false → All (Most 17) y.lengths.four)
lengths_small s h row mode b deep e = all_map (Most (h.depth + 1)) (Most 17) (λ n l. omega arith) (lengths_most s h row mode b e)

-- ── 5. differences ──

differences_from_small : (s : List ℕ) (row : ℕ) (ls : List ℕ) → All (Most 17) ls → (n k : ℕ) (x : Differences) → All Small x.values
    → All Small (differences_from s row ls n k x).values
unfolding differences_from difference_step
differences_from_small s row ls m zero k x ps = ps
differences_from_small s row ls m (suc n) k x ps =
    let l : get_or ls (k / 4) 0 ≤ 17 = all_get (Most 17) m (k / 4) 0 (lit≤ tt) in
    differences_from_small s row ls m n (suc k) (difference_step s row ls k x)
    (all_set Small ps (position row k) (read_signed_mag 16 s x.bits (get_or ls (k / 4) 0) (omega arith)))

pub differences_small : (s : List ℕ) (row : ℕ) (ls : List ℕ) (b : Bits) → All (Most 17) ls → All Small (read_differences s row ls b).values
unfolding read_differences
differences_small s row ls b m = differences_from_small s row ls m 16 0 _ (all_replicate Small 16 (lit< tt))

-- ── A block that goes on ──

module _ (s : List ℕ) (h : V2Hdr) (row col : ℕ) (mode : List (List ℕ)) (b b' : Bits) (st st' : V2Row) where
  tail_next : (tail s h row st mode b).outcome ≡ Next b' st' → (st' ≡ st) × ((read_lengths s h row mode b).lengths.long ≡ false)
  unfolding tail
  tail_next = by-test (read_lengths s h row mode b).lengths.long (λ f. rw f (λ e. (cc, cc))) (λ f. rw f (λ e. (cc, refl)))

  based_next : (based_tail s h row col st mode b).outcome ≡ Next b' st'
      → (base_refusal row col st.motion ≡ 0) × (based_tail s h row col st mode b ≡ tail s h row st mode b)
  unfolding based_tail base_refusal
  based_next =
      by-test (eqb st.motion 7)
      (λ f. rw f (λ e. (refl, refl)))
      (λ e₁. rw e₁ (by-test (ltb row 2)
      (λ f. rw f (λ e. let z : ◌≡◌ {A = ℕ} 0 1 = cc in absurd (omega arith)))
      (λ g. rw g (by-test (refers_before row col st.motion)
      (λ f. rw f (λ e. let z : ◌≡◌ {A = ℕ} 0 1 = cc in absurd (omega arith)))
      (λ f. rw f (λ e. (refl, refl)))))))

module _ (s : List ℕ) (h : V2Hdr) (w row col : ℕ) (b : Bits) (st : V2Row) (mode : List (List ℕ)) (b' : Bits) (st' : V2Row)
    (e : (read_block s h w row col b st mode).outcome ≡ Next b' st') where
  abbrev Scaled : Taken ℤ
  Scaled = read_scale s h col st.scale b

  abbrev Moved : Got
  Moved = read_motion s h st.motion Scaled.bits

  abbrev State : V2Row
  State = record { motion = Moved.value; scale = Scaled.value }

  unrefused : (base_refusal row col Moved.value ≡ 0) × (based_tail s h row col State mode Moved.bits ≡ tail s h row State mode Moved.bits)
  unfolding read_block
  unrefused = based_next s h row col mode Moved.bits b' State st' e

  followed : (st' ≡ State) × ((read_lengths s h row mode Moved.bits).lengths.long ≡ false)
  unfolding read_block
  followed = tail_next s h row col mode Moved.bits b' State st' (sym (ap (λ x. x.outcome) unrefused.1) ∙ e)

  -- It hands its own motion and scale on.
  pub next_state : st' ≡ record { motion = Moved.value; scale = Scaled.value }
  next_state = followed.0

  -- Its base met no refusal.
  pub next_unrefused : base_refusal row col st'.motion ≡ 0
  next_unrefused = rw next_state unrefused.0

  -- Its motion and scale are in their ranges.
  pub next_motion : st.motion ≤ 7 → st'.motion ≤ 7
  next_motion l = rw next_state (motion_most s h st.motion Scaled.bits l)

  pub next_scale : ScaleAt col st.scale → ScaleAt (col + 16) st'.scale
  next_scale p = rw next_state (scale_read s h b p)

  -- Its lengths are at most 17, and its differences at most 65,536 in magnitude.
  pub next_differences : h.depth ≤ 16 → All Small (read_block s h w row col b st mode).block.differences
  unfolding read_block tail
  next_differences deep =
      rw unrefused.1
      (differences_small s row _ _ (lengths_small s h row mode Moved.bits deep followed.1))

-- ── The blocks of a frame ──

-- A number of the stream that is a base is below 65,536.
unfoldable pub Given : Base → Type 0
Given (given v) = v < 65_536
Given (copied p) = Unit {0}
Given (averaged p q) = Unit {0}

given_small : (h : V2Hdr) → h.initial < 65_536 → (w row col motion i : ℕ) → Given (base h w row col motion i)
unfolding Given base repeated referred
given_small h l w row col motion i =
    by-test (eqb motion 7)
    (λ f. rw f (by-test (eqb col 0) (λ e. rw e l) (λ e. rw e tt)))
    (λ f. rw f (by-test (get_or motion_averages motion false) (λ e. rw e tt) (λ e. rw e tt)))

-- What holds of each block of a frame within the limits.
pub record Sound (x : Block) : Type 0 where
  pub scale : Between 512 4_605 x.scale
  pub base : (i : ℕ) → Given (x.base i)
  pub differences : All Small x.differences

module _ (s : List ℕ) (h : V2Hdr) (w : ℕ) (deep : h.depth ≤ 16) (small : h.initial < 65_536) (limit : w ≤ most_side) where
  block_sound : (row col : ℕ) (b : Bits) (st : V2Row) (mode : List (List ℕ)) (b' : Bits) (st' : V2Row)
      → (read_block s h w row col b st mode).outcome ≡ Next b' st' → ScaleAt col st.scale → col + 16 ≤ w → Sound (read_block s h w row col b st mode).block
  unfolding read_block
  block_sound row col b st mode b' st' e p l =
      record {
        scale = scale_within (scale_read s h b p) (omega arith);
        base = given_small h small w row col _;
        differences = next_differences s h w row col b st mode b' st' e deep;
      }

  blocks_sound : (row k col : ℕ) (b : Bits) (st : V2Row) (mode : List (List ℕ)) → ScaleAt col st.scale → col + 16 * k ≤ w
      → All Sound (blocks s h w row k col b st mode).blocks
  unfolding blocks
  blocks_sound row zero col b st mode p l = nil
  blocks_sound row (suc k) col b st mode p l =
      let x = read_block s h w row col b st mode in
      then_cases (λ q. All Sound q.blocks) x.outcome x.block _
      (λ b' st' e. more (block_sound row col b st mode b' st' e p (omega arith))
      (blocks_sound row k (col + 16) b' st' x.mode (next_scale s h w row col b st mode b' st' e p) (omega arith)))
      (λ n b' m o. nil)

  rows_sound : (k row : ℕ) (b : Bits) → All Sound (rows s h w k row b).blocks
  unfolding rows read_row
  rows_sound zero row b = nil
  rows_sound (suc k) row b =
      let q = read_row s h w row b in
      let this : All Sound q.blocks = blocks_sound row (w / 16) 0 (aligned b) fresh_row (fresh_mode row) scale_starts (omega arith) in
      then_rows_cases (λ x. All Sound x.blocks) row q (rows s h w k (suc row) q.bits) (λ e. this) (λ e m. this)
      (λ e m. all_append Sound this (rows_sound k (suc row) q.bits))

-- Each block of a frame of width at most 16,384 has its scale in −512..4,605 and its differences in −65,536..65,535.
pub frame_sound : (s : List ℕ) (z : Size) → z.width ≤ most_side → All Sound (read_frame s z).blocks
unfolding read_frame
frame_sound s z limit =
    let x = header s in
    rows_sound s x.value z.width (depth_most s) (omega (arith, initial_below s)) limit z.height 0 x.bits

-- ── 6. samples ──

abs_sub : (m n : ℕ) → nat_abs (sub_ℕ m (suc n)) ≤ m + suc n
abs_sub m n = by-test (ltb m (suc n)) (λ e. rw e (omega arith)) (λ e. rw e (omega arith))

abs_add : (x y : ℤ) → nat_abs (x +ℤ y) ≤ nat_abs x + nat_abs y
abs_add (pos m) (pos n) = omega arith
abs_add (pos m) (negsuc n) = abs_sub m n
abs_add (negsuc m) (pos n) = omega (arith, abs_sub n m)
abs_add (negsuc m) (negsuc n) = omega arith

abs_neg : (n : ℕ) → nat_abs (neg_ℤ (pos n)) ≡ n
abs_neg zero = refl
abs_neg (suc n) = refl

abs_mul : (x y : ℤ) → nat_abs (x *ℤ y) ≡ nat_abs x * nat_abs y
abs_mul (pos m) (pos n) = refl
abs_mul (pos m) (negsuc n) = abs_neg (m * suc n)
abs_mul (negsuc m) (pos n) = abs_neg (suc m * n)
abs_mul (negsuc m) (negsuc n) = refl

pub mag_abs : (z : ℤ) → mag z ≤ nat_abs z
mag_abs (pos n) = omega arith
mag_abs (negsuc n) = omega arith

pub value_fits : (b : ℕ) (d scale : ℤ) → b < 65_536 → Small d → Between 512 4_605 scale → Fits b d scale
unfolding value
value_fits b d scale base small range =
    let f = pos 2 *ℤ scale +ℤ pos 1 in
    let t : nat_abs (pos 2 *ℤ scale) ≤ 9_210 = omega (arith, abs_mul (pos 2) scale, between_abs range (lit≤ tt)) in
    let o : nat_abs f ≤ 9_211 = omega (arith, abs_add (pos 2 *ℤ scale) (pos 1)) in
    let p : nat_abs (d *ℤ f) ≤ 65_536 * 9_211 = rw (abs_mul d f) (mul-le-mul (nat_abs-le d small) o) in
    let q : nat_abs (pos b +ℤ d *ℤ f) ≤ 65_536 * 9_212 = omega (arith, abs_add (pos b) (d *ℤ f)) in
    let v : nat_abs (pos b +ℤ d *ℤ f +ℤ scale) ≤ 65_536 * 9_213 = omega (arith, abs_add (pos b +ℤ d *ℤ f) scale, between_abs range (lit≤ tt)) in
    record {
      twice = omega (arith, mag_abs (pos 2 *ℤ scale));
      factor = omega (arith, mag_abs f);
      product = omega (arith, mag_abs (d *ℤ f));
      sum = omega (arith, mag_abs (pos b +ℤ d *ℤ f));
      whole = omega (arith, mag_abs (pos b +ℤ d *ℤ f +ℤ scale));
    }

base_below : (t : ℕ) (f : List ℕ) → All (λ v. v < 65_536) f → (x : Base) → Given x → base_cell (sample_kind t) f x < 65_536
unfolding Given base_cell average
base_below t f ps (given v) l = l
base_below t f ps (copied p) l = all_get (λ v. v < 65_536) ps p 0 (lit< tt)
base_below t f ps (averaged p q) l =
    let at = all_get (λ v. v < 65_536) ps in
    omega (arith, at p 0 (lit< tt), at q 0 (lit< tt))

-- Within the limits nothing before the hold leaves 32 signed bits, whatever 16-bit samples a block is decoded over.
pub frame_fits : (s : List ℕ) (z : Size) → z.width ≤ most_side → (t : ℕ) (f : List ℕ) → All (λ v. v < 65_536) f
    → All (λ x. (i : ℕ) → Fits (base_cell (sample_kind t) f (x.base i)) (get_or x.differences i (pos 0)) x.scale) (read_frame s z).blocks
frame_fits s z limit t f ps =
    all_map Sound _
    (λ x sound i. value_fits _ _ _ (base_below t f ps (x.base i) (sound.base i)) (all_get Small sound.differences i (pos 0) (lit< tt)) sound.scale)
    (frame_sound s z limit)
