-- The four lengths of a block in one number, a byte each, the first lowest, and what a head's operations make of all four at once. After
-- a head each byte is 128 more than its length, which may be -1 or 16.
use Rattle.std.specs.Prelude.{◌≡◌, ℕ, ◌+◌, ◌-◌, ◌*◌, ◌/◌, ◌%◌, ◌^◌, ◌<◌, cond, List, [], ◌∷◌, ℤ, pos, ◌==◌}
use Rattle.std.proofs.Math.IntN.{sub_ℕ}
use Rattle.v0_parse_window.specs.ByWindow.{length_in}
use Rattle.v0_lanes.specs.Lanes.{lanes}
use Rattle.v0_lanes.specs.declared.lengths.PackedHead.{PackedHead}

-- ── Four lengths in a number ──

abbrev pub byte0 : ℕ → ℕ
byte0 u = u % 256

abbrev pub byte1 : ℕ → ℕ
byte1 u = u / 256 % 256

abbrev pub byte2 : ℕ → ℕ
byte2 u = u / 65_536 % 256

abbrev pub byte3 : ℕ → ℕ
byte3 u = u / 16_777_216

-- Four lengths of 0 to 15.
pub record Packed (l : ℕ) : Type 0 where
  pub first : byte0 l < 16
  pub second : byte1 l < 16
  pub third : byte2 l < 16
  pub fourth : byte3 l < 16

unfoldable pub lengths_of : ℕ → List ℤ
lengths_of l = pos (byte0 l) ∷ pos (byte1 l) ∷ pos (byte2 l) ∷ pos (byte3 l) ∷ []

-- The bit after a block whose residuals begin at bit q.
abbrev pub block_end : ℕ → ℕ → ℕ
block_end q l = q + 4 * byte0 l + 4 * byte1 l + 4 * byte2 l + 4 * byte3 l

-- Four lengths after a head.
unfoldable pub lengths_after : ℕ → List ℤ
lengths_after u = sub_ℕ (byte0 u) 128 ∷ sub_ℕ (byte1 u) 128 ∷ sub_ℕ (byte2 u) 128 ∷ sub_ℕ (byte3 u) 128 ∷ []

-- ── One operation ──

-- The bits of a length that an operation keeps.
unfoldable pub keep : ℕ → ℕ
keep op = cond (op == 3) 0 255

-- What it adds, 128 more.
unfoldable pub step : ℕ → ℕ
step op = cond (op == 3) 128 (128 + op % 2 - op / 2)

-- How many lengths it reads.
abbrev pub reads : ℕ → ℕ
reads op = (op + 1) / 4

-- How far the four bits that it reads, after r others, lie above byte j, where there are 55 bits; where it reads none, further than these.
unfoldable pub shift : ℕ → ℕ → ℕ → ℕ
shift op r j = cond (op == 3) (51 - 4 * r - 8 * j) 63

-- ── Four operations ──

-- What the head of four operations o does, four numbers for each: what it keeps, what it adds, where the lengths that it reads lie, and
-- how many bits it has.
unfoldable pub action : ℕ → ℕ → ℕ
action o k =
    let a = o / 64 in let b = o / 16 % 4 in let c = o / 4 % 4 in let d = o % 4 in
    cond (k == 0) (lanes 8 (keep d) (keep c) (keep b) (keep a))
    (cond (k == 1) (lanes 8 (step d) (step c) (step b) (step a))
    (cond (k == 2) (lanes 8 (shift d (reads a + reads b + reads c) 3) (shift c (reads a + reads b) 2) (shift b (reads a) 1) (shift a 0 0))
    (9 + 4 * (reads a + reads b + reads c + reads d))))

abbrev pub actions : ℕ → ℕ
actions i = action (i / 4) (i % 4)

-- ── The head ──

-- How many of the 64 bits v are left after each operation of a head, which may read a length.
unfoldable pub left1 : ℕ → ℕ → ℕ
left1 v l = (length_in v 61 55 (pos (byte0 l))).left

unfoldable pub left2 : ℕ → ℕ → ℕ
left2 v l = (length_in v 59 (left1 v l) (pos (byte1 l))).left

unfoldable pub left3 : ℕ → ℕ → ℕ
left3 v l = (length_in v 57 (left2 v l) (pos (byte2 l))).left

unfoldable pub left4 : ℕ → ℕ → ℕ
left4 v l = (length_in v 55 (left3 v l) (pos (byte3 l))).left

-- A head out of the bits v: its direction, what each operation makes of its length, one after another, and how many bits it has.
pub record HeadOf (v l : ℕ) (h : PackedHead) : Type 0 where
  pub up_is : h.up ≡ (v / 2 ^ 63 % 2 == 1)
  pub lengths_are : lengths_after h.sums
      ≡ (length_in v 61 55 (pos (byte0 l))).length
      ∷ (length_in v 59 (left1 v l) (pos (byte1 l))).length
      ∷ (length_in v 57 (left2 v l) (pos (byte2 l))).length
      ∷ (length_in v 55 (left3 v l) (pos (byte3 l))).length
      ∷ []
  pub size_is : h.size ≡ 64 - left4 v l
