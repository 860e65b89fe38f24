-- A packed head is the head that the rules read, where its bits are those of a window.
use Rattle.std.proofs.Common.{◌≡◌, ℕ, zero, suc, ◌+◌, ◌<◌, ◌≤◌, ltb, List, [], ◌∷◌, get_or, ℤ, pos, sym, refl, ap, subst, arith, w32, SFits}
use lib.IntN.{sub_ℕ}
use lib.Signed.{mag}
use mir.ValLaws.{to_z-of_z}
use Rattle.rules.proofs.Tests.{by-test}
use Rattle.v0_parse.specs.Lengths.{Within, furthest}
use Rattle.v0_parse_window.specs.ByWindow.{Room, Ahead, length_in, HeadAt, residuals_ahead}
use Rattle.v0_parse_window.proofs.WindowHeadLaws.{head_made}
use Rattle.read_window.specs.Window.{Window}
use Rattle.v0_lanes.specs.Blocks.{head_after, head_before}
use Rattle.v0_lanes.specs.Lengths.{byte0, byte1, byte2, byte3, Packed, lengths_of, lengths_after, block_end, left1, left2, left3, left4, HeadOf}
use Rattle.v0_lanes.specs.declared.lengths.PackedHead.{PackedHead}
use Rattle.v0_lanes.proofs.LengthLaws.{stepped_byte}

-- ── Lengths fit 32 signed bits ──

small_fits : (n : ℕ) → n < 16 → SFits w32 (pos n)
small_fits n h = record { sfits = omega arith }

difference_fits : (u : ℕ) → u ≤ 144 → SFits w32 (sub_ℕ u 128)
difference_fits u h =
    by-test (ltb u 128)
    (λ t. record { sfits = rw t (omega arith) })
    (λ t. record { sfits = rw t (omega arith) })

after_fits : (v at left l : ℕ) → l < 16 → SFits w32 (length_in v at left (pos l)).length
after_fits v at left l h = let s = stepped_byte v at left l h in rw s.is at (difference_fits _ s.high)

packed_within : (l : ℕ) → Packed l → Within furthest (lengths_of l)
unfolding lengths_of
packed_within l p = record { each = go }
  where
    go : (j : ℕ) → mag (get_or (pos (byte0 l) ∷ pos (byte1 l) ∷ pos (byte2 l) ∷ pos (byte3 l) ∷ []) j (pos 0)) ≤ furthest
    go zero = omega (arith, p.first)
    go (suc zero) = omega (arith, p.second)
    go (suc (suc zero)) = omega (arith, p.third)
    go (suc (suc (suc zero))) = omega (arith, p.fourth)
    go (suc (suc (suc (suc j)))) = omega arith

-- ── The head ──

pub head_made_at : (s : List ℕ) (base q v l : ℕ) (h : PackedHead) → Room s base q → Window s base q v → Packed l → HeadOf v l h
    → HeadAt s base q (lengths_of l) (record { up = h.up; lengths = lengths_after h.sums; q = q + h.size })
unfolding lengths_of left1 left2 left3 left4
head_made_at s base q v l h room w p hd =
    let a = to_z-of_z w32 (pos (byte0 l)) (small_fits (byte0 l) p.first) in
    let b = to_z-of_z w32 (pos (byte1 l)) (small_fits (byte1 l) p.second) in
    let c = to_z-of_z w32 (pos (byte2 l)) (small_fits (byte2 l) p.third) in
    let d = to_z-of_z w32 (pos (byte3 l)) (small_fits (byte3 l) p.fourth) in
    rw (hd.lengths_are, hd.size_is)
    (rw (
      to_z-of_z w32 _ (after_fits v 61 55 (byte0 l) p.first),
      to_z-of_z w32 _ (after_fits v 59 (left1 v l) (byte1 l) p.second),
      to_z-of_z w32 _ (after_fits v 57 (left2 v l) (byte2 l) p.third),
      to_z-of_z w32 _ (after_fits v 55 (left3 v l) (byte3 l) p.fourth),
    ) at (head_made s base q v room w (lengths_of l) h.up _ _ _ _ refl (packed_within l p) hd.up_is
    (ap (length_in v 61 55) (sym a)) (ap (length_in v 59 (left1 v l)) (sym b)) (ap (length_in v 57 (left2 v l)) (sym c)) (ap (length_in v 55 (left3 v l)) (sym d))))

-- The same head by its lengths packed again, if all are 0 to 15.
pub head_packed : {s : List ℕ} {base q : ℕ} {ls : List ℤ} (h : PackedHead) (l' : ℕ) → lengths_of l' ≡ lengths_after h.sums → HeadAt s base q ls (head_after q h)
    → HeadAt s base q ls (head_before h.up (q + h.size) l')
head_packed {s} {base} {q} {ls = ls} h l' e x =
    subst (λ after. HeadAt s base q ls (record { up = h.up; lengths = after; q = q + h.size })) (sym e) x

-- After a block that has room the next head's window has some, too.
pub room_after : {s : List ℕ} {base q l : ℕ} → Ahead s base q residuals_ahead → Packed l → Room s base (block_end q l)
room_after a p =
    let x = p.first in let y = p.second in let w = p.third in let v = p.fourth in
    record { some = omega arith; soon = omega arith; there = omega arith; far = omega arith }
