-- The header from its thirteen reads, and what opens a block, case by case: what a stage before gave is a variable with its
-- equation.
use Rattle.std.proofs.Common.{◌≡◌, ℕ, ◌+◌, ◌%◌, ◌^◌, ◌<◌, min, true, false, cond, not, ◌&&◌, eqb, List, get_or, ℤ, pos, ◌+ℤ◌, arith, lit≤, w32, SFits}
use Rattle.rules.specs.declared.reader.Bits.{Bits}
use Rattle.rules.specs.declared.reader.Got.{Got}
use Rattle.rules.specs.declared.v2.V2Hdr.{V2Hdr}
use Rattle.rules.specs.Reader.{fresh, read}
use Rattle.rules.specs.V2.{header, option_2, option_4, scale_steps, rescaled, read_scale, read_motion}
use Rattle.rules.specs.Ranges.{Between}
use Rattle.rules.proofs.ReaderLaws.{read_below, fields_none, fields_more}
use Rattle.rules.proofs.V2Bounds.{between_abs, between_add, step_between, mag_abs}

-- A value of n bits, as a call gave it.
pub got_below : (s : List ℕ) (b : Bits) (n : ℕ) (g : Got) → g ≡ read s b n → g.value < 2 ^ min n 32
got_below s b n g e = rw e (read_below s b n)

pub header_is : (s : List ℕ) (b b0 b1 : Bits) (d : Got) (b3 b4 b5 b6 b7 : Bits) (o : Got) (b9 b10 b11 : Bits) (i : Got)
    → b ≡ fresh 0 → b0 ≡ (read s b 16).bits → b1 ≡ (read s b0 4).bits → d ≡ read s b1 4
    → b3 ≡ (read s d.bits 8).bits → b4 ≡ (read s b3 16).bits → b5 ≡ (read s b4 16).bits → b6 ≡ (read s b5 16).bits → b7 ≡ (read s b6 4).bits
    → o ≡ read s b7 4 → b9 ≡ (read s o.bits 16).bits → b10 ≡ (read s b9 8).bits → b11 ≡ (read s b10 2).bits → i ≡ read s b11 14
    → record { value = record { depth = d.value + 1; options = o.value; initial = i.value }; bits = i.bits } ≡ header s
unfolding header
header_is s b b0 b1 d b3 b4 b5 b6 b7 o b9 b10 b11 i e e0 e1 ed e3 e4 e5 e6 e7 eo e9 e10 e11 ei =
    simp (fields_more s, fields_none s) rw (← e, ← e0, ← e1, ← ed, ← e3, ← e4, ← e5, ← e6, ← e7, ← eo, ← e9, ← e10, ← e11, ← ei)

-- 1. Scale.
pub step_fits : (scale : ℤ) (code : ℕ) → Between 512 4_605 scale → SFits w32 (scale +ℤ get_or scale_steps code (pos 0))
step_fits scale code p =
    let z = scale +ℤ get_or scale_steps code (pos 0) in
    record { sfits = omega (arith, mag_abs z, between_abs (between_add p (step_between code)) (lit≤ tt)) }

module _ (s : List ℕ) (scale : ℤ) (b : Bits) (code : Got) (e : code ≡ read s b 2) where
  pub rescaled_set : (v : Got) (z : ℤ) → code.value ≡ 3 → v ≡ read s code.bits 12 → z ≡ pos v.value
      → record { value = z; bits = v.bits } ≡ rescaled s scale b
  unfolding rescaled
  rescaled_set v z t ev ez = rw (← e, t, ← ev, ez)

  pub rescaled_step : (z : ℤ) → eqb code.value 3 ≡ false → z ≡ scale +ℤ get_or scale_steps code.value (pos 0)
      → record { value = z; bits = code.bits } ≡ rescaled s scale b
  unfolding rescaled
  rescaled_step z t ez = rw (← e, t, ez)

module _ (s : List ℕ) (h : V2Hdr) (col : ℕ) (scale : ℤ) (b : Bits) where
  pub scale_read : not (option_4 h) && eqb (col % 64) 0 ≡ true → read_scale s h col scale b ≡ rescaled s scale b
  unfolding read_scale
  scale_read t = rw t

  pub scale_kept : not (option_4 h) && eqb (col % 64) 0 ≡ false → read_scale s h col scale b ≡ record { value = scale; bits = b }
  unfolding read_scale
  scale_kept t = rw t

-- 2. Motion.
module _ (s : List ℕ) (h : V2Hdr) (motion : ℕ) (b : Bits) (g : Got) (e : g ≡ read s b 1) where
  pub motion_by_bit : (v : ℕ) → option_2 h ≡ true → v ≡ cond (eqb g.value 1) 3 7
      → record { value = v; bits = g.bits } ≡ read_motion s h motion b
  unfolding read_motion
  motion_by_bit v o ev = rw (← e, o, ev)

  pub motion_read : option_2 h ≡ false → g.value ≡ 0 → read_motion s h motion b ≡ read s g.bits 3
  unfolding read_motion
  motion_read o t = rw (← e, o, t)

  pub motion_kept : option_2 h ≡ false → eqb g.value 0 ≡ false → read_motion s h motion b ≡ record { value = motion; bits = g.bits }
  unfolding read_motion
  motion_kept o t = rw (← e, o, t)
