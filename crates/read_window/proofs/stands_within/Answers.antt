-- The state stands, and is counted from two words before.
use mathlib.Core.Bool.{true, false}
use mathlib.Core.Path.{◌≡◌, sym, ◌∙◌}
use Prim.Native.Nat.{ℕ, ◌≤◌}
use native.Mathlib.Omega.{arith}
use Rattle.read_window.proofs.WindowLaws.{stands_is, stands_back, standing_early, standing_late}
use Rattle.read_window.proofs.stands_within.Goals as goal

pub returns-then-bits-lt12 : goal.returns-then-bits-lt12
returns-then-bits-lt12 c =
    record {
      answered = standing_early _ _ _ c.if-bits-lt12.true;
      stands = λ (e : false ≡ true). let z : ◌≡◌ {A = ℕ} 0 1 = cc in absurd (omega arith);
    }

pub returns : goal.returns
returns c =
    let late : 12 ≤ c.args.bits.pos = omega arith in record {
      answered = c.stands.ensures ∙ standing_late _ _ _ late;
      stands = λ e.
          let x = stands_is c.args.src.now c.args.bits c.args.more (sym c.stands.ensures ∙ e) in
          let there = x.there in
          record { fetched = late; few = x.few; there = omega arith; far = omega arith; is = stands_back c.args.src.now c.args.bits c.args.more x late };
    }
