-- The tests are the conditions.
use borrow.Author.Rules.{rules}
use borrow.Author.Tests.{ltb-true}
use mathlib.Core.Path.{◌≡◌}
use mathlib.Core.Bool.{true, false}
use Prim.Native.Nat.{ℕ}
use native.Mathlib.Omega.{arith}
use Rattle.v0_parse.proofs.block.is_past.Goals as goal

pub returns-then-bits-ne-FILLER : goal.returns-then-bits-ne-FILLER
returns-then-bits-ne-FILLER c = λ (e : false ≡ true). let z : ◌≡◌ {A = ℕ} 0 1 = cc in absurd (omega arith)

pub returns-then-bits-gt31 : goal.returns-then-bits-gt31
returns-then-bits-gt31 c = λ (e : false ≡ true). let z : ◌≡◌ {A = ℕ} 0 1 = cc in absurd (omega arith)

pub returns-then-bits-src : goal.returns-then-bits-src
returns-then-bits-src c = λ (e : false ≡ true). let z : ◌≡◌ {A = ℕ} 0 1 = cc in absurd (omega arith)

pub returns : goal.returns
returns c =
    λ e. let far = ltb-true c.args.bits.pos 1_000_000_000_000_000_000 e in
    record { ones = search rules; few = omega arith; past = omega arith; far = omega arith; held = omega arith }
