-- The two ways of a step: the bits wait, or the word is full.
use mathlib.Core.Path.{ap, ◌∙◌}
use Prim.Native.Nat.{◌/◌, ◌%◌, ◌^◌, ◌+◌, ◌-◌}
use native.Mathlib.Omega.{arith}
use Rattle.write_bits.proofs.Laws.{put_waits, out_waits, put_full, out_full}
use Rattle.write_bits.proofs.put.Goals as goal

pub returns-then-count-lt32 : goal.returns-then-count-lt32
returns-then-count-lt32 c =
    let a = c.args in
    (put_waits a.p a.n a.x _ (omega arith) (c.low.ensures ∙ ap (λ v. v % 2 ^ 32) c.join-both.ensures), out_waits a.p a.n a.x a.out.now (omega arith))

pub returns : goal.returns
returns c =
    let a = c.args in
    let j = c.join-both.ensures in (
      put_full a.p a.n a.x c.requires.0 c.requires.1 (omega arith) _ (c.low-3.ensures ∙ ap (λ v. v % 2 ^ 32) j),
      out_full a.p a.n a.x c.requires.0 c.requires.1 (omega arith) a.out.now _ _ (c.low-2.ensures ∙ ap (λ v. v / 2 ^ (a.p.count + a.n - 32) % 2 ^ 32) j) c.store.ensures,
    )
