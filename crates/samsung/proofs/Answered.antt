-- Promise P1, for the decoders: a call of an entry point that decodes by the plain rules is answered by done or by one of 1 to 8,
-- and 1 to 4 leave every buffer as it was. What 5 to 8 leave is what the rules say, as for every answer: the blocks before the one
-- at fault, under 8 its row.
use Prim.Native.Nat.{◌≤◌}
use mathlib.Core.Path.{◌≡◌, refl, ap}
use native.Mathlib.Omega.{arith}
use Rattle.rules.specs.Answer.{lengths, refusal, answer}
use Rattle.rules.proofs.Isolation.{Returned}
use Rattle.rules.proofs.Refusals.{answer_most, answer_early, yields_once}
use Rattle.samsung.proofs.EntryLaws.{refused_yields}

pub record Answered (r : Returned) : Type 0 where
  pub most : r.answered.number ≤ 8
  pub kept : 1 ≤ r.answered.number → r.answered.number ≤ 4 → r.left ≡ r.found

pub answered : (r : Returned) → Answered r
answered r =
    record {
      most = rw r.yields.answered (answer_most r.ask (lengths r.found));
      kept = λ o f.
          let number : r.answered.number ≡ (answer r.ask (lengths r.found)).number = ap (λ a. a.number) r.yields.answered in
          let early = answer_early r.ask (lengths r.found) (omega arith) (omega arith) in
          let some_refusal : refusal r.ask (lengths r.found) ≡ 0 → ⊥ = λ z. let e = ap (λ a. a.number) early in omega arith in
          (yields_once r.yields (refused_yields {a = r.ask} {found = r.found} (record { is = refl }) some_refusal refl)).1;
    }
