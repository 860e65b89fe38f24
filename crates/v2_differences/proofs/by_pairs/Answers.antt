use Rattle.std.proofs.Common.{◌≡◌, ◌+◌, ◌*◌, sym, ◌∙◌, arith, w32, rules}
use mir.ValLaws.{to_z-of_z}
use Rattle.v2_differences.proofs.DifferenceLaws.{difference_end}
use Rattle.v2_differences.proofs.PairLaws.{pair_more}
use Rattle.v2_differences.proofs.PositionLaws.{position_at}
use Rattle.v2_differences.proofs.by_pairs.Goals as goal

pub loop-half-preserved : goal.loop-half-preserved
loop-half-preserved c =
    let l = c.loop-half in
    let x = c.read_pair-pair.result in
    let k = 2 * l.half in
    let next : 2 * (l.half + 1) ≡ k + 2 = omega arith in
    λ row e. simp (to_z-of_z w32 x.value.0 (search rules), to_z-of_z w32 x.value.1 (search rules), next)
    (l.invariant row e ∙ pair_more _ row _ k _ _ x _ _ (omega arith) (omega arith) c.read_pair-pair.ensures (c.entry.ensures.0 ∙ (position_at row _ _ e (omega arith)).0) (c.entry-in-loop-half.ensures.0 ∙ (position_at row _ _ e (omega arith)).0))

pub returns : goal.returns
returns c = λ row e. sym (c.loop-half.invariant row e ∙ difference_end _ _ _ (2 * c.loop-half.half) _ (omega arith))
