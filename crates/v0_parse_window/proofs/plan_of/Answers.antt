-- Each length is counted, and each group begins where the one before it ends.
use Rattle.std.proofs.Common.{refl, get_or, pos, rules}
use Rattle.v0_parse_window.proofs.GroupLaws.{counted}
use Rattle.v0_parse_window.proofs.plan_of.Goals as goal

pub returns : goal.returns
returns c =
    record {
      is₀ = counted (get_or c.args.head.lengths 0 (pos 0)) _ (search rules) c.residual_length-n0.ensures;
      is₁ = counted (get_or c.args.head.lengths 1 (pos 0)) _ (search rules) c.residual_length-n1.ensures;
      is₂ = counted (get_or c.args.head.lengths 2 (pos 0)) _ (search rules) c.residual_length-n2.ensures;
      is₃ = counted (get_or c.args.head.lengths 3 (pos 0)) _ (search rules) c.residual_length-n3.ensures;
      second = refl;
      third = refl;
      fourth = refl;
      ends = refl;
    }
