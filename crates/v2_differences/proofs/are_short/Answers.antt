-- All of four are short where each is.
use Rattle.std.proofs.Common.{◌∙◌, nat_le, rules, tests}
use Rattle.std.proofs.lemmas.Iterator.{YieldsList-from_slice}
use Rattle.std.proofs.lemmas.Iterator.Search.{all_from_yields_List}
use Rattle.v2_differences.proofs.FourLaws.{short_all}
use Rattle.v2_differences.proofs.are_short.Goals as goal

pub returns : goal.returns
returns c =
    let all = all_from_yields_List (λ n. nat_le n 16) _ _ c.all.result c.all.ensures.ran (YieldsList-from_slice c.args.lengths cc) (λ x b q k. search (rules, tests)) in
    all ∙ short_all c.args.lengths (search rules)
