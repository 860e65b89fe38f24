-- All of four are short where each is.
use Rattle.std.proofs.Common.{◌∙◌, rules, tests}
use Rattle.std.proofs.lemmas.Iterator.{YieldsList-from_slice}
use Rattle.std.proofs.lemmas.Iterator.Search.{all_from_yields_List}
use Rattle.v0_parse_window.specs.ByWindow.{short_length}
use Rattle.v0_parse_window.proofs.GroupLaws.{short_all}
use Rattle.v0_parse_window.proofs.are_short.Goals as goal

pub returns : goal.returns
returns c =
    let all = all_from_yields_List short_length _ _ c.all.result c.all.ensures.ran (YieldsList-from_slice c.args.lengths cc) (λ x b q k. search (rules, tests)) in
    all ∙ short_all c.args.lengths (search rules)
