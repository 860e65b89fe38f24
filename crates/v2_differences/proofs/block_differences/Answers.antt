-- Either way is the rule; the windows are taken where what they ask for is tested.
use Rattle.std.proofs.Common.{sym, ◌∙◌}
use Rattle.v2_differences.proofs.FourLaws.{short_is}
use Rattle.v2_differences.proofs.block_differences.Goals as goal

pub by_windows-requires : goal.by_windows-requires
by_windows-requires c = (c.stands_within.ensures.stands c.if-stands_within.true, short_is _ (sym c.are_short.ensures ∙ c.if-are_short.true))
