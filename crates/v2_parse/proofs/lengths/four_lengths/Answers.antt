use Rattle.std.proofs.Common.{sym, refl, ◌∙◌}
use Rattle.v2_parse.proofs.LengthLaws.{length_goes_on, length_too_long, lengths_end, flagged_are, flag_below}
use Rattle.v2_parse.proofs.lengths.four_lengths.Goals as goal

pub loop-j-init : goal.loop-j-init
loop-j-init c = refl

pub next_length-length-requires : goal.next_length-length-requires
next_length-length-requires c = flag_below _ _ _ _ c.read_flags-flags.ensures

pub returns-then-depth-length : goal.returns-then-depth-length
returns-then-depth-length c =
    sym (flagged_are _ _ _ _ _ _ c.read_flags-flags.ensures ∙ c.loop-j.invariant
    ∙ length_too_long _ _ _ _ _ c.loop-j-test.true _ _ _ _ c.colour_of-colour.ensures.answered _ c.next_length-length.ensures c.if-depth-length.true)

pub loop-j-preserved : goal.loop-j-preserved
loop-j-preserved c =
    c.loop-j.invariant ∙ length_goes_on _ _ _ _ _ c.loop-j-test.true _ _ _ _ c.colour_of-colour.ensures.answered _ c.next_length-length.ensures c.if-depth-length.false

pub returns : goal.returns
returns c =
    sym (flagged_are _ _ _ _ _ _ c.read_flags-flags.ensures ∙ c.loop-j.invariant ∙ lengths_end _ _ _ _ _ _ c.loop-j-test.false)
