-- Each length is counted, and a short one is its count.
use Rattle.std.proofs.Common.{get_or, pos, rules}
use Rattle.v0_parse_window.proofs.GroupLaws.{counted}
use Rattle.v0_lanes.proofs.LengthLaws.{packed_are}
use Rattle.v0_lanes.proofs.lengths.packed.Goals as goal

pub returns : goal.returns
returns c =
    (packed_are _ _ _ _ _ (search rules) c.requires
    (counted (get_or c.args.lengths 0 (pos 0)) _ (search rules) c.residual_length.ensures) (counted (get_or c.args.lengths 1 (pos 0)) _ (search rules) c.residual_length-2.ensures)
    (counted (get_or c.args.lengths 2 (pos 0)) _ (search rules) c.residual_length-3.ensures) (counted (get_or c.args.lengths 3 (pos 0)) _ (search rules) c.residual_length-4.ensures)).1
