-- Thirteen reads in a row: one law over their results as variables says that they are the header's fields.
use Rattle.std.proofs.Common.{arith}
use Rattle.v2_parse.proofs.HeaderLaws.{got_below, header_is}
use Rattle.v2_parse.proofs.header.read_header.Goals as goal

pub overflow_add-result : goal.overflow_add-result
overflow_add-result c = omega (arith, got_below _ _ _ _ c.get-depth.ensures)

pub overflow_cast-result : goal.overflow_cast-result
overflow_cast-result c = omega (arith, got_below _ _ _ _ c.get-initial.ensures)

pub returns : goal.returns
returns c =
    header_is _ _ _ _ _ _ _ _ _ _ _ _ _ _ _ c.fresh.ensures c.skip-version.ensures c.skip-format.ensures c.get-depth.ensures
    c.skip-ratio.ensures c.skip-width.ensures c.skip-height.ensures c.skip-tile.ensures
    c.skip-reserved.ensures c.get-options.ensures c.skip-overlap.ensures c.skip-increment.ensures c.skip-padding.ensures
    c.get-initial.ensures
