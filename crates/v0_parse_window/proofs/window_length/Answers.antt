-- Operation 3 alone makes the flag 1, which picks the four bits read.
use Rattle.std.proofs.Common.{ap, ◌∙◌, arith, w32}
use lib.Signed.{mag}
use mir.ValLaws.{to_z-of_z}
use mir.Facts.{to_z_pos}
use Rattle.v0_parse.specs.Lengths.{stepped, furthest}
use Rattle.v0_parse.proofs.HeadLaws.{stepped_near}
use Rattle.v0_parse_window.proofs.WindowHeadLaws.{length_made}
use Rattle.v0_parse_window.proofs.window_length.Goals as goal

pub chosen-requires : goal.chosen-requires
chosen-requires c = let step = c.step in
    let is = step.ensures ∙ ap (stepped _) (to_z-of_z w32 c.args.length c.ranges.length) in
    let near = stepped_near c.field-op.result c.args.length {n = furthest} c.requires.1.1.1 in
    (omega arith, (omega (arith, ap mag (to_z-of_z w32 step.result (record { sfits = step.type_inv })), ap mag is, near), omega (arith, ap mag (to_z_pos w32 {n = c.field.result} (omega arith)))))

pub returns : goal.returns
returns c = let step_is = c.step.ensures ∙ ap (stepped _) (to_z-of_z w32 c.args.length c.ranges.length) in
    length_made c.args.v c.args.at c.args.left _ c.args.length _ _ _ c.field-op.ensures step_is c.requires.1.1.1 c.field.ensures c.chosen.ensures c.requires.1.0
