-- Neither cast loses a bit: the greater of the value and 0 fits, and is not below 0.
use Rattle.std.proofs.Common.{w32}
use mir.ValLaws.{to_z-of_z}
use Rattle.v2_cells.proofs.SampleLaws.{hold_is}
use Rattle.v2_cells.proofs.samples.held.Goals as goal

pub returns : goal.returns
returns c =
    let v = c.args.v in
    let most = rw (to_z-of_z w32 v c.ranges.v) at c.max.ensures.value in
    let least = rw (to_z-of_z w32 c.max.result (record { sfits = c.max.type_inv })) at c.min.ensures in
    rw (least, most) (hold_is c.args.top v)
