-- Each step's ensures in the order of the rules.
use mathlib.Core.Path.{refl}
use Rattle.v0_phase1.proofs.RowsLaws.{directions_done}
use Rattle.v0_two_phase.proofs.FrameLaws.{samples_done}
use Rattle.v0_two_phase.proofs.frame.decode_frame.Goals as goal

pub returns : goal.returns
returns c =
    let z = c.args.size in
    let rows = c.decode_late_rows.ensures in record {
      samples = samples_done _ _ z _ _ _ _ _ _ c.freed_pairs.ensures refl c.decode_v0_head.ensures rows.samples c.exchange_samples.ensures;
      directions = directions_done _ _ z _ _ rows.directions;
    }
