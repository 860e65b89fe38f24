-- The residuals are stored over the two finished rows.
use mathlib.Core.Path.{refl, ap, ◌∙◌}
use mathlib.Core.Logic.{inr}
use Rattle.rules.specs.Phases.{phase_one}
use Rattle.v0_bands.proofs.store_rows.Goals as goal

pub decode_v0_head-requires : goal.decode_v0_head-requires
decode_v0_head-requires c =
    let p = c.requires in
    record { width = p.0.frame.width; height = p.0.frame.height; offsets_enough = p.1; samples_lent = p.0.frame.lent; map_lent = inr refl }

pub returns : goal.returns
returns c =
    let phase = c.parse_rows.ensures in
    record {
      samples = phase.residuals ∙ ap (phase_one _ _ _ _ _) c.decode_v0_head.ensures;
      directions = phase.directions;
    }
