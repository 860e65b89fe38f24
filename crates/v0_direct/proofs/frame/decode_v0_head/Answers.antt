use mathlib.Core.Logic.{inr}
use mathlib.Core.Path.{refl, ◌∙◌}
use native.Mathlib.Omega.{arith}
use Rattle.rules.specs.V0.{sample_kind}
use Rattle.v0_direct.proofs.FrameLaws.{first_begun, first_on, first_all}
use Rattle.v0_direct.proofs.frame.decode_v0_head.Goals as goal

pub loop-row-init : goal.loop-row-init
loop-row-init c = first_begun sample_kind _ _ c.args.size _

pub decode_early_row-requires : goal.decode_early_row-requires
decode_early_row-requires c =
    let lent = c.requires in
    record {
      width = lent.width;
      height = lent.height;
      row_in = omega arith;
      samples_lent = c.loop-row.invariant.same_length ∙ lent.samples_lent;
      map_lent = inr refl;
    }

pub loop-row-preserved : goal.loop-row-preserved
loop-row-preserved c = first_on sample_kind _ _ c.args.size _ _ _ c.loop-row.row (omega arith) c.decode_early_row.ensures c.loop-row.invariant

pub returns : goal.returns
returns c = first_all sample_kind _ _ c.args.size _ _ c.loop-row.row (omega arith) c.loop-row.invariant
