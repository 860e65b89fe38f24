-- The table has what each step asks for, and the steps together make the lanes.
use Rattle.v0_lanes.proofs.LaneLaws.{Halves, halves, fields_below, residual_lanes_made}
use Rattle.v0_lanes.proofs.TableLaws.{Shaped, shaped}
use Rattle.v0_lanes.proofs.residuals.four_lanes.Goals as goal

pub halved-y-requires : goal.halved-y-requires
halved-y-requires c = let t : Shaped c.args.t.now c.args.n = shaped c.args.t.now c.args.n c.requires.1 c.requires.0 in (c.requires.0, (t.whole, t.far))

pub quartered-z-requires : goal.quartered-z-requires
quartered-z-requires c = let t : Shaped c.args.t.now c.args.n = shaped c.args.t.now c.args.n c.requires.1 c.requires.0 in let h : Halves c.args.d c.args.n c.halved-y.result = halves c.args.d c.args.n _ c.requires.0 c.halved-y.ensures in record {
  n_bound = (c.requires.0, (h.high_fits, h.low_fits));
  mask_value = (t.mask, t.near);
}

pub with_signs-requires : goal.with_signs-requires
with_signs-requires c =
    let t : Shaped c.args.t.now c.args.n = shaped c.args.t.now c.args.n c.requires.1 c.requires.0 in
    record {
      n_bound = (c.requires.0, fields_below c.args.d c.args.n _ _ c.requires.0 (halves c.args.d c.args.n _ c.requires.0 c.halved-y.ensures) c.quartered-z.ensures);
      signs_value = (t.signs, t.fill);
    }

pub returns : goal.returns
returns c =
    residual_lanes_made c.args.d c.args.n _ _ c.requires.0 (halves c.args.d c.args.n _ c.requires.0 c.halved-y.ensures) c.quartered-z.ensures _ c.with_signs.ensures
