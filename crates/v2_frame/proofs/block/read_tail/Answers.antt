-- No length is above 17, so that no difference leaves 17 bits.
use Rattle.std.proofs.Common.{Err, refl, ap, ◌∙◌, arith, w32}
use mir.ValLaws.{to_z-of_z}
use Rattle.rules.proofs.V2Bounds.{top_below}
use Rattle.v2_frame.specs.Blocks.{block_result}
use Rattle.v2_frame.proofs.BlockLaws.{tail_mode, tail_long, tail_next, tail_small, tail_samples, scale_fits}
use Rattle.v2_frame.proofs.block.read_tail.Goals as goal

pub returns-in-Err : goal.returns-in-Err
returns-in-Err c =
    let e = rw c.in-Err.is at c.block_lengths-lengths.ensures in
    record {
      outcome = ap Err c.from.ensures ∙ ap block_result (tail_long _ _ _ c.args.state _ _ _ _ e refl);
      remembered = tail_mode _ _ _ c.args.state _ _ _ _ e;
      samples = refl;
    }

pub build-requires : goal.build-requires
build-requires c =
    let z = c.args.state.scale in
    let e = rw c.in-Ok.is at c.block_lengths-lengths.ensures in
    rw (to_z-of_z w32 z (scale_fits z c.requires.1.0))
    (tail_small _ _ _ c.args.state _ _ _ _ e _ _ (c.block_differences-after.ensures _ c.requires.1.1) c.requires.0 refl, (c.requires.1.0, omega (arith, c.top_of.ensures, top_below c.args.hdr c.requires.0)))

pub returns : goal.returns
returns c =
    let z = c.args.state.scale in
    let e = rw c.in-Ok.is at c.block_lengths-lengths.ensures in
    let ed = c.block_differences-after.ensures _ c.requires.1.1 in record {
      outcome = ap block_result (tail_next _ _ _ _ _ _ _ _ e _ _ ed refl);
      remembered = tail_mode _ _ _ c.args.state _ _ _ _ e;
      samples = tail_samples _ _ _ c.args.state _ _ _ _ e _ _ ed c.args.base.now _ _ c.top_of.ensures (simp (to_z-of_z w32 z (scale_fits z c.requires.1.0)) at c.build.ensures);
    }
