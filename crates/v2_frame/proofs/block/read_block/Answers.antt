-- Each way out is one case of the rule: the laws of a block take its scale, its motion and the base's refusal as variables.
use Rattle.std.proofs.Common.{sym, ap, ◌∙◌, refl, arith, w32, List, ℕ}
use mir.ValLaws.{to_z-of_z}
use Rattle.v2_frame.specs.Blocks.{block_result, written}
use Rattle.v2_frame.proofs.BlockLaws.{scale_fits, ready_scale, own_scale, own_motion, block_refused, block_outcome, block_mode, block_samples}
use Rattle.v2_frame.proofs.block.read_block.Goals as goal

pub next_scale-scale-requires : goal.next_scale-scale-requires
next_scale-scale-requires c =
    let z = c.args.state.scale in
    let p = ready_scale c.args.src.now _ _ _ c.args.bits _ c.requires.0 in
    rw (to_z-of_z w32 z (scale_fits z p)) p

pub returns-in-Err : goal.returns-in-Err
returns-in-Err c =
    let z = c.args.state.scale in
    let ec = rw (to_z-of_z w32 z (scale_fits z (ready_scale c.args.src.now _ _ _ c.args.bits _ c.requires.0))) at c.next_scale-scale.ensures in
    let q = block_refused _ _ _ _ _ _ _ c.args.lengths _ ec _ c.next_motion-motion.ensures _ c.in-Err.ensures.refusal in
    record { outcome = q.0; remembered = q.1; samples = refl }

pub bases-requires : goal.bases-requires
bases-requires c = (
  omega arith,
  record {
    inside = c.requires.0.inside;
    small = own_motion _ _ _ _ _ _ c.requires.0 _ c.next_motion-motion.ensures;
    sixteen = refl;
    unrefused = sym c.in_default.ensures.number;
  },
)

pub read_tail-requires : goal.read_tail-requires
read_tail-requires c =
    let z = c.args.state.scale in
    let ec = rw (to_z-of_z w32 z (scale_fits z (ready_scale c.args.src.now _ _ _ c.args.bits _ c.requires.0))) at c.next_scale-scale.ensures in
    let y = c.next_scale-scale.result.value in
    let p = own_scale _ _ _ _ _ _ c.requires.0 _ ec in
    rw (to_z-of_z w32 y (scale_fits y p)) (c.requires.0.depth, (p, c.requires.1))

pub returns : goal.returns
returns c =
    let z = c.args.state.scale in
    let ec = rw (to_z-of_z w32 z (scale_fits z (ready_scale c.args.src.now _ _ _ c.args.bits _ c.requires.0))) at c.next_scale-scale.ensures in
    let y = c.next_scale-scale.result.value in
    let em = c.next_motion-motion.ensures in
    let none = c.in_default.ensures.number in
    let m = c.args.lengths in
    let r = simp (to_z-of_z w32 y (scale_fits y (own_scale _ _ _ _ _ _ c.requires.0 _ ec))) at c.read_tail.ensures in record {
      outcome = r.outcome ∙ ap block_result (sym (block_outcome _ _ _ _ _ _ _ m _ ec _ em none));
      remembered = r.remembered ∙ sym (block_mode _ _ _ _ _ _ _ m _ ec _ em none);
      samples = r.samples
          ∙ ap (λ (new : List ℕ). written c.read_tail.result.block new c.args.samples.now)
          (block_samples _ _ _ _ _ _ _ m _ ec _ em none c.args.out.now _ (c.bases.ensures c.args.hdr refl));
    }
