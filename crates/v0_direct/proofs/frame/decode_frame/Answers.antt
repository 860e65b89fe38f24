-- The rows with the pairs that they free, and then the last pair, are the frame; the rows change no length.
use mathlib.Core.Path.{refl}
use Rattle.rules.specs.Map.{v0_marks}
use Rattle.v0_direct.proofs.FrameLaws.{filler_is, frame_is, decoded_is, last_lent}
use Rattle.v0_direct.proofs.frame.decode_frame.Goals as goal

pub exchange_pairs-requires : goal.exchange_pairs-requires
exchange_pairs-requires c = let d = c.decode_freeing-filler.ensures in
    last_lent _ _ c.args.size _ _ c.freed_pairs.ensures refl _ _ _ _ c.requires d.samples d.marks

pub returns : goal.returns
returns c = let z = c.args.size in let d = c.decode_freeing-filler.ensures in record {
  missing = filler_is _ _ z _ d.missing;
  samples = decoded_is _ _ z _ _ c.freed_pairs.ensures refl _ _ _ d.samples c.exchange_pairs.ensures.samples;
  marks = frame_is _ _ z _ _ c.freed_pairs.ensures refl v0_marks _ _ _ d.marks c.exchange_pairs.ensures.marks;
}
