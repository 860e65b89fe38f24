-- The bits of both.
use Rattle.frame_map.proofs.MapLaws.{parts_are}
use Rattle.frame_map.proofs.either_part.Goals as goal

pub returns : goal.returns
returns c = parts_are _ _
