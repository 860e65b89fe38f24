-- Colour planes, of exported calls that have returned: `razvolk_to_planes` and then `razvolk_from_planes` on what it left, both done,
-- leaves the first N samples as they were; and so do they the other way round.
use Rattle.samsung.proofs.Isolation.{Made}
use Rattle.frame_planes.specs.Planes.{to_planes, from_planes}
use Rattle.entry_frames.proofs.Moves.{Moved}
use Rattle.entry_frames.proofs.Moves as Moves
use Rattle.razvolk.proofs.colour.razvolk_to_planes.Kinds as to-kinds
use Rattle.razvolk.proofs.colour.razvolk_to_planes.Reads as to_reads
use Rattle.razvolk.proofs.colour.razvolk_from_planes.Kinds as from-kinds
use Rattle.razvolk.proofs.colour.razvolk_from_planes.Reads as from-reads

-- A call to planes, and one back, and what each was handed, answered and left.
abbrev pub ToPlanes : Type 0
ToPlanes = Made to-kinds.ps to-kinds.r to_reads.Learnt

abbrev pub FromPlanes : Type 0
FromPlanes = Made from-kinds.ps from-kinds.r from-reads.Learnt

unfoldable pub to : ToPlanes → Moved to_planes
to c =
    record {
      width = c.args.1.0;
      height = c.args.1.1.0;
      read = c.args.0.now;
      found = c.args.1.1.1.0.now;
      answered = c.result;
      left = c.exit.1.1.1.0.now;
      answers = c.learnt.0;
      leaves = c.learnt.1;
    }

unfoldable pub from : FromPlanes → Moved from_planes
from c =
    record {
      width = c.args.1.0;
      height = c.args.1.1.0;
      read = c.args.0.now;
      found = c.args.1.1.1.0.now;
      answered = c.result;
      left = c.exit.1.1.1.0.now;
      answers = c.learnt.0;
      leaves = c.learnt.1;
    }

abbrev pub Planes : Type 0
Planes = Moves.Planes to from

pub planes : Planes
planes = Moves.planes to from
