-- Calls of the exports that decode are calls of the entry points: what an export's contract says of a call that has returned is what its
-- entry's contract says of it. So what `samsung` claims of calls of the entry points, and of lists of them, holds for the exports.
use Rattle.samsung.proofs.Isolation.{Made, Call, Banded, Cleaned}
use Rattle.samsung.proofs.Isolation as Entries
use Rattle.razvolk.proofs.direct.razvolk_decode_v0_reference.Kinds as direct-kinds
use Rattle.razvolk.proofs.direct.razvolk_decode_v0_reference.Reads as direct-reads
use Rattle.razvolk.proofs.direct.razvolk_decode_v0_reference_map.Kinds as direct-map-kinds
use Rattle.razvolk.proofs.direct.razvolk_decode_v0_reference_map.Reads as direct-map-reads
use Rattle.razvolk.proofs.two_phase.razvolk_decode_v0.Kinds as two-phase-kinds
use Rattle.razvolk.proofs.two_phase.razvolk_decode_v0.Reads as two-phase-reads
use Rattle.razvolk.proofs.in_bands.razvolk_decode_v0_bands.Kinds as bands-kinds
use Rattle.razvolk.proofs.in_bands.razvolk_decode_v0_bands.Reads as bands-reads
use Rattle.razvolk.proofs.clean.razvolk_decode_v0_clean.Kinds as clean-kinds
use Rattle.razvolk.proofs.clean.razvolk_decode_v0_clean.Reads as clean-reads
use Rattle.razvolk.proofs.clean.razvolk_decode_v0_clean_map.Kinds as clean-map-kinds
use Rattle.razvolk.proofs.clean.razvolk_decode_v0_clean_map.Reads as clean-map-reads
use Rattle.razvolk.proofs.v2.razvolk_decode_v2.Kinds as v2-kinds
use Rattle.razvolk.proofs.v2.razvolk_decode_v2.Reads as v2-reads
use Rattle.razvolk.proofs.v2.razvolk_decode_v2_map.Kinds as v2-map-kinds
use Rattle.razvolk.proofs.v2.razvolk_decode_v2_map.Reads as v2-map-reads

-- A call of an export is the call of its entry with the same arguments, result and parameters at exit.
abbrev pub Export : Type 0
Export = Call

abbrev pub direct : Made direct-kinds.ps direct-kinds.r direct-reads.Learnt → Export
direct c = Entries.direct c

abbrev pub direct_map : Made direct-map-kinds.ps direct-map-kinds.r direct-map-reads.Learnt → Export
direct_map c = Entries.direct_map c

abbrev pub two_phase : Made two-phase-kinds.ps two-phase-kinds.r two-phase-reads.Learnt → Export
two_phase c = Entries.two_phase c

abbrev pub banded : Made bands-kinds.ps bands-kinds.r bands-reads.Learnt → Banded
banded c = c

abbrev pub clean : Made clean-kinds.ps clean-kinds.r clean-reads.Learnt → Cleaned
clean c = Entries.clean c

abbrev pub clean_map : Made clean-map-kinds.ps clean-map-kinds.r clean-map-reads.Learnt → Cleaned
clean_map c = Entries.clean_map c

abbrev pub v2 : Made v2-kinds.ps v2-kinds.r v2-reads.Learnt → Export
v2 c = Entries.v2 c

abbrev pub v2_map : Made v2-map-kinds.ps v2-map-kinds.r v2-map-reads.Learnt → Export
v2_map c = Entries.v2_map c
