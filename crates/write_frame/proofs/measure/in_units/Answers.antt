-- Rounded up to words or to 16 bytes.
use Rattle.write_frame.proofs.CodingLaws.{in_words, in_lines}
use Rattle.write_frame.proofs.measure.in_units.Goals as goal

pub returns-in-V0 : goal.returns-in-V0
returns-in-V0 c = in_words _ _ c.in-V0.is

pub returns-in-V2 : goal.returns-in-V2
returns-in-V2 c = in_lines _ _ c.in-V2.is
