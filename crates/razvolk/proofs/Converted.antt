-- What the exported converter leaves is decoded back, of calls that have returned: a call of `razvolk_v0_to_v2` that is done, and then
-- a call of an exported V2 decoder over any buffer, which is asked for the stream as the converter left it, whole or cut anywhere past
-- what was written, and is lent enough, is done and leaves the samples that the converter left, with no map byte other than 0.
use Rattle.samsung.proofs.Isolation.{Made, ended}
use Rattle.entry_convert.proofs.Converted.{Conversion}
use Rattle.entry_convert.proofs.Converted as Converted
use Rattle.razvolk.proofs.convert.razvolk_v0_to_v2.Kinds as convert-kinds
use Rattle.razvolk.proofs.convert.razvolk_v0_to_v2.Reads as convert-reads

-- A call of the converter, and what it was handed, answered and left.
abbrev pub Converts : Type 0
Converts = Made convert-kinds.ps convert-kinds.r convert-reads.Learnt

unfoldable pub converts : Converts → Conversion
converts x =
    record {
      source = x.args.0.now;
      offsets = x.args.1.0.now;
      width = x.args.1.1.0;
      height = x.args.1.1.1.0;
      samples = x.args.1.1.1.1.0.now;
      map = x.args.1.1.1.1.1.0.now;
      stream = x.args.1.1.1.1.1.1.0.now;
      answered = x.result;
      samples_left = x.exit.1.1.1.1.0.now;
      map_left = x.exit.1.1.1.1.1.0.now;
      stream_left = x.exit.1.1.1.1.1.1.0.now;
      yields = x.learnt;
    }

abbrev pub ReadBack : Type 0
ReadBack = Converted.ReadBack converts ended

pub read_back : ReadBack
read_back = Converted.read_back converts ended
