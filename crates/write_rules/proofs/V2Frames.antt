-- The worked examples of V2 streams hold, by computing.
use mathlib.Core.Path.{◌≡◌, refl}
use mathlib.Core.List.{map}
use Rattle.rules.specs.Reader as Reader
use Rattle.rules.specs.Frame as Frame
use Rattle.rules.specs.V2 as V2
use Rattle.write_rules.specs.Writer as Writer
use Rattle.write_rules.specs.V2Writer as V2Writer
use Rattle.write_rules.specs.V2Frames.{defined, examples}

pub examples_hold : map defined examples ≡ examples
unfolding examples Reader.signed Reader.modulo Frame.tabulate V2.position Writer.bits_of Writer.number_of Writer.fields_bits Writer.run Writer.padded Writer.words_bytes Writer.bytes Writer.holds Writer.holds_all Writer.first_from Writer.smallest Writer.lengths_for Writer.length_for Writer.block_bits Writer.blocks_bits Writer.row_bytes Writer.rows_bytes V2Writer.header_bits V2Writer.base_of V2Writer.difference V2Writer.stream_for
examples_hold = refl
