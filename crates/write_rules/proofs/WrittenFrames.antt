-- The worked examples hold, by computing.
use mathlib.Core.Path.{◌≡◌, refl}
use mathlib.Core.List.{map}
use Rattle.rules.specs.Reader as Reader
use Rattle.rules.specs.Frame as Frame
use Rattle.rules.specs.V0 as V0
use Rattle.rules.specs.Answer as Answer
use Rattle.write_rules.specs.Writer as Writer
use Rattle.write_rules.specs.Calls as Calls
use Rattle.write_rules.specs.WrittenFrames.{defined, examples}

pub examples_hold : map defined examples ≡ examples
unfolding examples Reader.signed Reader.modulo Frame.tabulate V0.swap V0.exchange_columns V0.exchange_rows V0.exchange Answer.too_large Writer.bits_of Writer.number_of Writer.fields_bits Writer.run Writer.padded Writer.words_bytes Writer.bytes Writer.holds Writer.holds_all Writer.first_from Writer.smallest Writer.predicted Writer.residual Writer.lengths_for Writer.length_for Writer.block_bits Writer.blocks_bits Writer.row_bytes Writer.rows_bytes Writer.offsets_from Writer.stream_for Writer.offsets_for Calls.any_above Calls.short_output Calls.write_refusal Calls.write_answer Calls.unless_refused Calls.stream_after Calls.offsets_after
examples_hold = refl
