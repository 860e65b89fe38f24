-- The worked examples of V0 into V2 hold, by computing.
use mathlib.Core.Path.{◌≡◌, refl}
use mathlib.Core.List.{map, [], ◌∷◌}
use Rattle.rules.specs.Answer as Answer
use Rattle.rules.specs.Reader as Reader
use Rattle.rules.specs.Frame as Frame
use Rattle.rules.specs.V0 as V0
use Rattle.rules.specs.V2 as V2
use Rattle.rules.specs.Map as Map
use Rattle.write_rules.specs.Calls as Calls
use Rattle.write_rules.specs.Writer as Writer
use Rattle.write_rules.specs.V2Writer as V2Writer
use Rattle.entry_convert.specs.Convert as Convert
use Rattle.entry_convert.specs.ConvertExamples.{defined, examples, early_numbers, called, wholes}

pub examples_hold : map defined examples ≡ examples
unfolding examples Reader.signed Reader.modulo Frame.tabulate V2.position Calls.any_above Writer.bits_of Writer.number_of Writer.fields_bits Writer.run Writer.padded Writer.words_bytes Writer.bytes Writer.holds Writer.holds_all Writer.first_from Writer.smallest Writer.lengths_for Writer.length_for Writer.block_bits Writer.blocks_bits Writer.row_bytes Writer.rows_bytes V2Writer.header_bits V2Writer.base_of V2Writer.difference V2Writer.stream_for Convert.late Convert.late_answer Convert.late_stream
examples_hold = refl

pub early_holds : early_numbers ≡ 0 ∷ 15 ∷ 4 ∷ 3 ∷ 3 ∷ 2 ∷ 1 ∷ []
unfolding early_numbers Convert.early Answer.first_of Answer.too_large Answer.too_small Answer.short_samples Answer.short_offsets Answer.short_map
early_holds = refl

pub wholes_hold : map called wholes ≡ wholes
unfolding wholes Convert.if_decoded Convert.early Convert.late Convert.late_answer Convert.late_stream Answer.first_of Answer.too_large Answer.too_small Answer.short_samples Answer.short_offsets Answer.short_map Answer.short_scratch Answer.refusal Answer.frame_samples Answer.frame_marks Answer.unless_refused Answer.samples_after Answer.map_after Map.v0_map Reader.fetched Reader.counted Reader.held Reader.read Reader.fields Reader.four Reader.signed Reader.modulo Reader.read_residual Frame.tabulate Frame.change_cells V0.fresh_row V0.operated V0.operate V0.head V0.bounded V0.predictor V0.length_of V0.length_bits V0.residual_bits V0.sample V0.samples V0.blocks V0.row_blocks V0.rows V0.put V0.apply V0.write V0.write_all V0.swap V0.exchange_columns V0.exchange_rows V0.exchange V0.frame V0.decoded V2.position Calls.any_above Writer.bits_of Writer.number_of Writer.fields_bits Writer.run Writer.padded Writer.words_bytes Writer.bytes Writer.holds Writer.holds_all Writer.first_from Writer.smallest Writer.lengths_for Writer.length_for Writer.block_bits Writer.blocks_bits Writer.row_bytes Writer.rows_bytes V2Writer.header_bits V2Writer.base_of V2Writer.difference V2Writer.stream_for
wholes_hold = refl
