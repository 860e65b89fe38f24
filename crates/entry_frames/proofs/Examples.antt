-- The worked calls hold, by computing.
use mathlib.Core.Path.{◌≡◌, refl}
use mathlib.Core.List.{map, flatten, flat_map}
use Rattle.rules.specs.Reader as Reader
use Rattle.rules.specs.Frame as Frame
use Rattle.rules.specs.V0 as V0
use Rattle.rules.specs.Answer as Answer
use Rattle.frame_planes.specs.Planes as Planes
use Rattle.frame_blank.specs.Blanking as Blanking
use Rattle.frame_blank.specs.Calls as Blank
use Rattle.write_rules.specs.Writer as Writer
use Rattle.write_rules.specs.Calls as Write
use Rattle.entry_frames.specs.Moved as Moved
use Rattle.entry_frames.specs.Export as Export
use Rattle.entry_frames.specs.Examples.{moved, moves, exported, examples}

pub examples_hold : (map moved moves ≡ moves) × (map exported examples ≡ examples)
unfolding moves examples flat_map flatten Reader.signed Reader.modulo Frame.tabulate V0.swap V0.exchange_columns V0.exchange_rows V0.exchange Answer.too_large Answer.first_of Planes.evens Planes.rows Planes.by_columns Planes.to_planes Planes.weave Planes.woven Planes.rows_back Moved.refusal Moved.after Blanking.marked Blanking.strange Blanking.bad_map Blanking.bit Blanking.count Blanking.blank_row Blanking.blank_rows Blanking.stretch Blanking.runs_from Blanking.rows_runs Blanking.numbers Blank.short_runs Blank.refusal Blank.blank_answer Blank.unless_refused Blank.samples_after Blank.runs_after Writer.bits_of Writer.number_of Writer.fields_bits Writer.run Writer.padded Writer.words_bytes Writer.bytes Writer.holds Writer.holds_all Writer.first_from Writer.smallest Writer.predicted Writer.residual Writer.lengths_for Writer.length_for Writer.block_bits Writer.blocks_bits Writer.row_bytes Writer.rows_bytes Writer.offsets_from Writer.stream_for Writer.offsets_for Write.any_above Write.short_output Write.write_refusal Write.write_answer Write.unless_refused Write.stream_after Write.offsets_after Export.if_blanked Export.export_answer Export.stream_after Export.offsets_after
examples_hold = (refl, refl)
