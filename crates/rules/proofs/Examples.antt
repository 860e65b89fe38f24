-- The worked examples (docs/RULES.md, "Proved examples") hold of the rules, by computing.
use Prim.Native.Nat.{ℕ}
use mathlib.Core.Path.{◌≡◌, refl}
use mathlib.Core.List.{map}
use Rattle.rules.specs.Reader as Reader
use Rattle.rules.specs.Frame as Frame
use Rattle.rules.specs.V0 as V0
use Rattle.rules.specs.V2 as V2
use Rattle.rules.specs.Map as Map
use Rattle.rules.specs.Answer as Answer
use Rattle.rules.specs.Job as Job
use Rattle.rules.specs.Examples.{examples, job_input, job_output}

pub examples_hold : (a b c d x y z : ℕ) → map (λ e. e.given) (examples a b c d x y z) ≡ map (λ e. e.stated) (examples a b c d x y z)
unfolding examples Reader.fetched Reader.counted Reader.held Reader.read Reader.fields Reader.four Reader.signed Reader.read_signed Reader.modulo Reader.read_residual Frame.tabulate Frame.change_cells V0.fresh_row V0.operated V0.operate V0.head V0.bounded V0.predictor V0.length_of V0.length_bits V0.residual_bits V0.sample V0.samples V0.blocks V0.row_blocks V0.rows V0.rows_filler V0.frame_filler V0.put V0.apply V0.write V0.write_all V0.swap V0.exchange_columns V0.exchange_rows V0.exchange V0.frame V0.decoded V2.header V2.aligned V2.fresh_mode V2.rescaled V2.read_scale V2.read_motion V2.base_refusal V2.lengths_bit V2.colour V2.read_length V2.length_step V2.lengths_from V2.flagged_lengths V2.read_lengths V2.tail V2.based_tail V2.read_block V2.then V2.blocks V2.read_row V2.then_rows V2.rows V2.read_frame V2.average V2.value V2.hold Map.v0_map Answer.too_large Answer.too_small Answer.short_offsets Answer.short_samples Answer.short_map Answer.short_scratch Answer.first_of Answer.refusal Answer.stream_answer Answer.answer Answer.frame_samples Answer.frame_marks Answer.unless_refused Answer.samples_after Answer.map_after V2.top V2.refers_before
examples_hold a b c d x y z = refl

pub job_text : Job.text job_input ≡ job_output
unfolding Job.marked Job.digits Job.samples_text Job.rows_text Job.answer_text Job.text Reader.fetched Reader.counted Reader.held Reader.read Reader.fields Reader.four Reader.signed Reader.read_signed Reader.modulo Reader.read_residual Frame.tabulate Frame.change_cells V0.fresh_row V0.operated V0.operate V0.head V0.bounded V0.predictor V0.length_of V0.length_bits V0.residual_bits V0.sample V0.samples V0.blocks V0.row_blocks V0.rows V0.rows_filler V0.frame_filler V0.put V0.apply V0.write V0.write_all V0.swap V0.exchange_columns V0.exchange_rows V0.exchange V0.frame V0.decoded V2.header V2.aligned V2.fresh_mode V2.rescaled V2.read_scale V2.read_motion V2.base_refusal V2.lengths_bit V2.colour V2.read_length V2.length_step V2.lengths_from V2.flagged_lengths V2.read_lengths V2.tail V2.based_tail V2.read_block V2.then V2.blocks V2.read_row V2.then_rows V2.rows V2.read_frame V2.average V2.value V2.hold Map.v0_map Answer.too_large Answer.too_small Answer.short_offsets Answer.short_samples Answer.short_map Answer.short_scratch Answer.first_of Answer.refusal Answer.stream_answer Answer.answer Answer.frame_samples Answer.frame_marks Answer.unless_refused Answer.samples_after Answer.map_after V2.refers_before
job_text = refl
