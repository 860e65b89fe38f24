-- The worked examples hold, by computing.
use mathlib.Core.Path.{◌≡◌, refl}
use mathlib.Core.List.{map}
use Rattle.rules.specs.Reader as Reader
use Rattle.rules.specs.Frame as Frame
use Rattle.rules.specs.V0 as V0
use Rattle.rules.specs.Answer as Answer
use Rattle.rules_clean.specs.Verdict as Verdict
use Rattle.write_rules.specs.Calls as Calls
use Rattle.write_rules.specs.Writer as Writer
use Rattle.write_packed.specs.Proposal as Proposal
use Rattle.write_packed.specs.Cases.{defined, examples}

pub examples_hold : map defined examples ≡ examples
unfolding examples Reader.fetched Reader.counted Reader.held Reader.read Reader.fields Reader.four Reader.signed Reader.modulo Reader.read_residual Frame.tabulate Frame.change_cells V0.fresh_row V0.operated V0.operate V0.head V0.bounded V0.predictor V0.length_of V0.length_bits V0.residual_bits V0.sample V0.samples V0.blocks V0.row_blocks V0.rows V0.put V0.apply V0.write V0.write_all V0.swap V0.exchange_columns V0.exchange_rows V0.exchange V0.frame V0.decoded Answer.too_large Answer.too_small Answer.short_offsets Answer.short_samples Answer.short_map Answer.short_scratch Answer.first_of Answer.refusal Answer.frame_samples Answer.unless_refused Answer.samples_after Verdict.fits Verdict.all_fit Verdict.first_fault Verdict.block_fault Verdict.blocks_fault Verdict.row_fault Verdict.rows_verdict Verdict.verdict Calls.any_above Writer.bits_of Writer.number_of Writer.fields_bits Writer.run Writer.padded Writer.words_bytes Writer.bytes Writer.holds Writer.holds_all Writer.first_from Writer.smallest Writer.predicted Writer.residual Writer.lengths_for Writer.length_for Writer.block_bits Writer.blocks_bits Writer.row_bytes Writer.rows_bytes Writer.stream_for Proposal.early Proposal.longer Proposal.before Proposal.scratch_after Proposal.same Proposal.answer
examples_hold = refl
