-- The worked examples hold, by computing.
use Prim.Native.Nat.{zero, suc}
use mathlib.Core.Path.{◌≡◌, refl}
use mathlib.Core.List.{[], ◌∷◌, map}
use Rattle.rules.specs.Reader as Reader
use Rattle.rules.specs.Frame as Frame
use Rattle.rules.specs.V0 as V0
use Rattle.rules.specs.V2 as V2
use Rattle.entry_late.specs.Late as Late
use Rattle.entry_late.specs.Examples.{examples}

pub examples_hold : map (λ e. e.given) examples ≡ map (λ e. e.stated) examples
unfolding examples Late.fetched_past Late.first_past_from Late.first_past Late.state_after Late.none_refused Reader.fetched Reader.counted Reader.held Reader.read Reader.fields Reader.four Reader.signed Reader.read_signed Reader.modulo Reader.read_residual Frame.tabulate Frame.change_cells V0.fresh_row V0.operated V0.operate V0.head V0.bounded V0.predictor V0.length_of V0.length_bits V0.residual_bits V0.sample V0.samples V0.blocks V0.row_blocks V0.rows V0.put V0.apply V0.write V0.write_all V0.swap V0.exchange_columns V0.exchange_rows V0.exchange V0.frame V0.decoded V2.header V2.top V2.aligned V2.fresh_mode V2.rescaled V2.read_scale V2.read_motion V2.repeated V2.reference V2.referred V2.base V2.refers_before V2.base_refusal V2.lengths_bit V2.colour V2.read_length V2.length_step V2.lengths_from V2.flagged_lengths V2.read_lengths V2.position V2.difference_step V2.differences_from V2.read_differences V2.tail V2.based_tail V2.read_block V2.then V2.blocks V2.read_row V2.then_rows V2.rows V2.read_frame V2.base_cell V2.block_cells V2.write V2.apply V2.frame V2.average V2.value V2.hold V2.decoded
examples_hold = refl

-- An entry that a table lacks counts as 0.
pub agree_past : Late.AgreeBefore 2 (4 ∷ []) (4 ∷ 0 ∷ [])
agree_past zero below = refl
agree_past (suc zero) below = refl
agree_past (suc (suc i)) below = refl

pub agree_past' : Late.AgreeBefore 2 (4 ∷ 0 ∷ []) (4 ∷ [])
agree_past' zero below = refl
agree_past' (suc zero) below = refl
agree_past' (suc (suc i)) below = refl
