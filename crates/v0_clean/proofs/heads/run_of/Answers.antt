-- The record is made again where the row is.
use mathlib.Core.Path.{ap₂}
use Rattle.rules.specs.declared.reader.Bits.{Bits}
use Rattle.v0_parse_window.proofs.GroupLaws.{end_room}
use Rattle.v0_clean.proofs.heads.run_of.Goals as goal

pub state_at-bits-requires : goal.state_at-bits-requires
state_at-bits-requires c = end_room c.requires.ahead

pub returns : goal.returns
returns c =
    let col = c.args.col in
    ap₂ (λ ls (b : Bits). record { col = col; state = record { lengths = ls; bits = b } }) c.unpacked-lengths.ensures c.state_at-bits.ensures
