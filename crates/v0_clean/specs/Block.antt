-- A block that is read to its end: its direction, and the row's state there.
use Rattle.std.specs.Prelude.{ℕ, List}
use Rattle.rules.specs.V0.{head}
use Rattle.rules.specs.declared.answer.Size.{Size}
use Rattle.rules.specs.declared.v0.V0Row.{V0Row}
use Rattle.rules.specs.declared.v0.V0Head.{V0Head}
use Rattle.v0_direct.specs.Block.{after_block}

-- Written as a head, whose lengths are the row's; its reader stands at the block's end.
unfoldable pub seen : List ℕ → Size → ℕ → ℕ → V0Row → V0Head
seen s z row col st = record { up = (head s st).up; row = after_block s z row col st }
