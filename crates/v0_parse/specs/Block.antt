-- A block of which every sample is read, and one of which the head is.
use Rattle.std.specs.Prelude.{ℕ, List, replicate}
use Rattle.rules.specs.V0.{head, order}
use Rattle.rules.specs.Phases.{residuals}
use Rattle.rules.specs.declared.v0.V0Row.{V0Row}
use Rattle.rules.specs.declared.v0.V0Head.{V0Head}
use Rattle.v0_parse.specs.declared.block.ReadBlock.{ReadBlock}

-- The residuals after a head, in the order of the stream, and the row's state after them.
unfoldable pub with_residuals : List ℕ → V0Head → ReadBlock
with_residuals s h =
    let x = residuals s h.row.lengths order h.row.bits in
    record { up = h.up; row = record { lengths = h.row.lengths; bits = x.bits }; residuals = x.values }

-- A block as `read_block` gives it whole.
unfoldable pub whole_block : List ℕ → V0Row → ReadBlock
whole_block s st = with_residuals s (head s st)

-- Its head alone: no residual is read.
unfoldable pub head_block : List ℕ → V0Row → ReadBlock
head_block s st = let h = head s st in record { up = h.up; row = h.row; residuals = replicate 16 0 }
