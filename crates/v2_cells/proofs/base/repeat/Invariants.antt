-- After so many pairs the first cells are the rule's, for each header whose initial sample gives `initial`.
use Rattle.std.proofs.Common.{◌≡◌, ◌*◌}
use Rattle.rules.specs.declared.v2.V2Hdr.{V2Hdr}
use Rattle.rules.specs.V2.{base_cell, repeated}
use Rattle.v2_cells.proofs.Fill.{Filled}
use Rattle.v2_cells.proofs.base.repeat.Given as goal

abbrev pub invariant-loop-pair : goal.invariant-loop-pair
invariant-loop-pair g l =
    (h : V2Hdr) → l.fn.initial ≡ g.C.Cell.kind.constant h.initial
    → Filled (λ k. base_cell g.C.Cell.kind l.frame (repeated h l.fn.at.width l.fn.at.row l.fn.at.col k)) l.cells (2 * l.pair)
