-- Two invariants of one kind: the blocks left in the row come to what the row comes to, and the rows left to what the frame comes to, for samples and marks alike. `row_going` says it of the row as the rule has it.
use Rattle.std.proofs.Common.{◌≡◌, ◌*◌, length}
use Rattle.rules.specs.Answer.{done_with}
use Rattle.rules.specs.declared.reader.Bits.{Bits}
use Rattle.rules.specs.V2.{top, Row, aligned, fresh_row, fresh_mode, read_row, rows}
use Rattle.v2_frame.proofs.FrameLaws.{Left, RowGoing, FrameGoing}
use Rattle.v2_frame.proofs.frame.decode_frame.Given as goal

abbrev pub invariant-loop-block : goal.invariant-loop-block
invariant-loop-block l =
    let at : Row → Type 0 = λ whole. RowGoing (top l.start.value) l.src l.start.value l.width l.row whole l.initial.out l.initial.map (l.block * 16) l.bits l.state l.lengths l.out l.map in
    record {
      out_long : length l.out ≡ length l.fn.out;
      map_long : length l.map ≡ length l.fn.map;
      going : at (Left l.src l.start.value l.width l.row 0 l.initial.bits l.initial.state l.initial.lengths);
      state_fresh : l.initial.state ≡ fresh_row;
      lengths_fresh : l.initial.lengths ≡ fresh_mode l.row;
      row_going : (b₀ : Bits) → l.initial.bits ≡ aligned b₀ → at (read_row l.src l.start.value l.width l.row b₀);
    }

abbrev pub invariant-frame : goal.invariant-frame
invariant-frame l =
    record {
      out_long : length l.out ≡ length l.fn.out;
      map_long : length l.map ≡ length l.fn.map;
      answered : l.answer ≡ done_with l.bits.filler;
      going : FrameGoing (top l.start.value) l.src l.start.value l.width l.fn.size.height (rows l.src l.start.value l.width l.fn.size.height 0 l.initial.bits) l.fn.out l.fn.map l.row l.bits l.out l.map;
    }
