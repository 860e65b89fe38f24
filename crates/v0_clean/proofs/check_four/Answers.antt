-- Each row is begun, and passed over as far as all go; what is left of each decides.
use mathlib.Core.Path.{◌∙◌}
use native.Mathlib.Omega.{arith}
use Rattle.v0_clean.proofs.FrameLaws.{four_bytes, four_offset, four_short, four_begins, four_passed}
use Rattle.v0_clean.proofs.check_four.Goals as goal

pub offset_bounds-offsets-row : goal.offset_bounds-offsets-row
offset_bounds-offsets-row c = let p = c.requires.0 in record { fits = four_bytes p _ (omega arith) }

pub bounds-offsets-row : goal.bounds-offsets-row
bounds-offsets-row c = let p = c.requires.0 in four_offset p _ (omega arith)

pub begin_row-requires : goal.begin_row-requires
begin_row-requires c = let p = c.requires.0 in four_begins p _ (omega arith)

pub overflow_add-row : goal.overflow_add-row
overflow_add-row c = let p = c.requires.0 in record { fits = four_short p _ (omega arith) }

pub overflow_add-row-2 : goal.overflow_add-row-2
overflow_add-row-2 c = let p = c.requires.0 in record { fits = four_short p _ (omega arith) }

pub offset_bounds-offsets-row-2 : goal.offset_bounds-offsets-row-2
offset_bounds-offsets-row-2 c = let p = c.requires.0 in record { fits = four_bytes p _ (omega arith) }

pub bounds-offsets-row-2 : goal.bounds-offsets-row-2
bounds-offsets-row-2 c = let p = c.requires.0 in four_offset p _ (omega arith)

pub begin_row-requires-2 : goal.begin_row-requires-2
begin_row-requires-2 c = let p = c.requires.0 in four_begins p _ (omega arith)

pub overflow_add-row-3 : goal.overflow_add-row-3
overflow_add-row-3 c = let p = c.requires.0 in record { fits = four_short p _ (omega arith) }

pub overflow_add-row-4 : goal.overflow_add-row-4
overflow_add-row-4 c = let p = c.requires.0 in record { fits = four_short p _ (omega arith) }

pub offset_bounds-offsets-row-3 : goal.offset_bounds-offsets-row-3
offset_bounds-offsets-row-3 c = let p = c.requires.0 in record { fits = four_bytes p _ (omega arith) }

pub bounds-offsets-row-3 : goal.bounds-offsets-row-3
bounds-offsets-row-3 c = let p = c.requires.0 in four_offset p _ (omega arith)

pub begin_row-requires-3 : goal.begin_row-requires-3
begin_row-requires-3 c = let p = c.requires.0 in four_begins p _ (omega arith)

pub overflow_add-row-5 : goal.overflow_add-row-5
overflow_add-row-5 c = let p = c.requires.0 in record { fits = four_short p _ (omega arith) }

pub overflow_add-row-6 : goal.overflow_add-row-6
overflow_add-row-6 c = let p = c.requires.0 in record { fits = four_short p _ (omega arith) }

pub offset_bounds-offsets-row-4 : goal.offset_bounds-offsets-row-4
offset_bounds-offsets-row-4 c = let p = c.requires.0 in record { fits = four_bytes p _ (omega arith) }

pub bounds-offsets-row-4 : goal.bounds-offsets-row-4
bounds-offsets-row-4 c = let p = c.requires.0 in four_offset p _ (omega arith)

pub begin_row-requires-4 : goal.begin_row-requires-4
begin_row-requires-4 c = let p = c.requires.0 in four_begins p _ (omega arith)

pub pass_rows-passed-requires : goal.pass_rows-passed-requires
pass_rows-passed-requires c =
    let p = c.requires in
    record {
      width_le_most_side = (p.0.lent.width, p.1);
      rows_placed = record { first = c.begin_row.ensures.placed; second = c.begin_row-2.ensures.placed; third = c.begin_row-3.ensures.placed; fourth = c.begin_row-4.ensures.placed };
    }

pub check_in_order-requires : goal.check_in_order-requires
check_in_order-requires c =
    let p = c.requires.0 in let e = c.pass_rows-passed.ensures.passed in (
      record { width = p.lent.width; height = p.lent.height; rows_in = p.rows_in },
      record { first = e.first.placed; second = e.second.placed; third = e.third.placed; fourth = e.fourth.placed },
    )

pub returns : goal.returns
returns c =
    let p = c.requires.0 in let e = c.pass_rows-passed.ensures.passed in
    c.check_in_order.ensures
    ∙ four_passed c.args.src.now c.args.offsets.now c.args.size c.args.row p _ _ e c.begin_row.ensures c.begin_row-2.ensures c.begin_row-3.ensures c.begin_row-4.ensures
