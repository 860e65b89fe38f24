-- One row or four, of those that the frame has.
use mathlib.Core.Path.{◌≡◌, refl, sym, ◌∙◌}
use native.Mathlib.Omega.{arith}
use borrow.Author.Rules.{rules}
use Rattle.std.specs.Prelude.{Err}
use Rattle.v0_clean.specs.Rows.{part}
use Rattle.v0_clean.proofs.FrameLaws.{parted}
use Rattle.v0_clean.proofs.check_part.Goals as goal

pub check_one-requires : goal.check_one-requires
check_one-requires c = let p = c.requires in (p.0.lent, p.0.row_in)

pub returns-in_err-check_one : goal.returns-in_err-check_one
returns-in_err-check_one c =
    let a = c.args in
    let r : c.from_residual.result ≡ Err c.in_err-check_one.field-0.0 = search rules in
    let one : part a.size a.row ≡ 1 = rw (sym c.has_four.ensures.answered ∙ c.if-not-has_four.true) refl in
    rw r (parted a.src.now a.offsets.now a.size a.row 1 _ one (omega arith) (omega (arith, c.requires.0.row_in)) (search rules) c.in_err-check_one.ensures)

pub returns-then-not-has_four : goal.returns-then-not-has_four
returns-then-not-has_four c =
    let a = c.args in
    let one : part a.size a.row ≡ 1 = rw (sym c.has_four.ensures.answered ∙ c.if-not-has_four.true) refl in
    parted a.src.now a.offsets.now a.size a.row 1 _ one (omega arith) (omega (arith, c.requires.0.row_in)) refl c.in_ok-check_one.ensures

pub check_four-requires : goal.check_four-requires
check_four-requires c =
    let p = c.requires in let e = c.has_four.ensures.there (c.if-not-has_four.false) in
    (record { lent = p.0.lent; late = e.0; rows_in = e.1.0; wide = e.1.1 }, p.1)

pub returns-in_err-check_four : goal.returns-in_err-check_four
returns-in_err-check_four c =
    let a = c.args in
    let e = c.has_four.ensures.there (c.if-not-has_four.false) in
    let r : c.from_residual-in_err-check_four.result ≡ Err c.in_err-check_four.field-0.0 = search rules in
    let four : part a.size a.row ≡ 4 = rw (sym c.has_four.ensures.answered ∙ c.if-not-has_four.false) refl in
    rw r (parted a.src.now a.offsets.now a.size a.row 4 _ four (omega arith) e.1.0 (search rules) c.in_err-check_four.ensures)

pub returns : goal.returns
returns c =
    let a = c.args in
    let e = c.has_four.ensures.there (c.if-not-has_four.false) in
    let four : part a.size a.row ≡ 4 = rw (sym c.has_four.ensures.answered ∙ c.if-not-has_four.false) refl in
    parted a.src.now a.offsets.now a.size a.row 4 _ four (omega arith) e.1.0 refl c.in_ok-check_four.ensures
