-- The tests in turn, each length gone through 32 bits.
use mathlib.Core.Path.{refl, sym}
use borrow.Author.Rules.{rules}
use Rattle.v0_clean.proofs.BlockLaws.{test_is, not_first, not_second, not_third, last_of}
use Rattle.v0_clean.proofs.lengths_fit.Goals as goal

pub returns-then-not-length_fits : goal.returns-then-not-length_fits
returns-then-not-length_fits c = let ls = c.args.lengths in not_first ls (search rules) (test_is ls 0 (search rules) c.length_fits.ensures c.if-not-length_fits.true)

pub returns-then-not-length_fits-2 : goal.returns-then-not-length_fits-2
returns-then-not-length_fits-2 c = let ls = c.args.lengths in not_second ls (search rules) (test_is ls 0 (search rules) c.length_fits.ensures c.if-not-length_fits.false) (test_is ls 1 (search rules) c.length_fits-2.ensures c.if-not-length_fits-2.true)

pub returns-then-not-length_fits-3 : goal.returns-then-not-length_fits-3
returns-then-not-length_fits-3 c = let ls = c.args.lengths in not_third ls (search rules) (test_is ls 0 (search rules) c.length_fits.ensures c.if-not-length_fits.false) (test_is ls 1 (search rules) c.length_fits-2.ensures c.if-not-length_fits-2.false) (test_is ls 2 (search rules) c.length_fits-3.ensures c.if-not-length_fits-3.true)

pub returns : goal.returns
returns c = let ls = c.args.lengths in last_of ls (search rules) (test_is ls 0 (search rules) c.length_fits.ensures c.if-not-length_fits.false) (test_is ls 1 (search rules) c.length_fits-2.ensures c.if-not-length_fits-2.false) (test_is ls 2 (search rules) c.length_fits-3.ensures c.if-not-length_fits-3.false) c.length_fits-4.result (sym (test_is ls 3 (search rules) c.length_fits-4.ensures refl))
