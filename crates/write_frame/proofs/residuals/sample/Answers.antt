-- Every place is in the frame.
use native.Mathlib.Omega.{arith}
use Rattle.write_frame.proofs.PlaceLaws.{product, place_in, sample_is}
use Rattle.write_frame.proofs.residuals.sample.Goals as goal

pub offset_bounds-samples-place : goal.offset_bounds-samples-place
offset_bounds-samples-place c = let a = c.args in let i = c.requires.0 in record { fits = omega (arith, c.place.ensures, place_in a.size.width a.size.height a.row a.col i.row_in i.col_in, product a.size.width a.size.height i.wide i.high) }

pub bounds-samples-place : goal.bounds-samples-place
bounds-samples-place c = let a = c.args in let i = c.requires.0 in omega (arith, c.place.ensures, place_in a.size.width a.size.height a.row a.col i.row_in i.col_in, c.requires.1)

pub returns : goal.returns
returns c = let a = c.args in let i = c.requires.0 in sample_is a.size.width a.size.height a.row a.col a.samples.now c.place.result i.row_in i.col_in c.requires.1 c.place.ensures
