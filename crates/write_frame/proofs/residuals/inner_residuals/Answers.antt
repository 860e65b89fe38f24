-- The two halves of an inner block, each from its start, are its residuals.
use native.Mathlib.Omega.{arith}
use Rattle.write_frame.proofs.ResidualLaws.{evens_in, odds_in, inner_law}
use Rattle.write_frame.proofs.residuals.inner_residuals.Goals as goal

pub overflow_add-evens : goal.overflow_add-evens
overflow_add-evens c = let e = evens_in c.requires.0 c.requires.1 c.evens_start.ensures in record { fits = omega arith }

pub overflow_add-odds : goal.overflow_add-odds
overflow_add-odds c = let e = odds_in c.requires.0 c.requires.1 c.odds_start.ensures in record { fits = omega arith }

pub overflow_add-odds-2 : goal.overflow_add-odds-2
overflow_add-odds-2 c = let e = odds_in c.requires.0 c.requires.1 c.odds_start.ensures in record { fits = omega arith }

pub prediction-even-requires : goal.prediction-even-requires
prediction-even-requires c =
    let e = evens_in c.requires.0 c.requires.1 c.evens_start.ensures in
    (c.requires.0.block, omega arith, omega arith)

pub prediction-odd-requires : goal.prediction-odd-requires
prediction-odd-requires c =
    let e = odds_in c.requires.0 c.requires.1 c.odds_start.ensures in
    (c.requires.0.block, omega arith, omega arith)

pub halves-requires : goal.halves-requires
halves-requires c =
    ((evens_in c.requires.0 c.requires.1 c.evens_start.ensures).0, (odds_in c.requires.0 c.requires.1 c.odds_start.ensures).0)

pub returns : goal.returns
returns c =
    inner_law c.requires.0 c.requires.1 c.evens_start.ensures c.odds_start.ensures _ _ _
    c.prediction-even.ensures c.prediction-odd.ensures c.halves.ensures
