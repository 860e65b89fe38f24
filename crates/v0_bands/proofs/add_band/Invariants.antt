-- What is left from row r on comes to all rows of the band.
use Rattle.rules.specs.Phases.{sample_stage}
use Rattle.v0_bands.proofs.StepLaws.{Band}
use Rattle.v0_bands.proofs.add_band.Given as goal

abbrev pub invariant-loop-r : goal.invariant-loop-r
invariant-loop-r l = let cut = l.fn.cut in Band sample_stage cut.size.width cut.block_width l.block l.n l.row l.dirs l.initial.out l.out l.r
