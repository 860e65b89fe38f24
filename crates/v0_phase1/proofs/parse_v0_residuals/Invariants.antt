-- What is left from block k on comes to the whole row, and the lengths stay near 0. A turn parses at least one block.
use Prim.Native.Nat.{◌-◌}
use Rattle.v0_phase1.proofs.ResidualLaws.{Parsing}
use Rattle.v0_phase1.proofs.parse_v0_residuals.Given as goal

abbrev pub invariant-loop-k : goal.invariant-loop-k
invariant-loop-k l = Parsing l.src l.width l.blocks l.initial.row l.row l.initial.out l.out l.initial.dirs l.dirs l.k

abbrev pub decreases-loop-k : goal.decreases-loop-k
decreases-loop-k l = l.blocks - l.k
