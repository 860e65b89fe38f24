-- An entry of a row's positions is below 16.
use Rattle.v2_differences.proofs.positions.Positions.entry.Goals as goal

pub returns : goal.returns
returns c = (c.from.ensures, rw c.from.ensures (c.args.self.now.in_block _ c.requires))
