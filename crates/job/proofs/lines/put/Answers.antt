-- A store from place n on is one store.
use mathlib.Core.Path.{refl}
use Rattle.job.specs.Written.{written}
use Rattle.job.proofs.lines.put.Goals as goal

pub returns : goal.returns
unfolding written
returns c = record { text = refl; count = refl }
