-- The loop: what is left of the list, by the counters as they stand, is in turn just if the whole list is.
use mathlib.Core.Path.{◌≡◌}
use lib.ListN.{take, drop}
use Rattle.rules_bands.specs.Bands.{in_turn, none_done}
use Rattle.rules_bands.proofs.Cut.is_good.Given as goal

abbrev pub invariant-loop-step : goal.invariant-loop-step
invariant-loop-step l = in_turn l.fn.self (none_done l.fn.self) l.steps ≡ in_turn l.fn.self (take l.fn.self.bands l.done) (drop l.step-index l.steps)
