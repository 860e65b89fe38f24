-- What is left from step i on comes to all steps.
use Rattle.v0_bands.proofs.StepLaws.{Steps}
use Rattle.v0_bands.proofs.add_steps.Given as goal

abbrev pub invariant-loop-step : goal.invariant-loop-step
invariant-loop-step l = Steps l.cut l.dirs l.steps l.initial.out l.out l.step-index
