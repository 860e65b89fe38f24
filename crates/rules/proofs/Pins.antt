-- Pinned examples. Beside the worked examples (Examples.antt), one list with one claim pins every definition of specs/: each
-- constant, entry of a table, field's width, order of tests, case and tail has an example here that fails if it changes. What
-- no decoder's run shows is pinned on the definition that says it. Each file has the examples of one file of specs/, in its
-- order and by the definitions' names; `make mutate` tries that they hold every definition.
use mathlib.Core.Path.{refl, ◌∙◌, ap₂, sym}
use mathlib.Core.List.{List, [], ◌∷◌, ◌++◌, map-append}
use Rattle.rules.specs.Examples.{Example}
pub mod Values
pub mod ReaderPins
pub mod V0Pins
pub mod PhasesPins
pub mod V2Pins
pub mod MapPins
pub mod AnswerPins
pub mod JobPins
pub mod MissingPins
pub mod RefusalsPins
use Rattle.rules.proofs.Pins.Values.{Hold}
use Rattle.rules.proofs.Pins.ReaderPins as Reader
use Rattle.rules.proofs.Pins.V0Pins as V0
use Rattle.rules.proofs.Pins.PhasesPins as Phases
use Rattle.rules.proofs.Pins.V2Pins as V2
use Rattle.rules.proofs.Pins.MapPins as Map
use Rattle.rules.proofs.Pins.AnswerPins as Answer
use Rattle.rules.proofs.Pins.JobPins as Job
use Rattle.rules.proofs.Pins.MissingPins as Missing
use Rattle.rules.proofs.Pins.RefusalsPins as Refusals

-- The examples of a file of specs/.
pub record Section : Type 0 where
  pub examples : List Example
  pub hold : Hold examples

abbrev sections : List Section
sections =
    record { examples = Reader.examples; hold = Reader.examples_hold }
    ∷ record { examples = V0.examples; hold = V0.examples_hold }
    ∷ record { examples = Phases.examples; hold = Phases.examples_hold }
    ∷ record { examples = V2.examples; hold = V2.examples_hold }
    ∷ record { examples = Map.examples; hold = Map.examples_hold }
    ∷ record { examples = Answer.examples; hold = Answer.examples_hold }
    ∷ record { examples = Job.examples; hold = Job.examples_hold }
    ∷ record { examples = Missing.examples; hold = Missing.examples_hold }
    ∷ record { examples = Refusals.examples; hold = Refusals.examples_hold }
    ∷ []

unfoldable pub all_of : List Section → List Example
all_of [] = []
all_of (x ∷ xs) = x.examples ++ all_of xs

all_hold : (xs : List Section) → Hold (all_of xs)
unfolding all_of
all_hold [] = refl
all_hold (x ∷ xs) =
    map-append (λ e. e.given) x.examples (all_of xs) ∙ ap₂ ◌++◌ x.hold (all_hold xs)
    ∙ sym (map-append (λ e. e.stated) x.examples (all_of xs))

-- The list, and its one claim: what the rules give in each example is what is stated.
abbrev pub pins : List Example
pins = all_of sections

pub pins_hold : Hold pins
pins_hold = all_hold sections
