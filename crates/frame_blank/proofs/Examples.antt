-- The worked examples hold, by computing.
use mathlib.Core.Path.{◌≡◌, refl}
use mathlib.Core.List.{map}
use Rattle.rules.specs.Frame.{tabulate}
use Rattle.rules.specs.Answer.{too_large}
use Rattle.frame_blank.specs.Blanking.{marked, strange, bad_map, bit, count, unstated, blank_row, blank_rows, stretch, runs_from, rows_runs, numbers}
use Rattle.frame_blank.specs.Calls.{short_runs, refusal, blank_answer, unless_refused, samples_after, runs_after}
use Rattle.frame_blank.specs.Examples.{examples}

pub answers_hold : map (λ e. blank_answer e.asked) examples ≡ map (λ e. e.answered) examples
unfolding examples too_large marked strange bad_map bit count stretch runs_from rows_runs short_runs refusal blank_answer
answers_hold = refl

pub samples_hold : map (λ e. samples_after e.asked) examples ≡ map (λ e. e.samples) examples
unfolding examples tabulate too_large marked strange bad_map unstated blank_row blank_rows stretch runs_from rows_runs short_runs refusal unless_refused samples_after
samples_hold = refl

pub runs_hold : map (λ e. runs_after e.asked) examples ≡ map (λ e. e.runs) examples
unfolding examples too_large marked strange bad_map stretch runs_from rows_runs numbers short_runs refusal unless_refused runs_after
runs_hold = refl
