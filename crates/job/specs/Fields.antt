-- The fields of a job's input.
use Rattle.std.specs.Prelude.{ℕ, ◌+◌, ◌*◌, ◌≤◌, ◌≡◌, List, length}
use Rattle.rules.specs.declared.answer.Size.{Size}
use Rattle.rules.specs.Reader.{word_at}
use Rattle.rules.specs.Frame.{tabulate}
use Rattle.rules.specs.Job.{most_input, most_samples, half_word_at}

-- The offsets of n rows, a word each from byte 9 on, as `job_ask` has them.
unfoldable pub offsets_of : List ℕ → ℕ → List ℕ
offsets_of s n = tabulate n 0 (λ row. word_at s (9 + 4 * row))

-- An input without fault, of a size: what is left to hold once the job's tests are passed (docs/RULES.md, "The job
-- program").
pub record Sound (s : List ℕ) (z : Size) : Type 0 where
  pub short : length s ≤ most_input
  pub width_is : z.width ≡ half_word_at s 5
  pub height_is : z.height ≡ half_word_at s 7
  pub table : 9 + 4 * z.height ≤ length s
  pub few : z.width * z.height ≤ most_samples
