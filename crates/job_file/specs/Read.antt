-- The text of an input that is read as far as the job's array goes.
use Rattle.std.specs.Prelude.{ℕ, Bool, cond, List}
use Rattle.rules.specs.Job.{text, fault}
use Rattle.job.specs.Written.{Holds}

-- The text of an input that begins with the bytes s, and goes on after them or not.
unfoldable pub text_of : List ℕ → Bool → List ℕ
text_of s more = cond more (fault 3) (text s)

-- An array that held t holds the text of an input in its first r bytes, and the bytes after them are as they were.
pub record OfSomeInput (t t' : List ℕ) (r : ℕ) : Type 0 where
  pub input : List ℕ
  pub holds : Holds t (text input) t' r
