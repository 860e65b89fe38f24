-- The text that is made of what was read is the text of the whole input.
use Prim.Native.Nat.{ℕ, ◌≤◌, ◌<◌}
use mathlib.Core.Path.{◌≡◌, refl, sym}
use mathlib.Core.Bool.{Bool, true, false}
use mathlib.Core.List.{List, [], ◌∷◌, ◌++◌}
use native.Mathlib.Omega.{arith}
use lib.Dec.{lit<}
use lib.ListN.{length, length-append}
use Rattle.rules.specs.Job.{most_input, text}
use Rattle.job.proofs.JobLaws.{text_longer}
use Rattle.job.specs.Written.{Holds}
use Rattle.job_file.specs.Read.{text_of, OfSomeInput}

-- An input that ends after the bytes read.
pub text_of_ended : (s : List ℕ) → text_of s false ≡ text s
unfolding text_of
text_of_ended s = refl

-- An input that goes on after them, if they are as many as an input may have.
pub text_of_longer : (s rest : List ℕ) → most_input ≤ length s → 0 < length rest → text_of s true ≡ text (s ++ rest)
unfolding text_of
text_of_longer s rest full more = sym (text_longer (s ++ rest) (rw length-append (omega arith)))

-- So whatever was read, its text is that of some whole input.
pub some_input : (t s t' : List ℕ) (more : Bool) (r : ℕ) → (more ≡ true → most_input ≤ length s) → Holds t (text_of s more) t' r
    → OfSomeInput t t' r
some_input t s t' false r full h = record { input = s; holds = rw (text_of_ended s) at h }
some_input t s t' true r full h =
    record { input = s ++ (0 ∷ []); holds = rw (text_of_longer s (0 ∷ []) (full refl) (lit< tt)) at h }
