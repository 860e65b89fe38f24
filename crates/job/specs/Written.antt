-- What the job's functions write: bytes stored one after another from a place of the text on.
use Rattle.std.specs.Prelude.{ℕ, ◌+◌, ◌≤◌, ◌≡◌, cond, List, [], ◌∷◌, ◌++◌, length, take, drop, eqb}
use Rattle.std.proofs.lemmas.List.Edits.{sets}
use Rattle.rules.specs.Job.{line, decimal, samples_text}

-- A text with the bytes xs from place n on.
unfoldable pub written : List ℕ → ℕ → List ℕ → List ℕ
written t n xs = sets t n xs

-- The text t has room for xs from place n on.
pub record Room (t : List ℕ) (n : ℕ) (xs : List ℕ) : Type 0 where
  pub fits : n + length xs ≤ length t

-- A function that found the text t wrote xs from place n on, left t' and answered r.
pub record Appends (t : List ℕ) (n : ℕ) (xs t' : List ℕ) (r : ℕ) : Type 0 where
  pub text : t' ≡ written t n xs
  pub count : r ≡ n + length xs

-- One sample of `samples_text`.
unfoldable pub sample_text : ℕ → ℕ → List ℕ
sample_text v m = 32 ∷ (decimal v ++ cond (eqb m 0) [] (42 ∷ []))

-- One row of `rows_text`.
unfoldable pub row_text : ℕ → List ℕ → List ℕ → List ℕ
row_text row vs ms = line (decimal row ++ (58 ∷ samples_text vs ms))

-- Appending goes on: with `rest` from place `at` on, the text t is what the text t₀ is with the whole from place n on.
pub record Left (t : List ℕ) (at : ℕ) (rest t₀ : List ℕ) (n : ℕ) (whole : List ℕ) : Type 0 where
  pub text : written t at rest ≡ written t₀ n whole
  pub count : at + length rest ≡ n + length whole
  pub same : length t ≡ length t₀

-- An array that held t holds the whole text xs in its first r bytes, and the bytes after them are as they were.
-- The last two fields follow from the others: with them a caller's `&text[..r]` needs no proof.
pub record Holds (t xs t' : List ℕ) (r : ℕ) : Type 0 where
  pub text : take r t' ≡ xs
  pub rest : drop r t' ≡ drop r t
  pub count : r ≡ length xs
  pub room : r ≤ length t'
  pub taken : r ≡ length (take r t')
