-- The limits that the rules and the functions' contracts name. Each is the number itself: a law about numbers sees through the
-- name.
use Rattle.std.specs.Prelude.{ℕ}

-- The greatest width and the greatest height (docs/RULES.md, "Answers", refusal 1). The code has it as `Size::MOST`.
abbrev pub most_side : ℕ
most_side = 16_384

-- The greatest sample that is written (refusal 9), and the number that all such samples are below.
abbrev pub most_sample : ℕ
most_sample = 16_383

abbrev pub sample_bound : ℕ
sample_bound = 16_384
