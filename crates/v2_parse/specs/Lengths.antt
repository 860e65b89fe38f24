-- A block's lengths as the rules have them, and what is remembered after them.
use Rattle.std.specs.Prelude.{ℕ, true, false, List, Result, Ok, Err}
use Rattle.rules.specs.declared.reader.Taken.{Taken}
use Rattle.rules.specs.V2.{V2Lengths, Moded}
use Rattle.v2_parse.specs.declared.lengths.TooLong.{TooLong}

-- Where one is too long, the four so far stand with it.
abbrev pub lengths : Result (Taken (List ℕ)) TooLong → V2Lengths
lengths (Ok l) = record { four = l.value; long = false; bits = l.bits }
lengths (Err e) = record { four = e.read.value; long = true; bits = e.read.bits }

abbrev pub moded : Result (Taken (List ℕ)) TooLong → List (List ℕ) → Moded
moded r mode = record { lengths = lengths r; mode = mode }
