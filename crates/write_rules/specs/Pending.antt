-- Bits written word by word: those that wait for their word, and the buffer. It is the reader's record turned round.
use Rattle.std.specs.Prelude.{ℕ, ◌+◌, ◌*◌, ◌/◌, ◌%◌, ◌^◌, Bool, List, ◌++◌, length}
use Rattle.std.proofs.lemmas.List.Edits.{sets}
use Rattle.write_rules.specs.declared.Pending.{Pending}
use Rattle.write_rules.specs.Writer.{bits_of, number_of, words_bytes}

-- Nothing waits.
abbrev pub nothing : ℕ → Pending
nothing at = record { pos = at; word = 0; count = 0 }

-- How many bits there are once some more are written, with those that wait.
abbrev pub bits_with : Pending → List Bool → ℕ
bits_with p bs = p.count + length bs

-- The state after some bits: what fills no word waits. `word` is the 32 bits written last, of which the low `count` wait.
unfoldable pub put_state : Pending → List Bool → Pending
put_state p bs =
    record {
      pos = p.pos + 4 * (bits_with p bs / 32);
      word = (p.word * 2 ^ length bs + number_of bs) % 2 ^ 32;
      count = bits_with p bs % 32;
    }

-- The buffer after them: a word is stored once it is full, and nothing else changes.
unfoldable pub put_out : List ℕ → Pending → List Bool → List ℕ
put_out out p bs = sets out p.pos (words_bytes (bits_with p bs / 32) (bits_of p.count p.word ++ bs))
