-- What `refill` leaves for the one cut of `get_whole`, and what that gives.
use Rattle.std.specs.Prelude.{◌≡◌, ℕ, ◌+◌, ◌-◌, ◌*◌, ◌%◌, ◌^◌, ◌<◌, ◌≤◌, min, List}
use Rattle.rules.specs.Reader.{fetched, read_as, held, first_bits, read}
use Rattle.rules.specs.declared.reader.Bits.{Bits}
use Rattle.rules.specs.declared.reader.Got.{Got}
use Rattle.read_bits.specs.declared.Refilled.{Refilled}

-- The first k bits of a refilled state, and the state after them.
abbrev pub cut : Refilled → ℕ → Got
cut r k =
    let b = r.bits in
    record {
      value = first_bits r.words b.count k;
      bits = record { pos = b.pos; word = b.word; count = b.count - k; filler = b.filler };
    }

-- The h bits held of b and a word v after them, and the state after it, n words having been missing.
abbrev pub joined_with : Bits → ℕ → ℕ → ℕ → Refilled
joined_with b h v n =
    record { words = b.word * 2 ^ 32 + v; bits = record { pos = (b.pos + 4) % 2 ^ 64; word = v; count = h + 32; filler = n } }

-- A state that holds enough for a read of k bits, and not a whole word more.
pub record Enough (s : List ℕ) (b : Bits) (k : ℕ) (r : Refilled) : Type 0 where
  pub enough : k ≤ r.bits.count
  pub few : r.bits.count < k + 32
  pub reads : read s b k ≡ cut r k
  pub whole : held b < k → read_as (fetched s b.pos) < 2 ^ 32

-- A read of n bits. If it fetched a word, that word has 32 bits.
pub record Whole (s : List ℕ) (b : Bits) (n : ℕ) (r : Got) : Type 0 where
  pub reads : r ≡ read s b n
  pub whole : held b < min n 32 → read_as (fetched s b.pos) < 2 ^ 32
