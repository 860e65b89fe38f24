-- Reading by position. A stream of words, from byte `base` on, is one long row of bits: the highest bit of a word comes first,
-- and the words follow one another. Bit q counts from the first bit of the word at `base`. The reader's record, which has fetched
-- a word and read some of its bits, stands before one of them. What a read gives there are the next bits of the row, and it
-- leaves the record that stands after them: so fields can be cut out of a window of 64 bits, and the record made again at the end.
use Rattle.std.specs.Prelude.{ℕ, zero, suc, ◌+◌, ◌-◌, ◌*◌, ◌/◌, ◌%◌, ◌^◌, ◌≤◌, ◌<◌, Bool, ◌&&◌, List, [], ◌∷◌, ◌≡◌, ltb, leb, eqb, length}
use Rattle.rules.specs.Reader.{word_at}
use Rattle.rules.specs.declared.reader.Bits.{Bits}

-- ── Bits ──

-- Bit i.
unfoldable pub bit : List ℕ → ℕ → ℕ → ℕ
bit s base i = word_at s (base + i / 32 * 4) / 2 ^ (31 - i % 32) % 2

-- The number of the n bits from bit q on.
unfoldable pub bits_from : List ℕ → ℕ → ℕ → ℕ → ℕ
bits_from s base q zero = 0
bits_from s base q (suc n) = bits_from s base q n * 2 + bit s base (q + n)

-- Fields of some widths from bit q on.
unfoldable pub values_at : List ℕ → ℕ → ℕ → List ℕ → List ℕ
values_at s base q [] = []
values_at s base q (n ∷ ns) = bits_from s base q n ∷ values_at s base (q + n) ns

-- How many bits they have together.
unfoldable pub span : List ℕ → ℕ
span [] = 0
span (n ∷ ns) = n + span ns

-- Widths that a read can have.
pub data Narrow : List ℕ → Type 0 where
  none : Narrow []
  also : {n : ℕ} {ns : List ℕ} → n ≤ 32 → Narrow ns → Narrow (n ∷ ns)

-- ── Windows ──

-- Three words of 32 bits each. A byte is below 256 only where the code has read it, so a window says this of its words.
pub record Three (s : List ℕ) (at : ℕ) : Type 0 where
  pub first : word_at s at < 2 ^ 32
  pub second : word_at s (at + 4) < 2 ^ 32
  pub third : word_at s (at + 8) < 2 ^ 32

-- A window: the 64 bits from bit q on, out of three words.
pub record Window (s : List ℕ) (base q v : ℕ) : Type 0 where
  pub is : v ≡ bits_from s base q 64
  pub words : Three s (base + q / 32 * 4)

-- Four fields of n bits from bit q on, each taken as f takes it. The words that they lie in have 32 bits.
pub record FourAt {A : Type 0} (f : ℕ → A) (s : List ℕ) (base q n : ℕ) (r : List A) : Type 0 where
  pub whole : (j : ℕ) → q ≤ j * 32 → j * 32 < q + 4 * n → word_at s (base + j * 4) < 2 ^ 32
  pub are : r
      ≡ f (bits_from s base q n)
      ∷ f (bits_from s base (q + n) n)
      ∷ f (bits_from s base (q + 2 * n) n)
      ∷ f (bits_from s base (q + 3 * n) n)
      ∷ []

-- ── States ──

-- The reader's state before bit q, f words having been missing. The word that bit q − 1 lies in has been fetched, so q is not 0.
abbrev pub state_at : List ℕ → ℕ → ℕ → ℕ → Bits
state_at s base q f =
    record {
      pos = base + (q + 31) / 32 * 4;
      word = word_at s (base + (q + 31) / 32 * 4 - 4);
      count = (q + 31) / 32 * 32 - q;
      filler = f;
    }

-- Whether a state stands in a stream that has `more` bytes from the word fetched last on: that word is the stream's.
unfoldable pub stands_in : List ℕ → Bits → ℕ → Bool
stands_in s b more =
    ltb b.count 32 && (leb 4 b.pos && (leb (b.pos - 4 + more) (length s) && eqb (word_at s (b.pos - 4)) b.word))

-- What follows if it does: it is the state before a bit of that word, counted from the word.
pub record Stands (s : List ℕ) (b : Bits) (more : ℕ) : Type 0 where
  pub fetched : 4 ≤ b.pos
  pub there : b.pos - 4 + more ≤ length s
  pub few : b.count < 32
  pub is : b ≡ state_at s (b.pos - 4) (32 - b.count) b.filler

-- The same with two words before the one fetched last: it is counted from the first of these, so that a window which ends in what
-- follows begins after that.
pub record Standing (s : List ℕ) (b : Bits) (more : ℕ) : Type 0 where
  pub fetched : 12 ≤ b.pos
  pub few : b.count < 32
  pub there : b.pos - 12 + (more + 8) ≤ length s
  pub far : b.pos - 12 + (more + 8) < 2 ^ 64
  pub is : b ≡ state_at s (b.pos - 12) (96 - b.count) b.filler

-- Whether it does.
unfoldable pub standing_in : List ℕ → Bits → ℕ → Bool
standing_in s b more = leb 12 b.pos && stands_in s b more
