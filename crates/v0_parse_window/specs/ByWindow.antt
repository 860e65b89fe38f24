-- A block by position. Its head's direction and operations are the first nine bits of a window; the lengths that operations 3 read
-- follow, and then four groups of four residuals, each group of one length. What stands here ties each to what the reader's record
-- would read from there on.
use Rattle.std.specs.Prelude.{◌≡◌, ℕ, ◌+◌, ◌-◌, ◌*◌, ◌/◌, ◌%◌, ◌^◌, ◌<◌, ◌≤◌, min, Bool, cond, ◌&&◌, List, [], ◌∷◌, length, ℤ, pos, ◌==◌, int_le, slice_index, slice_index_or}
use Rattle.rules.specs.Reader.{signed, modulo}
use Rattle.rules.specs.V0.{head, length_bits}
use Rattle.rules.specs.declared.v0.V0Head.{V0Head}
use Rattle.read_window.specs.Window.{state_at, FourAt}
use Rattle.v0_parse.specs.Block.{with_residuals}
use Rattle.v0_parse.specs.Lengths.{stepped}
use Rattle.v0_parse_window.specs.declared.WindowLength.{WindowLength}
use Rattle.v0_parse_window.specs.declared.WindowHead.{WindowHead}
use Rattle.v0_parse_window.specs.declared.Plan.{Plan}

-- A window that begins at bit q is in the stream.
pub record Room (s : List ℕ) (base q : ℕ) : Type 0 where
  pub some : 0 < q
  pub soon : q < 2 ^ 31
  pub there : base + q / 32 * 4 + 12 ≤ length s
  pub far : base + q / 32 * 4 + 12 < 2 ^ 64

-- ── The head ──

-- A length after the operation that stands above `at` bits of v, where `left` bits of v are left: operation 3 takes the first four
-- of these.
unfoldable pub length_in : ℕ → ℕ → ℕ → ℤ → WindowLength
length_in v at left l =
    let op = v / 2 ^ at % 4 in
    cond (op == 3) (record { length = pos (v / 2 ^ (left - 4) % 16); left = left - 4 }) (record { length = stepped op l; left = left })

-- A head by position as the record's, f words having been missing.
abbrev pub head_of : List ℕ → ℕ → ℕ → WindowHead → V0Head
head_of s base f h = record { up = h.up; row = record { lengths = h.lengths; bits = state_at s base h.q f } }

-- A head that begins at bit q: what the record that stands there reads, and where it stands after, whatever was missing before.
pub record HeadAt (s : List ℕ) (base q : ℕ) (ls : List ℤ) (h : WindowHead) : Type 0 where
  pub reads : (f : ℕ) → head s (record { lengths = ls; bits = state_at s base q f }) ≡ head_of s base f h
  pub some : q ≤ h.q
  pub soon : h.q ≤ q + 25

-- The bits that have to be there from a block's first bit on, and from the first bit of its residuals on.
abbrev pub block_ahead : ℕ
block_ahead = 608

abbrev pub residuals_ahead : ℕ
residuals_ahead = 583

-- Bit q, with two words before it, where a window that ends in what follows may begin, and `more` bits after it that are there:
-- `block_ahead` for a block, `residuals_ahead` for its residuals.
pub record Ahead (s : List ℕ) (base q more : ℕ) : Type 0 where
  pub late : 64 < q
  pub soon : q + more < 2 ^ 31
  pub there : base * 8 + q + more ≤ length s * 8
  pub far : base * 8 + q + more < 2 ^ 67

-- The last bit of some bytes that a block may begin at: 608 are there from it on. A row's blocks have fewer than 2^20 bits, and no more
-- are counted.
abbrev pub last_start : ℕ → ℕ
last_start bytes = min (bytes * 8 - block_ahead) 1_047_968

-- ── Residuals ──

-- The residual that n bits v are.
abbrev pub residual : ℕ → ℕ → ℕ
residual n v = modulo (signed n v)

-- The groups after a head: the bits of each residual, and where each group begins and the last ends.
pub record Plans (h : WindowHead) (p : Plan) : Type 0 where
  pub is₀ : p.n0 ≡ length_bits (slice_index_or h.lengths 0 (pos 0))
  pub is₁ : p.n1 ≡ length_bits (slice_index_or h.lengths 1 (pos 0))
  pub is₂ : p.n2 ≡ length_bits (slice_index_or h.lengths 2 (pos 0))
  pub is₃ : p.n3 ≡ length_bits (slice_index_or h.lengths 3 (pos 0))
  pub second : p.q1 ≡ h.q + 4 * p.n0
  pub third : p.q2 ≡ h.q + 4 * p.n0 + 4 * p.n1
  pub fourth : p.q3 ≡ h.q + 4 * p.n0 + 4 * p.n1 + 4 * p.n2
  pub ends : p.end ≡ h.q + 4 * p.n0 + 4 * p.n1 + 4 * p.n2 + 4 * p.n3

-- Lengths whose residuals have at most 16 bits, so that four lie in one window.
pub record Short (ls : List ℤ) : Type 0 where
  pub first : length_bits (slice_index_or ls 0 (pos 0)) ≤ 16
  pub second : length_bits (slice_index_or ls 1 (pos 0)) ≤ 16
  pub third : length_bits (slice_index_or ls 2 (pos 0)) ≤ 16
  pub fourth : length_bits (slice_index_or ls 3 (pos 0)) ≤ 16

-- Whether a length is the number of its residuals' bits, and they are at most 15; and whether each of four is.
unfoldable pub short_length : ℤ → Bool
short_length l = int_le (pos 0) l && int_le l (pos 15)

unfoldable pub short : List ℤ → Bool
short ls =
    short_length (slice_index_or ls 0 (pos 0))
    && (short_length (slice_index_or ls 1 (pos 0)) && (short_length (slice_index_or ls 2 (pos 0)) && short_length (slice_index_or ls 3 (pos 0))))

-- Four residuals of n bits from bit q on.
abbrev pub Group : List ℕ → ℕ → ℕ → ℕ → List ℕ → Type 0
Group s base q n r = FourAt (residual n) s base q n r

-- Four groups in a row.
abbrev pub joined : List ℕ → List ℕ → List ℕ → List ℕ → List ℕ
joined a b c d =
    slice_index a 0 ∷ slice_index a 1 ∷ slice_index a 2 ∷ slice_index a 3 ∷ slice_index b 0 ∷ slice_index b 1 ∷ slice_index b 2 ∷ slice_index b 3
    ∷ slice_index c 0 ∷ slice_index c 1 ∷ slice_index c 2 ∷ slice_index c 3 ∷ slice_index d 0 ∷ slice_index d 1 ∷ slice_index d 2 ∷ slice_index d 3 ∷ []

-- The sixteen after a head, as the record reads them, whatever was missing before.
abbrev pub residuals_of : List ℕ → ℕ → WindowHead → List ℕ
residuals_of s base h = (with_residuals s (head_of s base 0 h)).residuals

-- A block that ends before bit q, after a head: the record that reads its residuals stands there after them.
pub record Ends (s : List ℕ) (base : ℕ) (h : WindowHead) (q : ℕ) : Type 0 where
  pub some : h.q ≤ q
  pub soon : q ≤ h.q + 512
  pub reads : (f : ℕ) → with_residuals s (head_of s base f h)
      ≡ record { up = h.up; row = record { lengths = h.lengths; bits = state_at s base q f }; residuals = residuals_of s base h }
