-- V2's trails: the words fetched for the header and for a row, no more than so many; and where they lie wholly below p, a stream that
-- agrees in the first p bytes gives the same.
use Prim.Native.Nat.{ℕ, ◌*◌, ◌/◌}
use mathlib.Core.List.{List}
use Rattle.rules.specs.declared.reader.Bits.{Bits}
use Rattle.rules.specs.declared.v2.V2Hdr.{V2Hdr}
use Rattle.rules.specs.Reader.{fresh}
use Rattle.rules.specs.V2.{header, aligned, read_row}
use Rattle.rules.proofs.V2Traced.{header_traced, row_traced}
use Rattle.entry_late.specs.Late.{AgreeIn}
use Rattle.entry_late.proofs.Trail.{Trail, trail}

module _ (p : ℕ) (s u : List ℕ) (agree : AgreeIn p s u) where
  pub header_trail : Trail p s 13 (λ x. x.bits) (fresh 0) (header s) (header u)
  header_trail = trail p s u agree (header_traced s)

  -- A row, from its start on.
  pub row_trail : (h : V2Hdr) (w row : ℕ) (b : Bits) → Trail p s (w / 16 * 29) (λ q. q.bits) (aligned b) (read_row s h w row b) (read_row u h w row b)
  row_trail h w row b = trail p s u agree (row_traced s h w row b)
