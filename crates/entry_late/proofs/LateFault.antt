-- How far a late fault reaches: what may be released while the rest of a frame is sent again. The claim of the entry points.
--
-- Promised, V0. Take every two calls of V0 decoders that are done: direct or for clean frames, with or without a map, two-phase, or in
-- bands by any cut and list, the two alike or not. If stream, size and the first N samples found are equal, and the offset tables agree
-- before entry r, then in every row before r − (r mod 2) their samples are equal, the rules' marks are, and so are the bytes of maps
-- where both are lent one.
-- Promised, V2. Take every two V2 calls, with or without a map, that end with done or 5 to 8. If size and the first N samples found are
-- equal, and the streams are at least p bytes long and agree in the first p, among which the header lies, then the same holds in every
-- row before the first that fetches a word not wholly below p (`first_past`); and if one of the calls met a refusal in such a row, both
-- answers are equal, with the count of missing words. That row is the same by either stream, and it does fetch such a word (Stream.antt).
-- Which row it is, the first p bytes tell: decoded alone, they answer with it if a word was missing; if none was, every row is equal,
-- and so are the answers.
-- Free. What the tables hold from entry r on and the streams from byte p on, and how long they are; what lies past N in the buffers;
-- what maps and scratch hold at entry; the lists of steps.
-- Not promised. Row r − 1 if r is odd: the exchange brings samples of row r into it, and it can differ (Examples.antt). Rows from the
-- bound on. V0's count of missing words. Anything if the header reaches past p, or if a call ends with 1 to 4, 11, 12 or 17 to 19.
--
-- A call that has returned is what was handed in, what came out, and what the function's own contract says of them, as in the
-- claim of promise P3; that the code meets those contracts stands beside this claim in `razvolk/proofs/Promises.antt`.
use Prim.Native.Nat.{ℕ}
use mathlib.Core.Path.{◌≡◌}
use mathlib.Core.List.{List}
use mathlib.Core.Option.{some}
use lib.ListN.{get_or}
use Rattle.rules.proofs.Isolation.{Returned}
use Rattle.samsung.proofs.Isolation.{ended}
use Rattle.entry_late.specs.Late.{Above, whole_pairs, first_past}
use Rattle.entry_late.proofs.FirstBytes.{FirstBytes, Tell, first_bytes}
use Rattle.entry_late.proofs.Calls.{LateOffsets, LateStream, SameAbove, SameBelow, calls_late_offsets, calls_late_stream}

-- Of calls that have returned.
pub record LateFault {L : Type 0} (call : L → Returned) : Type 0 where
  pub v0 : (r : ℕ) (c d : L) → LateOffsets r (call c) (call d) → SameAbove (whole_pairs r) (call c) (call d)
  pub v2 : (p : ℕ) (c d : L) → LateStream p (call c) (call d)
      → SameBelow (first_past p (call c).ask.stream (call c).ask.size) (call c) (call d)
  pub v2_first_bytes : (c d : L) → FirstBytes (call c) (call d) → Tell (call c) (call d)

-- Of the entry points, and so of the exports, whose calls are calls of the entry points (`razvolk/proofs/Isolation.antt`).
pub late_fault : LateFault ended
late_fault =
    record {
      v0 = λ r c d. calls_late_offsets r (ended c) (ended d);
      v2 = λ p c d. calls_late_stream p (ended c) (ended d);
      v2_first_bytes = λ c d. first_bytes (ended c) (ended d);
    }

-- At work: where both calls are lent a map, a sample that is released goes with its byte.
pub released : (n : ℕ) (c d : Returned) → SameAbove n c d → (m m' : List ℕ) → c.left.map ≡ some m → d.left.map ≡ some m'
    → (i : ℕ) → Above n c.ask.size i → (get_or c.left.samples i 0 ≡ get_or d.left.samples i 0) × (get_or m i 0 ≡ get_or m' i 0)
released n c d same m m' e e' i a = (same.samples i a, same.maps m m' e e' i a)
