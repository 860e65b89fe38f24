-- What an entry owes: its answer and what it leaves are what the rules say.
use mathlib.Core.Path.{◌≡◌, sym, ap, ◌∙◌}
use mathlib.Core.Logic.{◌≢◌}
use mathlib.Core.List.{List, ◌++◌}
use mathlib.Core.Option
use mathlib.Core.Option.{some}
use Prim.Native.Nat.{ℕ, ◌≤◌}
use native.Mathlib.Omega.{arith}
use lib.Dec.{eqb}
use lib.ListN.{length, take, drop}
use borrow.Author.Tests.{eqb-true, eqb-false}
use Rattle.rules.specs.declared.answer.Answer.{Answer}
use Rattle.rules.specs.Frame.{cells}
use Rattle.rules.specs.Answer.{refused, Ask, Lent, Buffers, lengths, Yields, refusal, answer, stream_answer, frame_samples, marks, frame_scratch, unless_refused, samples_after, map_after, scratch_after}
use Rattle.rules.proofs.Tests.{by-test}
use Rattle.rules.proofs.Refusals.{answer_refused, answer_passed, samples_kept, map_kept, scratch_kept}
use Rattle.rules_bands.specs.Call as Bands
use Rattle.rules_bands.proofs.Calls as Bands-calls
use Rattle.rules_clean.specs.Clean as Clean
use Rattle.rules_clean.proofs.Calls as Clean-calls
use Rattle.samsung.proofs.Opening.{Tested, Opened}

-- A refusal of 1 to 4 is answered by its number, and leaves every buffer as it was.
pub refused_yields : {a : Ask} {found : Buffers} {k : ℕ} {r : Answer} → Tested a found k → k ≢ 0 → r ≡ refused k → Yields a found r found
refused_yields {a} {found} {k} t n q =
    record {
      answered = q ∙ sym (answer_refused a l some_refusal ∙ ap refused t.is);
      samples = sym (samples_kept a l some_refusal found.samples);
      map = Clean-calls.lent_kept (map_after a l) (λ m. map_kept a l some_refusal m) found.map;
      scratch = Clean-calls.lent_kept (scratch_after a l) (λ m. scratch_kept a l some_refusal m) found.scratch;
    }
  where
    l : Lent
    l = lengths found

    some_refusal : 1 ≤ refusal a l
    some_refusal = by-test (eqb k 0) (λ q. absurd (n (eqb-true k 0 q))) (λ q. let m = eqb-false k 0 q in omega (arith, t.is))

-- The same of a call for clean frames, and of one in bands.
pub clean_refused : {a : Ask} {found : Buffers} {k : ℕ} {r : Answer} → Tested a found k → k ≢ 0 → r ≡ refused k → Clean.Yields a found r found
clean_refused t n q = Clean-calls.refused_yields _ _ _ t.is n _ q

pub bands_refused : (c : Bands.Call) {k : ℕ} {r : Answer} → Tested (Bands.plain c) (Bands.buffers c.samples c.scratch) k → k ≢ 0 → r ≡ refused k
    → Bands.Yields c r c.samples c.scratch
bands_refused c {k} t n q = Bands-calls.refused_yields c k (Bands-calls.refusal_plain c k t.is n) n _ q

-- Else the stream answers, the frame's samples and marks are the first of their buffers, and its directions the first of the scratch.
module _ {a : Ask} {found : Buffers} (o : Opened a found) where
  pub passed_answer : {r : Answer} → r ≡ stream_answer a.decoder a.stream a.offsets a.size → r ≡ answer a (lengths found)
  passed_answer e = e ∙ sym (answer_passed a (lengths found) o.passed)

  pub passed_samples : {new : List ℕ} → new ≡ frame_samples a.decoder a.stream a.offsets a.size (take (cells a.size) found.samples)
      → new ++ drop (cells a.size) found.samples ≡ samples_after a (lengths found) found.samples
  unfolding samples_after unless_refused
  passed_samples e = rw (o.passed, e)

  pub passed_map : {new : List ℕ} (buffer : List ℕ) → new ≡ marks a
      → some (new ++ drop (cells a.size) buffer) ≡ Option.map (map_after a (lengths found)) (some buffer)
  unfolding map_after unless_refused
  passed_map buffer e = rw (o.passed, e)

  pub passed_scratch : {left : List ℕ} (buffer : List ℕ)
      → left ≡ frame_scratch a.decoder a.stream a.offsets a.size ++ drop (length (frame_scratch a.decoder a.stream a.offsets a.size)) buffer
      → some left ≡ Option.map (scratch_after a (lengths found)) (some buffer)
  unfolding scratch_after unless_refused
  passed_scratch buffer e = ap some (e ∙ rw o.passed)
