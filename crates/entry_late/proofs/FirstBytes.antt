-- V2: the first bytes of a stream, decoded alone, tell which rows stand. If a word was missing, the answer's row is the first that
-- fetches a word not wholly among those bytes, and the rows before it are the whole stream's; if none was, every row is, and the answer.
use Prim.Native.Nat.{ℕ, zero, suc, ◌+◌, ◌≤◌, min}
use mathlib.Core.Bool.{Bool, true, false, not, cond}
use mathlib.Core.Path.{◌≡◌, refl, sym, ap, ◌∙◌, subst}
use mathlib.Core.Logic.{◌≢◌}
use mathlib.Core.List.{List, [], ◌∷◌}
use native.Mathlib.Omega.{arith}
use lib.Dec.{leb}
use lib.ListN.{length, take, length-take}
use lib.Seq.{take-length}
use borrow.Author.Tests.{leb-true, ne_eqb}
use Rattle.rules.specs.Limits.{most_side}
use Rattle.rules.specs.declared.answer.Answer.{Answer}
use Rattle.rules.specs.declared.answer.Size.{Size}
use Rattle.rules.specs.declared.reader.Bits.{Bits}
use Rattle.rules.specs.declared.v2.V2Hdr.{V2Hdr}
use Rattle.rules.specs.Answer.{v2, lengths, refusal}
use Rattle.rules.specs.Missing as Missing
use Rattle.rules.specs.Missing.{Run, past_end, missing_of}
use Rattle.rules.specs.Reader.{fresh}
use Rattle.rules.specs.V2.{Row, header, aligned, read_row, rows, read_frame}
use Rattle.rules.proofs.Cells.{nil, more, all_map}
use Rattle.rules.proofs.Complete.{v2_frame_same}
use Rattle.rules.proofs.Isolation.{Returned, Ran, ran_passed}
use Rattle.rules.proofs.Longer.{Longer, longer_take}
use Rattle.rules.proofs.Missing.{none_missing, enough_stays}
use Rattle.rules.proofs.Refusals.{size_most}
use Rattle.rules.proofs.Tests.{by-test}
use Rattle.rules.proofs.V2Position.{PositionAt, position_starts, position_next}
use Rattle.rules.proofs.V2Rows.{then_rows_cases}
use Rattle.entry_late.specs.Late.{AgreeIn, header_bytes, fetched_past, first_past_from, first_past, Reads, stay, reads}
use Rattle.entry_late.proofs.Calls.{SameAbove, OnEqual, LateStream, v2_answered, calls_late_stream}
use Rattle.entry_late.proofs.Stream.{Words, row_words, words_tell, header_reads, first_same}
use Rattle.entry_late.proofs.Trail.{Below, Tells, run_moves}
use Rattle.entry_late.proofs.V2Trail.{header_trail}

-- ── The statements ──

-- A V2 call on the first bytes of another's stream, 16 at least, which the header takes; both end with done or 5 to 8.
pub record FirstBytes (c d : Returned) : Type 0 where
  pub equal : OnEqual c d
  pub is_v2 : c.ask.decoder ≡ v2
  pub is_v2' : d.ask.decoder ≡ v2
  pub begins : take (length c.ask.stream) d.ask.stream ≡ c.ask.stream
  pub header : header_bytes ≤ length c.ask.stream
  pub ran : Ran c.answered
  pub ran' : Ran d.answered

-- What the first tells of the second.
pub record Tell (c d : Returned) : Type 0 where
  pub row : c.answered.filler ≢ 0 → first_past (length c.ask.stream) d.ask.stream d.ask.size ≡ c.answered.row
  pub above : c.answered.filler ≢ 0 → SameAbove c.answered.row c d
  pub every : c.answered.filler ≡ 0 → SameAbove c.ask.size.height c d
  pub answer : c.answered.filler ≡ 0 → c.answered ≡ d.answered

-- ── Words that are missing ──

reads_run : {s : List ℕ} {b c : Bits} {ps : List ℕ} → Reads s b ps c → Run s b ps c
reads_run stay = Missing.stay
reads_run (reads n r) = Missing.reads n (reads_run r)

none_past : (s ps : List ℕ) → missing_of s ps ≡ 0 → Below (length s) ps
unfolding missing_of
none_past s [] e = nil
none_past s (p ∷ ps) e =
    by-test (leb (p + 4) (length s))
    (λ t. let z : 0 + missing_of s ps ≡ 0 = rw t at e in more (leb-true (p + 4) (length s) t) (none_past s ps (omega arith)))
    (λ t. absurd (let z : 1 + missing_of s ps ≡ 0 = rw t at e in omega arith))

-- Of a stream t: a row that starts with none missing ends with one missing exactly if it fetches a word past the stream's end.
module _ (t : List ℕ) (h : V2Hdr) (w : ℕ) (wide : w ≤ most_side) where
  module _ (row : ℕ) (high : row ≤ most_side) (b : Bits) (at : PositionAt w row b) (clear : b.filler ≡ 0) where
    abbrev past : Bool
    past = fetched_past (length t) (aligned b) (read_row t h w row b).bits

    run : Run t (aligned b) (row_words t h w row b).words (read_row t h w row b).bits
    run = reads_run (row_words t h w row b).run

    starts : (aligned b).filler ≡ 0
    unfolding aligned
    starts = clear

    not_past : (read_row t h w row b).bits.filler ≡ 0 → past ≡ false
    not_past e = (words_tell (length t) t h w wide row high b at).not_past (none_past t _ ((none_missing t run starts).0 e))

    is_past : (read_row t h w row b).bits.filler ≢ 0 → past ≡ true
    is_past n =
        by-test past (λ e. e)
        (λ e. absurd (n (enough_stays t run (omega (arith, starts)) ((words_tell (length t) t h w wide row high b at).below e) ∙ starts)))

  -- k rows from a row on.
  record Told (k row : ℕ) (b : Bits) (a : Answer) : Type 0 where
    missing : a.filler ≢ 0 → first_past_from (length t) t h w k row b ≡ a.row
    complete : a.filler ≡ 0 → first_past_from (length t) t h w k row b ≡ row + k

  rows_told : (k row : ℕ) → row + k ≤ most_side → (b : Bits) → PositionAt w row b → b.filler ≡ 0 → Told k row b (rows t h w k row b).answer
  unfolding rows first_past_from
  rows_told zero row high b at clear = record { missing = λ n. absurd (n clear); complete = λ e. omega arith }
  rows_told (suc k) row high b at clear =
      let q = read_row t h w row b in
      let l : row ≤ most_side = omega arith in
      let rest : q.bits.filler ≡ 0 → Told k (suc row) q.bits (rows t h w k (suc row) q.bits).answer =
      λ m. rows_told k (suc row) (omega arith) q.bits (position_next t h w row b at) m in
      let more_rows : suc row + k ≡ row + suc k = omega arith in
      then_rows_cases (λ x. Told (suc k) row b x.answer) row q (rows t h w k (suc row) q.bits)
      (λ e. record { missing = λ n. rw (is_past row l b at clear n); complete = λ f. rw (not_past row l b at clear f, ne_eqb q.number 0 e) })
      (λ e m. record { missing = λ n. rw (is_past row l b at clear m); complete = λ f. absurd (m f) })
      (λ e m. record {
        missing = λ n. rw (not_past row l b at clear m, e) ((rest m).missing n);
        complete = λ f. rw (not_past row l b at clear m, e) ((rest m).complete f ∙ more_rows);
      })

-- ── The frame ──

module _ (t : List ℕ) (z : Size) (wide : z.width ≤ most_side) (high : z.height ≤ most_side) (below : header_bytes ≤ length t) where
  header_clear : (header t).bits.filler ≡ 0
  header_clear =
      let v = header_trail 0 t t (record { long = omega arith; long' = omega arith; same = refl }) in
      let e = header_reads t in
      enough_stays t (reads_run v.run) (omega arith)
      (all_map _ _ (λ p l. omega (arith, e)) (run_moves t v.run (omega (arith, v.few))).1)

  told : Told t (header t).value z.width wide z.height 0 (header t).bits (read_frame t z).answer
  unfolding read_frame
  told = rows_told t (header t).value z.width wide z.height 0 (omega arith) (header t).bits (position_starts t z.width) header_clear

  -- If a word was missing, the answer's row is the first that fetches one past the end; else no row does.
  pub first_missing : (read_frame t z).answer.filler ≢ 0 → first_past (length t) t z ≡ (read_frame t z).answer.row
  unfolding first_past
  first_missing n = told.missing n

  pub first_none : (read_frame t z).answer.filler ≡ 0 → first_past (length t) t z ≡ z.height
  unfolding first_past
  first_none e = let l : 0 + z.height ≡ z.height = omega arith in told.complete e ∙ l

-- ── Calls that have returned ──

pub first_bytes : (c d : Returned) → FirstBytes c d → Tell c d
first_bytes c d q =
    record {
      row = λ n. ap (first_past p u) q.equal.size ∙ first_same p t u agree q.header z most.0 most.1 ∙ missing n;
      above = λ n. subst (λ r. SameAbove r c d) (missing n) same;
      every = λ e. subst (λ r. SameAbove r c d) (first_none t z most.0 most.1 q.header (sym filler ∙ e)) same;
      answer = λ e. answered ∙ ap (λ x. x.answer) (v2_frame_same t u longer z (sym filler ∙ e)) ∙ sym answered';
    }
  where
    t : List ℕ
    t = c.ask.stream

    u : List ℕ
    u = d.ask.stream

    p : ℕ
    p = length t

    z : Size
    z = c.ask.size

    most : (z.width ≤ most_side) × (z.height ≤ most_side)
    most = size_most c.ask (lengths c.found) (ran_passed c q.ran)

    answered : c.answered ≡ (read_frame t z).answer
    answered = v2_answered c q.is_v2 q.ran

    answered' : d.answered ≡ (read_frame u z).answer
    answered' = v2_answered d q.is_v2' q.ran' ∙ ap (λ y. (read_frame u y).answer) q.equal.size

    filler : c.answered.filler ≡ (read_frame t z).answer.filler
    filler = ap (λ a. a.filler) answered

    long : p ≤ length u
    long = let e = ap length q.begins in omega (arith, length-take p u, e)

    agree : AgreeIn p t u
    agree = record { long = omega arith; long' = long; same = take-length t ∙ sym q.begins }

    longer : Longer t u
    longer = subst (λ s. Longer s u) q.begins (longer_take u p long)

    same : SameAbove (first_past p t z) c d
    same =
        (calls_late_stream p c d
        (record { equal = q.equal; is_v2 = q.is_v2; is_v2' = q.is_v2'; streams = agree; header = q.header; ran = q.ran; ran' = q.ran' })).above

    missing : c.answered.filler ≢ 0 → first_past p t z ≡ c.answered.row
    missing n = first_missing t z most.0 most.1 q.header (λ e. n (filler ∙ e)) ∙ sym (ap (λ a. a.row) answered)
