-- What a count of missing words says: it is the number of the words fetched that don't lie wholly in the stream, held at 2^64 − 1.
-- So it never falls, it is 0 exactly if a flag would be false, and a stream that has every word has count 0. A V0 frame's count is
-- the sum over its rows, each of which is a run of reads from its offset; V2's is that of one run from the header on.
use Prim.Native.Nat.{ℕ, zero, suc, ◌+◌, ◌*◌, ◌≤◌, ◌<◌, min}
use mathlib.Core.Bool.{Bool, true, false, cond, not, ◌||◌}
use mathlib.Core.Path.{◌≡◌, refl, sym, ap, ◌∙◌}
use mathlib.Core.List.{List, [], ◌∷◌, ◌++◌}
use native.Mathlib.Omega.{arith}
use lib.ListN.{length, get_or}
use lib.Dec.{leb, eqb}
use borrow.Author.Tests.{leb-true, leb-false, le-leb, ne_eqb}
use Rattle.rules.specs.declared.answer.Answer.{Answer}
use Rattle.rules.specs.declared.answer.Size.{Size}
use Rattle.rules.specs.declared.reader.Bits.{Bits}
use Rattle.rules.specs.declared.v0.Predictor.{Predictor}
use Rattle.rules.specs.declared.v0.V0Row.{V0Row}
use Rattle.rules.specs.declared.v2.V2Hdr.{V2Hdr}
use Rattle.rules.specs.Reader.{fetched, is_missing, most_filler, counted, has_filler, fresh, reset_at, held, read}
use Rattle.rules.specs.Missing.{past_end, missing_of, flag_after, fetches, Run, stay, reads, resets, rows_sum}
use Rattle.rules.specs.V0 as V0
use Rattle.rules.specs.V2 as V2
use Rattle.rules.proofs.Cells.{All, nil, more}
use Rattle.rules.proofs.V2Rows.{then_rows_cases}
use Rattle.rules.proofs.ReaderLaws.{fetched_there, fetched_missing, counted_there, counted_more, read_held, read_next}
use Rattle.rules.proofs.Tests.{by-test, or_true, or_false}
use Rattle.rules.proofs.Traced.{Field, Leads, arrived, next}
use Rattle.rules.proofs.V0Blocks.{after}
use Rattle.rules.proofs.V0Traced.{block_traced}
use Rattle.rules.proofs.V2Traced.{header_traced, row_traced}

-- ── One read ──

missing_is : (s : List ℕ) (p : ℕ) → is_missing (fetched s p) ≡ past_end s p
missing_is s p =
    by-test (leb (p + 4) (length s)) (λ e. rw (fetched_there s p (leb-true _ _ e), e)) (λ e. rw (fetched_missing s p (leb-false _ _ e), e))

counted_one : (n : ℕ) (t : Bool) → n ≤ most_filler → counted n t ≡ min (n + cond t 1 0) most_filler
counted_one n true l = counted_more n
counted_one n false l = counted_there n ∙ omega arith

-- A read counts the words that it fetches.
pub read_counts : (s : List ℕ) (b : Bits) (n : ℕ) → b.filler ≤ most_filler
    → (read s b n).bits.filler ≡ min (b.filler + missing_of s (fetches b n)) most_filler
unfolding fetches missing_of
read_counts s b n l =
    by-test (leb (min n 32) (held b))
    (λ e. rw (read_held s b n (leb-true _ _ e), e) (omega arith))
    (λ e. let one : cond (past_end s b.pos) 1 0 ≡ cond (past_end s b.pos) 1 0 + 0 = omega arith in
    rw (read_next s b n (leb-false _ _ e), missing_is s b.pos, e) (counted_one b.filler (past_end s b.pos) l ∙ ap (λ (k : ℕ). min (b.filler + k) most_filler) one))

-- ── A run ──

missing_append : (s ps qs : List ℕ) → missing_of s (ps ++ qs) ≡ missing_of s ps + missing_of s qs
unfolding missing_of
missing_append s [] qs = omega arith
missing_append s (p ∷ ps) qs = omega (arith, missing_append s ps qs)

-- The count is the number of the words fetched that don't lie wholly in the stream, on top of what it was, and held.
pub run_counts : (s : List ℕ) {b c : Bits} {ps : List ℕ} → Run s b ps c → b.filler ≤ most_filler
    → c.filler ≡ min (b.filler + missing_of s ps) most_filler
unfolding missing_of
run_counts s {b = b} stay l = omega arith
run_counts s {b = b} (reads {ps = ps} n r) l =
    let one = read_counts s b n l in
    let rest = run_counts s r (omega (arith, one)) in
    omega (arith, one, rest, missing_append s (fetches b n) ps)
run_counts s (resets p r) l = run_counts s r l

-- The count of missing words never falls.
pub never_falls : (s : List ℕ) {b c : Bits} {ps : List ℕ} → Run s b ps c → b.filler ≤ most_filler → b.filler ≤ c.filler
never_falls s r l = omega (arith, run_counts s r l)

-- The count of missing words, from 0 on, is 0 exactly if every word was there.
pub none_missing : (s : List ℕ) {b c : Bits} {ps : List ℕ} → Run s b ps c → b.filler ≡ 0
    → (c.filler ≡ 0 → missing_of s ps ≡ 0) × (missing_of s ps ≡ 0 → c.filler ≡ 0)
none_missing s r z = let e = run_counts s r (omega arith) in (λ q. omega arith, λ q. omega arith)

-- A count that isn't 0 is the flag of a reader that has one.

counted_flag : (n : ℕ) (t : Bool) → not (eqb (counted n t) 0) ≡ not (eqb n 0) || t
counted_flag n true =
    ap (λ (k : ℕ). not (eqb k 0)) (counted_more n) ∙ ap not (ne_eqb (min (n + 1) most_filler) 0 (λ e. omega arith)) ∙ sym (or_true (not (eqb n 0)))
counted_flag n false = ap (λ (k : ℕ). not (eqb k 0)) (counted_there n) ∙ sym (or_false (not (eqb n 0)))

flag_append : (s : List ℕ) (o : Bool) (ps qs : List ℕ) → flag_after s o (ps ++ qs) ≡ flag_after s (flag_after s o ps) qs
unfolding flag_after
flag_append s o [] qs = refl
flag_append s o (p ∷ ps) qs = flag_append s (o || past_end s p) ps qs

read_flags : (s : List ℕ) (b : Bits) (n : ℕ) → has_filler (read s b n).bits ≡ flag_after s (has_filler b) (fetches b n)
unfolding fetches flag_after
read_flags s b n =
    by-test (leb (min n 32) (held b))
    (λ e. rw e (rw (read_held s b n (leb-true _ _ e))))
    (λ e. rw e (rw (read_next s b n (leb-false _ _ e), missing_is s b.pos) (counted_flag b.filler (past_end s b.pos))))

pub flag_is : (s : List ℕ) {b c : Bits} {ps : List ℕ} → Run s b ps c → has_filler c ≡ flag_after s (has_filler b) ps
unfolding flag_after
flag_is s stay = refl
flag_is s {b = b} (reads {ps = ps} n r) =
    flag_is s r ∙ ap (λ o. flag_after s o ps) (read_flags s b n) ∙ sym (flag_append s (has_filler b) (fetches b n) ps)
flag_is s (resets p r) = flag_is s r

-- A stream that has every word that is fetched: the count stays.
pub enough_stays : (s : List ℕ) {b c : Bits} {ps : List ℕ} → Run s b ps c → b.filler ≤ most_filler → All (λ p. p + 4 ≤ length s) ps
    → c.filler ≡ b.filler
unfolding missing_of
enough_stays s {ps = ps} r l there = omega (arith, run_counts s r l, none ps there)
  where
    none : (qs : List ℕ) → All (λ p. p + 4 ≤ length s) qs → missing_of s qs ≡ 0
    none [] nil = refl
    none (p ∷ qs) (more h hs) = rw (le-leb (p + 4) (length s) h) (omega (arith, none qs hs))

-- ── What the parsers do is a run ──

-- Some run leads from one state to another.
pub record Reached (s : List ℕ) (b c : Bits) : Type 0 where
  pub words : List ℕ
  pub run : Run s b words c

reached : {s : List ℕ} {b c : Bits} {ps : List ℕ} → Run s b ps c → Reached s b c
reached {ps = ps} r = record { words = ps; run = r }

at_once : {s : List ℕ} {b : Bits} → Reached s b b
at_once = reached stay

by_reset : (s : List ℕ) (b : Bits) (p : ℕ) → Reached s b (reset_at b p)
by_reset s b p = reached (resets p stay)

onward : {s : List ℕ} {b c d : Bits} {ps : List ℕ} → Run s b ps c → Reached s c d → Reached s b d
onward stay q = q
onward (reads n r) q = reached (reads n (onward r q).run)
onward (resets p r) q = reached (resets p (onward r q).run)

infixr 20 ◌then◌
◌then◌ : {s : List ℕ} {b c d : Bits} → Reached s b c → Reached s c d → Reached s b d
p then q = onward p.run q

-- Whatever is made of fields.
by_fields : {s : List ℕ} {b c : Bits} {fs : List Field} → Leads s b fs c → Reached s b c
by_fields arrived = at_once
by_fields (next n p) = reached (reads n (by_fields p).run)

-- ── V0 ──

blocks_reach : (s : List ℕ) (first : ℕ) (predict : ℕ → Bool → ℕ → Predictor) (n col : ℕ) (st : V0Row) → Reached s st.bits (V0.blocks s first predict n col st).bits
unfolding V0.blocks
blocks_reach s first predict zero col st = at_once
blocks_reach s first predict (suc n) col st =
    by_fields (block_traced s first predict col st).leads then blocks_reach s first predict n (col + 16) (after s first predict col st)

-- A row's reader goes from its offset, with count 0, to the row's end.
pub row_reach : (s : List ℕ) (z : Size) (row offset : ℕ) → Reached s (fresh offset) (V0.row_blocks s z row offset).bits
unfolding V0.row_blocks V0.fresh_row
row_reach s z row offset = blocks_reach s (row * z.width) (V0.predictor z row) (V0.blocks_in z.width) 0 (V0.fresh_row row offset)

-- So its count is the number of the words that it fetches past the stream's end.
pub row_counts : (s : List ℕ) (z : Size) (row offset : ℕ)
    → (V0.row_blocks s z row offset).bits.filler ≡ min (missing_of s (row_reach s z row offset).words) most_filler
row_counts s z row offset = run_counts s (row_reach s z row offset).run (omega arith) ∙ omega arith

-- A V0 frame's count is the sum over its rows, held.
rows_summed : (s offsets : List ℕ) (z : Size) (n row k : ℕ) → k ≤ most_filler
    → V0.rows_filler s offsets z n row k ≡ min (k + rows_sum s offsets z n row) most_filler
unfolding V0.rows_filler rows_sum
rows_summed s offsets z zero row k l = omega arith
rows_summed s offsets z (suc n) row k l =
    let m = (V0.row_blocks s z row (get_or offsets row 0)).bits.filler in
    omega (arith, rows_summed s offsets z n (suc row) (min (k + m) most_filler) (omega arith))

pub frame_summed : (s offsets : List ℕ) (z : Size) → V0.frame_filler s offsets z ≡ min (rows_sum s offsets z z.height 0) most_filler
unfolding V0.frame_filler
frame_summed s offsets z = rows_summed s offsets z z.height 0 0 (omega arith) ∙ omega arith

-- It is 0 where no row misses a word.
pub frame_none : (s offsets : List ℕ) (z : Size) → ((row : ℕ) → row < z.height → (V0.row_blocks s z row (get_or offsets row 0)).bits.filler ≡ 0)
    → V0.frame_filler s offsets z ≡ 0
unfolding rows_sum
frame_none s offsets z none = frame_summed s offsets z ∙ ap (λ n. min n most_filler) (all z.height 0 (omega arith)) ∙ omega arith
  where
    all : (n row : ℕ) → row + n ≤ z.height → rows_sum s offsets z n row ≡ 0
    all zero row l = refl
    all (suc n) row l = omega (arith, none row (omega arith), all n (suc row) (omega arith))

-- ── V2 ──

v2_row_reach : (s : List ℕ) (h : V2Hdr) (w row : ℕ) (b : Bits) → Reached s b (V2.read_row s h w row b).bits
unfolding V2.aligned
v2_row_reach s h w row b = by_reset s b _ then by_fields (row_traced s h w row b).leads

-- A state that the reader comes to, whose count an answer has.
pub record Answers (s : List ℕ) (b : Bits) (a : Answer) : Type 0 where
  pub end : Bits
  pub reach : Reached s b end
  pub filler_is : a.filler ≡ end.filler

rows_answer : (s : List ℕ) (h : V2Hdr) (w n row : ℕ) (b : Bits) → Answers s b (V2.rows s h w n row b).answer
unfolding V2.rows
rows_answer s h w zero row b = record { end = b; reach = at_once; filler_is = refl }
rows_answer s h w (suc n) row b =
    let q = V2.read_row s h w row b in
    let one = v2_row_reach s h w row b in
    let here : (k : ℕ) → Answers s b (record { number = k; row = row; filler = q.bits.filler }) = λ k. record { end = q.bits; reach = one; filler_is = refl } in
    let rest = rows_answer s h w n (suc row) q.bits in
    then_rows_cases (λ x. Answers s b x.answer) row q (V2.rows s h w n (suc row) q.bits) (λ e. here q.number) (λ e m. here 8)
    (λ e m. record { end = rest.end; reach = one then rest.reach; filler_is = rest.filler_is })

-- The count of a V2 answer is that of one reader, from the header on.
pub v2_answer : (s : List ℕ) (z : Size) → Answers s (fresh 0) (V2.read_frame s z).answer
unfolding V2.read_frame
v2_answer s z =
    let x = V2.header s in
    let a = rows_answer s x.value z.width z.height 0 x.bits in
    record { end = a.end; reach = by_fields (header_traced s).leads then a.reach; filler_is = a.filler_is }

-- So it is the number of the words that this reader fetches past the stream's end.
pub v2_counts : (s : List ℕ) (z : Size) → (V2.read_frame s z).answer.filler ≡ min (missing_of s (v2_answer s z).reach.words) most_filler
v2_counts s z = let a = v2_answer s z in a.filler_is ∙ run_counts s a.reach.run (omega arith) ∙ omega arith
