-- Refusals (docs/RULES.md, "Answers"): the answer among 1 to 4 is the least number whose test holds, and none of them only if none
-- does. What a call that was not refused may count on, what the stream may answer then, and that 1 to 4 change no buffer.
use Prim.Native.Nat.{ℕ, zero, suc, ◌+◌, ◌/◌, ◌<◌, ◌≤◌}
use mathlib.Core.Logic.{◌⊎◌, inl, inr, ◌≢◌}
use mathlib.Core.Bool.{Bool, true, false, ◌||◌}
use mathlib.Core.Path.{◌≡◌, refl, sym, ◌∙◌}
use mathlib.Core.List.{List, [], ◌∷◌}
use mathlib.Core.Option.{some}
use native.Mathlib.Omega.{arith}
use lib.ListN.{length, get_or, take}
use lib.Seq.{get_or-take}
use lib.Dec.{ltb, eqb, lit≤}
use borrow.Author.Tests.{ltb-true, ltb-false, eqb-true, eqb-false, ne_eqb}
use Rattle.rules.specs.Limits.{most_side}
use Rattle.rules.specs.declared.answer.Answer.{Answer}
use Rattle.rules.specs.declared.answer.Size.{Size}
use Rattle.rules.specs.declared.reader.Bits.{Bits}
use Rattle.rules.specs.declared.v2.V2Hdr.{V2Hdr}
use Rattle.rules.specs.declared.v2.V2Row.{V2Row}
use Rattle.rules.specs.Frame.{cells}
use Rattle.rules.specs.V0.{frame_filler}
use Rattle.rules.specs.V2.{read_block, blocks, read_row, rows, read_frame, aligned, fresh_row, fresh_mode, header}
use Rattle.rules.specs.Answer.{done_with, refused, Decoder, direct, two_phase, v2, Ask, Lent, Buffers, Yields, too_large, too_small, short_offsets, short_samples, short_map, scratch_bytes, short_scratch, first_of, refusal, stream_answer, answer, unless_refused, samples_after, map_after, scratch_after}
use Rattle.rules.proofs.Cells.{All, nil, more, all_get}
use Rattle.rules.proofs.Tests.{clash, neither, by-test}
use Rattle.rules.proofs.V2Rows.{then_cases, then_rows_cases}

-- ── The least number whose test holds ──

-- Four tests at their numbers; number 0 has none.
abbrev numbered : Bool → Bool → Bool → Bool → List Bool
numbered t1 t2 t3 t4 = false ∷ t1 ∷ t2 ∷ t3 ∷ t4 ∷ []

-- k is the number of the first test that holds, or 0 if none does.
pub record Least (tests : List Bool) (k : ℕ) : Type 0 where
  pub most : k ≤ 4
  pub own : 1 ≤ k → get_or tests k false ≡ true
  pub smaller : (j : ℕ) → j < k → get_or tests j false ≡ false
  pub none : k ≡ 0 → (j : ℕ) → get_or tests j false ≡ false

abbrev False : Bool → Type 0
False t = t ≡ false

first_at : (k : ℕ) {ts : List Bool} → 1 ≤ k → k ≤ 4 → get_or ts k false ≡ true → All False (take k ts) → Least ts k
first_at k {ts} o m h ps =
    record {
      most = m;
      own = λ q. h;
      smaller = λ j q. sym (get_or-take k ts j false q) ∙ all_get False ps j false refl;
      none = λ q. absurd (omega arith);
    }

first_least : (t1 t2 t3 t4 : Bool) → Least (numbered t1 t2 t3 t4) (first_of t1 t2 t3 t4)
unfolding first_of
first_least true t2 t3 t4 = first_at 1 (lit≤ tt) (lit≤ tt) refl (more refl nil)
first_least false true t3 t4 = first_at 2 (lit≤ tt) (lit≤ tt) refl (more refl (more refl nil))
first_least false false true t4 = first_at 3 (lit≤ tt) (lit≤ tt) refl (more refl (more refl (more refl nil)))
first_least false false false true = first_at 4 (lit≤ tt) (lit≤ tt) refl (more refl (more refl (more refl (more refl nil))))
first_least false false false false =
    record {
      most = lit≤ tt;
      own = λ q. absurd (omega arith);
      smaller = λ j q. absurd (omega arith);
      none = λ q j. all_get False (more refl (more refl (more refl (more refl (more refl nil))))) j false refl;
    }

-- The tests of refusals 1 to 4 at their numbers.
abbrev pub tests : Ask → Lent → List Bool
tests a l =
    numbered (too_large a.size) (too_small a.decoder a.size) (short_samples a l)
    (short_map l.map a.size || short_scratch a.decoder l.scratch a.size)

-- Whether the test of refusal k holds.
abbrev pub holds : Ask → Lent → ℕ → Bool
holds a l k = get_or (tests a l) k false

module _ (a : Ask) (l : Lent) where
  -- The refusal is the least number whose test holds, or 0 if none does.
  pub refusal_least : Least (tests a l) (refusal a l)
  unfolding refusal
  refusal_least = first_least _ _ _ _

  -- The least number whose test holds is the refusal.
  pub refusal_is : (k : ℕ) → holds a l k ≡ true → ((j : ℕ) → j < k → holds a l j ≡ false) → refusal a l ≡ k
  refusal_is k e f =
      by-test (ltb k (refusal a l))
      (λ p. absurd (clash e (refusal_least.smaller k (ltb-true k r p))))
      (λ p. by-test (ltb (refusal a l) k)
      (λ q. by-test (eqb (refusal a l) 0)
      (λ o. absurd (clash e (refusal_least.none (eqb-true r 0 o) k)))
      (λ o. absurd (clash (refusal_least.own (let n = eqb-false r 0 o in omega arith)) (f r (ltb-true r k q)))))
      (λ q. omega (arith, ltb-false k r p, ltb-false r k q)))
    where
      r : ℕ
      r = refusal a l

  -- Without a test that holds there is no refusal.
  pub refusal_zero : ((j : ℕ) → holds a l j ≡ false) → refusal a l ≡ 0
  refusal_zero f =
      by-test (eqb (refusal a l) 0)
      (λ e. eqb-true (refusal a l) 0 e)
      (λ e. absurd (clash (refusal_least.own (let n = eqb-false (refusal a l) 0 e in omega arith)) (f (refusal a l))))

  -- ── Answers ──

  -- A refusal is answered with its number, row 0 and no missing word; else the stream answers.
  pub answer_refused : 1 ≤ refusal a l → answer a l ≡ refused (refusal a l)
  unfolding answer
  answer_refused h = rw (ne_eqb (refusal a l) 0 (λ e. omega arith))

  pub answer_passed : refusal a l ≡ 0 → answer a l ≡ stream_answer a.decoder a.stream a.offsets a.size
  unfolding answer
  answer_passed e = rw e

  -- Done and 5 to 8 are answered only if no test of 1 to 4 holds.
  pub passed : ((answer a l).number ≡ 0) ⊎ (5 ≤ (answer a l).number) → refusal a l ≡ 0
  passed q =
      by-test (eqb (refusal a l) 0)
      (λ e. eqb-true (refusal a l) 0 e)
      (λ e. no (rw (answer_refused (let n = eqb-false (refusal a l) 0 e in omega arith)) at q))
    where
      no : (refusal a l ≡ 0) ⊎ (5 ≤ refusal a l) → refusal a l ≡ 0
      no (inl z) = z
      no (inr m) = absurd (omega (arith, refusal_least.most))

-- ── What a call that was not refused may count on ──

module _ (a : Ask) (l : Lent) (ok : refusal a l ≡ 0) where
  fails : (k : ℕ) → holds a l k ≡ false
  fails = (refusal_least a l).none ok

  -- The size is within the limits.
  pub size_most : (a.size.width ≤ most_side) × (a.size.height ≤ most_side)
  unfolding too_large
  size_most = let q = neither _ _ (fails 1) in (ltb-false _ _ q.0, ltb-false _ _ q.1)

  -- V2: it is no smaller than the least.
  pub v2_size_least : a.decoder ≡ v2 → (32 ≤ a.size.width) × (1 ≤ a.size.height)
  unfolding too_small
  v2_size_least e = let q = neither _ _ (rw e at (fails 2)) in (ltb-false _ _ q.1, ltb-false _ _ q.0)

  third : (ltb l.samples (cells a.size) ≡ false) × (short_offsets a.decoder a.offsets a.size ≡ false)
  unfolding short_samples
  third = neither _ _ (fails 3)

  -- The frame's samples are lent.
  pub samples_enough : cells a.size ≤ l.samples
  samples_enough = ltb-false _ _ third.0

  -- V0: there is an offset for each row.
  pub offsets_enough : a.decoder ≢ v2 → a.size.height ≤ length a.offsets
  unfolding short_offsets
  offsets_enough = go a.decoder third.1
    where
      go : (k : Decoder) → short_offsets k a.offsets a.size ≡ false → k ≢ v2 → a.size.height ≤ length a.offsets
      go direct e n = ltb-false _ _ e
      go two_phase e n = ltb-false _ _ e
      go v2 e n = absurd (n refl)

  fourth : (short_map l.map a.size ≡ false) × (short_scratch a.decoder l.scratch a.size ≡ false)
  fourth = neither _ _ (fails 4)

  -- A map that is lent has a byte for each sample.
  pub map_enough : (n : ℕ) → l.map ≡ some n → cells a.size ≤ n
  unfolding short_map
  map_enough n e = ltb-false _ _ (rw e at fourth.0)

  -- Two-phase: there is a byte of scratch for each block of rows 2 on.
  pub scratch_enough : a.decoder ≡ two_phase → scratch_bytes a.size ≤ l.scratch
  unfolding short_scratch
  scratch_enough e = ltb-false _ _ (rw e at fourth.1)

-- ── What refusals 1 to 4 leave ──

module _ (a : Ask) (l : Lent) (refused : 1 ≤ refusal a l) (buffer : List ℕ) where
  unless_kept : (new : List ℕ) → unless_refused a l new buffer ≡ buffer
  unfolding unless_refused
  unless_kept new = rw (ne_eqb (refusal a l) 0 (λ e. omega arith))

  -- Every buffer stays as it was.
  pub samples_kept : samples_after a l buffer ≡ buffer
  unfolding samples_after
  samples_kept = unless_kept _

  pub map_kept : map_after a l buffer ≡ buffer
  unfolding map_after
  map_kept = unless_kept _

  pub scratch_kept : scratch_after a l buffer ≡ buffer
  unfolding scratch_after
  scratch_kept = unless_kept _

-- ── What a call yields ──

-- Every call yields what the rules say, and nothing else: asked alike over equal buffers, two calls answer and leave the same.
pub yields_once : {a : Ask} {found left left' : Buffers} {r r' : Answer} → Yields a found r left → Yields a found r' left'
    → (r ≡ r') × (left ≡ left')
yields_once p q = (
  p.answered ∙ sym q.answered,
  λ i. record {
    samples = (p.samples ∙ sym q.samples) i;
    map = (p.map ∙ sym q.map) i;
    scratch = (p.scratch ∙ sym q.scratch) i;
  },
)

-- ── What the stream answers ──

-- Done, or one of 5 to 8 with a row of the frame.
pub data Ending (height : ℕ) (a : Answer) : Type 0 where
  accepted : a ≡ done_with a.filler → Ending height a
  stopped : 5 ≤ a.number → a.number ≤ 8 → a.row < height → Ending height a

-- A row that is refused is refused with 5, 6 or 7.
blocks_number : (s : List ℕ) (h : V2Hdr) (w row k col : ℕ) (b : Bits) (st : V2Row) (mode : List (List ℕ))
    → (let q = blocks s h w row k col b st mode in q.number ≢ 0 → (5 ≤ q.number) × (q.number ≤ 7))
unfolding blocks
blocks_number s h w row zero col b st mode = λ e. absurd (e refl)
blocks_number s h w row (suc k) col b st mode =
    let p = read_block s h w row col b st mode in
    then_cases (λ q. q.number ≢ 0 → (5 ≤ q.number) × (q.number ≤ 7)) p.outcome p.block _
    (λ b' st' e. blocks_number s h w row k (col + 16) b' st' p.mode) (λ n b' l m e. (l, m))

row_early : (s : List ℕ) (h : V2Hdr) (w row : ℕ) (b : Bits) → (let q = read_row s h w row b in q.number ≢ 0 → (5 ≤ q.number) × (q.number ≤ 7))
unfolding read_row
row_early s h w row b = blocks_number s h w row (w / 16) 0 (aligned b) fresh_row (fresh_mode row)

rows_ending : (s : List ℕ) (h : V2Hdr) (w k row : ℕ) (b : Bits) → Ending (row + k) (rows s h w k row b).answer
unfolding rows
rows_ending s h w zero row b = accepted refl
rows_ending s h w (suc k) row b =
    let q = read_row s h w row b in
    let below : row < row + suc k = omega arith in
    then_rows_cases (λ x. Ending (row + suc k) x.answer) row q (rows s h w k (suc row) q.bits)
    (λ e. early (row_early s h w row b e)) (λ e m. stopped (lit≤ tt) (lit≤ tt) below)
    (λ e m. later (rows_ending s h w k (suc row) q.bits))
  where
    early : {m k' : ℕ} → (5 ≤ m) × (m ≤ 7) → Ending (row + suc k) (record { number = m; row = row; filler = k' })
    early p = stopped p.0 (omega arith) (omega arith)

    later : {a : Answer} → Ending (suc row + k) a → Ending (row + suc k) a
    later (accepted e) = accepted e
    later (stopped l m h) = stopped l m (omega arith)

v2_ending : (s : List ℕ) (z : Size) → Ending z.height (read_frame s z).answer
unfolding read_frame
v2_ending s z =
    let x = header s in
    let e : 0 + z.height ≡ z.height = omega arith in
    rw e at (rows_ending s x.value z.width z.height 0 x.bits)

-- The answer of a call that was not refused is done, or in V2 one of 5 to 8 with a row of the frame.
pub stream_ending : (k : Decoder) (s offsets : List ℕ) (z : Size) → Ending z.height (stream_answer k s offsets z)
unfolding stream_answer
stream_ending direct s offsets z = accepted refl
stream_ending two_phase s offsets z = accepted refl
stream_ending v2 s offsets z = v2_ending s z

-- It is at most 8, and none of 1 to 4.
ending_most : {height : ℕ} {x : Answer} → Ending height x → x.number ≤ 8
ending_most (accepted e) = rw e (lit≤ tt)
ending_most (stopped l m h) = m

ending_late : {height : ℕ} {x : Answer} → Ending height x → 1 ≤ x.number → 5 ≤ x.number
ending_late (accepted e) o = let q = rw e at o in absurd (omega arith)
ending_late (stopped l m h) o = l

module _ (a : Ask) (l : Lent) where
  ending : Ending a.size.height (stream_answer a.decoder a.stream a.offsets a.size)
  ending = stream_ending a.decoder a.stream a.offsets a.size

  -- Every call is answered with done or one of 1 to 8.
  pub answer_most : (answer a l).number ≤ 8
  unfolding answer
  answer_most = by-test (eqb (refusal a l) 0) (λ t. rw t (ending_most ending)) (λ t. rw t (omega (arith, (refusal_least a l).most)))

  -- An answer of 1 to 4 is the refusal, with row 0 and no missing word.
  pub answer_early : 1 ≤ (answer a l).number → (answer a l).number ≤ 4 → answer a l ≡ refused (refusal a l)
  unfolding answer
  answer_early o f =
      by-test (eqb (refusal a l) 0) (λ t. let late = ending_late ending (rw t at o) in let early = rw t at f in absurd (omega arith)) (λ t. rw t)

-- ── Missing words ──

-- The two V0 decoders' answers differ in the count alone.
pub two_phase_answer : (s offsets : List ℕ) (z : Size) → stream_answer two_phase s offsets z ≡ done_with 0
unfolding stream_answer
two_phase_answer s offsets z = refl

pub direct_answer : (s offsets : List ℕ) (z : Size) → stream_answer direct s offsets z ≡ done_with (frame_filler s offsets z)
unfolding stream_answer
direct_answer s offsets z = refl

-- A count that refusal 8 and done come with.
abbrev Missing : Answer → Type 0
Missing a = (a.number ≡ 8 → a.filler ≢ 0) × (a.number ≡ 0 → a.filler ≡ 0)

rows_missing : (s : List ℕ) (h : V2Hdr) (w k row : ℕ) (b : Bits) → (k ≡ 0 → b.filler ≡ 0) → Missing (rows s h w k row b).answer
unfolding rows
rows_missing s h w zero row b z = (λ e. absurd (let q : 0 ≡ 8 = e in omega arith), λ e. z refl)
rows_missing s h w (suc k) row b z =
    let q = read_row s h w row b in
    then_rows_cases (λ x. Missing x.answer) row q (rows s h w k (suc row) q.bits)
    (λ e. (λ m. absurd (let l = row_early s h w row b e in omega arith), λ m. absurd (e m)))
    (λ e m. (λ f. m, λ f. absurd (let q : 8 ≡ 0 = f in omega arith))) (λ e m. rows_missing s h w k (suc row) q.bits (λ f. m))

-- Refusal 8 comes with a count above 0, and done with count 0.
pub v2_missing : (s : List ℕ) (z : Size) → 1 ≤ z.height → Missing (read_frame s z).answer
unfolding read_frame
v2_missing s z l =
    let x = header s in
    rows_missing s x.value z.width z.height 0 x.bits (λ e. absurd (omega arith))
