-- How long a job's text is: at most 105,352 bytes.
use Prim.Native.Nat.{ℕ, zero, suc, ◌+◌, ◌-◌, ◌*◌, ◌/◌, ◌%◌, ◌≤◌, ◌<◌}
use mathlib.Core.Path.{◌≡◌, ap, ◌∙◌}
use mathlib.Core.Bool.{Bool, true, false, cond}
use mathlib.Core.List.{List, [], ◌∷◌, ◌++◌}
use native.Mathlib.Omega.{arith}
use native.Mathlib.Nat.{mul-le-mul_right, mul_comm}
use lib.ListN.{length, take, drop, length-append, length-take}
use lib.Dec.{ltb, eqb}
use borrow.Author.Tests.{ltb-true, ltb-false}
use Rattle.rules.specs.Job.{half_word_at, job_ask, job_lent, digits, fault, done_line, refused_line, samples_text, rows_text, answer_text}
use Rattle.rules.specs.Answer.{answer}
use Rattle.job.specs.Fields.{Sound}
use Rattle.job.specs.Written.{Room, row_text}
use Rattle.job.proofs.DecimalLaws.{digits_one, digits_more}
use Rattle.job.proofs.TextLaws.{rows_next}
use Rattle.rules.proofs.Tests.{by-test}

-- ── Numbers ──

pub digits_most : (k v : ℕ) → length (digits k v) ≤ k
unfolding digits
digits_most zero v = omega arith
digits_most (suc k) v =
    by-test (ltb v 10)
    (λ e. rw e (omega arith))
    (λ e. rw e (omega (arith, length-append (digits k (v / 10)) ((48 + v % 10) ∷ []), digits_most k (v / 10))))

short : (k v : ℕ) → 0 < k → v < 10 → length (digits k v) ≡ 1
short k v h l = ap length (digits_one k v h l)

longer : (k v : ℕ) → 0 < k → 10 ≤ v → length (digits k v) ≡ length (digits (k - 1) (v / 10)) + 1
longer k v h l = ap length (digits_more k v h l) ∙ length-append (digits (k - 1) (v / 10)) ((48 + v % 10) ∷ [])

split : (a b : ℕ) {P : Type 0} → (a < b → P) → (b ≤ a → P) → P
split a b f g = by-test (ltb a b) (λ e. f (ltb-true a b e)) (λ e. g (ltb-false a b e))

-- How many digits the numbers below n have together, up to 10,000.
unfoldable digits_below : ℕ → ℕ
digits_below n = n + (n - 10) + (n - 100) + (n - 1_000)

row_digits : (row : ℕ) → row < 10_000 → digits_below row + length (digits 5 row) ≡ digits_below (suc row)
unfolding digits_below
row_digits row h =
    split row 10 (λ l. omega (arith, short 5 row (omega arith) l)) (λ l.
    split row 100 (λ m. omega (arith, longer 5 row (omega arith) l, short 4 (row / 10) (omega arith) (omega arith))) (λ m.
    split row 1_000
    (λ n. omega (arith, longer 5 row (omega arith) l, longer 4 (row / 10) (omega arith) (omega arith), short 3 (row / 10 / 10) (omega arith) (omega arith)))
    (λ n. omega (arith, longer 5 row (omega arith) l, longer 4 (row / 10) (omega arith) (omega arith), longer 3 (row / 10 / 10) (omega arith) (omega arith), short 2 (row / 10 / 10 / 10) (omega arith) (omega arith)))))

-- ── Lines ──

asterisk_most : (t : Bool) → length {A = ℕ} (cond t [] (42 ∷ [])) ≤ 1
asterisk_most true = omega arith
asterisk_most false = omega arith

-- A sample has at most a space, five digits and an asterisk.
samples_most : (vs ms : List ℕ) → length (samples_text vs ms) ≤ 7 * length vs
unfolding samples_text
samples_most [] ms = omega arith
samples_most (v ∷ vs) [] = omega arith
samples_most (v ∷ vs) (m ∷ ms) =
    omega (arith, length-append (digits 5 v ++ cond (eqb m 0) [] (42 ∷ [])) (samples_text vs ms), length-append (digits 5 v) (cond (eqb m 0) [] (42 ∷ [])), digits_most 5 v, asterisk_most (eqb m 0), samples_most vs ms)

row_most : (row : ℕ) (vs ms : List ℕ) → length (row_text row vs ms) ≤ length (digits 5 row) + 2 + 7 * length vs
unfolding row_text
row_most row vs ms =
    omega (arith, length-append (digits 5 row ++ (58 ∷ samples_text vs ms)) (10 ∷ []), length-append (digits 5 row) (58 ∷ samples_text vs ms), samples_most vs ms)

-- n rows, each of at most k bytes beside its number.
rows_most : (w k n row : ℕ) (vs ms : List ℕ) → 2 + 7 * w ≤ k → row + n ≤ 10_000
    → digits_below row + length (rows_text w n row vs ms) ≤ digits_below (row + n) + n * k
unfolding rows_text
rows_most w k zero row vs ms hk h = let e : row + 0 ≡ row = omega arith in rw e (omega arith)
rows_most w k (suc n) row vs ms hk h =
    let vs' = drop w vs in
    let ms' = drop w ms in
    let most : digits_below (suc row) + length (rows_text w n (suc row) vs' ms') ≤ digits_below (suc row + n) + n * k = rows_most w k n (suc row) vs' ms' hk (omega arith) in
    let e : row + suc n ≡ suc row + n = omega arith in
    rw (rows_next w n row vs ms, e)
    (omega (arith, length-append (row_text row (take w vs) (take w ms)) (rows_text w n (suc row) vs' ms'), row_most row (take w vs) (take w ms), length-take w vs, row_digits row (omega arith)))

-- ── The text ──

-- 8,189 rows of one sample are the longest.
pub frame_most : (w h : ℕ) (vs ms : List ℕ) → w * h ≤ 8_192 → h ≤ 8_189 → length (done_line ++ rows_text w h 0 vs ms) ≤ 105_352
unfolding digits_below
frame_most zero h vs ms few rows = omega (arith, rows_most 0 2 h 0 vs ms (omega arith) (omega arith))
frame_most (suc zero) h vs ms few rows = omega (arith, rows_most 1 9 h 0 vs ms (omega arith) (omega arith))
frame_most (suc (suc w)) h vs ms few rows =
    let half : 2 * h ≤ suc (suc w) * h = mul-le-mul_right h (omega arith) in
    let all : h * (2 + 7 * suc (suc w)) ≡ 2 * h + 7 * (suc (suc w) * h) = omega (arith, mul_comm h w) in
    omega (arith, rows_most (suc (suc w)) (2 + 7 * suc (suc w)) h 0 vs ms (omega arith) (omega arith))

pub refused_most : (n : ℕ) → length (refused_line n) ≤ 105_352
refused_most n = omega (arith, length-append (digits 5 n) (10 ∷ []), digits_most 5 n)

pub fault_room : (t : List ℕ) (n : ℕ) → 10 ≤ length t → Room t 0 (fault n)
fault_room t n h = record { fits = omega (arith, length-append (digits 5 n) (10 ∷ []), digits_most 5 n) }

pub answer_room : (s t : List ℕ) (w h : ℕ) → Sound s (record { width = w; height = h }) → 105_352 ≤ length t → Room t 0 (answer_text s)
unfolding answer_text
answer_room s t w h q l = record { fits = omega (arith, few) }
  where
    few : length (answer_text s) ≤ 105_352
    few =
        by-test (eqb (answer (job_ask s) job_lent).number 0)
        (λ e. rw e (frame_most (half_word_at s 5) (half_word_at s 7) _ _ (rw (q.width_is, q.height_is) at q.few) (omega (arith, q.short, rw q.height_is at q.table))))
        (λ e. rw e (refused_most (answer (job_ask s) job_lent).number))
