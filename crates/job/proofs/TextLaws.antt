-- The parts of a job's lines, and its samples and rows one by one.
use Prim.Native.Nat.{ℕ, suc, ◌+◌, ◌-◌, ◌*◌, ◌≤◌, ◌<◌}
use mathlib.Core.Path.{◌≡◌, refl}
use mathlib.Core.Bool.{cond}
use mathlib.Core.List.{List, [], ◌∷◌, ◌++◌, append_assoc, append-nil}
use native.Mathlib.Omega.{arith}
use native.Mathlib.Numerals.{add-one}
use native.Mathlib.Nat.{mul-le-mul_right, mul_comm}
use lib.ListN.{length, take, drop, get_or, drop_of_length-le}
use lib.Seq.{drop-cons, drop-drop}
use lib.Dec.{eqb}
use borrow.Author.Tests.{eq-eqb, ne_eqb}
use Rattle.rules.specs.Job.{digits, line, samples_text, rows_text}
use Rattle.job.specs.Written.{Left, sample_text, row_text}
use Rattle.job.proofs.WrittenLaws.{left_start, left_as}

-- ── A sample ──

module _ (t : List ℕ) (n v m : ℕ) where
  pub sample_parts : Left t n (32 ∷ (digits 5 v ++ cond (eqb m 0) [] (42 ∷ []))) t n (sample_text v m)
  unfolding sample_text
  sample_parts = left_start t n (sample_text v m)

  pub sample_marked : (m ≡ 0 → ⊥) → Left t n (32 ∷ (digits 5 v ++ (42 ∷ []))) t n (sample_text v m)
  sample_marked e = left_as (rw (ne_eqb m 0 e)) sample_parts

  pub sample_plain : m ≡ 0 → Left t n (32 ∷ digits 5 v) t n (sample_text v m)
  sample_plain e = left_as (rw (eq-eqb m 0 e, append-nil)) sample_parts

-- ── A row ──

pub row_parts : (t : List ℕ) (n row : ℕ) (vs ms : List ℕ)
    → Left t n (digits 5 row ++ (58 ∷ (samples_text vs ms ++ (10 ∷ [])))) t n (row_text row vs ms)
unfolding row_text
row_parts t n row vs ms = left_as (append_assoc (digits 5 row) (58 ∷ samples_text vs ms) (10 ∷ [])) (left_start t n (row_text row vs ms))

-- ── A line of a word and a number ──

pub numbered_parts : (t word : List ℕ) (number : ℕ)
    → Left t 0 (word ++ (digits 5 number ++ (10 ∷ []))) t 0 (line (word ++ digits 5 number))
numbered_parts t word number = left_as (append_assoc word (digits 5 number) (10 ∷ [])) (left_start t 0 (line (word ++ digits 5 number)))

pub rows_next : (w n row : ℕ) (vs ms : List ℕ)
    → rows_text w (suc n) row vs ms ≡ row_text row (take w vs) (take w ms) ++ rows_text w n (suc row) (drop w vs) (drop w ms)
unfolding rows_text row_text
rows_next w n row vs ms = refl

-- ── What is left of a list ──

module _ {t : List ℕ} {at : ℕ} {t₀ : List ℕ} {n : ℕ} {whole : List ℕ} where
  -- Of bytes.
  pub byte_parts : (xs : List ℕ) (i : ℕ) → i < length xs → Left t at (drop i xs) t₀ n whole → Left t at ((get_or xs i 0 ∷ []) ++ drop (i + 1) xs) t₀ n whole
  byte_parts xs i h l = left_as (rw (add-one, ← drop-cons xs i 0 h)) l

  pub no_bytes : (xs : List ℕ) (i : ℕ) → length xs ≤ i → Left t at (drop i xs) t₀ n whole → Left t at [] t₀ n whole
  no_bytes xs i h l = left_as (drop_of_length-le xs h) l

  -- Of samples.
  pub samples_parts : (vs ms : List ℕ) (i v : ℕ) → i < length vs → length ms ≡ length vs → v ≡ get_or vs i 0 → Left t at (samples_text (drop i vs) (drop i ms)) t₀ n whole
      → Left t at (sample_text v (get_or ms i 0) ++ samples_text (drop (i + 1) vs) (drop (i + 1) ms)) t₀ n whole
  unfolding samples_text sample_text
  samples_parts vs ms i v h e is l = left_as (rw (drop-cons vs i 0 h, drop-cons ms i 0 (omega arith), add-one, is)) l

  pub no_samples : (vs ms : List ℕ) (i : ℕ) → length vs ≤ i → Left t at (samples_text (drop i vs) (drop i ms)) t₀ n whole → Left t at [] t₀ n whole
  unfolding samples_text
  no_samples vs ms i h l = left_as (rw (drop_of_length-le vs h)) l

  -- Of rows.
  pub rows_parts : (w h row : ℕ) (vs ms : List ℕ) → row < h → Left t at (rows_text w (h - row) row (drop (row * w) vs) (drop (row * w) ms)) t₀ n whole
      → Left t at (row_text row (take (row * w + w - row * w) (drop (row * w) vs)) (take (row * w + w - row * w) (drop (row * w) ms)) ++ rows_text w (h - (row + 1)) (row + 1) (drop ((row + 1) * w) vs) (drop ((row + 1) * w) ms)) t₀ n whole
  unfolding rows_text row_text
  rows_parts w h row vs ms l left =
      let e : h - row ≡ suc (h - (row + 1)) = omega arith in
      let next : (row + 1) * w ≡ row * w + w = omega arith in
      let k : row * w + w - row * w ≡ w = omega arith in
      left_as (rw (e, add-one row, ← add-one row, next, k, drop-drop w (row * w) vs, drop-drop w (row * w) ms)) left

  pub no_rows : (w h row : ℕ) (vs ms : List ℕ) → h ≤ row → Left t at (rows_text w (h - row) row (drop (row * w) vs) (drop (row * w) ms)) t₀ n whole → Left t at [] t₀ n whole
  unfolding rows_text
  no_rows w h row vs ms l left = let e : h - row ≡ 0 = omega arith in left_as (rw e) left

pub all_rows : (t : List ℕ) (n w h : ℕ) (vs ms : List ℕ) → Left t n (rows_text w (h - 0) 0 (drop (0 * w) vs) (drop (0 * w) ms)) t n (rows_text w h 0 vs ms)
all_rows t n w h vs ms =
    let e : h - 0 ≡ h = omega arith in
    let z : 0 * w ≡ 0 = omega arith in
    rw (e, z) (left_start t n (rows_text w h 0 vs ms))

-- A row lies within the frame.
pub row_fits : (w h row m : ℕ) → row < h → w * h ≤ m → row * w + w ≤ m
row_fits w h row m l e =
    let f : suc row * w ≤ h * w = mul-le-mul_right w l in
    let x : h * w ≡ w * h = mul_comm h w in
    omega arith
