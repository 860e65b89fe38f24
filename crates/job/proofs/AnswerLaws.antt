-- What a job without fault asks the direct decoder, and its text after the answer.
use Prim.Native.Nat.{ℕ, ◌+◌, ◌-◌, ◌*◌, ◌≤◌}
use mathlib.Core.Path.{◌≡◌, sym, ◌∙◌}
use mathlib.Core.List.{List, ◌++◌}
use mathlib.Core.Option.{none, some, some-injective}
use native.Mathlib.Omega.{arith}
use lib.ListN.{length, take, drop, replicate, length-replicate, length-drop}
use lib.Seq.{take_all, length-take-le}
use borrow.Author.Tests.{ne_eqb}
use Rattle.rules.specs.declared.answer.Answer.{Answer}
use Rattle.rules.specs.Answer.{Ask, Buffers, direct, ask, buffers, lengths, Yields, answer, map_after}
use Rattle.rules.specs.Job.{job_ask, job_lent, done_line, refused_line, rows_text, answer_text}
use Rattle.job.specs.Fields.{offsets_of, Sound}
use Rattle.job.specs.Written.{Left}
use Rattle.job.proofs.WrittenLaws.{left_start, left_as}

-- What the decoder is asked, with the offsets at the start of a table l, and lent.
abbrev pub asked : List ℕ → List ℕ → ℕ → ℕ → Ask
asked s l w h = ask direct (take (length s - (9 + 4 * h)) (drop (9 + 4 * h) s)) (take h l) w h

abbrev zeros : List ℕ
zeros = replicate 8_192 0

abbrev pub found : Buffers
found = buffers zeros (some zeros) none

found_is : lengths found ≡ job_lent
found_is = rw length-replicate

module _ (s : List ℕ) (w h : ℕ) (q : Sound s (record { width = w; height = h })) (l : List ℕ) where
  -- The offsets lent are as many as there are rows.
  pub offsets_fit : length l ≡ 8_189 → h ≡ length (take h l)
  offsets_fit e = sym (length-take-le h l (omega (arith, q.short, q.table)))

  module _ (eo : take h l ≡ offsets_of s h) where
    asked_is : asked s l w h ≡ job_ask s
    unfolding offsets_of
    asked_is =
        let few : length (drop (9 + 4 * h) s) ≤ length s - (9 + 4 * h) = omega (arith, length-drop (9 + 4 * h) s) in
        let rest : take (length s - (9 + 4 * h)) (drop (9 + 4 * h) s) ≡ drop (9 + 4 * h) s = take_all _ _ few in
        rw (rest, eo, q.width_is, q.height_is)

    module _ (t : List ℕ) (r : Answer) (out m : List ℕ) (y : Yields (asked s l w h) found r (buffers out (some m) none)) where
      answer_is : (answer (job_ask s) job_lent).number ≡ r.number
      answer_is = rw (← asked_is, ← found_is, ← y.answered)

      pub answer_done : r.number ≡ 0 → Left t 0 (done_line ++ rows_text w h 0 out m) t 0 (answer_text s)
      unfolding answer_text
      answer_done e =
          let em : m ≡ map_after (asked s l w h) (lengths found) zeros = some-injective _ _ y.map in
          left_as (rw (answer_is ∙ e, y.samples, em, asked_is, found_is, q.width_is, q.height_is)) (left_start t 0 (answer_text s))

      pub answer_refused : (r.number ≡ 0 → ⊥) → Left t 0 (refused_line r.number) t 0 (answer_text s)
      unfolding answer_text
      answer_refused e = left_as (rw (answer_is, ne_eqb r.number 0 e)) (left_start t 0 (answer_text s))
