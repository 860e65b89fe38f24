-- What a job's text is after each of the job's tests, and after the decoder's answer.
use Prim.Native.Nat.{ℕ, ◌+◌, ◌*◌, ◌≤◌, ◌<◌}
use mathlib.Core.Path.{◌≡◌, refl, sym, ap, ◌∙◌}
use mathlib.Core.Bool.{true, false}
use mathlib.Core.List.{List, ◌++◌}
use native.Mathlib.Omega.{arith}
use native.Mathlib.Nat.{mul-le-mul, zero-add}
use lib.ListN.{length, drop}
use lib.Seq.{sets-eq, take_at, drop_at}
use borrow.Author.Tests.{lt-ltb, le-ltb}
use Rattle.rules.specs.Job.{most_input, most_samples, half_word_at, marked, stream_start, job_size, fault, answer_text, text}
use Rattle.rules.specs.Frame.{cells}
use Rattle.job.specs.Fields.{Sound}
use Rattle.job.specs.Written.{written, Room, Appends, Holds}
use Rattle.job.proofs.WrittenLaws.{same_length}

-- ── The faults in order ──

module _ (s : List ℕ) where
  pub text_longer : most_input < length s → text s ≡ fault 3
  unfolding text
  text_longer l = rw (lt-ltb most_input (length s) l)

  module _ (short : length s ≤ most_input) where
    pub text_short : length s < 9 → text s ≡ fault 2
    unfolding text
    text_short l = rw (le-ltb most_input (length s) short, lt-ltb (length s) 9 l)

    module _ (head : 9 ≤ length s) where
      pub text_unmarked : marked s ≡ false → text s ≡ fault 1
      unfolding text
      text_unmarked e = rw (le-ltb most_input (length s) short, le-ltb (length s) 9 head, e)

      module _ (mark : marked s ≡ true) where
        pub text_cut : (h : ℕ) → h ≡ half_word_at s 7 → length s < 9 + 4 * h → text s ≡ fault 2
        unfolding text
        text_cut h e l = rw (le-ltb most_input (length s) short, le-ltb (length s) 9 head, mark, lt-ltb (length s) (stream_start s) (rw e at l))

        pub text_large : (w h : ℕ) → w ≡ half_word_at s 5 → h ≡ half_word_at s 7 → 9 + 4 * h ≤ length s → most_samples < w * h → text s ≡ fault 3
        unfolding text
        text_large w h ew eh table l =
            rw (le-ltb most_input (length s) short, le-ltb (length s) 9 head, mark, le-ltb (length s) (stream_start s) (rw eh at table), lt-ltb most_samples (cells (job_size s)) (rw (ew, eh) at l))

        pub text_sound : (w h : ℕ) → Sound s (record { width = w; height = h }) → text s ≡ answer_text s
        unfolding text
        text_sound w h q =
            rw (le-ltb most_input (length s) short, le-ltb (length s) 9 head, mark, le-ltb (length s) (stream_start s) (rw q.height_is at q.table), le-ltb most_samples (cells (job_size s)) (rw (q.width_is, q.height_is) at q.few))

-- The product of two half words fits.
pub half_words : (w h : ℕ) → w < 65_536 → h < 65_536 → w * h ≤ 65_535 * 65_535
half_words w h l m = let a : w ≤ 65_535 = omega arith in let b : h ≤ 65_535 = omega arith in mul-le-mul a b

-- ── A whole text ──

pub holds : {t xs t' : List ℕ} {r : ℕ} (ys : List ℕ) → ys ≡ xs → Room t 0 xs → Appends t 0 xs t' r → Holds t ys t' r
unfolding written
holds {t} {xs} {t'} {r} ys e room a =
    let is : t' ≡ xs ++ drop (0 + length xs) t = a.text ∙ sets-eq xs t 0 room.fits in
    let n : r ≡ length xs = omega (arith, a.count) in
    record {
      text = rw (is, n, e) (take_at xs _ (length xs) refl);
      rest = rw (is, n) (drop_at xs _ (length xs) refl ∙ rw zero-add);
      count = rw e n;
      room = omega (arith, room.fits, same_length a);
      taken = rw (is, n) (sym (ap length (take_at xs _ (length xs) refl)));
    }
