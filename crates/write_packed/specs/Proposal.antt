-- A proposal (docs/RULES.md, "Packed by an outside optimiser"): an outside program packs a frame as V0, by whatever means, and
-- proposes what it found. The proposal is taken exactly if it is clean, the frame decoded equals the samples meant, and the stream
-- is no longer than what the writer makes of them. The verdict rests on the proposal and not on how it was found.
use Rattle.std.specs.Prelude.{ℕ, Bool, true, false, cond, ◌&&◌, ◌≡◌, List, [], ◌∷◌, ltb, eqb, length, take}
use Rattle.std.proofs.Math.Option.{none}
use Rattle.rules.specs.declared.answer.Answer.{Answer}
use Rattle.rules.specs.declared.answer.Size.{Size}
use Rattle.rules.specs.Frame.{cells}
use Rattle.rules.specs.Answer as Plain
use Rattle.rules.specs.Answer.{done, refused, too_large, short_samples, lent}
use Rattle.rules_clean.specs.Verdict.{verdict}
use Rattle.write_rules.specs.Calls.{too_bright}
use Rattle.write_rules.specs.Writer.{stream_for}

-- ── What is proposed ──

-- A stream and offsets, the size of the frame, and the samples that they are meant to hold, of which the first N count.
pub record Proposal : Type 0 where
  pub stream : List ℕ
  pub offsets : List ℕ
  pub size : Size
  pub meant : List ℕ

abbrev pub proposal : List ℕ → List ℕ → ℕ → ℕ → List ℕ → Proposal
proposal s offsets w h meant = record { stream = s; offsets = offsets; size = record { width = w; height = h }; meant = meant }

-- The frame meant.
abbrev pub frame_of : Proposal → List ℕ
frame_of p = take (cells p.size) p.meant

-- What the direct decoder is asked, and what it finds: the scratch samples, and no map.
abbrev pub asked : Proposal → Plain.Ask
asked p = record { decoder = Plain.direct; stream = p.stream; offsets = p.offsets; size = p.size }

abbrev pub found : List ℕ → Plain.Buffers
found scratch = Plain.buffers scratch none none

-- ── Before decoding ──

-- With n scratch samples: 1, 3 of the samples meant, 9, then 3 of scratch and offsets. The first that holds, or 0.
unfoldable pub early : Proposal → ℕ → ℕ
early p n =
    cond (too_large p.size) 1
    (cond (ltb (length p.meant) (cells p.size)) 3
    (cond (too_bright (frame_of p)) 9
    (cond (short_samples (asked p) (lent n none 0)) 3 0)))

-- 21: the stream is longer, in bytes, than what the writer makes of the samples meant.
unfoldable pub longer : Proposal → Bool
longer p = ltb (length (stream_for p.size (frame_of p))) (length p.stream)

-- After them the clean-frame check's 17, 18 and 19 with their rows, then 21. Done means that decoding begins.
unfoldable pub before : Proposal → ℕ → Answer
before p n =
    let v = verdict p.stream p.offsets p.size in
    cond (eqb (early p n) 0) (cond (eqb v.number 0) (cond (longer p) (refused 21) done) v) (refused (early p n))

-- ── Decoding, and after it ──

-- Whether two frames are the same, sample by sample.
unfoldable pub same : List ℕ → List ℕ → Bool
same [] [] = true
same [] (b ∷ g) = false
same (a ∷ f) [] = false
same (a ∷ f) (b ∷ g) = eqb a b && same f g

-- Once decoding began the scratch holds what the direct decoder's call leaves; before that nothing changes.
unfoldable pub scratch_after : Proposal → List ℕ → List ℕ
scratch_after p scratch =
    cond (eqb (before p (length scratch)).number 0) (Plain.samples_after (asked p) (Plain.lengths (found scratch)) scratch) scratch

-- 20: a sample of the decoded frame isn't the one meant. No number counts missing words.
unfoldable pub answer : Proposal → List ℕ → Answer
answer p scratch =
    let first = before p (length scratch) in
    cond (eqb first.number 0) (cond (same (take (cells p.size) (scratch_after p scratch)) (frame_of p)) done (refused 20)) first

-- All that a call yields and leaves, over the scratch that it found.
pub record Yields (p : Proposal) (scratch : List ℕ) (r : Answer) (left : List ℕ) : Type 0 where
  pub answered : r ≡ answer p scratch
  pub scratch_left : left ≡ scratch_after p scratch
