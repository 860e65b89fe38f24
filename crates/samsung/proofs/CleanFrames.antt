-- A call for clean frames is done exactly if the plain direct call is lent enough and the frame is clean; else it changes nothing. One
-- that is done equals the plain direct call: asked the same over the same buffers, they give the same answer, samples and map. No word
-- was missing, and the map is all 0.
use Prim.Native.Nat.{ℕ}
use mathlib.Core.Path.{◌≡◌, sym, ap, ◌∙◌}
use mathlib.Core.Logic.{◌≢◌}
use mathlib.Core.List.{List, ◌++◌}
use mathlib.Core.Option
use mathlib.Core.Option.{none, some}
use lib.ListN.{drop, replicate}
use Rattle.rules.specs.Frame.{cells}
use Rattle.rules.specs.Answer as Answer
use Rattle.rules.proofs.Isolation.{Returned}
use Rattle.rules_clean.specs.Clean as Clean
use Rattle.rules_clean.proofs.Calls.{Taken, done_taken, taken_done, samples_kept, map_kept, lent_kept}
use Rattle.rules_clean.proofs.Lists.{Checked, done_answer, done_map}
use Rattle.rules_bands.proofs.Lists.{same_answer, same_samples}
use Rattle.samsung.proofs.Isolation.{Call, Cleaned, checked, returned, last_clean, ended}

-- ── The claim ──

-- What such a call was lent.
abbrev pub lent : Checked → Answer.Lent
lent c = Answer.lengths (Answer.buffers c.samples c.map none)

-- Two calls gave the same answer, samples and map.
pub record SameMap (p q : Returned) : Type 0 where
  pub answers : p.answered ≡ q.answered
  pub samples : p.left.samples ≡ q.left.samples
  pub map : p.left.map ≡ q.left.map

pub record CleanFrames : Type 0 where
  pub only : (c : Cleaned) → (checked c).answered.number ≡ 0 → Taken (checked c).ask (lent (checked c))
  pub all : (c : Cleaned) → Taken (checked c).ask (lent (checked c)) → (checked c).answered ≡ Answer.done
  pub kept : (c : Cleaned) → (checked c).answered.number ≢ 0 → ((checked c).left ≡ (checked c).samples) × ((checked c).left_map ≡ (checked c).map)
  pub same : (c : Cleaned) (done : (checked c).answered.number ≡ 0) (d : Call) → (ended (last_clean c done)).ask ≡ (returned d).ask
      → (ended (last_clean c done)).found ≡ (returned d).found → SameMap (ended (last_clean c done)) (returned d)
  pub none_missing : (c : Cleaned) → (checked c).answered.number ≡ 0 → (checked c).answered ≡ Answer.done
  pub map_all_0 : (c : Cleaned) → (checked c).answered.number ≡ 0 → (m : List ℕ) → (checked c).map ≡ some m
      → (checked c).left_map ≡ some (replicate (cells (checked c).ask.size) 0 ++ drop (cells (checked c).ask.size) m)

-- ── Its proof ──

kept : (c : Checked) → c.answered.number ≢ 0 → (c.left ≡ c.samples) × (c.left_map ≡ c.map)
kept c n =
    let refused : (Clean.answer c.ask (lent c)).number ≢ 0 = λ z. n (ap (λ a. a.number) c.yields.answered ∙ z) in (
      c.yields.samples ∙ samples_kept c.ask (lent c) refused c.samples,
      c.yields.map ∙ sym (lent_kept (Clean.map_after c.ask (lent c)) (λ m. map_kept c.ask (lent c) refused m) c.map),
    )

pub clean_frames : CleanFrames
clean_frames =
    record {
      only = λ c e. done_taken (checked c).ask (lent (checked c)) (sym (ap (λ a. a.number) (checked c).yields.answered) ∙ e);
      all = λ c t. (checked c).yields.answered ∙ taken_done (checked c).ask (lent (checked c)) t;
      kept = λ c n. kept (checked c) n;
      same = λ c done d asked found.
          let p = ended (last_clean c done) in
          let q = returned d in
          record {
            answers = same_answer p q asked found;
            samples = same_samples p q asked found;
            map = p.yields.map ∙ (λ i. Option.map (Answer.map_after (asked i) (Answer.lengths (found i))) (found i).map) ∙ sym q.yields.map;
          };
      none_missing = λ c done. done_answer (checked c) done;
      map_all_0 = λ c done m e. done_map (checked c) done m e;
    }
