-- What the export owes: a refusal of blanking is its answer, and else the writer's is.
use mathlib.Core.Path.{◌≡◌, sym, ap, ap₂, ◌∙◌}
use mathlib.Core.Bool.{false}
use mathlib.Core.List.{List}
use Prim.Native.Nat.{ℕ}
use lib.Dec.{eqb}
use borrow.Author.Tests.{ne_eqb, eqb-true}
use Rattle.frame_blank.specs.declared.Blanked.{Blanked}
use Rattle.frame_blank.specs.Calls as Blank
use Rattle.write_rules.specs.declared.Written.{Written}
use Rattle.write_rules.specs.Calls as Write
use Rattle.entry_frames.specs.Export.{Export, export, write, if_blanked, export_answer, stream_after, offsets_after, Yields}
use Rattle.rules.proofs.Tests.{by-test}

-- The number that blanking answers is its refusal, or 0.
pub number_is : (c : Blank.Call) → (Blank.blank_answer c).answer.number ≡ Blank.refusal c
unfolding Blank.blank_answer
number_is c = by-test (eqb (Blank.refusal c) 0) (λ e. rw e (sym (eqb-true (Blank.refusal c) 0 e))) (λ e. rw e)

module _ (samples map : List ℕ) (w h : ℕ) (runs stream offsets : List ℕ) (r : Blanked) (s l : List ℕ)
    (y : Blank.Yields (export samples map w h runs stream offsets).blank r s l) where
  abbrev e : Export
  e = export samples map w h runs stream offsets

  told : r.answer.number ≡ Blank.refusal e.blank
  told = ap (λ x. x.answer.number) y.answered ∙ number_is e.blank

  pub refused_yields : (r.answer.number ≡ 0 → ⊥) → Yields e (record { answer = r.answer; count = r.count; runs = r.runs; length = 0 }) s l stream offsets
  unfolding export_answer stream_after offsets_after if_blanked
  refused_yields n =
      let t : eqb (Blank.refusal e.blank) 0 ≡ false = ne_eqb (Blank.refusal e.blank) 0 (λ q. n (told ∙ q)) in
      record {
        answered = rw t (ap (λ x. record { answer = x.answer; count = x.count; runs = x.runs; length = 0 }) y.answered);
        samples_left = y.samples_left;
        runs_left = y.runs_left;
        stream_left = sym (rw t);
        offsets_left = sym (rw t);
      }

  pub written_yields : r.answer.number ≡ 0 → (v : Written) (st ot : List ℕ) → Write.Yields (Write.call s w h stream offsets) v st ot
      → Yields e (record { answer = v.answer; count = r.count; runs = r.runs; length = v.length }) s l st ot
  unfolding export_answer stream_after offsets_after if_blanked
  written_yields zero v st ot q =
      let ok : Blank.refusal e.blank ≡ 0 = sym told ∙ zero in
      let same : Write.call s w h stream offsets ≡ write e = ap (λ x. Write.call x w h stream offsets) y.samples_left in
      record {
        answered =
            rw ok (ap₂ (λ x b. record { answer = x.answer; count = b.count; runs = b.runs; length = x.length }) (q.answered ∙ ap Write.write_answer same) y.answered);
        samples_left = y.samples_left;
        runs_left = y.runs_left;
        stream_left = rw ok (q.stream_left ∙ ap Write.stream_after same);
        offsets_left = rw ok (q.offsets_left ∙ ap Write.offsets_after same);
      }
