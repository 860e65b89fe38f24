-- None of an earlier frame is left in what is exported: two calls of the export that follow alike decoders' calls, and are done,
-- answer the same, leave the same samples and runs, and write the same stream and the same offsets.
use Prim.Native.Nat.{ℕ}
use mathlib.Core.Path.{◌≡◌, refl, sym, ap, ap₂, ◌∙◌, subst}
use mathlib.Core.List.{List, ◌++◌}
use lib.Dec.{eqb}
use lib.ListN.{length, take, drop}
use lib.Seq.{take_at}
use borrow.Author.Tests.{eqb-true, eqb-false}
use Rattle.rules.specs.declared.answer.Size.{Size}
use Rattle.rules.specs.Frame.{cells}
use Rattle.rules.specs.Answer as Rules
use Rattle.rules.specs.V0.{sample_kind, exchange}
use Rattle.rules.proofs.Isolation.{Returned, Samples, Step, Calls, Alike, Ran}
use Rattle.frame_blank.specs.Blanking.{stated}
use Rattle.frame_blank.specs.Calls as Blank
use Rattle.frame_blank.proofs.EachSample.{stated_clean}
use Rattle.frame_blank.proofs.Isolation.{Blanks, Follows, Done, SameBlanked, blanked_isolation}
use Rattle.write_rules.specs.Writer.{residuals, stream_for, offsets_for}
use Rattle.write_rules.specs.Calls as Write
use Rattle.write_rules.proofs.Decoded.{done_passed}
use Rattle.write_rules.proofs.Rows.{offsets_length}
use Rattle.entry_frames.specs.declared.export.Exported.{Exported}
use Rattle.entry_frames.specs.Export.{Export, write, if_blanked, export_answer, stream_after, offsets_after, Yields}
use Rattle.entry_frames.proofs.ExportLaws.{number_is}
use Rattle.rules.proofs.Tests.{by-test}

-- A call of the export that has returned: what it was handed, answered and left.
pub record Exports : Type 0 where
  pub export : Export
  pub answered : Exported
  pub samples : List ℕ
  pub runs : List ℕ
  pub stream : List ℕ
  pub offsets : List ℕ
  pub yields : Yields export answered samples runs stream offsets

-- The call that blanks in it.
abbrev pub blanks : Exports → Blanks
blanks e =
    record {
      call = e.export.blank;
      answered = Blank.blank_answer e.export.blank;
      samples = e.samples;
      runs = e.runs;
      yields = record { answered = refl; samples_left = e.yields.samples_left; runs_left = e.yields.runs_left };
    }

-- Two exported frames of a size are the same, and what was written of them.
pub record SameExported (z : Size) (a b : Exports) : Type 0 where
  pub answers : a.answered ≡ b.answered
  pub blanked : SameBlanked (cells z) (blanks a) (blanks b)
  pub stream : take a.answered.length a.stream ≡ take a.answered.length b.stream
  pub offsets : take z.height a.offsets ≡ take z.height b.offsets

-- The claim: as of calls that blank, with calls of the export in their place.
abbrev pub Isolation : {C D B : Type 0} → (C → Step) → (D → Returned) → (B → Exports) → Type 0
Isolation {C} {D} {B} step returned exports =
    (b b' x y : List ℕ) → Samples b → Samples b' → Calls step b x → Calls step b' y
    → (c d : D) (rest rest' : List ℕ) → x ≡ (returned c).found.samples ++ rest → y ≡ (returned d).found.samples ++ rest'
    → Alike (returned c) (returned d) → Ran (returned c).answered → Ran (returned d).answered
    → (p q : B) → Follows (returned c) (blanks (exports p)) → Follows (returned d) (blanks (exports q))
    → (exports p).answered.answer.number ≡ 0 → (exports q).answered.answer.number ≡ 0
    → SameExported (returned c).ask.size (exports p) (exports q)

-- ── A call that is done ──

module _ (e : Exports) (done : e.answered.answer.number ≡ 0) where
  -- It blanked, and then it wrote.
  both : (Blank.refusal e.export.blank ≡ 0) × (Write.write_refusal (write e.export) ≡ 0)
  unfolding export_answer if_blanked
  both =
      let b = e.export.blank in
      let q = sym (ap (λ r. r.answer.number) e.yields.answered) ∙ done in
      by-test (eqb (Blank.refusal b) 0)
      (λ t. (eqb-true (Blank.refusal b) 0 t, done_passed (write e.export) (rw t at q)))
      (λ t. absurd (eqb-false (Blank.refusal b) 0 t (sym (number_is b) ∙ rw t at q)))

  pub blank_done : Done (blanks e)
  blank_done = number_is e.export.blank ∙ both.0

  -- What it wrote is what the writer writes of the blanked samples.
  pub writes : Write.Yields (write e.export) (record { answer = e.answered.answer; length = e.answered.length }) e.stream e.offsets
  unfolding export_answer stream_after offsets_after if_blanked
  writes =
      record {
        answered = ap (λ r. record { answer = r.answer; length = r.length }) e.yields.answered ∙ rw both.0;
        stream_left = e.yields.stream_left ∙ rw both.0;
        offsets_left = e.yields.offsets_left ∙ rw both.0;
      }

  abbrev z : Size
  z = e.export.blank.size

  -- The frame that was written is the one that was left.
  frame : Write.frame_of (write e.export) ≡ take (cells z) e.samples
  frame = ap (take (cells z)) (sym e.yields.samples_left)

  length_is : e.answered.length ≡ length (stream_for z (take (cells z) e.samples))
  unfolding export_answer if_blanked Write.write_answer
  length_is = ap (λ r. r.length) e.yields.answered ∙ rw (both.0, both.1) (ap (λ f. length (stream_for z f)) frame)

  answer_is : e.answered ≡ record {
    answer = Rules.done;
    count = (Blank.blank_answer e.export.blank).count;
    runs = (Blank.blank_answer e.export.blank).runs;
    length = length (stream_for z (take (cells z) e.samples));
  }
  unfolding export_answer if_blanked Write.write_answer
  answer_is =
      e.yields.answered
      ∙ rw (both.0, both.1) (ap (λ n. record { answer = Rules.done; count = (Blank.blank_answer e.export.blank).count; runs = (Blank.blank_answer e.export.blank).runs; length = n }) (ap (λ f. length (stream_for z f)) frame))

  stream_is : take e.answered.length e.stream ≡ stream_for z (take (cells z) e.samples)
  unfolding stream_after if_blanked Write.stream_after Write.unless_refused
  stream_is =
      ap (take e.answered.length) (e.yields.stream_left ∙ rw (both.0, both.1))
      ∙ ap (λ f. take e.answered.length (stream_for z f ++ drop (length (stream_for z f)) e.export.stream)) frame
      ∙ take_at (stream_for z (take (cells z) e.samples)) _ e.answered.length (sym length_is)

  offsets_is : take z.height e.offsets ≡ offsets_for z (take (cells z) e.samples)
  unfolding offsets_after if_blanked Write.offsets_after Write.unless_refused offsets_for
  offsets_is =
      ap (take z.height) (e.yields.offsets_left ∙ rw (both.0, both.1))
      ∙ ap (λ f. take z.height (offsets_for z f ++ drop (length (offsets_for z f)) e.export.offsets)) frame
      ∙ take_at (offsets_for z (take (cells z) e.samples)) _ z.height (offsets_length (residuals z.width (exchange sample_kind z (take (cells z) e.samples))) z.height 0 0)

-- ── Two of them ──

module _ (k : Size) (a b : Exports) (za : a.export.blank.size ≡ k) (zb : b.export.blank.size ≡ k)
    (ok : a.answered.answer.number ≡ 0) (ok' : b.answered.answer.number ≡ 0) (same : SameBlanked (cells k) (blanks a) (blanks b)) where
  abbrev Comes : Exports → Size → Type 0
  Comes e z =
      (e.answered.length ≡ length (stream_for z (take (cells z) e.samples)))
      × ((take e.answered.length e.stream ≡ stream_for z (take (cells z) e.samples))
      × (take z.height e.offsets ≡ offsets_for z (take (cells z) e.samples)))

  comes_a : Comes a k
  comes_a = subst (Comes a) za (length_is a ok, (stream_is a ok, offsets_is a ok))

  comes_b : Comes b k
  comes_b = subst (Comes b) zb (length_is b ok', (stream_is b ok', offsets_is b ok'))

  long : a.answered.length ≡ b.answered.length
  long = comes_a.0 ∙ ap (λ f. length (stream_for k f)) same.samples ∙ sym comes_b.0

  pub same_exported : SameExported k a b
  same_exported =
      record {
        answers = answer_is a ok ∙ ap₂ (λ r n. record { answer = Rules.done; count = r.count; runs = r.runs; length = n }) same.answers (sym (length_is a ok) ∙ long ∙ length_is b ok') ∙ sym (answer_is b ok');
        blanked = same;
        stream = comes_a.1.0 ∙ ap (stream_for k) same.samples ∙ sym comes_b.1.0 ∙ ap (λ n. take n b.stream) (sym long);
        offsets = comes_a.1.1 ∙ ap (offsets_for k) same.samples ∙ sym comes_b.1.1;
      }

-- ── The claim ──

pub exported_isolation : {C D B : Type 0} (step : C → Step) (returned : D → Returned) (exports : B → Exports)
    → ((p : B) → (exports p).export.blank.fill ≡ stated 0) → Isolation step returned exports
exported_isolation step returned exports fills b b' x y h h' cs ds c d rest rest' e e' alike ran ran' p q f g ok ok' =
    same_exported (returned c).ask.size (exports p) (exports q) f.size (g.size ∙ ap (λ a. a.size) (sym alike.ask)) ok ok'
    (blanked_isolation step returned (λ t. blanks (exports t)) (λ t. rw (fills t) (stated_clean 0)) b b' x y h h' cs ds c d rest rest' e e' alike ran ran' p q f g
    (fills p ∙ sym (fills q)) (blank_done (exports p) ok) (blank_done (exports q) ok'))
