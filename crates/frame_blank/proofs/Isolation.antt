-- Nothing of an earlier frame is left in a blanked one.
--
-- Take every two lists of calls on two sample buffers, as promise P3 has them (Isolation.antt of `samsung`), whose last calls are
-- decoders' calls that are lent a map, are alike (in decoder, stream, offsets, size and the lengths of what they are lent), and end
-- with done or 5 to 8. Let each then be blanked: a call that blanks is lent the frame's samples and its map bytes as its decoder
-- left them, states the same fill as the other, or none as the other, and is done. Then both answer the same, leave the same N
-- samples and list the same runs, whatever came before, whatever the buffers first held, and whatever lies past the frame in what
-- they are lent.
use Prim.Native.Nat.{ℕ, ◌*◌, ◌<◌, ◌≤◌}
use mathlib.Core.Path.{◌≡◌, sym, ap, ap₂, ◌∙◌, subst}
use mathlib.Core.Bool.{false}
use mathlib.Core.List.{List, ◌++◌}
use mathlib.Core.Option.{some}
use native.Mathlib.Omega.{arith}
use lib.Dec.{ltb, eqb}
use lib.ListN.{length, get_or, take, drop, length-take, get_or-eq_default}
use lib.Seq.{length-take-le, get_or-take, take_at}
use borrow.Author.Tests.{ltb-false, ltb-true, eqb-true}
use Rattle.rules.specs.declared.answer.Size.{Size}
use Rattle.rules.specs.Frame.{cells}
use Rattle.rules.specs.Map.{old_part}
use Rattle.rules.specs.Answer.{too_large, marks}
use Rattle.rules.proofs.Cells.{all_append, all_take, all_drop}
use Rattle.rules.proofs.Isolation.{Returned, Samples, Step, Calls, Alike, Ran, Same, isolation, mark_of}
use Rattle.rules.proofs.Tests.{by-test}
use Rattle.frame_blank.specs.declared.Blanked.{Blanked}
use Rattle.frame_blank.specs.Blanking.{marked, count, blanked, runs_of, numbers}
use Rattle.frame_blank.specs.Calls.{Call, frame_of, marks_of, found, refusal, blanked_done, blank_answer, unless_refused, samples_after, runs_after, Yields}
use Rattle.frame_blank.proofs.ByteLaws.{unmarked_zero}
use Rattle.frame_blank.proofs.EachSample.{Clean, Fits, blank_rows_length, blank_rows_below, blanked_same}
use Rattle.frame_blank.proofs.RunLaws.{numbers_length}

-- ── The statement ──

-- A call that blanks and has returned: what it was handed, what it answered, and its samples and its list as it left them.
pub record Blanks : Type 0 where
  pub call : Call
  pub answered : Blanked
  pub samples : List ℕ
  pub runs : List ℕ
  pub yields : Yields call answered samples runs

-- It is lent the frame and the map of a decoder's call, as that call left them.
pub record Follows (c : Returned) (b : Blanks) : Type 0 where
  pub size : b.call.size ≡ c.ask.size
  pub samples : take (cells c.ask.size) b.call.samples ≡ take (cells c.ask.size) c.left.samples
  pub map : List ℕ
  pub lent : c.left.map ≡ some map
  pub bytes : take (cells c.ask.size) b.call.map ≡ take (cells c.ask.size) map

-- It is done.
abbrev pub Done : Blanks → Type 0
Done b = b.answered.answer.number ≡ 0

-- Two blanked frames of n samples are the same, and so are their answers and their runs.
pub record SameBlanked (n : ℕ) (a b : Blanks) : Type 0 where
  pub answers : a.answered ≡ b.answered
  pub samples : take n a.samples ≡ take n b.samples
  pub runs : take (3 * a.answered.runs) a.runs ≡ take (3 * a.answered.runs) b.runs

-- The claim: of every two lists of calls whose last calls are decoders' and have returned, and of two calls that blank their frames.
abbrev pub Isolation : {C D B : Type 0} → (C → Step) → (D → Returned) → (B → Blanks) → Type 0
Isolation {C} {D} {B} step returned blanks =
    (b b' x y : List ℕ) → Samples b → Samples b' → Calls step b x → Calls step b' y
    → (c d : D) (rest rest' : List ℕ) → x ≡ (returned c).found.samples ++ rest → y ≡ (returned d).found.samples ++ rest'
    → Alike (returned c) (returned d) → Ran (returned c).answered → Ran (returned d).answered
    → (p q : B) → Follows (returned c) (blanks p) → Follows (returned d) (blanks q)
    → (blanks p).call.fill ≡ (blanks q).call.fill → Done (blanks p) → Done (blanks q)
    → SameBlanked (cells (returned c).ask.size) (blanks p) (blanks q)

-- ── A call that is done ──

module _ (b : Blanks) (done : Done b) where
  abbrev n : ℕ
  n = cells b.call.size

  passed : refusal b.call ≡ 0
  unfolding blank_answer
  passed =
      let q = sym (ap (λ r. r.answer.number) b.yields.answered) ∙ done in
      by-test (eqb (refusal b.call) 0) (λ e. eqb-true (refusal b.call) 0 e) (λ e. rw e at q)

  -- Its buffers are long enough.
  enough : (n ≤ length b.call.samples) × (n ≤ length b.call.map)
  unfolding refusal
  enough =
      let e = passed in
      by-test (too_large b.call.size)
      (λ t. let x : 1 ≡ 0 = rw t at e in absurd (omega arith))
      (λ t. by-test (ltb (length b.call.samples) n)
      (λ p. let x : 3 ≡ 0 = rw (t, p) at e in absurd (omega arith))
      (λ p. by-test (ltb (length b.call.map) n)
      (λ q. let x : 4 ≡ 0 = rw (t, p, q) at e in absurd (omega arith))
      (λ q. (ltb-false (length b.call.samples) n p, ltb-false (length b.call.map) n q))))

  pub frame_length : length (frame_of b.call) ≡ n
  frame_length = length-take-le n b.call.samples enough.0

  answer_is : b.answered ≡ blanked_done (count (marks_of b.call)) (length (found b.call))
  unfolding blank_answer
  answer_is = b.yields.answered ∙ rw passed

  pub samples_are : take n b.samples ≡ blanked b.call.fill b.call.size (frame_of b.call) (marks_of b.call)
  unfolding samples_after unless_refused
  samples_are =
      ap (take n) (b.yields.samples_left ∙ rw passed)
      ∙ take_at (blanked b.call.fill b.call.size (frame_of b.call) (marks_of b.call)) (drop n b.call.samples) n
      (blank_rows_length b.call.fill b.call.size.width b.call.size.height (frame_of b.call) (marks_of b.call) ∙ frame_length)

  runs_are : take (3 * length (found b.call)) b.runs ≡ numbers (found b.call)
  unfolding runs_after unless_refused
  runs_are =
      ap (take (3 * length (found b.call))) (b.yields.runs_left ∙ rw passed)
      ∙ take_at (numbers (found b.call)) (drop (3 * length (found b.call)) b.call.runs) (3 * length (found b.call)) (numbers_length (found b.call))

-- ── Two of them ──

module _ (c d : Returned) (same : Same c d) (ask : c.ask ≡ d.ask) (p q : Blanks) (f : Follows c p) (g : Follows d q)
    (fill : p.call.fill ≡ q.call.fill) (clean : Clean p.call.fill) (ok : Done p) (ok' : Done q) where
  abbrev z : Size
  z = c.ask.size

  sizes : q.call.size ≡ z
  sizes = g.size ∙ ap (λ a. a.size) (sym ask)

  -- Both maps are the rules' marks.
  maps : take (cells z) p.call.map ≡ take (cells z) q.call.map
  maps =
      f.bytes ∙ same.marks_c.bytes f.map f.lent ∙ same.marks ∙ sym (same.marks_d.bytes g.map g.lent) ∙ sym g.bytes
      ∙ ap (λ k. take (cells k) q.call.map) (ap (λ a. a.size) (sym ask))

  frames : take (cells z) q.call.samples ≡ take (cells z) d.left.samples
  frames = subst (λ k. take (cells k) q.call.samples ≡ take (cells k) d.left.samples) (ap (λ a. a.size) (sym ask)) g.samples

  marks_c : take (cells z) p.call.map ≡ marks c.ask
  marks_c = f.bytes ∙ same.marks_c.bytes f.map f.lent

  agree : (i : ℕ) → marked (get_or (take (cells z) p.call.map) i 0) ≡ false → get_or (take (cells z) p.call.samples) i 0 ≡ get_or (take (cells z) q.call.samples) i 0
  agree i e =
      by-test (ltb i (cells z))
      (λ r. let k = ltb-true i (cells z) r in
      ap (λ l. get_or l i 0) f.samples ∙ get_or-take (cells z) c.left.samples i 0 k ∙ same.samples i k zero_mark
      ∙ sym (get_or-take (cells z) d.left.samples i 0 k) ∙ ap (λ l. get_or l i 0) (sym frames))
      (λ r. let k = ltb-false i (cells z) r in
      get_or-eq_default (take (cells z) p.call.samples) 0 (omega (arith, k, length-take (cells z) p.call.samples))
      ∙ sym (get_or-eq_default (take (cells z) q.call.samples) 0 (omega (arith, k, length-take (cells z) q.call.samples))))
    where
      zero_mark : mark_of c.ask i ≡ 0
      zero_mark = ap old_part (unmarked_zero (get_or (marks c.ask) i 0) (ap (λ m. marked (get_or m i 0)) (sym marks_c) ∙ e))

  -- What each of them comes to.
  abbrev map_of : Blanks → List ℕ
  map_of b = take (cells z) b.call.map

  abbrev Comes : Blanks → Size → Type 0
  Comes b k =
      (b.answered ≡ blanked_done (count (take (cells k) b.call.map)) (length (runs_of k (take (cells k) b.call.map))))
      × ((take (cells k) b.samples ≡ blanked b.call.fill k (take (cells k) b.call.samples) (take (cells k) b.call.map))
      × ((take (3 * length (runs_of k (take (cells k) b.call.map))) b.runs ≡ numbers (runs_of k (take (cells k) b.call.map)))
      × (length (take (cells k) b.call.samples) ≡ cells k)))

  comes_p : Comes p z
  comes_p = subst (Comes p) f.size (answer_is p ok, (samples_are p ok, (runs_are p ok, frame_length p ok)))

  comes_q : Comes q z
  comes_q = subst (Comes q) sizes (answer_is q ok', (samples_are q ok', (runs_are q ok', frame_length q ok')))

  pub same_blanked : SameBlanked (cells z) p q
  same_blanked =
      let told : p.answered.runs ≡ length (runs_of z (map_of p)) = ap (λ r. r.runs) comes_p.0 in
      let told' : p.answered.runs ≡ length (runs_of z (map_of q)) = told ∙ ap (λ m. length (runs_of z m)) maps in
      record {
        answers = comes_p.0 ∙ ap (λ m. blanked_done (count m) (length (runs_of z m))) maps ∙ sym comes_q.0;
        samples =
            comes_p.1.0
            ∙ blanked_same p.call.fill clean z (take (cells z) p.call.samples) (take (cells z) q.call.samples) (map_of p) comes_p.1.1.1 comes_q.1.1.1 agree
            ∙ ap₂ (λ v m. blanked v z (take (cells z) q.call.samples) m) fill maps ∙ sym comes_q.1.0;
        runs =
            ap (λ n. take (3 * n) p.runs) told ∙ comes_p.1.1.0 ∙ ap (λ m. numbers (runs_of z m)) maps
            ∙ sym (ap (λ n. take (3 * n) q.runs) told' ∙ comes_q.1.1.0);
      }

-- ── The claim ──

pub blanked_isolation : {C D B : Type 0} (step : C → Step) (returned : D → Returned) (blanks : B → Blanks) → ((p : B) → Clean (blanks p).call.fill)
    → Isolation step returned blanks
blanked_isolation step returned blanks clean b b' x y h h' cs ds c d rest rest' e e' alike ran ran' p q f g fill ok ok' =
    same_blanked (returned c) (returned d) (isolation step returned b b' x y h h' cs ds c d rest rest' e e' alike ran ran') alike.ask
    (blanks p) (blanks q) f g fill (clean p) ok ok'

-- ── Among other calls on one sample buffer ──

-- What a call that blanks finds and leaves there.
unfoldable pub blank_step : (c : Call) (left : List ℕ) → left ≡ samples_after c → Fits c.fill → Step
unfolding samples_after unless_refused
blank_step c left e fits = record {
  found = c.samples;
  left = left;
  below = λ h. rw e (by-test (eqb (refusal c) 0)
      (λ f. rw f (all_append (λ x. x < 65_536)
      (blank_rows_below c.fill fits c.size.width c.size.height (frame_of c) (marks_of c) (all_take (λ x. x < 65_536) (cells c.size) h))
      (all_drop (λ x. x < 65_536) (cells c.size) h)))
      (λ f. rw f h));
}
