-- Which numbers the exports answer that are no plain decoders: done, or one of the refusals that docs/RULES.md lists for them.
use Prim.Native.Nat.{ℕ, zero, suc, ◌+◌, ◌*◌, ◌%◌}
use mathlib.Core.Bool.{Bool, true, false, ◌||◌, cond}
use mathlib.Core.Path.{◌≡◌, refl}
use mathlib.Core.List.{List, [], ◌∷◌}
use mathlib.Core.Option.{none, some}
use lib.Dec.{eqb, ltb}
use lib.ListN.{length, take, get_or}
use Rattle.rules.specs.declared.answer.Size.{Size}
use Rattle.rules.specs.declared.v0.V0Row.{V0Row}
use Rattle.rules.specs.Frame.{cells}
use Rattle.rules.specs.V0.{head, samples, predictor, order, blocks_in, fresh_row}
use Rattle.rules.specs.Answer as Plain
use Rattle.rules_bands.specs.declared.Cut as Declared
use Rattle.rules_bands.specs.Bands as Cut
use Rattle.rules_bands.specs.Call as Bands
use Rattle.rules_clean.specs.Verdict as Verdict
use Rattle.rules_clean.specs.Clean as Clean
use Rattle.write_rules.specs.V2Writer as V2Writer
use Rattle.write_rules.specs.Calls as Writers
use Rattle.frame_blank.specs.Blanking as Blanking
use Rattle.frame_blank.specs.Calls as Blank
use Rattle.entry_frames.specs.Export as Export
use Rattle.entry_frames.specs.Moved as Moved
use Rattle.entry_convert.specs.Convert as Convert
use Rattle.write_packed.specs.Proposal as Packed

-- ── A number of a list ──

unfoldable pub listed : List ℕ → ℕ → Bool
listed [] k = false
listed (n ∷ ns) k = eqb n k || listed ns k

abbrev pub OneOf : List ℕ → ℕ → Type 0
OneOf ns k = listed ns k ≡ true

-- Either of two.
either : {A : Type 0} (P : A → Type 0) (t : Bool) (a b : A) → P a → P b → P (cond t a b)
either P true a b p q = p
either P false a b p q = q

-- The tests of 1 to 4, where 2 is none.
plain_number : (ns : List ℕ) (a : Plain.Ask) (l : Plain.Lent) → Plain.too_small a.decoder a.size ≡ false
    → OneOf ns 1 → OneOf ns 3 → OneOf ns 4 → OneOf ns 0 → OneOf ns (Plain.refusal a l)
unfolding Plain.refusal Plain.first_of
plain_number ns a l e one three four done =
    rw e
    (either (OneOf ns) (Plain.too_large a.size) 1 _ one
    (either (OneOf ns) (Plain.short_samples a l) 3 _ three
    (either (OneOf ns) (Plain.short_map l.map a.size || Plain.short_scratch a.decoder l.scratch a.size) 4 0 four done)))

-- ── In bands ──

abbrev pub in_bands : List ℕ
in_bands = 0 ∷ 1 ∷ 3 ∷ 4 ∷ 11 ∷ 12 ∷ []

list_number : (c : Declared.Cut) (steps : List ℕ) → OneOf in_bands (Bands.list_refusal c steps)
unfolding listed Bands.list_refusal
list_number c steps = either (OneOf in_bands) (Cut.fits c) (cond (Cut.good c steps) 0 12) 11 (either (OneOf in_bands) (Cut.good c steps) 0 12 refl refl) refl

pub bands_number : (c : Bands.Call) → OneOf in_bands (Bands.answer c).number
unfolding listed Bands.answer Bands.refusal Plain.too_small
bands_number c =
    let p = Plain.refusal (Bands.plain c) (Bands.lengths c) in
    either (OneOf in_bands) (eqb p 0) (Bands.list_refusal c.cut c.steps) p (list_number c.cut c.steps)
    (plain_number in_bands (Bands.plain c) (Bands.lengths c) refl refl refl refl refl)

-- ── For clean frames ──

module _ (ns : List ℕ) (done : OneOf ns 0) (upward : OneOf ns 17) (outside : OneOf ns 18) (filler : OneOf ns 19) where
  fault_number : (t17 t18 t19 : Bool) → OneOf ns (Verdict.first_fault t17 t18 t19)
  unfolding Verdict.first_fault
  fault_number t17 t18 t19 = either (OneOf ns) t17 17 _ upward (either (OneOf ns) t18 18 _ outside (either (OneOf ns) t19 19 0 filler done))

  blocks_number : (s : List ℕ) (z : Size) (row n col : ℕ) (st : V0Row) → OneOf ns (Verdict.blocks_fault s z row n col st)
  unfolding Verdict.blocks_fault Verdict.block_fault
  blocks_number s z row zero col st = done
  blocks_number s z row (suc n) col st =
      let h = head s st in
      let x = samples s (row * z.width + col) h.row.lengths (predictor z row col h.up) order h.row.bits in
      either (OneOf ns) (eqb (Verdict.block_fault row h x.bits) 0) (Verdict.blocks_fault s z row n (col + 16) (record { lengths = h.row.lengths; bits = x.bits }))
      (Verdict.block_fault row h x.bits) (blocks_number s z row n (col + 16) (record { lengths = h.row.lengths; bits = x.bits })) (fault_number _ _ _)

  rows_number : (s offsets : List ℕ) (z : Size) (n row : ℕ) → OneOf ns (Verdict.rows_verdict s offsets z n row).number
  unfolding Verdict.rows_verdict Verdict.row_fault
  rows_number s offsets z zero row = done
  rows_number s offsets z (suc n) row =
      let k = Verdict.row_fault s z row (get_or offsets row 0) in
      either (λ a. OneOf ns a.number) (eqb k 0) (Verdict.rows_verdict s offsets z n (suc row)) (Verdict.fault_at row k)
      (rows_number s offsets z n (suc row)) (blocks_number s z row (blocks_in z.width) 0 (fresh_row row (get_or offsets row 0)))

  verdict_number : (s offsets : List ℕ) (z : Size) → OneOf ns (Verdict.verdict s offsets z).number
  unfolding Verdict.verdict
  verdict_number s offsets z = rows_number s offsets z z.height 0

abbrev pub for_clean : List ℕ
for_clean = 0 ∷ 1 ∷ 3 ∷ 4 ∷ 17 ∷ 18 ∷ 19 ∷ []

pub clean_number : (a : Plain.Ask) (l : Plain.Lent) → a.decoder ≡ Plain.direct → OneOf for_clean (Clean.answer a l).number
unfolding listed Clean.answer Plain.too_small
clean_number a l e =
    let p = Plain.refusal a l in
    let small : Plain.too_small a.decoder a.size ≡ false = rw e in
    either (λ x. OneOf for_clean x.number) (eqb p 0) (Verdict.verdict a.stream a.offsets a.size) (Plain.refused p)
    (verdict_number for_clean refl refl refl refl a.stream a.offsets a.size) (plain_number for_clean a l small refl refl refl refl)

-- ── The writer, blanking and the archive export ──

module _ (ns : List ℕ) (done : OneOf ns 0) (one : OneOf ns 1) (three : OneOf ns 3) (nine : OneOf ns 9) (ten : OneOf ns 10) where
  write_number : (c : Writers.Call) → OneOf ns (Writers.write_answer c).answer.number
  unfolding Writers.write_answer Writers.write_refusal
  write_number c =
      either (λ x. OneOf ns x.answer.number) (eqb (Writers.write_refusal c) 0) (Writers.written (length (Writers.stream_of c))) (Writers.refused (Writers.write_refusal c)) done
      (either (OneOf ns) (Plain.too_large c.size) 1 _ one
      (either (OneOf ns) (ltb (length c.samples) (cells c.size)) 3 _ three
      (either (OneOf ns) (Writers.too_bright (Writers.frame_of c)) 9 _ nine (either (OneOf ns) (Writers.short_output c) 10 0 ten done))))

module _ (ns : List ℕ) (done : OneOf ns 0) (one : OneOf ns 1) (three : OneOf ns 3) (four : OneOf ns 4) (bad : OneOf ns 14) (runs : OneOf ns 13) where
  blank_number : (c : Blank.Call) → OneOf ns (Blank.blank_answer c).answer.number
  unfolding Blank.blank_answer Blank.refusal
  blank_number c =
      either (λ x. OneOf ns x.answer.number) (eqb (Blank.refusal c) 0) (Blank.blanked_done (Blanking.count (Blank.marks_of c)) (length (Blank.found c))) (Blank.refused (Blank.refusal c)) done
      (either (OneOf ns) (Plain.too_large c.size) 1 _ one
      (either (OneOf ns) (ltb (length c.samples) (cells c.size)) 3 _ three
      (either (OneOf ns) (ltb (length c.map) (cells c.size)) 4 _ four
      (either (OneOf ns) (Blanking.bad_map (Blank.marks_of c)) 14 _ bad (either (OneOf ns) (Blank.short_runs c) 13 0 runs done)))))

abbrev pub by_writer : List ℕ
by_writer = 0 ∷ 1 ∷ 3 ∷ 9 ∷ 10 ∷ []

pub writer_number : (c : Writers.Call) → OneOf by_writer (Writers.write_answer c).answer.number
unfolding listed
writer_number = write_number by_writer refl refl refl refl refl

abbrev pub by_blanking : List ℕ
by_blanking = 0 ∷ 1 ∷ 3 ∷ 4 ∷ 13 ∷ 14 ∷ []

pub blanking_number : (c : Blank.Call) → OneOf by_blanking (Blank.blank_answer c).answer.number
unfolding listed
blanking_number = blank_number by_blanking refl refl refl refl refl refl

abbrev pub by_export : List ℕ
by_export = 0 ∷ 1 ∷ 3 ∷ 4 ∷ 9 ∷ 10 ∷ 13 ∷ 14 ∷ []

pub export_number : (e : Export.Export) → OneOf by_export (Export.export_answer e).answer.number
unfolding listed Export.export_answer Export.if_blanked
export_number e =
    either (λ x. OneOf by_export x.number) (eqb (Blank.refusal e.blank) 0) (Writers.write_answer (Export.write e)).answer (Blank.blank_answer e.blank).answer
    (write_number by_export refl refl refl refl refl (Export.write e)) (blank_number by_export refl refl refl refl refl refl e.blank)

-- ── Colour planes ──

abbrev pub by_planes : List ℕ
by_planes = 0 ∷ 1 ∷ 3 ∷ []

pub planes_number : (w h : ℕ) (from to : List ℕ) → OneOf by_planes (Moved.answer w h from to).number
unfolding listed Moved.refusal Plain.first_of
planes_number w h from to =
    let z = Moved.size w h in
    either (OneOf by_planes) (Plain.too_large z) 1 _ refl
    (either (OneOf by_planes) (ltb (length from) (cells z) || ltb (length to) (cells z)) 3 0 refl refl)

-- ── V0 into V2 ──

abbrev pub into_v2 : List ℕ
into_v2 = 0 ∷ 1 ∷ 2 ∷ 3 ∷ 4 ∷ 9 ∷ 10 ∷ 15 ∷ 16 ∷ []

four_number : (t1 t2 t3 t4 : Bool) → OneOf into_v2 (Plain.first_of t1 t2 t3 t4)
unfolding listed Plain.first_of
four_number t1 t2 t3 t4 =
    either (OneOf into_v2) t1 1 _ refl (either (OneOf into_v2) t2 2 _ refl (either (OneOf into_v2) t3 3 _ refl (either (OneOf into_v2) t4 4 0 refl refl)))

early_number : (c : Convert.Call) → OneOf into_v2 (Convert.early c)
unfolding listed Convert.early
early_number c =
    let z = c.asked.size in
    let l = Plain.lengths (Convert.found c) in
    let k = Plain.first_of (Plain.too_large z) (Plain.too_small Plain.v2 z) (Plain.short_samples c.asked l) (Plain.short_map (some (length c.map)) z) in
    either (OneOf into_v2) (eqb k 0) (cond (eqb (z.width % 16) 0) 0 15) k (either (OneOf into_v2) (eqb (z.width % 16) 0) 0 15 refl refl) (four_number _ _ _ _)

late_number : (z : Size) (f m : List ℕ) (n : ℕ) → OneOf into_v2 (Convert.late z f m n)
unfolding listed Convert.late
late_number z f m n =
    either (OneOf into_v2) (Convert.any_marked m) 16 _ refl
    (either (OneOf into_v2) (Writers.too_bright f) 9 _ refl (either (OneOf into_v2) (ltb n (length (V2Writer.stream_for z f))) 10 0 refl refl))

late_answer_number : (w h : ℕ) (f m : List ℕ) (n : ℕ) → OneOf into_v2 (Convert.late_answer w h f m n).answer.number
unfolding listed Convert.late_answer
late_answer_number w h f m n =
    let k = Convert.late (Moved.size w h) f m n in
    either (λ x. OneOf into_v2 x.answer.number) (eqb k 0) (Writers.written (length (V2Writer.stream_for (Moved.size w h) f))) (Writers.refused k) refl
    (late_number (Moved.size w h) f m n)

pub convert_number : (c : Convert.Call) → (let z = c.asked.size in
    OneOf into_v2 (Convert.if_decoded c (Convert.late_answer z.width z.height (Convert.frame_of c) (Convert.marks_of c) (length c.stream)) (Writers.refused (Convert.early c))).answer.number)
unfolding Convert.if_decoded
convert_number c =
    let z = c.asked.size in
    either (λ x. OneOf into_v2 x.answer.number) (eqb (Convert.early c) 0)
    (Convert.late_answer z.width z.height (Convert.frame_of c) (Convert.marks_of c) (length c.stream)) (Writers.refused (Convert.early c))
    (late_answer_number z.width z.height (Convert.frame_of c) (Convert.marks_of c) (length c.stream)) (early_number c)

-- ── What others packed ──

abbrev pub by_check : List ℕ
by_check = 0 ∷ 1 ∷ 3 ∷ 9 ∷ 17 ∷ 18 ∷ 19 ∷ 20 ∷ 21 ∷ []

packed_early : (p : Packed.Proposal) (n : ℕ) → OneOf by_check (Packed.early p n)
unfolding listed Packed.early
packed_early p n =
    either (OneOf by_check) (Plain.too_large p.size) 1 _ refl
    (either (OneOf by_check) (ltb (length p.meant) (cells p.size)) 3 _ refl
    (either (OneOf by_check) (Writers.too_bright (Packed.frame_of p)) 9 _ refl
    (either (OneOf by_check) (Plain.short_samples (Packed.asked p) (Plain.lent n none 0)) 3 0 refl refl)))

packed_before : (p : Packed.Proposal) (n : ℕ) → OneOf by_check (Packed.before p n).number
unfolding listed Packed.before
packed_before p n =
    let v = Verdict.verdict p.stream p.offsets p.size in
    either (λ x. OneOf by_check x.number) (eqb (Packed.early p n) 0) (cond (eqb v.number 0) (cond (Packed.longer p) (Plain.refused 21) Plain.done) v) (Plain.refused (Packed.early p n))
    (either (λ x. OneOf by_check x.number) (eqb v.number 0) (cond (Packed.longer p) (Plain.refused 21) Plain.done) v
    (either (λ x. OneOf by_check x.number) (Packed.longer p) (Plain.refused 21) Plain.done refl refl)
    (verdict_number by_check refl refl refl refl p.stream p.offsets p.size))
    (packed_early p n)

pub check_number : (p : Packed.Proposal) (scratch : List ℕ) → OneOf by_check (Packed.answer p scratch).number
unfolding listed Packed.answer
check_number p scratch =
    let first = Packed.before p (length scratch) in
    let same = Packed.same (take (cells p.size) (Packed.scratch_after p scratch)) (Packed.frame_of p) in
    either (λ x. OneOf by_check x.number) (eqb first.number 0) (cond same Plain.done (Plain.refused 20)) first
    (either (λ x. OneOf by_check x.number) same Plain.done (Plain.refused 20) refl refl) (packed_before p (length scratch))
