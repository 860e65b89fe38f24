-- What blanking does to each sample: a marked one becomes the fill, an unmarked one stays; blanked twice is blanked once; and what a
-- blanked frame does not depend on.
use mathlib.Core.Path.{◌≡◌, refl, sym, ap, ap₂, ◌∙◌}
use mathlib.Core.Bool.{Bool, true, false, cond}
use mathlib.Core.List.{List, ◌++◌}
use Prim.Native.Nat.{ℕ, zero, suc, ◌+◌, ◌-◌, ◌*◌, ◌≤◌, ◌<◌}
use native.Mathlib.Omega.{arith}
use native.Mathlib.Nat.{mul_comm, zero-mul}
use lib.Dec.{ltb, lit<}
use lib.ListN.{length, get_or, take, drop, length-append, length-take, length-drop, get_or-append, get_or-eq_default}
use lib.Seq.{length-take-le, get_or-take, get_or-drop, get_or-append-add, ext_get_or}
use borrow.Author.Tests.{ltb-true, ltb-false}
use Rattle.rules.specs.declared.answer.Size.{Size}
use Rattle.rules.specs.Frame.{cells, tabulate}
use Rattle.rules.proofs.Cells.{All, all_append, all_take, all_drop, all_get}
use Rattle.rules.proofs.Cells.All.{nil, more}
use Rattle.rules.proofs.Tests.{clash, by-test}
use Rattle.frame_blank.specs.Blanking.{Fill, stated, unstated, marked, blank_row, blank_rows, blanked}
use Rattle.frame_blank.proofs.RowLaws.{blank_row_length, blank_row_get}

-- ── How many there are ──

pub blank_rows_length : (fill : Fill) (w n : ℕ) (f m : List ℕ) → length (blank_rows fill w n f m) ≡ length f
unfolding blank_rows
blank_rows_length fill w zero f m = refl
blank_rows_length fill w (suc n) f m =
    length-append (blank_row fill (take w f) (take w m)) (blank_rows fill w n (drop w f) (drop w m))
    ∙ omega (arith, blank_row_length fill (take w f) (take w m), blank_rows_length fill w n (drop w f) (drop w m), length-take w f, length-drop w f)

-- ── Each sample ──

-- Of a fill that is v wherever this sample needs one.
blanked_at : (fill : Fill) (v w n : ℕ) (f m : List ℕ) (i : ℕ) → i < n * w → n * w ≤ length f
    → (marked (get_or m i 0) ≡ true → (row map : List ℕ) (c : ℕ) → fill row map c ≡ v)
    → get_or (blank_rows fill w n f m) i 0 ≡ cond (marked (get_or m i 0)) v (get_or f i 0)
unfolding blank_rows
blanked_at fill v w zero f m i h l p = absurd (omega (arith, zero-mul w))
blanked_at fill v w (suc n) f m i h l p =
    by-test (ltb i w)
    (λ e. let k = ltb-true i w e in
    get_or-append row rest 0 i (omega (arith, wide))
    ∙ blank_row_get fill (take w f) (take w m) i (omega (arith, length-take-le w f (omega arith)))
    ∙ ap₂ (λ b x. cond (marked b) (fill (take w f) (take w m) i) x) (get_or-take w m i 0 k) (get_or-take w f i 0 k)
    ∙ filled (marked (get_or m i 0)) refl k)
    (λ e. let k = ltb-false i w e in
    let at : i ≡ length row + (i - w) = omega (arith, wide) in
    let back : w + (i - w) ≡ i = omega arith in
    let of_map : get_or (drop w m) (i - w) 0 ≡ get_or m i 0 = get_or-drop w m (i - w) 0 ∙ ap (λ j. get_or m j 0) back in
    let of_frame : get_or (drop w f) (i - w) 0 ≡ get_or f i 0 = get_or-drop w f (i - w) 0 ∙ ap (λ j. get_or f j 0) back in
    ap (λ j. get_or (row ++ rest) j 0) at ∙ get_or-append-add row rest (i - w) 0
    ∙ blanked_at fill v w n (drop w f) (drop w m) (i - w) (omega arith) (omega (arith, length-drop w f)) (λ q. p (ap marked (sym of_map) ∙ q))
    ∙ ap₂ (λ b x. cond (marked b) v x) of_map of_frame)
  where
    row : List ℕ
    row = blank_row fill (take w f) (take w m)

    rest : List ℕ
    rest = blank_rows fill w n (drop w f) (drop w m)

    wide : length row ≡ w
    wide = blank_row_length fill (take w f) (take w m) ∙ length-take-le w f (omega arith)

    filled : (t : Bool) → marked (get_or m i 0) ≡ t → i < w → cond t (fill (take w f) (take w m) i) (get_or f i 0) ≡ cond t v (get_or f i 0)
    filled true e k = p e (take w f) (take w m) i
    filled false e k = refl

module _ (z : Size) (f m : List ℕ) (l : length f ≡ cells z) (i : ℕ) (h : i < cells z) where
  below : i < z.height * z.width
  below = omega (arith, mul_comm z.width z.height)

  whole : z.height * z.width ≤ length f
  whole = omega (arith, l, mul_comm z.width z.height)

  -- An unmarked sample is unchanged, whatever the fill.
  pub unmarked_kept : (fill : Fill) → marked (get_or m i 0) ≡ false → get_or (blanked fill z f m) i 0 ≡ get_or f i 0
  unmarked_kept fill e = blanked_at fill 0 z.width z.height f m i below whole (λ t. absurd (clash t e)) ∙ rw e

  -- Every marked sample is the stated fill.
  pub marked_filled : (v : ℕ) → marked (get_or m i 0) ≡ true → get_or (blanked (stated v) z f m) i 0 ≡ v
  marked_filled v e = blanked_at (stated v) v z.width z.height f m i below whole (λ t row map c. refl) ∙ rw e

-- ── 16-bit samples stay such ──

abbrev Small : List ℕ → Type 0
Small f = All (λ x. x < 65_536) f

-- A fill that is a 16-bit number, of such samples.
abbrev pub Fits : Fill → Type 0
Fits fill = (row map : List ℕ) → Small row → (c : ℕ) → fill row map c < 65_536

pub stated_fits : (v : ℕ) → v < 65_536 → Fits (stated v)
stated_fits v h row map s c = h

pub unstated_fits : Fits unstated
unfolding unstated
unstated_fits row map s zero = lit< tt
unstated_fits row map s (suc zero) = lit< tt
unstated_fits row map s (suc (suc c)) =
    by-test (marked (get_or map c 0)) (λ e. rw e (unstated_fits row map s c)) (λ e. rw e (all_get (λ x. x < 65_536) s c 0 (lit< tt)))

all_tabulate : (n i : ℕ) (f : ℕ → ℕ) → ((k : ℕ) → f k < 65_536) → Small (tabulate n i f)
unfolding tabulate
all_tabulate zero i f p = nil
all_tabulate (suc n) i f p = more (p i) (all_tabulate n (suc i) f p)

module _ (fill : Fill) (fits : Fits fill) where
  row_below : (row map : List ℕ) → Small row → Small (blank_row fill row map)
  unfolding blank_row
  row_below row map s = all_tabulate (length row) 0 _ (λ c. by-test (marked (get_or map c 0)) (λ e. rw e (fits row map s c)) (λ e. rw e (all_get (λ x. x < 65_536) s c 0 (lit< tt))))

  pub blank_rows_below : (w n : ℕ) (f m : List ℕ) → Small f → Small (blank_rows fill w n f m)
  unfolding blank_rows
  blank_rows_below w zero f m s = s
  blank_rows_below w (suc n) f m s =
      all_append (λ x. x < 65_536) (row_below (take w f) (take w m) (all_take (λ x. x < 65_536) w s))
      (blank_rows_below w n (drop w f) (drop w m) (all_drop (λ x. x < 65_536) w s))

-- ── What a blanked frame does not depend on ──

-- Two rows or frames that are alike wherever a map doesn't mark them.
abbrev pub Agree : List ℕ → List ℕ → List ℕ → Type 0
Agree m f g = (i : ℕ) → marked (get_or m i 0) ≡ false → get_or f i 0 ≡ get_or g i 0

-- A fill that rests on no marked sample.
abbrev pub Clean : Fill → Type 0
Clean fill = (row row' map : List ℕ) → length row ≡ length row' → Agree map row row' → (c : ℕ) → fill row map c ≡ fill row' map c

pub stated_clean : (v : ℕ) → Clean (stated v)
stated_clean v row row' map l a c = refl

pub unstated_clean : Clean unstated
unfolding unstated
unstated_clean row row' map l a zero = refl
unstated_clean row row' map l a (suc zero) = refl
unstated_clean row row' map l a (suc (suc c)) = by-test (marked (get_or map c 0)) (λ e. rw e (unstated_clean row row' map l a c)) (λ e. rw e (a c e))

module _ (fill : Fill) (clean : Clean fill) where
  row_same : (row row' map : List ℕ) → length row ≡ length row' → Agree map row row' → blank_row fill row map ≡ blank_row fill row' map
  row_same row row' map l a =
      ext_get_or 0 _ _ (blank_row_length fill row map ∙ l ∙ sym (blank_row_length fill row' map))
      (λ c h. let k : c < length row = omega (arith, h, blank_row_length fill row map) in
      blank_row_get fill row map c k ∙ each c (marked (get_or map c 0)) refl ∙ sym (blank_row_get fill row' map c (omega (arith, k, l))))
    where
      each : (c : ℕ) (t : Bool) → marked (get_or map c 0) ≡ t → cond (marked (get_or map c 0)) (fill row map c) (get_or row c 0) ≡ cond (marked (get_or map c 0)) (fill row' map c) (get_or row' c 0)
      each c true e = rw e (clean row row' map l a c)
      each c false e = rw e (a c e)

  -- A part of what agrees agrees.
  agree_take : (w : ℕ) (m f g : List ℕ) → Agree m f g → Agree (take w m) (take w f) (take w g)
  agree_take w m f g a i e =
      by-test (ltb i w)
      (λ q. let k = ltb-true i w q in
      get_or-take w f i 0 k ∙ a i (ap marked (sym (get_or-take w m i 0 k)) ∙ e) ∙ sym (get_or-take w g i 0 k))
      (λ q. let k = ltb-false i w q in
      get_or-eq_default (take w f) 0 (omega (arith, k, length-take w f)) ∙ sym (get_or-eq_default (take w g) 0 (omega (arith, k, length-take w g))))

  agree_drop : (w : ℕ) (m f g : List ℕ) → Agree m f g → Agree (drop w m) (drop w f) (drop w g)
  agree_drop w m f g a i e = get_or-drop w f i 0 ∙ a (w + i) (ap marked (sym (get_or-drop w m i 0)) ∙ e) ∙ sym (get_or-drop w g i 0)

  rows_same : (w n : ℕ) (f g m : List ℕ) → length f ≡ n * w → length f ≡ length g → Agree m f g → blank_rows fill w n f m ≡ blank_rows fill w n g m
  unfolding blank_rows
  rows_same w zero f g m l e a = ext_get_or 0 f g e (λ i h. absurd (omega (arith, h, l, zero-mul w)))
  rows_same w (suc n) f g m l e a =
      ap₂ (λ x y. x ++ y)
      (row_same (take w f) (take w g) (take w m) (length-take w f ∙ omega (arith, e, length-take w g)) (agree_take w m f g a))
      (rows_same w n (drop w f) (drop w g) (drop w m) (length-drop w f ∙ omega (arith, l)) (length-drop w f ∙ omega (arith, e, length-drop w g)) (agree_drop w m f g a))

  -- Nothing of the marked samples is left.
  pub blanked_same : (z : Size) (f g m : List ℕ) → length f ≡ cells z → length g ≡ cells z → Agree m f g → blanked fill z f m ≡ blanked fill z g m
  blanked_same z f g m l e a = rows_same z.width z.height f g m (l ∙ mul_comm z.width z.height) (l ∙ sym e) a

  -- Blanking twice is blanking once.
  pub blanked_twice : (z : Size) (f m : List ℕ) → length f ≡ cells z → blanked fill z (blanked fill z f m) m ≡ blanked fill z f m
  blanked_twice z f m l = blanked_same z (blanked fill z f m) f m long l (λ i e. by-test (ltb i (cells z))
      (λ q. unmarked_kept z f m l i (ltb-true i (cells z) q) fill e)
      (λ q. let k = ltb-false i (cells z) q in
      get_or-eq_default (blanked fill z f m) 0 (omega (arith, k, long)) ∙ sym (get_or-eq_default f 0 (omega (arith, k, l)))))
    where
      long : length (blanked fill z f m) ≡ cells z
      long = blank_rows_length fill z.width z.height f m ∙ l
