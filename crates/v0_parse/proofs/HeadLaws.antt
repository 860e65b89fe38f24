-- A block's head: one length after another, and how far from 0 they get.
use mathlib.Core.Path.{◌≡◌, refl, sym, ap, ap₂, subst, ◌∙◌}
use mathlib.Core.Bool.{Bool, true, false, cond}
use mathlib.Core.List.{List, [], ◌∷◌}
use Prim.Native.Nat.{ℕ, zero, suc, ◌+◌, ◌-◌, ◌/◌, ◌%◌, ◌^◌, ◌≤◌, ◌<◌}
use native.Mathlib.Nat.{div-one}
use native.Mathlib.Omega.{arith}
use lib.Dec.{eqb, ltb}
use lib.IntN.{ℤ, pos, negsuc, ◌+ℤ◌, ◌-ℤ◌, +ℤ_idr, +ℤ-neg_ℤ_cancel}
use lib.ListN.{length, get_or, drop, replicate}
use lib.Signed.{mag}
use mir.Syntax.{w32}
use mir.Val.{SFits, to_z, of_z}
use mir.ValLaws.{to_z-of_z}
use mir.Facts.{to_z_pos}
use borrow.Author.Tests.{ne_eqb}
use Rattle.rules.specs.Reader.{read, four}
use Rattle.rules.specs.V0.{operated, operate, head, fresh_row}
use Rattle.rules.proofs.ReaderLaws.{read_below, fields_more, total, cut, four_fields}
use Rattle.read_bits.specs.Refilled.{Whole}
use Rattle.read_bits.proofs.WholeLaws.{fields_whole}
use Rattle.rules.specs.declared.reader.Bits.{Bits}
use Rattle.rules.specs.declared.reader.Got.{Got}
use Rattle.rules.specs.declared.reader.Taken.{Taken}
use Rattle.rules.specs.declared.v0.V0Row.{V0Row}
use Rattle.v0_parse.specs.Lengths.{stepped, Below, Within, furthest}
use Rattle.rules.proofs.Tests.{by-test}

-- ── One length ──

pub cond_mag : (t : Bool) (x y : ℤ) {k : ℕ} → mag x ≤ k → mag y ≤ k → mag (cond t x y) ≤ k
cond_mag true x y p q = p
cond_mag false x y p q = q

-- Adding or taking off d moves the magnitude by at most d.
pub add_mag : (l : ℤ) (d : ℕ) {n : ℕ} → mag l ≤ n → mag (l +ℤ pos d) ≤ n + d
add_mag (pos a) d h = omega arith
add_mag (negsuc a) d h = cond_mag (ltb d (suc a)) (negsuc (suc a - suc d)) (pos (d - suc a)) (omega arith) (omega arith)

pub sub_mag : (l : ℤ) (d : ℕ) {n : ℕ} → mag l ≤ n → mag (l -ℤ pos d) ≤ n + d
sub_mag l zero h = add_mag l 0 h
sub_mag (pos a) (suc d) h = cond_mag (ltb a (suc d)) (negsuc (suc d - suc a)) (pos (a - suc d)) (omega arith) (omega arith)
sub_mag (negsuc a) (suc d) h = omega arith

-- The sum of the code is the rule's length.
sum_is : (op : ℕ) (l : ℤ) → op < 4 → l +ℤ pos (op % 2) -ℤ pos (op / 2) ≡ stepped op l
unfolding stepped
sum_is zero l h = rw (+ℤ_idr (l +ℤ pos 0), +ℤ_idr l)
sum_is (suc zero) l h = +ℤ_idr (l +ℤ pos 1)
sum_is (suc (suc zero)) l h = rw (+ℤ_idr l)
sum_is (suc (suc (suc zero))) l h = +ℤ-neg_ℤ_cancel l (pos 1)
sum_is (suc (suc (suc (suc op)))) l h = absurd (omega arith)

module _ (op : ℕ) (l : ℤ) (few : op < 4) (near : mag l ≤ furthest) (fits : SFits w32 l) where
  sum_eq : to_z w32 (of_z w32 l) +ℤ to_z w32 (op % 2) ≡ l +ℤ pos (op % 2)
  sum_eq = ap₂ ◌+ℤ◌ (to_z-of_z w32 l fits) (to_z_pos w32 {n = op % 2} (omega arith))

  sum_near : mag (l +ℤ pos (op % 2)) ≤ furthest + 1
  sum_near = omega (arith, add_mag l (op % 2) near)

  sum_fits : SFits w32 (l +ℤ pos (op % 2))
  sum_fits = record { sfits = omega (arith, sum_near) }

  -- As the code makes it: no step leaves 32 signed bits.
  pub step_add : SFits w32 (to_z w32 (of_z w32 l) +ℤ to_z w32 (op % 2))
  step_add = subst (SFits w32) (sym sum_eq) sum_fits

  difference_eq : to_z w32 (of_z w32 (to_z w32 (of_z w32 l) +ℤ to_z w32 (op % 2))) -ℤ to_z w32 (op / 2) ≡ l +ℤ pos (op % 2) -ℤ pos (op / 2)
  difference_eq =
      ap₂ ◌-ℤ◌ (to_z-of_z w32 (to_z w32 (of_z w32 l) +ℤ to_z w32 (op % 2)) step_add ∙ sum_eq) (to_z_pos w32 {n = op / 2} (omega arith))

  pub step_sub : SFits w32 (to_z w32 (of_z w32 (to_z w32 (of_z w32 l) +ℤ to_z w32 (op % 2))) -ℤ to_z w32 (op / 2))
  step_sub =
      subst (SFits w32) (sym difference_eq) (record { sfits = omega (arith, sub_mag (l +ℤ pos (op % 2)) (op / 2) sum_near) })

  pub step_is : to_z w32 (of_z w32 (to_z w32 (of_z w32 (to_z w32 (of_z w32 l) +ℤ to_z w32 (op % 2))) -ℤ to_z w32 (op / 2))) ≡ stepped op l
  step_is =
      to_z-of_z w32 (to_z w32 (of_z w32 (to_z w32 (of_z w32 l) +ℤ to_z w32 (op % 2))) -ℤ to_z w32 (op / 2)) step_sub
      ∙ difference_eq ∙ sum_is op l few

pub length_read : (s : List ℕ) (op : ℕ) (l : ℤ) (b : Bits) (g : Got) (v : ℤ) → op ≡ 3 → g ≡ read s b 4 → v ≡ pos g.value
    → record { value = v; bits = g.bits } ≡ operated s op l b
unfolding operated
length_read s op l b g v e eg ev = rw (e, ev, eg)

pub length_stepped : (s : List ℕ) (op : ℕ) (l : ℤ) (b : Bits) (v : ℤ) → (op ≡ 3 → ⊥) → v ≡ stepped op l
    → record { value = v; bits = b } ≡ operated s op l b
unfolding operated stepped
length_stepped s op l b v ne ev = rw (ne_eqb op 3 ne, ev)

-- A step moves a length by 1 at most.
pub stepped_near : (op : ℕ) (l : ℤ) {n : ℕ} → mag l ≤ n → mag (stepped op l) ≤ suc n
unfolding stepped
stepped_near op l near =
    cond_mag (eqb op 2) (l +ℤ negsuc 0) (cond (eqb op 1) (l +ℤ pos 1) l) (omega (arith, sub_mag l 1 near))
    (cond_mag (eqb op 1) (l +ℤ pos 1) l (omega (arith, add_mag l 1 near)) (omega arith))

length_within : (s : List ℕ) (op : ℕ) (l : ℤ) (b : Bits) {n : ℕ} → 15 ≤ n → mag l ≤ n → mag (operated s op l b).value ≤ suc n
unfolding operated stepped
length_within s op l b h near =
    by-test (eqb op 3) (λ e. rw e (omega (arith, read_below s b 4))) (λ e. rw e (stepped_near op l near))

-- ── Four of them ──

pub four_of : {A : Type 0} (xs : List A) (d : A) → length xs ≡ 4 → xs ≡ get_or xs 0 d ∷ get_or xs 1 d ∷ get_or xs 2 d ∷ get_or xs 3 d ∷ []
four_of [] d h = absurd (omega arith)
four_of (a ∷ []) d h = absurd (omega arith)
four_of (a ∷ b ∷ []) d h = absurd (omega arith)
four_of (a ∷ b ∷ c ∷ []) d h = absurd (omega arith)
four_of (a ∷ b ∷ c ∷ e ∷ []) d h = refl
four_of (a ∷ b ∷ c ∷ e ∷ f ∷ xs) d h = absurd (omega arith)

lengths_are : (s ops : List ℕ) (ls : List ℤ) (bits : Bits) (a b c d : Taken ℤ) → length ops ≡ 4 → length ls ≡ 4
    → a ≡ operated s (get_or ops 0 0) (get_or ls 0 (pos 0)) bits
    → b ≡ operated s (get_or ops 1 0) (get_or ls 1 (pos 0)) a.bits
    → c ≡ operated s (get_or ops 2 0) (get_or ls 2 (pos 0)) b.bits
    → d ≡ operated s (get_or ops 3 0) (get_or ls 3 (pos 0)) c.bits
    → record { lengths = a.value ∷ b.value ∷ c.value ∷ d.value ∷ []; bits = d.bits } ≡ operate s ops ls bits
unfolding operate
lengths_are s ops ls bits a b c d lo ll ea eb ec ed = rw (four_of ops 0 lo, four_of ls (pos 0) ll, ← ea, ← eb, ← ec, ← ed)

-- The same as the code has it, where every length goes through 32 bits.
module _ (s ops : List ℕ) (ls : List ℤ) (bits : Bits) (lo : length ops ≡ 4) (ll : length ls ≡ 4) (w : Within furthest ls) where
  stored : (j : ℕ) → to_z w32 (of_z w32 (get_or ls j (pos 0))) ≡ get_or ls j (pos 0)
  stored j = to_z-of_z w32 (get_or ls j (pos 0)) (record { sfits = omega (arith, w.each j) })

  given : (j : ℕ) (b : Bits) (x : Taken ℤ) → x ≡ operated s (get_or ops j 0) (to_z w32 (of_z w32 (get_or ls j (pos 0)))) b
      → x ≡ operated s (get_or ops j 0) (get_or ls j (pos 0)) b
  given j b x e = e ∙ ap (λ l. operated s (get_or ops j 0) l b) (stored j)

  back : (j : ℕ) (b : Bits) (x : Taken ℤ) → x ≡ operated s (get_or ops j 0) (to_z w32 (of_z w32 (get_or ls j (pos 0)))) b
      → to_z w32 (of_z w32 x.value) ≡ x.value
  back j b x e =
      let near : mag x.value ≤ suc furthest = rw (given j b x e) (length_within s (get_or ops j 0) (get_or ls j (pos 0)) b (omega arith) (w.each j)) in
      to_z-of_z w32 x.value (record { sfits = omega arith })

  pub lengths_made : (a b c d : Taken ℤ)
      → a ≡ operated s (get_or ops 0 0) (to_z w32 (of_z w32 (get_or ls 0 (pos 0)))) bits
      → b ≡ operated s (get_or ops 1 0) (to_z w32 (of_z w32 (get_or ls 1 (pos 0)))) a.bits
      → c ≡ operated s (get_or ops 2 0) (to_z w32 (of_z w32 (get_or ls 2 (pos 0)))) b.bits
      → d ≡ operated s (get_or ops 3 0) (to_z w32 (of_z w32 (get_or ls 3 (pos 0)))) c.bits
      → record {
        lengths = to_z w32 (of_z w32 a.value) ∷ to_z w32 (of_z w32 b.value) ∷ to_z w32 (of_z w32 c.value) ∷ to_z w32 (of_z w32 d.value) ∷ [];
        bits = d.bits;
      } ≡ operate s ops ls bits
  lengths_made a b c d ea eb ec ed =
      rw (back 0 bits a ea, back 1 a.bits b eb, back 2 b.bits c ec, back 3 c.bits d ed)
      (lengths_are s ops ls bits a b c d lo ll (given 0 bits a ea) (given 1 a.bits b eb) (given 2 b.bits c ec) (given 3 c.bits d ed))

below_four : (n a b c d : ℕ) → a < n → b < n → c < n → d < n → (j : ℕ) → get_or (a ∷ b ∷ c ∷ d ∷ []) j 0 < n
below_four n a b c d p q r t zero = p
below_four n a b c d p q r t (suc zero) = q
below_four n a b c d p q r t (suc (suc zero)) = r
below_four n a b c d p q r t (suc (suc (suc zero))) = t
below_four n a b c d p q r t (suc (suc (suc (suc j)))) = omega arith

-- Four numbers below n.
pub four_below : (n a b c d : ℕ) → a < n → b < n → c < n → d < n → Below n (a ∷ b ∷ c ∷ d ∷ [])
four_below n a b c d p q r t = record { each = below_four n a b c d p q r t }

-- ── How far from 0 they get ──

operate_within : (s ops : List ℕ) (ls : List ℤ) (b : Bits) (n : ℕ) → 15 ≤ n → ((j : ℕ) → mag (get_or ls j (pos 0)) ≤ n)
    → (j : ℕ) → mag (get_or (operate s ops ls b).lengths j (pos 0)) ≤ suc n
unfolding operate
operate_within s [] ls b n h near j = omega (arith, near j)
operate_within s (op ∷ ops) [] b n h near j = omega arith
operate_within s (op ∷ ops) (l ∷ ls) b n h near zero = length_within s op l b h (near 0)
operate_within s (op ∷ ops) (l ∷ ls) b n h near (suc j) = operate_within s ops ls (operated s op l b).bits n h (λ i. near (suc i)) j

pub within_more : (m n : ℕ) (ls : List ℤ) → m ≤ n → Within m ls → Within n ls
within_more m n ls l w = record { each = λ j. omega (arith, w.each j) }

-- A fresh row's lengths are near 0, and a block moves each by 1 at most, or sets it to at most 15.
pub fresh_within : (row offset : ℕ) → Within 15 (fresh_row row offset).lengths
unfolding fresh_row
fresh_within row offset = record { each = go (cond (ltb row 2) (pos 7) (pos 4)) (near (ltb row 2)) }
  where
    near : (t : Bool) → mag (cond t (pos 7) (pos 4)) ≤ 15
    near true = omega arith
    near false = omega arith

    go : (l : ℤ) → mag l ≤ 15 → (j : ℕ) → mag (get_or (replicate 4 l) j (pos 0)) ≤ 15
    go l h zero = h
    go l h (suc zero) = h
    go l h (suc (suc zero)) = h
    go l h (suc (suc (suc zero))) = h
    go l h (suc (suc (suc (suc j)))) = omega arith

pub head_within : (s : List ℕ) (st : V0Row) (n : ℕ) → 15 ≤ n → Within n st.lengths → Within (suc n) (head s st).row.lengths
unfolding head
head_within s st n h w =
    let o = four s 2 (read s st.bits 1).bits in
    record { each = operate_within s o.value st.lengths o.bits n h w.each }

-- ── The nine bits that open a head, by one read ──

-- The direction, and the four operations.
head_at_once : (s : List ℕ) (b : Bits) (g : Got) → Whole s b 9 g
    → ((read s b 1).value ≡ g.value / 256)
    × (record { value = g.value / 64 % 4 ∷ g.value / 16 % 4 ∷ g.value / 4 % 4 ∷ g.value % 4 ∷ []; bits = g.bits } ≡ four s 2 (read s b 1).bits)
unfolding cut total
head_at_once s b g w =
    let ns : List ℕ = 2 ∷ 2 ∷ 2 ∷ 2 ∷ [] in
    let at_once = fields_whole s 9 1 ns b g refl (omega arith) w in
    let e = sym (fields_more s 1 ns b) ∙ at_once in
    let small : g.value < 2 ^ 9 = rw w.reads (read_below s b 9) in
    let d : (read s b 1).value ≡ g.value / 256 % 2 = ap (λ x. get_or x.values 0 0) e in
    let last : g.value / 2 ^ 0 % 4 ≡ g.value % 4 = ap (λ x. x % 4) (div-one g.value) in
    (d ∙ omega arith, rw last at (sym {A = Taken (List ℕ)} (four_fields s 2 (read s b 1).bits ∙ ap (λ x. record { value = drop 1 x.values; bits = x.bits }) e)))

pub head_is : (s : List ℕ) (st next : V0Row) (g : Got) (up : Bool) → Whole s st.bits 9 g
    → next ≡ operate s (g.value / 64 % 4 ∷ g.value / 16 % 4 ∷ g.value / 4 % 4 ∷ g.value % 4 ∷ []) st.lengths g.bits → up ≡ eqb (g.value / 256) 1
    → record { up = up; row = next } ≡ head s st
unfolding head
head_is s st next g up w en eu =
    let x = head_at_once s st.bits g w in rw (eu, en, ← x.0) (ap (λ (o : Taken (List ℕ)). record { up = eqb (read s st.bits 1).value 1; row = operate s o.value st.lengths o.bits }) x.1)
