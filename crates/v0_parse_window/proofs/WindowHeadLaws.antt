-- A head by position is the one that the record reads: its nine bits at once, then one length after another.
use Rattle.std.proofs.Common.{◌≡◌, ℕ, ◌+◌, ◌-◌, ◌*◌, ◌/◌, ◌%◌, ◌^◌, ◌<◌, ◌≤◌, Bool, true, false, cond, eqb, List, [], ◌∷◌, length, get_or, ℤ, pos, sym, refl, ap, ◌∙◌, arith, w32, SFits, to_z, of_z, eqb-true}
use lib.Signed.{mag}
use mir.ValLaws.{to_z-of_z}
use mir.Facts.{to_z_pos}
use borrow.Author.Tests.{eqb-false}
use Rattle.rules.specs.Reader.{read, four}
use Rattle.rules.specs.V0.{operated, head}
use Rattle.rules.specs.declared.reader.Taken.{Taken}
use Rattle.read_window.specs.Window.{bits_from, state_at, Window}
use Rattle.read_window.proofs.WindowLaws.{window_words, Reads, in_window, read_at}
use Rattle.v0_parse.specs.Lengths.{stepped, Within, furthest}
use Rattle.v0_parse_window.specs.ByWindow.{Room, length_in, HeadAt}
use Rattle.v0_parse_window.specs.declared.WindowLength.{WindowLength}
use Rattle.v0_parse.proofs.HeadLaws.{stepped_near, lengths_made}
use Rattle.v0_parse_window.proofs.GroupLaws.{four_is}

-- ── One length ──

-- As the code makes it: the flag is 1 at operation 3 alone.
pub length_made : (v at left op : ℕ) (l step x : ℤ) (four : ℕ) → op ≡ v / 2 ^ at % 4 → step ≡ stepped op l → mag l ≤ furthest → four ≡ v / 2 ^ (left - 4) % 16
    → x ≡ cond (eqb ((op + 1) / 4) 1) (to_z w32 four) (to_z w32 (of_z w32 step)) → 4 ≤ left
    → record { length = to_z w32 (of_z w32 x); left = left - 4 * ((op + 1) / 4) } ≡ length_in v at left l
unfolding length_in
length_made v at left op l step x four eo es near ef ex some = go (eqb op 3) refl
  where
    fits : SFits w32 step
    fits = record { sfits = omega (arith, ap mag es, stepped_near op l near) }

    as_read : to_z w32 four ≡ pos four
    as_read = to_z_pos w32 {n = four} (omega arith)

    go : (t : Bool) → eqb op 3 ≡ t → record { length = to_z w32 (of_z w32 x); left = left - 4 * ((op + 1) / 4) } ≡ length_in v at left l
    go true t =
        let three : op ≡ 3 = eqb-true op 3 t in
        let one : (op + 1) / 4 ≡ 1 = omega arith in
        let is : x ≡ pos four = rw (one, as_read) at ex in
        let back : to_z w32 (of_z w32 (pos four)) ≡ pos four = to_z-of_z w32 (pos four) (record { sfits = omega arith }) in
        rw (is, back, one, ← eo, t, ef)
    go false t =
        let other = eqb-false op 3 t in
        let few : op < 4 = omega arith in
        let none : (op + 1) / 4 ≡ 0 = omega arith in
        let is : x ≡ step = rw (none, to_z-of_z w32 step fits) at ex in
        let zero : left - 4 * 0 ≡ left = omega arith in
        rw (is, to_z-of_z w32 step fits, none, zero, ← eo, t, es)

-- How many bits are left after it.
left_in : (v at left : ℕ) (l : ℤ) → (left - 4 ≤ (length_in v at left l).left) × ((length_in v at left l).left ≤ left)
unfolding length_in
left_in v at left l = go (eqb (v / 2 ^ at % 4) 3)
  where
    go : (t : Bool)
        → (left - 4 ≤ (cond {A = WindowLength} t (record { length = pos (v / 2 ^ (left - 4) % 16); left = left - 4 }) (record { length = stepped (v / 2 ^ at % 4) l; left = left })).left)
        × ((cond {A = WindowLength} t (record { length = pos (v / 2 ^ (left - 4) % 16); left = left - 4 }) (record { length = stepped (v / 2 ^ at % 4) l; left = left })).left ≤ left)
    go true = (omega arith, omega arith)
    go false = (omega arith, omega arith)

-- It is the length that the record reads that stands where so many bits of the window are left.
module _ (s : List ℕ) (base q v : ℕ) (room : Room s base q) (w : Window s base q v) where
  -- n of the first bits of the window, by the record.
  reads : (f a n : ℕ) → n ≤ 4 → a + n ≤ 25 → Reads s base f (q + a) n
  reads f a n few near =
      read_at s base (q + a) n f (omega arith) (omega arith) (omega arith) (omega arith)
      (λ h. window_words s base q v w 64 (omega arith) ((q + a + 31) / 32) (omega arith) (omega arith))

  length_at : (f at left : ℕ) (l : ℤ) → 43 ≤ left → left ≤ 55
      → operated s (v / 2 ^ at % 4) l (state_at s base (q + (64 - left)) f)
      ≡ record { value = (length_in v at left l).length; bits = state_at s base (q + (64 - (length_in v at left l).left)) f }
  unfolding operated length_in stepped
  length_at f at left l low high = go (eqb (v / 2 ^ at % 4) 3)
    where
      four_bits : v / 2 ^ (left - 4) % 2 ^ 4 ≡ bits_from s base (q + (64 - left)) 4
      four_bits = in_window s base q v (64 - left) 4 (left - 4) w (omega arith)

      on : q + (64 - left) + 4 ≡ q + (64 - (left - 4))
      on = omega arith

      go : (t : Bool)
          → cond {A = Taken ℤ} t (record { value = pos (read s (state_at s base (q + (64 - left)) f) 4).value; bits = (read s (state_at s base (q + (64 - left)) f) 4).bits })
          (record { value = stepped (v / 2 ^ at % 4) l; bits = state_at s base (q + (64 - left)) f })
          ≡ (let x = cond {A = WindowLength} t (record { length = pos (v / 2 ^ (left - 4) % 16); left = left - 4 }) (record { length = stepped (v / 2 ^ at % 4) l; left = left }) in
          record { value = x.length; bits = state_at s base (q + (64 - x.left)) f })
      go true = rw (reads f (64 - left) 4 (omega arith) (omega arith), on, ← four_bits)
      go false = refl

  -- ── The head ──

  -- A direction bit, and four operations of two bits.
  direction : v / 2 ^ 63 % 2 ≡ bits_from s base q 1
  direction = let z : q + 0 ≡ q = omega arith in in_window s base q v 0 1 63 w refl ∙ rw z

  operations : (f : ℕ) → four s 2 (state_at s base (q + 1) f)
      ≡ record { value = v / 2 ^ 61 % 4 ∷ v / 2 ^ 59 % 4 ∷ v / 2 ^ 57 % 4 ∷ v / 2 ^ 55 % 4 ∷ []; bits = state_at s base (q + 9) f }
  operations f =
      let e : q + 1 + 4 * 2 ≡ q + 9 = omega arith in
      let e₁ : q + 1 + 2 ≡ q + 3 = omega arith in
      let e₂ : q + 1 + 2 * 2 ≡ q + 5 = omega arith in
      let e₃ : q + 1 + 3 * 2 ≡ q + 7 = omega arith in
      let o₀ : v / 2 ^ 61 % 4 ≡ bits_from s base (q + 1) 2 = in_window s base q v 1 2 61 w refl in
      let o₁ : v / 2 ^ 59 % 4 ≡ bits_from s base (q + 3) 2 = in_window s base q v 3 2 59 w refl in
      let o₂ : v / 2 ^ 57 % 4 ≡ bits_from s base (q + 5) 2 = in_window s base q v 5 2 57 w refl in
      let o₃ : v / 2 ^ 55 % 4 ≡ bits_from s base (q + 7) 2 = in_window s base q v 7 2 55 w refl in
      rw (
        four_is s base (q + 1) 2 f (omega arith) (omega arith) (omega arith) (omega arith) (λ j l m. window_words s base q v w 64 (omega arith) j (omega arith) (omega arith)),
        e,
        e₁,
        e₂,
        e₃,
        o₀,
        o₁,
        o₂,
        o₃,
      )

  pub head_made : (ls : List ℤ) (up : Bool) (a b c d : WindowLength) → length ls ≡ 4 → Within furthest ls → up ≡ eqb (v / 2 ^ 63 % 2) 1
      → a ≡ length_in v 61 55 (to_z w32 (of_z w32 (get_or ls 0 (pos 0)))) → b ≡ length_in v 59 a.left (to_z w32 (of_z w32 (get_or ls 1 (pos 0))))
      → c ≡ length_in v 57 b.left (to_z w32 (of_z w32 (get_or ls 2 (pos 0)))) → d ≡ length_in v 55 c.left (to_z w32 (of_z w32 (get_or ls 3 (pos 0))))
      → HeadAt s base q ls (record {
        up = up;
        lengths = to_z w32 (of_z w32 a.length) ∷ to_z w32 (of_z w32 b.length) ∷ to_z w32 (of_z w32 c.length) ∷ to_z w32 (of_z w32 d.length) ∷ [];
        q = q + (64 - d.left);
      })
  unfolding head
  head_made ls up a b c d four within eu ea eb ec ed =
      let la = rw (← ea) at (left_in v 61 55 (to_z w32 (of_z w32 (get_or ls 0 (pos 0))))) in
      let lb = rw (← eb) at (left_in v 59 a.left (to_z w32 (of_z w32 (get_or ls 1 (pos 0))))) in
      let lc = rw (← ec) at (left_in v 57 b.left (to_z w32 (of_z w32 (get_or ls 2 (pos 0))))) in
      let ld = rw (← ed) at (left_in v 55 c.left (to_z w32 (of_z w32 (get_or ls 3 (pos 0))))) in
      record { reads = λ f. whole f la.0 lb.0 lc.0 la.1 lb.1 lc.1; some = omega arith; soon = omega (arith, la.0, lb.0, lc.0, ld.0) }
    where
      ops : List ℕ
      ops = v / 2 ^ 61 % 4 ∷ v / 2 ^ 59 % 4 ∷ v / 2 ^ 57 % 4 ∷ v / 2 ^ 55 % 4 ∷ []

      -- One length as the record reads it.
      after : ℕ → WindowLength → Taken ℤ
      after f x = record { value = x.length; bits = state_at s base (q + (64 - x.left)) f }

      one : (f at left : ℕ) (l : ℤ) (x : WindowLength) → 43 ≤ left → left ≤ 55 → x ≡ length_in v at left l
          → after f x ≡ operated s (v / 2 ^ at % 4) l (state_at s base (q + (64 - left)) f)
      one f at left l x low high e = ap (after f) e ∙ sym (length_at f at left l low high)

      whole : (f : ℕ) → 55 - 4 ≤ a.left → a.left - 4 ≤ b.left → b.left - 4 ≤ c.left → a.left ≤ 55 → b.left ≤ a.left → c.left ≤ b.left → head s (record { lengths = ls; bits = state_at s base q f })
          ≡ record {
            up = up;
            row = record {
              lengths = to_z w32 (of_z w32 a.length) ∷ to_z w32 (of_z w32 b.length) ∷ to_z w32 (of_z w32 c.length) ∷ to_z w32 (of_z w32 d.length) ∷ [];
              bits = state_at s base (q + (64 - d.left)) f;
            };
          }
      whole f a₀ b₀ c₀ a₁ b₁ c₁ =
          let z : q + 0 ≡ q = omega arith in
          let first = rw z at (reads f 0 1 (omega arith) (omega arith)) in
          let lengths = lengths_made s ops ls (state_at s base (q + 9) f) refl four within (after f a) (after f b) (after f c) (after f d)
          (one f 61 55 _ a (omega arith) (omega arith) ea) (one f 59 a.left _ b (omega arith) (omega arith) eb)
          (one f 57 b.left _ c (omega arith) (omega arith) ec) (one f 55 c.left _ d (omega arith) (omega arith) ed) in
          rw (first, operations f, ← direction, ← eu, ← lengths)

-- How many bits a length of the code leaves.
pub left_of : (v at left : ℕ) (l : ℤ) (x : WindowLength) → x ≡ length_in v at left l → (left - 4 ≤ x.left) × (x.left ≤ left)
left_of v at left l x e = rw e (left_in v at left l)
