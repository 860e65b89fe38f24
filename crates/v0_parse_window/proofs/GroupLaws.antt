-- Residuals by position are those that the record reads: first four of one length out of windows, then the block.
use Rattle.std.specs.List.{list_all}
use Rattle.std.proofs.Common.{◌≡◌, ℕ, ◌+◌, ◌-◌, ◌*◌, ◌/◌, ◌%◌, ◌^◌, ◌<◌, ◌≤◌, Bool, true, false, ◌&&◌, leb, ◌⊎◌, List, [], ◌∷◌, length, get_or, set, replicate, ℤ, pos, negsuc, sym, refl, ap, ◌∙◌, subst, ⊎_elim, arith, w32, to_z, of_z, leb-false, leb-true}
use lib.Signed.{mag, le_z}
use mir.ValLaws.{to_z-of_z}
use Rattle.rules.specs.Reader.{word_at, four}
use Rattle.rules.specs.V0.{length_bits, head}
use Rattle.rules.specs.declared.reader.Bits.{Bits}
use Rattle.rules.specs.declared.v0.V0Row.{V0Row}
use Rattle.rules.proofs.ReaderLaws.{four_fields}
use Rattle.rules.proofs.Tests.{both}
use Rattle.read_window.specs.Window.{bits_from, state_at, values_at, span, none, also, Window, Standing}
use Rattle.read_window.proofs.WindowLaws.{fields_at, window_words, pair_top}
use Rattle.v0_parse.specs.Block.{with_residuals, whole_block}
use Rattle.v0_parse_window.specs.ByWindow.{residual, Room, HeadAt, head_of, Ahead, last_start, Plans, Short, short_length, short, Group, joined, residuals_of, Ends, block_ahead, residuals_ahead}
use Rattle.v0_parse_window.specs.declared.WindowHead.{WindowHead}
use Rattle.v0_parse_window.specs.declared.Plan.{Plan}
use Rattle.v0_parse.proofs.BlockLaws.{bits_few_enough, Reading, reading_begun, reading_four, read_all}

-- ── Four of one length ──

-- What `four_long_at` makes of two.
pub long_made : (s : List ℕ) (base q n v u p₀ p₁ p₂ p₃ r₀ r₁ r₂ r₃ : ℕ) → 16 < n → n ≤ 32 → Window s base q v → Window s base (q + 2 * n) u
    → p₀ ≡ 2 ^ (64 - 2 * n) → p₁ ≡ 2 ^ (64 - 2 * n) → p₂ ≡ 2 ^ n → p₃ ≡ 2 ^ n
    → r₀ ≡ residual n (v / p₀ / p₂ % 2 ^ n) → r₁ ≡ residual n (v / p₀ % 2 ^ n)
    → r₂ ≡ residual n (u / p₁ / p₃ % 2 ^ n) → r₃ ≡ residual n (u / p₁ % 2 ^ n) → Group s base q n (r₀ ∷ r₁ ∷ r₂ ∷ r₃ ∷ [])
long_made s base q n v u p₀ p₁ p₂ p₃ r₀ r₁ r₂ r₃ long few w x e₀ e₁ e₂ e₃ f₀ f₁ f₂ f₃ =
    let t = pair_top s base q v w n (64 - 2 * n) (omega arith) in
    let y = pair_top s base (q + 2 * n) u x n (64 - 2 * n) (omega arith) in
    let three : q + 2 * n + n ≡ q + 3 * n = omega arith in
    record { whole = both; are = rw (f₀, f₁, f₂, f₃, e₀, e₁, e₂, e₃, t.0, t.1, y.0, y.1, three) }
  where
    both : (j : ℕ) → q ≤ j * 32 → j * 32 < q + 4 * n → word_at s (base + j * 4) < 2 ^ 32
    both j l h = go (leb (q + 2 * n) (j * 32)) refl
      where
        go : (t : Bool) → leb (q + 2 * n) (j * 32) ≡ t → word_at s (base + j * 4) < 2 ^ 32
        go true t =
            let k : q + 2 * n ≤ j * 32 = leb-true (q + 2 * n) (j * 32) t in
            window_words s base (q + 2 * n) u x (2 * n) (omega arith) j k (omega arith)
        go false t =
            let k : j * 32 < q + 2 * n = leb-false (q + 2 * n) (j * 32) t in
            window_words s base q v w (2 * n) (omega arith) j l k

-- ── As the record reads them ──

-- Four fields of n bits, their words being there and of 32 bits each.
pub four_is : (s : List ℕ) (base q n f : ℕ) → n ≤ 32 → 0 < q → base + (q + 4 * n + 31) / 32 * 4 ≤ length s → base + (q + 4 * n + 31) / 32 * 4 + 4 < 2 ^ 64
    → ((j : ℕ) → q ≤ j * 32 → j * 32 < q + 4 * n → word_at s (base + j * 4) < 2 ^ 32)
    → four s n (state_at s base q f)
    ≡ record { value = bits_from s base q n ∷ bits_from s base (q + n) n ∷ bits_from s base (q + 2 * n) n ∷ bits_from s base (q + 3 * n) n ∷ []; bits = state_at s base (q + 4 * n) f }
unfolding values_at span
four_is s base q n f few some there far whole =
    let ns : List ℕ = n ∷ n ∷ n ∷ n ∷ [] in
    let e : n + (n + (n + (n + 0))) ≡ 4 * n = omega arith in
    let two : q + n + n ≡ q + 2 * n = omega arith in
    let three : q + 2 * n + n ≡ q + 3 * n = omega arith in
    let x = fields_at s base q f ns some (also few (also few (also few (also few none)))) (rw e there) (rw e far) (λ j l m. whole j l (rw e at m)) in
    rw (four_fields s n (state_at s base q f), x, e, two, three)

-- The four residuals of length number j complete what was read before to the whole.
group_at : (s : List ℕ) (ls : List ℤ) (b₀ : Bits) (base q f : ℕ) (vs : List ℕ) (j n : ℕ) (a : List ℕ) → j < 4 → n ≡ length_bits (get_or ls j (pos 0)) → 0 < q
    → base + (q + 4 * n + 31) / 32 * 4 ≤ length s → base + (q + 4 * n + 31) / 32 * 4 + 4 < 2 ^ 64 → Group s base q n a → Reading s ls b₀ (state_at s base q f) vs (4 * j)
    → Reading s ls b₀ (state_at s base (q + 4 * n) f)
    (set (set (set (set vs (4 * j) (get_or a 0 0)) (4 * j + 1) (get_or a 1 0)) (4 * j + 2) (get_or a 2 0)) (4 * j + 3) (get_or a 3 0)) (4 * (j + 1))
group_at s ls b₀ base q f vs j n a h en some there far x r =
    let few : n ≤ 32 = rw en (bits_few_enough (get_or ls j (pos 0))) in
    reading_four s ls b₀ (state_at s base q f) vs j n
    (record { value = bits_from s base q n ∷ bits_from s base (q + n) n ∷ bits_from s base (q + 2 * n) n ∷ bits_from s base (q + 3 * n) n ∷ []; bits = state_at s base (q + 4 * n) f })
    (get_or a 0 0) (get_or a 1 0) (get_or a 2 0) (get_or a 3 0) h en (sym (four_is s base q n f few some there far x.whole))
    (ap (λ (l : List ℕ). get_or l 0 0) x.are) (ap (λ (l : List ℕ). get_or l 1 0) x.are) (ap (λ (l : List ℕ). get_or l 2 0) x.are) (ap (λ (l : List ℕ). get_or l 3 0) x.are) r

-- ── The block ──

-- Each length is counted as a machine's number.
pub counted : (l : ℤ) (n : ℕ) → mag l < 2 ^ 31 → n ≡ length_bits (to_z w32 (of_z w32 l)) → n ≡ length_bits l
counted l n fits e = rw (to_z-of_z w32 l (record { sfits = fits })) at e

-- ── Short ones ──

short_bits : (l : ℤ) → le_z l (pos 15) ≡ true → length_bits l ≤ 16
unfolding length_bits
short_bits (pos n) e = let few : n ≤ 15 = leb-true n 15 e in omega arith
short_bits (negsuc n) e = omega arith

-- What the two tests of a length decide.
pub short_below : (l : ℤ) → le_z (pos 0) l ≡ false → false ≡ short_length l
unfolding short_length
short_below l e = rw e

pub short_from_0 : (l : ℤ) → le_z (pos 0) l ≡ true → le_z l (pos 15) ≡ short_length l
unfolding short_length
short_from_0 l e = rw e

and_true : (t : Bool) → t && true ≡ t
and_true true = refl
and_true false = refl

-- The test of all is that of each of the four in turn.
pub short_all : (ls : List ℤ) → length ls ≡ 4 → list_all short_length ls ≡ short ls
unfolding short
short_all [] e = absurd (omega (arith, e))
short_all (a ∷ []) e = absurd (omega (arith, e))
short_all (a ∷ b ∷ []) e = absurd (omega (arith, e))
short_all (a ∷ b ∷ c ∷ []) e = absurd (omega (arith, e))
short_all (a ∷ b ∷ c ∷ d ∷ []) e = rw (and_true (short_length d))
short_all (a ∷ b ∷ c ∷ d ∷ x ∷ ls) e = absurd (omega (arith, e))

-- What follows if all four are short.
pub short_is : (ls : List ℤ) → short ls ≡ true → Short ls
unfolding short short_length
short_is ls e =
    let a = both (short_length (get_or ls 0 (pos 0))) (short_length (get_or ls 1 (pos 0)) && (short_length (get_or ls 2 (pos 0)) && short_length (get_or ls 3 (pos 0)))) e in
    let b = both (short_length (get_or ls 1 (pos 0))) (short_length (get_or ls 2 (pos 0)) && short_length (get_or ls 3 (pos 0))) a.1 in
    let c = both (short_length (get_or ls 2 (pos 0))) (short_length (get_or ls 3 (pos 0))) b.1 in
    record { first = few _ a.0; second = few _ b.0; third = few _ c.0; fourth = few _ c.1 }
  where
    few : (l : ℤ) → le_z (pos 0) l && le_z l (pos 15) ≡ true → length_bits l ≤ 16
    few l t = short_bits l (both (le_z (pos 0) l) (le_z l (pos 15)) t).1

-- ── Room ──

-- What the readers of four ask, of n bits from bit q on: of short ones, and of any.
pub record FourIn (s : List ℕ) (base q n : ℕ) : Type 0 where
  pub short : n ≤ 16 → (n ≤ 16) × ((64 ≤ q) × ((q < 2 ^ 32) × (base + (q + 4 * n - 64) / 32 * 4 + 12 ≤ length s)))
  pub any : (n ≤ 32) × ((64 ≤ q) × ((q < 2 ^ 31) × (base + (q + 64) / 32 * 4 + 12 ≤ length s)))

-- No residual has more than 32.
pub few : {h : WindowHead} {p : Plan} → Plans h p → (p.n0 ≤ 32) × ((p.n1 ≤ 32) × ((p.n2 ≤ 32) × (p.n3 ≤ 32)))
few {h} x = (
  rw x.is₀ (bits_few_enough (get_or h.lengths 0 (pos 0))),
  (rw x.is₁ (bits_few_enough (get_or h.lengths 1 (pos 0))), (rw x.is₂ (bits_few_enough (get_or h.lengths 2 (pos 0))), rw x.is₃ (bits_few_enough (get_or h.lengths 3 (pos 0))))),
)

-- Short ones have at most 16.
pub short_plan : {h : WindowHead} {p : Plan} → Plans h p → Short h.lengths → (p.n0 ≤ 16) × ((p.n1 ≤ 16) × ((p.n2 ≤ 16) × (p.n3 ≤ 16)))
short_plan x y = (rw x.is₀ y.first, (rw x.is₁ y.second, (rw x.is₂ y.third, rw x.is₃ y.fourth)))

module _ {s : List ℕ} {base : ℕ} {h : WindowHead} {p : Plan} (ahead : Ahead s base h.q residuals_ahead) (x : Plans h p) where
  -- A group that begins no later than the fourth may.
  in_room : (q n : ℕ) → 64 < q → q ≤ h.q + 384 → n ≤ 32 → FourIn s base q n
  in_room q n late soon few =
      let there : base * 8 + h.q + residuals_ahead ≤ length s * 8 = ahead.there in
      let near : h.q + residuals_ahead < 2 ^ 31 = ahead.soon in
      record { short = λ l. (l, (omega arith, (omega arith, omega arith))); any = (few, (omega arith, (omega arith, omega arith))) }

  -- Each of the four.
  pub first_in : FourIn s base h.q p.n0
  first_in = in_room _ _ ahead.late (omega arith) (few x).0

  pub second_in : FourIn s base p.q1 p.n1
  second_in = in_room _ _ (omega (arith, ahead.late, x.second)) (omega (arith, few x, x.second)) (few x).1.0

  pub third_in : FourIn s base p.q2 p.n2
  third_in = in_room _ _ (omega (arith, ahead.late, x.third)) (omega (arith, few x, x.third)) (few x).1.1.0

  pub fourth_in : FourIn s base p.q3 p.n3
  fourth_in = in_room _ _ (omega (arith, ahead.late, x.fourth)) (omega (arith, few x, x.fourth)) (few x).1.1.1

-- A block read by position: its four groups too.
pub record ByPosition (s : List ℕ) (base : ℕ) (h : WindowHead) (p : Plan) (a b c d : List ℕ) : Type 0 where
  pub ahead : Ahead s base h.q residuals_ahead
  pub plans : Plans h p
  pub first : Group s base h.q p.n0 a
  pub second : Group s base p.q1 p.n1 b
  pub third : Group s base p.q2 p.n2 c
  pub fourth : Group s base p.q3 p.n3 d

-- A group is one, whichever of the two readers of four made it.
pub either_way : {s : List ℕ} {base q n : ℕ} {a : List ℕ} {A B : Type 0} {C : A → Type 0} {D : B → Type 0} {u : (x : A) → C x → List ℕ} {v : (x : B) → D x → List ℕ}
    → ((x : A) × (y : C x) × (a ≡ u x y)) ⊎ ((x : B) × (y : D x) × (a ≡ v x y))
    → ((x : A) (y : C x) → Group s base q n (u x y)) → ((x : B) (y : D x) → Group s base q n (v x y)) → Group s base q n a
either_way w f g = ⊎_elim (λ x. subst (Group _ _ _ _) (sym x.2) (f x.0 x.1)) (λ x. subst (Group _ _ _ _) (sym x.2) (g x.0 x.1)) w

-- So it is the block that the record reads after the head.
module _ {s : List ℕ} {base : ℕ} {h : WindowHead} {p : Plan} {a b c d : List ℕ} (x : ByPosition s base h p a b c d) where
  block_made : (f : ℕ) → record { up = h.up; row = record { lengths = h.lengths; bits = state_at s base p.end f }; residuals = joined a b c d }
      ≡ with_residuals s (head_of s base f h)
  block_made f =
      let ls = h.lengths in
      let q : ℕ = h.q in
      let n₀ : ℕ = p.n0 in let n₁ : ℕ = p.n1 in let n₂ : ℕ = p.n2 in let n₃ : ℕ = p.n3 in
      let y = x.plans in
      let n = few y in
      let late : 64 < q = x.ahead.late in
      let there : base * 8 + q + residuals_ahead ≤ length s * 8 = x.ahead.there in
      let far : base * 8 + q + residuals_ahead < 2 ^ 67 = x.ahead.far in
      let g₁ = rw y.second at x.second in
      let g₂ = rw y.third at x.third in
      let g₃ = rw y.fourth at x.fourth in
      let r₀ = reading_begun s ls (state_at s base q f) (replicate 16 0) refl in
      let r₁ = group_at s ls (state_at s base q f) base q f _ 0 n₀ a (omega arith) y.is₀ (omega arith) (omega arith) (omega arith) x.first r₀ in
      let r₂ = group_at s ls (state_at s base q f) base (q + 4 * n₀) f _ 1 n₁ b (omega arith) y.is₁ (omega arith) (omega arith) (omega arith) g₁ r₁ in
      let r₃ = group_at s ls (state_at s base q f) base (q + 4 * n₀ + 4 * n₁) f _ 2 n₂ c (omega arith) y.is₂ (omega arith) (omega arith) (omega arith) g₂ r₂ in
      let r₄ = group_at s ls (state_at s base q f) base (q + 4 * n₀ + 4 * n₁ + 4 * n₂) f _ 3 n₃ d (omega arith) y.is₃ (omega arith) (omega arith) (omega arith) g₃ r₃ in
      rw y.ends (read_all s ls (state_at s base q f) _ _ 16 (head_of s base f h) (omega arith) refl refl r₄)

  -- Its residuals, and where it ends.
  pub groups_are : joined a b c d ≡ residuals_of s base h
  groups_are = ap (λ r. r.residuals) (block_made 0)

  pub groups_end : Ends s base h p.end
  groups_end =
      let n = few x.plans in let e = x.plans.ends in
      record { some = omega arith; soon = omega arith; reads = λ f. sym (block_made f) ∙ rw groups_are }

-- ── From a head's start ──

-- A record that stands in the stream stands where a block may begin.
pub standing_ahead : {s : List ℕ} {b : Bits} → Standing s b 80 → Ahead s (b.pos - 12) (96 - b.count) block_ahead
standing_ahead x = record { late = omega arith; soon = omega arith; there = omega arith; far = omega arith }

-- There is room for a block that begins no later than it may.
pub room_for : {s : List ℕ} {base q last : ℕ} → 64 < q → base ≤ length s → length s < 2 ^ 64 → last ≡ last_start (length s - base) → q ≤ last → Ahead s base q block_ahead
room_for late starts fits is soon = record { late = late; soon = omega arith; there = omega arith; far = omega arith }

-- Its head begins in a window that is there, and its residuals after the head.
pub ahead_room : {s : List ℕ} {base q : ℕ} → Ahead s base q block_ahead → Room s base q
ahead_room x = record { some = omega arith; soon = omega arith; there = omega arith; far = omega arith }

pub after_head : {s : List ℕ} {base q : ℕ} {ls : List ℤ} {h : WindowHead} → Ahead s base q block_ahead → HeadAt s base q ls h → Ahead s base h.q residuals_ahead
after_head x y = record { late = omega arith; soon = omega arith; there = omega arith; far = omega arith }

-- The record can be made again after the block: the word that it has fetched by then lies within 31 bits.
pub ahead_end : {s : List ℕ} {base : ℕ} {h : WindowHead} {q : ℕ} → Ahead s base h.q residuals_ahead → Ends s base h q → Ahead s base q 31
ahead_end x y = record { late = omega arith; soon = omega arith; there = omega arith; far = omega arith }

pub end_room : {s : List ℕ} {base q : ℕ} → Ahead s base q 31 → (0 < q) × ((q < 2 ^ 32) × (base + (q + 31) / 32 * 4 ≤ length s))
end_room x = (omega arith, (omega arith, omega arith))

-- The head and the residuals are the block that the record reads whole.
pub block_read : {s : List ℕ} {base q p f : ℕ} {st : V0Row} {h : WindowHead} → st.bits ≡ state_at s base q f → HeadAt s base q st.lengths h → Ends s base h p
    → record { up = h.up; row = record { lengths = h.lengths; bits = state_at s base p f }; residuals = residuals_of s base h } ≡ whole_block s st
unfolding whole_block
block_read {s} {base} {q} {p} {f} {st} {h} e x y =
    sym (y.reads f) ∙ ap (with_residuals s) (sym (x.reads f) ∙ ap (λ (z : Bits). head s (record { lengths = st.lengths; bits = z })) (sym e))
