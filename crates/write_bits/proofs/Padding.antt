-- Zero bits up to a whole word, and then words of zeros up to a whole unit.
use Prim.Native.Nat.{ℕ, zero, suc, ◌+◌, ◌-◌, ◌*◌, ◌/◌, ◌%◌, ◌^◌, ◌<◌, ◌≤◌}
use mathlib.Core.Bool.{false}
use mathlib.Core.Path.{◌≡◌, refl, sym, ap, ◌∙◌, subst}
use mathlib.Core.Logic.{◌≢◌}
use mathlib.Core.List.{List}
use native.Mathlib.Omega.{arith}
use native.Mathlib.Nat.{div-eq_of_lt, mod-lt}
use lib.ListN.{replicate, length-replicate, replicate-append-replicate}
use lib.Dec.{lit<}
use lib.Pow.{pow_pos}
use Rattle.write_rules.specs.declared.Pending.{Pending}
use Rattle.write_rules.specs.Writer.{bits_of, gap, Unit, word, line}
use Rattle.write_rules.specs.Pending.{put_state, put_out}
use Rattle.write_rules.proofs.PendingLaws.{Wrote, wrote, wrote_none, wrote_both}

zero_bits : (n : ℕ) → bits_of n 0 ≡ replicate n false
unfolding bits_of
zero_bits zero = refl
zero_bits (suc n) = rw (div-eq_of_lt (pow_pos n), zero_bits n)

-- A step that writes zeros.
pub zeros_wrote : {f f' : List ℕ} {p q : Pending} (n : ℕ) → (q ≡ put_state p (bits_of n 0)) × (f' ≡ put_out f p (bits_of n 0)) → Wrote f p (replicate n false) f' q
zeros_wrote {f} {f'} {p} {q} n e = rw (zero_bits n) at (wrote e)

-- ── Ends ──

-- The bits before a state, and where a unit ends after them.
abbrev pub bits_before : Pending → ℕ
bits_before p = 8 * p.pos + p.count

abbrev pub end_of : ℕ → Pending → ℕ
end_of unit p = bits_before p + gap (8 * unit) (bits_before p)

-- Where n bits are padded to.
to_words : (n : ℕ) → n + gap 32 n ≡ 32 * ((n + 31) / 32)
to_words n = omega arith

to_lines : (n : ℕ) → n + gap 128 n ≡ 128 * ((n + 127) / 128)
to_lines n = omega arith

-- Whole words before them do not matter to a word's end.
past_words : (j n : ℕ) → gap 32 (32 * j + n) ≡ gap 32 n
past_words j n = let m : (32 * j + n) % 32 ≡ n % 32 = omega arith in rw m

-- A unit ends no earlier than a word.
words_first : {unit : ℕ} (n : ℕ) → Unit unit → n + gap 32 n ≤ n + gap (8 * unit) n
words_first n word = omega arith
words_first n line = rw (to_words n, to_lines n) (go n)
  where
    go : (n : ℕ) → 32 * ((n + 31) / 32) ≤ 128 * ((n + 127) / 128)
    go n = omega arith

-- A unit's end is the same from a word's end.
ends : {unit : ℕ} (n : ℕ) → Unit unit → n + gap 32 n + gap (8 * unit) (n + gap 32 n) ≡ n + gap (8 * unit) n
ends n word = rw (to_words n) (go ((n + 31) / 32))
  where
    go : (i : ℕ) → 32 * i + gap 32 (32 * i) ≡ 32 * i
    go i = let m : 32 * i % 32 ≡ 0 = omega arith in rw m (omega arith)
ends n line = rw (to_words n) (to_lines (32 * ((n + 31) / 32)) ∙ ap (λ m. 128 * m) (go n) ∙ sym (to_lines n))
  where
    go : (n : ℕ) → (32 * ((n + 31) / 32) + 127) / 128 ≡ (n + 127) / 128
    go n = omega arith

-- ── To a word ──

pub word_none : (f : List ℕ) (p : Pending) → p.count ≡ 0 → p.word < 2 ^ 32 → Wrote f p (replicate (gap 32 p.count) false) f p
word_none f p e l = let g : gap 32 p.count ≡ 0 = omega arith in rw g (wrote_none f p (omega arith) l)

pub word_law : (f f' : List ℕ) (p q : Pending) (n : ℕ) → p.count < 32 → 0 < p.count → n ≡ 32 - p.count → (q ≡ put_state p (bits_of n 0)) × (f' ≡ put_out f p (bits_of n 0))
    → Wrote f p (replicate (gap 32 p.count) false) f' q
word_law f f' p q n small some e s =
    let g : n ≡ gap 32 p.count = omega arith in
    subst (λ m. Wrote f p (replicate m false) f' q) g (zeros_wrote n s)

-- Then nothing waits.
pub word_done : {f f' : List ℕ} {p q : Pending} → p.count < 32 → Wrote f p (replicate (gap 32 p.count) false) f' q → q.count ≡ 0
word_done {f} {f'} {p} {q} small w = omega (arith, w.grown, w.whole, w.count_small, length-replicate (gap 32 p.count) false)

-- ── To a unit ──

-- Zeros have been written up to a whole word, not past the unit's end.
pub record Padding (unit : ℕ) (p : Pending) (f f' : List ℕ) (q : Pending) : Type 0 where
  pub none_waits : q.count ≡ 0
  pub fourth : q.pos % 4 ≡ 0
  pub least : bits_before p ≤ 8 * q.pos
  pub most : 8 * q.pos ≤ end_of unit p
  pub wrote : Wrote f p (replicate (8 * q.pos - bits_before p) false) f' q

pub padding_begun : (unit : ℕ) (f : List ℕ) (q : Pending) → q.count ≡ 0 → q.word < 2 ^ 32 → q.pos % 4 ≡ 0 → Padding unit q f f q
padding_begun unit f q e low fourth =
    let n : 8 * q.pos - bits_before q ≡ 0 = omega arith in
    record { none_waits = e; fourth = fourth; least = omega arith; most = omega arith; wrote = rw n (wrote_none f q (omega arith) low) }

-- Where a unit isn't whole, there is a word to its end.
word_left : {unit : ℕ} (pos n : ℕ) → Unit unit → pos % 4 ≡ 0 → pos % unit ≢ 0 → 8 * pos ≤ n + gap (8 * unit) n → 8 * pos + 32 ≤ n + gap (8 * unit) n
word_left pos n word a b l = absurd (b a)
word_left pos n line a b l = rw (to_lines n) (go pos ((n + 127) / 128) a b (rw (to_lines n) at l))
  where
    less : (j m : ℕ) → j % 4 ≢ 0 → j ≤ 4 * m → 32 * j + 32 ≤ 128 * m
    less j m k l = omega arith

    go : (pos m : ℕ) → pos % 4 ≡ 0 → pos % 16 ≢ 0 → 8 * pos ≤ 128 * m → 8 * pos + 32 ≤ 128 * m
    go pos m a b l =
        let j = pos / 4 in
        let e : pos ≡ 4 * j = omega arith in
        let k : j % 4 ≢ 0 = (λ z. b (omega arith)) in
        omega (arith, e, less j m k (omega arith))

-- Where one is, it has ended.
unit_gone : {unit : ℕ} (pos n : ℕ) → Unit unit → pos % unit ≡ 0 → 8 * pos ≤ n + gap (8 * unit) n → n ≤ 8 * pos → 8 * pos - n ≡ gap (8 * unit) n
unit_gone pos n word a l m = go pos n (gap 32 n) ((n + 31) / 32) a (to_words n) (mod-lt _ (lit< tt)) l m
  where
    go : (pos n g e : ℕ) → pos % 4 ≡ 0 → n + g ≡ 32 * e → g < 32 → 8 * pos ≤ n + g → n ≤ 8 * pos → 8 * pos - n ≡ g
    go pos n g e a q b l m = let j = pos / 4 in let p : pos ≡ 4 * j = omega arith in let s : j ≡ e = omega (p, q, b, l, m, arith) in omega arith
unit_gone pos n line a l m = go pos n (gap 128 n) ((n + 127) / 128) a (to_lines n) (mod-lt _ (lit< tt)) l m
  where
    go : (pos n g e : ℕ) → pos % 16 ≡ 0 → n + g ≡ 128 * e → g < 128 → 8 * pos ≤ n + g → n ≤ 8 * pos → 8 * pos - n ≡ g
    go pos n g e a q b l m = let j = pos / 16 in let p : pos ≡ 16 * j = omega arith in let s : j ≡ e = omega (p, q, b, l, m, arith) in omega arith

-- A word more.
word_more : (pos pos' count : ℕ) → 8 * pos' + count ≡ 8 * pos + 32 → pos' % 4 ≡ pos % 4 → count < 32 → (count ≡ 0) × (pos' ≡ pos + 4)
word_more pos pos' count e m l =
    let a : pos ≡ 4 * (pos / 4) + pos % 4 = omega arith in
    let b : pos' ≡ 4 * (pos' / 4) + pos % 4 = omega (arith, m) in
    let n : count ≡ 0 = go (pos / 4) (pos' / 4) count (omega (arith, e, a, b)) l in
    (n, omega (arith, n))
  where
    go : (a b count : ℕ) → 32 * b + count ≡ 32 * a + 32 → count < 32 → count ≡ 0
    go a b count e l = omega arith

module _ {unit : ℕ} (u : Unit unit) (p : Pending) (f f' : List ℕ) (q : Pending) (r : Padding unit p f f' q) where
  pub word_fits : q.pos % unit ≢ 0 → 8 * q.pos + 32 ≤ end_of unit p
  word_fits n = word_left q.pos (bits_before p) u r.fourth n r.most

  pub padding_on : (f'' : List ℕ) (q' : Pending) → q.pos % unit ≢ 0 → Wrote f' q (replicate 32 false) f'' q' → Padding unit p f f'' q'
  padding_on f'' q' n w =
      let long = length-replicate 32 false in
      let l = word_fits n in
      let m = word_more q.pos q'.pos q'.count (omega (arith, w.grown, r.none_waits, long)) w.whole w.count_small in
      let k : 8 * q.pos - bits_before p + 32 ≡ 8 * q'.pos - bits_before p = omega (arith, m.1, r.least) in
      record {
        none_waits = m.0;
        fourth = w.whole ∙ r.fourth;
        least = omega (arith, m.1, r.least);
        most = omega (arith, m.1, l);
        wrote = subst (λ m. Wrote f p m f'' q') (replicate-append-replicate (8 * q.pos - bits_before p) 32 false ∙ ap (λ m. replicate m false) k) (wrote_both r.wrote w);
      }

  pub pos_more : (f'' : List ℕ) (q' : Pending) → Wrote f' q (replicate 32 false) f'' q' → q'.pos ≡ q.pos + 4
  pos_more f'' q' w =
      (word_more q.pos q'.pos q'.count (omega (arith, w.grown, r.none_waits, length-replicate 32 false)) w.whole w.count_small).1

  pub padding_gone : q.pos % unit ≡ 0 → Wrote f p (replicate (gap (8 * unit) (bits_before p)) false) f' q
  padding_gone e = subst (λ m. Wrote f p (replicate m false) f' q) (unit_gone q.pos (bits_before p) u e r.most r.least) r.wrote

-- ── Both ──

module _ {unit : ℕ} (u : Unit unit) (p : Pending) (f f' : List ℕ) (q : Pending) (small : p.count < 32) (fourth : p.pos % 4 ≡ 0)
    (r : Wrote f p (replicate (gap 32 p.count) false) f' q) where
  words_before : gap 32 (bits_before p) ≡ gap 32 p.count
  words_before = let e : 8 * p.pos ≡ 32 * (p.pos / 4) = omega arith in rw e (past_words (p.pos / 4) p.count)

  here : bits_before q ≡ bits_before p + gap 32 (bits_before p)
  here = rw words_before (omega (arith, r.grown, length-replicate (gap 32 p.count) false))

  pub end_same : end_of unit q ≡ end_of unit p
  end_same = rw here (ends (bits_before p) u)

  ends_are : gap 32 p.count + gap (8 * unit) (bits_before q) ≡ gap (8 * unit) (bits_before p)
  ends_are = omega (arith, end_same, here, words_before)

  pub finish_law : (f'' : List ℕ) (q' : Pending) → Wrote f' q (replicate (gap (8 * unit) (bits_before q)) false) f'' q'
      → Wrote f p (replicate (gap (8 * unit) (bits_before p)) false) f'' q'
  finish_law f'' q' w =
      subst (λ m. Wrote f p m f'' q') (replicate-append-replicate (gap 32 p.count) (gap (8 * unit) (bits_before q)) false ∙ ap (λ m. replicate m false) ends_are) (wrote_both r w)

-- A whole word fits where a unit's end does.
pub word_room : {unit : ℕ} (p : Pending) (n : ℕ) → Unit unit → p.pos % 4 ≡ 0 → end_of unit p ≤ 8 * n → bits_before p + gap 32 p.count ≤ 8 * n
word_room p n u a l =
    let e : 8 * p.pos ≡ 32 * (p.pos / 4) = omega arith in
    let g : gap 32 (bits_before p) ≡ gap 32 p.count = rw e (past_words (p.pos / 4) p.count) in
    omega (arith, g, words_first (bits_before p) u)

-- A unit isn't 0.
pub some_unit : {unit : ℕ} → Unit unit → 0 < unit
some_unit word = lit< tt
some_unit line = lit< tt
