-- A trail: what is read of a stream s, with the words that were fetched for it; and where all of them lie wholly below p, the same is
-- read of every stream u that agrees with s in its first p bytes. Whatever is made of fields has one; and what the reader's position
-- says of the words.
use Prim.Native.Nat.{ℕ, ◌+◌, ◌*◌, ◌^◌, ◌≤◌, ◌<◌, min}
use mathlib.Core.Bool.{false, ◌&&◌}
use mathlib.Core.Path.{◌≡◌, refl, sym, ap, ◌∙◌}
use mathlib.Core.List.{List, [], ◌∷◌, ◌++◌}
use mathlib.Core.Logic.{◌⊎◌, inl, inr}
use native.Mathlib.Omega.{arith}
use lib.Dec.{leb, ltb}
use lib.ListN.{length, length-append}
use borrow.Author.Tests.{leb-true, leb-false, ltb-false, le-ltb}
use Rattle.rules.specs.declared.reader.Bits.{Bits}
use Rattle.rules.specs.Reader.{held, read}
use Rattle.rules.specs.Missing.{fetches}
use Rattle.rules.proofs.Cells.{All, nil, more, all_append, all_map, all_head, all_parts}
use Rattle.rules.proofs.ReaderLaws.{read_held, read_next, read_agree}
use Rattle.rules.proofs.Tests.{by-test, and_false}
use Rattle.rules.proofs.Traced.{Field, Leads, arrived, next, ReadAlike, Traced}
use Rattle.entry_late.specs.Late.{AgreeIn, fetched_past, Reads, stay, reads}

-- ── Trails ──

-- All words lie wholly below p.
abbrev pub Below : ℕ → List ℕ → Type 0
Below p ws = All (λ q. q + 4 ≤ p) ws

-- x is read of s from b on, with at most n words; y is what is read of another stream.
pub record Trail (p : ℕ) (s : List ℕ) (n : ℕ) {X : Type 0} (state : X → Bits) (b : Bits) (x y : X) : Type 0 where
  pub words : List ℕ
  pub run : Reads s b words (state x)
  pub few : length words ≤ n
  pub same : Below p words → x ≡ y

-- The words that fields fetch.
fetched : List Field → List ℕ
fetched [] = []
fetched (f ∷ fs) = fetches f.start f.width ++ fetched fs

fetched_run : {s : List ℕ} {b c : Bits} {fs : List Field} → Leads s b fs c → Reads s b (fetched fs) c
unfolding fetched
fetched_run arrived = stay
fetched_run (next n r) = reads n (fetched_run r)

fetches_few : (b : Bits) (n : ℕ) → length (fetches b n) ≤ 1
unfolding fetches
fetches_few b n = by-test (leb (min n 32) (held b)) (λ e. rw e (omega arith)) (λ e. rw e (omega arith))

fetched_few : (fs : List Field) → length (fetched fs) ≤ length fs
unfolding fetched
fetched_few [] = omega arith
fetched_few (f ∷ fs) = rw length-append (omega (arith, fetches_few f.start f.width, fetched_few fs))

module _ (p : ℕ) (s u : List ℕ) (agree : AgreeIn p s u) where
  read_same : (b : Bits) (n : ℕ) → Below p (fetches b n) → read s b n ≡ read u b n
  unfolding fetches
  read_same b n h =
      by-test (leb (min n 32) (held b))
      (λ e. let l = leb-true _ _ e in read_held s b n l ∙ sym (read_held u b n l))
      (λ e. read_agree s u b n p agree.same agree.long agree.long' (all_head (rw e at h)))

  fetched_same : (fs : List Field) → Below p (fetched fs) → ReadAlike s u fs
  unfolding fetched
  fetched_same [] h = nil
  fetched_same (f ∷ fs) h =
      let q = all_parts (fetches f.start f.width) h in more (read_same f.start f.width q.0) (fetched_same fs q.1)

  -- Whatever is made of fields has a trail.
  pub trail : {X : Type 0} {state : X → Bits} {n : ℕ} {b : Bits} {f : List ℕ → X} → Traced s n state b f → Trail p s n state b (f s) (f u)
  trail t =
      record {
        words = fetched t.parts;
        run = fetched_run t.leads;
        few = omega (arith, fetched_few t.parts, t.few);
        same = λ h. t.same u (fetched_same t.parts h);
      }

-- ── Positions ──

-- Each word moves the position on by 4, unless it wraps.
read_moves : (s : List ℕ) (b : Bits) (n : ℕ) → b.pos + 4 * length (fetches b n) < 2 ^ 64 → (read s b n).bits.pos ≡ b.pos + 4 * length (fetches b n)
unfolding fetches
read_moves s b n =
    by-test (leb (min n 32) (held b))
    (λ e. rw e (λ l. rw (read_held s b n (leb-true _ _ e)) (omega arith)))
    (λ e. rw e (λ l. rw (read_next s b n (leb-false _ _ e)) (omega arith)))

-- It is fetched at the position.
fetches_end : (b : Bits) (n e : ℕ) → b.pos + 4 * length (fetches b n) ≤ e → Below e (fetches b n)
unfolding fetches
fetches_end b n e = by-test (leb (min n 32) (held b)) (λ f. rw f (λ l. nil)) (λ f. rw f (λ l. let q : b.pos + 4 ≤ e = omega arith in more q nil))

fetches_below : (b : Bits) (n p : ℕ) → Below p (fetches b n) → (length (fetches b n) ≡ 0) ⊎ (b.pos + 4 * length (fetches b n) ≤ p)
unfolding fetches
fetches_below b n p h =
    by-test (leb (min n 32) (held b)) (λ e. rw e (inl refl)) (λ e. let l : b.pos + 4 ≤ p = all_head (rw e at h) in rw e (inr (omega arith)))

-- So the words of a run end where its reader stands, the last of them just there.
pub run_moves : (s : List ℕ) {b c : Bits} {ps : List ℕ} → Reads s b ps c → b.pos + 4 * length ps < 2 ^ 64
    → (c.pos ≡ b.pos + 4 * length ps) × Below c.pos ps
run_moves s {b = b} stay l = (omega arith, nil)
run_moves s {b = b} {c = c} (reads {ps = ps} n r) l =
    let long = length-append (fetches b n) ps in
    let moved = read_moves s b n (omega (arith, long)) in
    let rest = run_moves s r (omega (arith, long, moved)) in
    (omega (arith, long, moved, rest.0), all_append _ (fetches_end b n c.pos (omega (arith, moved, rest.0))) rest.1)

-- A run whose words lie wholly below p stands where it stood, or not past p.
pub below_ends : (s : List ℕ) (p : ℕ) {b c : Bits} {ps : List ℕ} → Reads s b ps c → b.pos + 4 * length ps < 2 ^ 64 → Below p ps
    → (c.pos ≡ b.pos) ⊎ (c.pos ≤ p)
below_ends s p stay l a = inl refl
below_ends s p {b = b} {c = c} (reads {ps = ps} n r) l a =
    let long = length-append (fetches b n) ps in
    let moved = read_moves s b n (omega (arith, long)) in
    let parts = all_parts (fetches b n) a in
    at moved (fetches_below b n p parts.0) (below_ends s p r (omega (arith, long, moved)) parts.1)
  where
    at : (read s b n).bits.pos ≡ b.pos + 4 * length (fetches b n) → (length (fetches b n) ≡ 0) ⊎ (b.pos + 4 * length (fetches b n) ≤ p)
        → (c.pos ≡ (read s b n).bits.pos) ⊎ (c.pos ≤ p) → (c.pos ≡ b.pos) ⊎ (c.pos ≤ p)
    at e h (inr q) = inr q
    at e (inl z) (inl q) = inl (omega arith)
    at e (inr z) (inl q) = inr (omega arith)

-- ── The definition's test ──

-- What the words fetched say of `fetched_past`, and it of them.
pub record Tells (p : ℕ) (b c : Bits) (ps : List ℕ) : Type 0 where
  pub below : fetched_past p b c ≡ false → Below p ps
  pub not_past : Below p ps → fetched_past p b c ≡ false

none_long : {P : ℕ → Type 0} (ps : List ℕ) → length ps ≡ 0 → All P ps
none_long [] e = nil
none_long (q ∷ ps) e = absurd (omega arith)

pub tells : (s : List ℕ) (p : ℕ) {b c : Bits} {ps : List ℕ} → Reads s b ps c → b.pos + 4 * length ps < 2 ^ 64 → Tells p b c ps
unfolding fetched_past
tells s p {b = b} {c = c} {ps = ps} r l =
    record {
      below = λ f. by-test (ltb b.pos c.pos)
          (λ e. let q : c.pos ≤ p = ltb-false p c.pos (rw e at f) in all_map _ _ (λ w h. omega arith) moved.1)
          (λ e. let q : c.pos ≤ b.pos = ltb-false b.pos c.pos e in none_long ps (omega (arith, moved.0)));
      not_past = λ a. up (below_ends s p r l a);
    }
  where
    moved : (c.pos ≡ b.pos + 4 * length ps) × Below c.pos ps
    moved = run_moves s r l

    up : (c.pos ≡ b.pos) ⊎ (c.pos ≤ p) → ltb b.pos c.pos && ltb p c.pos ≡ false
    up (inl q) = ap (λ t. t && ltb p c.pos) (le-ltb b.pos c.pos (omega arith))
    up (inr q) = ap (λ t. ltb b.pos c.pos && t) (le-ltb p c.pos q) ∙ and_false (ltb b.pos c.pos)
