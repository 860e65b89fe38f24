-- What a call of the V0 writer leaves when it is done: buffers that are decoded to the samples that it was lent.
use Prim.Native.Nat.{ℕ, ◌+◌, ◌-◌, ◌^◌, ◌<◌, ◌≤◌}
use mathlib.Core.Bool.{Bool, true, false, ◌||◌, cond}
use mathlib.Core.Path.{◌≡◌, refl, ap, ◌∙◌}
use mathlib.Core.List.{List, [], ◌∷◌, ◌++◌}
use native.Mathlib.Omega.{arith}
use lib.ListN.{length, take, drop, length-append, length-take, length-drop}
use lib.Seq.{take-append-add}
use lib.Dec.{ltb, lit<}
use borrow.Author.Tests.{ltb-false, le-ltb}
use Rattle.rules.specs.Limits.{most_side, sample_bound}
use Rattle.rules.specs.Frame.{cells}
use Rattle.rules.specs.V0.{sample_kind, exchange}
use Rattle.rules.specs.Answer.{too_large}
use Rattle.rules.proofs.Cells.{All, nil, more, all_map, all_append, all_take, all_drop, all_get}
use Rattle.rules.proofs.Tests.{neither}
use Rattle.frame_map.specs.Greatest.{greatest}
use Rattle.frame_map.proofs.GreatestLaws.{above_either}
use Rattle.write_rules.specs.Writer.{residuals, offsets_for}
use Rattle.write_rules.specs.Calls.{Call, frame_of, stream_of, offsets_of, any_above, too_bright, short_output, write_refusal, unless_refused, stream_after, offsets_after}
use Rattle.write_rules.proofs.Ahead.{Stream}
use Rattle.write_rules.proofs.Rows.{offsets_length}
use Rattle.write_rules.proofs.V0RoundTrip.{Holds, written_holds, stream_below}

-- ── Tests that were passed ──

pub none_above : (most : ℕ) (f : List ℕ) → any_above most f ≡ false → All (λ a. a ≤ most) f
unfolding any_above
none_above most [] e = nil
none_above most (a ∷ f) e = let q = neither _ _ e in more (ltb-false most a q.0) (none_above most f q.1)

pub not_bright : (f : List ℕ) → too_bright f ≡ false → All (λ a. a < sample_bound) f
not_bright f e = all_map (λ a. a ≤ 16_383) (λ a. a < sample_bound) (λ a l. omega arith) (none_above 16_383 f e)

-- A number is above a bound if the greatest is.
pub above_is : (most : ℕ) (f : List ℕ) → ltb most (greatest f) ≡ any_above most f
unfolding any_above greatest
above_is most [] = le-ltb most 0 (omega arith)
above_is most (a ∷ f) = above_either most a (greatest f) ∙ ap (λ t. ltb most a || t) (above_is most f)

-- What a call that is done has passed.
pub record Passed (c : Call) : Type 0 where
  pub wide : c.size.width ≤ most_side
  pub high : c.size.height ≤ most_side
  pub enough : length (frame_of c) ≡ cells c.size
  pub dim : All (λ a. a < sample_bound) (frame_of c)
  pub room : length (stream_of c) ≤ length c.stream
  pub table : c.size.height ≤ length c.offsets

pub passed : (c : Call) → write_refusal c ≡ 0 → Passed c
unfolding write_refusal too_large short_output
passed c e =
    let p = tests (too_large c.size) (ltb (length c.samples) (cells c.size)) (too_bright (frame_of c)) (short_output c) e in
    let size = neither (ltb most_side c.size.width) (ltb most_side c.size.height) p.0 in
    let output = neither (ltb (length c.stream) (length (stream_of c))) (ltb (length c.offsets) c.size.height) p.3 in
    record {
      wide = ltb-false _ _ size.0;
      high = ltb-false _ _ size.1;
      enough = taken (cells c.size) c.samples (ltb-false _ _ p.1);
      dim = not_bright (frame_of c) p.2;
      room = ltb-false _ _ output.0;
      table = ltb-false _ _ output.1;
    }
  where
    tests : (t1 t3 t9 t10 : Bool) → cond {A = ℕ} t1 1 (cond t3 3 (cond t9 9 (cond t10 10 0))) ≡ 0 → (t1 ≡ false) × (t3 ≡ false) × (t9 ≡ false) × (t10 ≡ false)
    tests true t3 t9 t10 e = absurd (let q : 1 ≡ 0 = e in omega arith)
    tests false true t9 t10 e = absurd (let q : 3 ≡ 0 = e in omega arith)
    tests false false true t10 e = absurd (let q : 9 ≡ 0 = e in omega arith)
    tests false false false true e = absurd (let q : 10 ≡ 0 = e in omega arith)
    tests false false false false e = (refl, refl, refl, refl)

    taken : (n : ℕ) (f : List ℕ) → n ≤ length f → length (take n f) ≡ n
    taken n f l = length-take n f ∙ omega arith

-- ── The round trip ──

-- The first n of a list with others after it, where n reaches past the list.
pub take_past : (xs ys : List ℕ) (n : ℕ) → length xs ≤ n → take n (xs ++ ys) ≡ xs ++ take (n - length xs) ys
take_past xs ys n l =
    let e : n ≡ length xs + (n - length xs) = omega arith in ap (λ k. take k (xs ++ ys)) e ∙ take-append-add xs ys (n - length xs)

-- Bytes over a buffer of bytes are a stream, of which so many bytes are kept past them.
pub over_stream : (xs buffer : List ℕ) (n : ℕ) → All (λ b. b < 256) xs → All (λ b. b < 256) buffer → length xs ≤ length buffer → length buffer < 2 ^ 64
    → Stream (xs ++ take n (drop (length xs) buffer))
over_stream xs buffer n p q l h =
    let past = drop (length xs) buffer in
    record {
      bytes = λ i. all_get (λ b. b < 256) (all_append (λ b. b < 256) p (all_take (λ b. b < 256) n (all_drop (λ b. b < 256) (length xs) q))) i 0 (lit< tt);
      fewer = omega (arith, length-append xs (take n past), length-take n past, length-drop (length xs) buffer);
    }

-- A table has an offset for each row.
pub table_length : (c : Call) → length (offsets_of c) ≡ c.size.height
unfolding offsets_for
table_length c = offsets_length (residuals c.size.width (exchange sample_kind c.size (frame_of c))) c.size.height 0 0

-- The buffers after a call that is done hold the samples that were lent: whole, or cut anywhere past what was written.
pub write_holds : (c : Call) → All (λ b. b < 256) c.stream → length c.stream < 2 ^ 64 → write_refusal c ≡ 0
    → (n k : ℕ) → length (stream_of c) ≤ n → c.size.height ≤ k
    → Holds (take n (stream_after c)) (take k (offsets_after c)) c.size (frame_of c)
unfolding stream_after offsets_after unless_refused
write_holds c below fewer e n k long rows =
    let p = passed c e in
    let past = drop (length (stream_of c)) c.stream in
    let others = drop (length (offsets_of c)) c.offsets in
    let table : length (offsets_of c) ≤ k = omega (arith, table_length c) in
    rw e
    (rw (take_past (stream_of c) past n long, take_past (offsets_of c) others k table)
    (written_holds c.size (frame_of c) p.enough p.dim (take (n - length (stream_of c)) past) (take (k - length (offsets_of c)) others)
    (over_stream (stream_of c) c.stream (n - length (stream_of c)) (stream_below c.size (frame_of c)) below p.room fewer)))
