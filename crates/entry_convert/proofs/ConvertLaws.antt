-- What the converter owes: each refusal is the definition's, and else it is the decoder's call and what is written of its frame.
use Prim.Native.Nat.{ℕ, ◌%◌, ◌<◌, ◌≤◌}
use mathlib.Core.Bool.{Bool, true, false, ◌||◌, cond}
use mathlib.Core.Path.{◌≡◌, refl, sym, ap, ◌∙◌}
use mathlib.Core.List.{List, [], ◌++◌}
use mathlib.Core.Option.{none, some, get_or}
use native.Mathlib.Omega.{arith}
use native.Mathlib.Nat.{zero-add}
use lib.Dec.{ltb, eqb, lit<}
use lib.ListN.{length, take, drop}
use lib.Seq.{sets, sets-eq, length-take-le, length_front}
use borrow.Author.Tests.{lt-ltb, le-ltb, eqb-true, eqb-false, ne_eqb}
use Rattle.rules.specs.Limits.{sample_bound}
use Rattle.rules.specs.declared.answer.Answer.{Answer}
use Rattle.rules.specs.Frame.{cells}
use Rattle.rules.specs.V0 as V0
use Rattle.rules.specs.Map.{v0_map}
use Rattle.rules.specs.Answer as Rules
use Rattle.rules.specs.Answer.{direct, v2, lengths, too_large, too_small, short_samples, short_offsets, short_map, short_scratch, scratch_bytes, first_of, refusal, samples_after, map_after, unless_refused, frame_samples, frame_marks}
use Rattle.rules.proofs.Cells.{all_get}
use Rattle.rules.proofs.V0Cells.{decoded_length, v0_map_length}
use Rattle.rules.proofs.Tests.{by-test}
use Rattle.entry_refusals.specs.Lending.{short}
use Rattle.std.specs.Prelude.{Some, None}
use Rattle.entry_refusals.proofs.RefusalLaws.{Room, room, long_enough}
use Rattle.write_rules.specs.declared.Written.{Written}
use Rattle.write_rules.specs.Calls.{too_bright, refused, written}
use Rattle.write_rules.specs.V2Writer.{stream_for}
use Rattle.write_rules.proofs.CallLaws.{not_bright}
use Rattle.write_frame.specs.declared.format.Format.TheVariants.{V2}
use Rattle.write_frame.specs.Frames.{Writable}
use Rattle.entry_frames.specs.Moved.{size}
use Rattle.entry_convert.specs.Convert.{Call, found, decoded_samples, decoded_map, frame_of, early, any_marked, late, Frame, late_answer, late_stream, if_decoded, Yields}

-- ── Writing a decoded frame ──

-- A frame without a sample above 16,383 can be written.
pub writable : {w h : ℕ} {f : List ℕ} → Frame w h f → too_bright f ≡ false → Writable V2 (size w h) f
writable {f = f} fits dim =
    record {
      wide = fits.wide;
      high = fits.high;
      blocks = record { blocks = λ e. fits.blocks };
      whole = fits.whole;
      dim = λ i. all_get (λ a. a < sample_bound) (not_bright f dim) i 0 (lit< tt);
    }

module _ (w h : ℕ) (f m stream : List ℕ) where
  -- What is answered, and what the stream's buffer holds then.
  abbrev pub Wrote : Written → List ℕ → Type 0
  Wrote r left = (r ≡ late_answer w h f m (length stream)) × (left ≡ late_stream w h f m stream)

  refused_wrote : (k : ℕ) {r : Written} → late (size w h) f m (length stream) ≡ k → (k ≡ 0 → ⊥) → r ≡ refused k → Wrote r stream
  unfolding late_answer late_stream
  refused_wrote k e n q =
      let t : eqb (late (size w h) f m (length stream)) 0 ≡ false = ap (λ j. eqb j 0) e ∙ ne_eqb k 0 n in
      (q ∙ sym (rw t (ap refused e)), sym (rw t))

  -- 16.
  pub marked_wrote : {r : Written} → any_marked m ≡ true → r ≡ refused 16 → Wrote r stream
  unfolding late
  marked_wrote t q = refused_wrote 16 (rw t) (λ p. let x : 16 ≡ 0 = p in omega arith) q

  module _ (clean : any_marked m ≡ false) where
    -- 9.
    pub bright_wrote : {r : Written} → too_bright f ≡ true → r ≡ refused 9 → Wrote r stream
    unfolding late
    bright_wrote t q = refused_wrote 9 (rw (clean, t)) (λ p. let x : 9 ≡ 0 = p in omega arith) q

    module _ (dim : too_bright f ≡ false) {n : ℕ} (is : n ≡ length (stream_for (size w h) f)) where
      -- 10.
      pub short_wrote : {r : Written} → length stream < n → r ≡ refused 10 → Wrote r stream
      unfolding late
      short_wrote l q = refused_wrote 10 (rw (clean, dim, ← is, lt-ltb (length stream) n l)) (λ p. let x : 10 ≡ 0 = p in omega arith) q

      -- Done.
      pub done_wrote : {r : Written} {left : List ℕ} → n ≤ length stream → r ≡ written n → left ≡ sets stream 0 (stream_for (size w h) f) → Wrote r left
      unfolding late late_answer late_stream
      done_wrote l q e =
          let new = stream_for (size w h) f in
          let ok : late (size w h) f m (length stream) ≡ 0 = rw (clean, dim, ← is, le-ltb (length stream) n l) in
          (rw ok (q ∙ ap written is), rw ok (e ∙ sets-eq new stream 0 (omega (arith, is)) ∙ ap (λ k. new ++ drop k stream) (zero-add (length new))))

-- ── The call ──

-- What is known once 1 to 4 are passed: the decoder's own tests are passed, and 15 is left.
pub record Lent (c : Call) : Type 0 where
  pub v0 : c.asked.decoder ≡ direct
  pub room : Room c.asked.size (length c.samples) (Some (length c.asked.offsets)) (Some (length c.map)) None
  pub decodes : refusal c.asked (lengths (found c)) ≡ 0
  pub left : early c ≡ cond (eqb (c.asked.size.width % 16) 0) 0 15

-- What is known once the frame is decoded.
pub record Decoded (c : Call) (samples map : List ℕ) : Type 0 where
  pub lent : Lent c
  pub samples_are : samples ≡ decoded_samples c
  pub map_are : map ≡ decoded_map c

-- The test of 1 to 4, as the code has it.
abbrev pub first : Call → Bool → ℕ
first c small =
    let z = c.asked.size in
    first_of (too_large z) small (ltb (length c.samples) (cells z) || short (Some (length c.asked.offsets)) z.height)
    (short (Some (length c.map)) (cells z) || short None (scratch_bytes z))

or_false : (t : Bool) → (t || false) ≡ t
or_false true = refl
or_false false = refl

early_is : (c : Call) → c.asked.decoder ≡ direct → {small : Bool} {k : ℕ} → small ≡ too_small v2 c.asked.size → k ≡ first c small
    → early c ≡ cond (eqb k 0) (cond (eqb (c.asked.size.width % 16) 0) 0 15) k
unfolding early short_samples short_offsets short_map short
early_is c v0 s e = rw (v0, e, s, or_false (ltb (length c.map) (cells c.asked.size)))

-- What is refused early is as it was.
left_old : {A : Type 0} (c : Call) (new old : A) → eqb (early c) 0 ≡ false → old ≡ if_decoded c new old
unfolding if_decoded
left_old c new old t = sym (ap (λ b. cond b new old) t)

module _ {c : Call} where
  refused_yields : (k : ℕ) {r : Written} → early c ≡ k → (k ≡ 0 → ⊥) → r ≡ refused k → Yields c r c.samples c.map c.stream
  refused_yields k e n q =
      let t : eqb (early c) 0 ≡ false = ap (λ j. eqb j 0) e ∙ ne_eqb k 0 n in
      record { answered = q ∙ sym (ap refused e) ∙ left_old c _ _ t; samples_left = left_old c _ _ t; map_left = left_old c _ _ t; stream_left = left_old c _ _ t }

  module _ (v0 : c.asked.decoder ≡ direct) where
    module _ {small : Bool} (s : small ≡ too_small v2 c.asked.size) {k : ℕ} (e : k ≡ first c small) where
      -- 1 to 4.
      pub early_yields : {r : Written} → (k ≡ 0 → ⊥) → r ≡ refused k → Yields c r c.samples c.map c.stream
      early_yields n q = refused_yields k (early_is c v0 s e ∙ rw (ne_eqb k 0 n)) n q

      pub lent : k ≡ 0 → Lent c
      unfolding refusal too_small short_samples short_offsets short_map short_scratch short first_of
      lent passed =
          record {
            v0 = v0;
            room = room c.asked.size small (length c.samples) (Some (length c.asked.offsets)) (Some (length c.map)) None k e passed;
            decodes =
                rw v0 (by-test (too_large c.asked.size)
                (λ f. rw f (rw f at (sym e ∙ passed)))
                (λ f. rw f (by-test small
                (λ g. absurd (let x : 2 ≡ 0 = (rw (f, g) at (sym e ∙ passed)) in omega arith))
                (λ g. (rw (f, g) at (sym e ∙ passed))))));
            left = early_is c v0 s e ∙ rw passed;
          }

    -- A call that is not refused before decoding has passed them, and 15.
    pub early_passed : early c ≡ 0 → Lent c × (c.asked.size.width % 16 ≡ 0)
    early_passed zero = go (first c small) refl (sym (early_is c v0 refl refl) ∙ zero)
      where
        small : Bool
        small = too_small v2 c.asked.size

        go : (k : ℕ) → k ≡ first c small → cond (eqb k 0) (cond {A = ℕ} (eqb (c.asked.size.width % 16) 0) 0 15) k ≡ 0 → Lent c × (c.asked.size.width % 16 ≡ 0)
        go k is =
            by-test (eqb k 0)
            (λ e. rw e (by-test (eqb (c.asked.size.width % 16) 0)
            (λ f. rw f (λ q. (lent refl is (eqb-true k 0 e), eqb-true (c.asked.size.width % 16) 0 f)))
            (λ f. rw f (λ q. absurd (let x : 15 ≡ 0 = q in omega arith)))))
            (λ e. rw e (λ q. absurd (eqb-false k 0 e q)))

  module _ (l : Lent c) where
    -- 15.
    pub width_yields : {r : Written} → (c.asked.size.width % 16 ≡ 0 → ⊥) → r ≡ refused 15 → Yields c r c.samples c.map c.stream
    width_yields n q = refused_yields 15 (l.left ∙ rw (ne_eqb (c.asked.size.width % 16) 0 n)) (λ p. let x : 15 ≡ 0 = p in omega arith) q

    -- The decoder leaves buffers as long as they were.
    samples_length : length (decoded_samples c) ≡ length c.samples
    unfolding samples_after unless_refused frame_samples
    samples_length =
        let a = c.asked in
        let old = take (cells a.size) c.samples in
        rw (l.decodes, l.v0)
        (length_front c.samples (V0.decoded a.stream a.offsets a.size old) (cells a.size) (decoded_length a.stream a.offsets a.size old))

    map_enough : cells c.asked.size ≤ length c.map
    map_enough = long_enough _ _ l.room.map_enough

    map_length : length (decoded_map c) ≡ length c.map
    unfolding map_after unless_refused frame_marks
    map_length =
        let a = c.asked in
        rw (l.decodes, l.v0)
        (length_front c.map (v0_map a.stream a.offsets a.size) (cells a.size) (v0_map_length a.stream a.offsets a.size ∙ sym (length-take-le _ c.map map_enough)))

    -- The decoder leaves the frame in its buffers.
    pub frame_whole : length (frame_of c) ≡ cells c.asked.size
    frame_whole = length-take-le _ (decoded_samples c) (omega (arith, samples_length, l.room.samples_enough))

    pub decoded : {a : Answer} {samples map : List ℕ} → Rules.Yields c.asked (found c) a (Rules.buffers samples (some map) none) → Decoded c samples map
    decoded y = record { lent = l; samples_are = y.samples; map_are = ap (λ o. get_or o []) y.map }

  module _ {samples map : List ℕ} (d : Decoded c samples map) where
    pub samples_room : cells c.asked.size ≤ length samples
    samples_room = omega (arith, ap length d.samples_are, samples_length d.lent, d.lent.room.samples_enough)

    pub map_room : cells c.asked.size ≤ length map
    map_room = omega (arith, ap length d.map_are, map_length d.lent, map_enough d.lent)

    module _ (blocks : c.asked.size.width % 16 ≡ 0) where
      -- The decoded frame can be written, unless it is refused by 16, 9 or 10.
      pub frame_fits : Frame c.asked.size.width c.asked.size.height (take (cells c.asked.size) samples)
      frame_fits = record { wide = d.lent.room.wide; high = d.lent.room.high; blocks = blocks; whole = length-take-le _ samples samples_room }

      -- The decoded frame, unless refused, is written.
      pub converted : {r : Written} {stream : List ℕ}
          → Wrote c.asked.size.width c.asked.size.height (take (cells c.asked.size) samples) (take (cells c.asked.size) map) c.stream r stream
          → Yields c r samples map stream
      unfolding if_decoded
      converted (p, q) =
          let passed : early c ≡ 0 = d.lent.left ∙ rw blocks in
          record {
            answered = rw passed (p ∙ rw (d.samples_are, d.map_are));
            samples_left = rw passed d.samples_are;
            map_left = rw passed d.map_are;
            stream_left = rw passed (q ∙ rw (d.samples_are, d.map_are));
          }
