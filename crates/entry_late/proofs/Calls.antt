-- How far a late fault reaches, of calls that have returned: in samples, in the rules' marks, in maps that are lent, and in V2's answer.
use Prim.Native.Nat.{ℕ, ◌*◌, ◌≤◌, ◌<◌}
use mathlib.Core.Path.{◌≡◌, refl, sym, ap, ◌∙◌, subst}
use mathlib.Core.Logic.{◌≢◌, ◌⊎◌, inl, inr}
use mathlib.Core.List.{List}
use mathlib.Core.Option.{some}
use lib.ListN.{length, get_or, take}
use lib.Seq.{get_or-take}
use Rattle.rules.specs.Limits.{most_side}
use Rattle.rules.specs.declared.answer.Answer.{Answer}
use Rattle.rules.specs.declared.answer.Size.{Size}
use Rattle.rules.specs.Frame.{cells}
use Rattle.rules.specs.V0 as V0
use Rattle.rules.specs.V2 as V2
use Rattle.rules.specs.Map.{v0_map, v2_map}
use Rattle.rules.specs.Answer.{Decoder, direct, two_phase, v2, Ask, lengths, marks, frame_samples, frame_marks, stream_answer, refusal}
use Rattle.rules.proofs.Refusals.{answer_passed, size_most}
use Rattle.rules.proofs.TwoPhase.{two_phase_direct}
use Rattle.rules.proofs.Isolation.{Returned, Ran, IsV0, is_direct, is_two_phase, before, before_length, ran_passed, sample_framed, map_marked}
use Rattle.entry_late.specs.Late.{Above, AgreeBefore, whole_pairs, AgreeIn, header_bytes, first_past}
use Rattle.entry_late.proofs.Offsets.{late_offsets}
use Rattle.entry_late.proofs.Stream.{agree_back, late_samples, late_marks, late_refusal, first_same}

-- ── The statements ──

-- Two calls that left the same in every row before row n: samples, the rules' marks, and the bytes of maps where both are lent one.
pub record SameAbove (n : ℕ) (c d : Returned) : Type 0 where
  pub samples : (i : ℕ) → Above n c.ask.size i → get_or c.left.samples i 0 ≡ get_or d.left.samples i 0
  pub marks : (i : ℕ) → Above n c.ask.size i → get_or (marks c.ask) i 0 ≡ get_or (marks d.ask) i 0
  pub maps : (m m' : List ℕ) → c.left.map ≡ some m → d.left.map ≡ some m' → (i : ℕ) → Above n c.ask.size i → get_or m i 0 ≡ get_or m' i 0

-- Two calls of one size that found the same N samples.
pub record OnEqual (c d : Returned) : Type 0 where
  pub size : d.ask.size ≡ c.ask.size
  pub old : take (cells c.ask.size) d.found.samples ≡ take (cells c.ask.size) c.found.samples

-- V0: two calls of V0 decoders, the same or not, on one stream, with offset tables that agree before entry r; both are done.
pub record LateOffsets (r : ℕ) (c d : Returned) : Type 0 where
  pub equal : OnEqual c d
  pub v0 : IsV0 c.ask.decoder
  pub v0' : IsV0 d.ask.decoder
  pub stream : d.ask.stream ≡ c.ask.stream
  pub offsets : AgreeBefore r c.ask.offsets d.ask.offsets
  pub done : c.answered.number ≡ 0
  pub done' : d.answered.number ≡ 0

-- V2: two calls on streams of at least p bytes that agree in the first p, where the header lies; both ended with done or 5 to 8.
pub record LateStream (p : ℕ) (c d : Returned) : Type 0 where
  pub equal : OnEqual c d
  pub is_v2 : c.ask.decoder ≡ v2
  pub is_v2' : d.ask.decoder ≡ v2
  pub streams : AgreeIn p c.ask.stream d.ask.stream
  pub header : header_bytes ≤ p
  pub ran : Ran c.answered
  pub ran' : Ran d.answered

-- A call met a refusal in a row before row n.
abbrev pub RefusedAbove : ℕ → Answer → Type 0
RefusedAbove n a = (a.number ≢ 0) × (a.row < n)

-- What two such calls have in common, n being the first row that fetches a word not wholly below p.
pub record SameBelow (n : ℕ) (c d : Returned) : Type 0 where
  pub above : SameAbove n c d
  pub refusal : RefusedAbove n c.answered ⊎ RefusedAbove n d.answered → c.answered ≡ d.answered

-- ── From frames to calls ──

module _ (n : ℕ) (c d : Returned) (equal : OnEqual c d) (ok : refusal c.ask (lengths c.found) ≡ 0) (ok' : refusal d.ask (lengths d.found) ≡ 0) where
  abbrev z : Size
  z = c.ask.size

  abbrev new : Ask → List ℕ → List ℕ
  new a f = frame_samples a.decoder a.stream a.offsets z f

  abbrev bytes : Ask → List ℕ
  bytes a = frame_marks a.decoder a.stream a.offsets z

  same_above : ((i : ℕ) → i < n * z.width → get_or (new c.ask (before c)) i 0 ≡ get_or (new d.ask (before c)) i 0)
      → ((i : ℕ) → i < n * z.width → get_or (bytes c.ask) i 0 ≡ get_or (bytes d.ask) i 0) → SameAbove n c d
  same_above samples marked = record { samples = left; marks = rules; maps = lent }
    where
      left : (i : ℕ) → Above n z i → get_or c.left.samples i 0 ≡ get_or d.left.samples i 0
      left i a =
          sample_framed c ok i a.frame
          ∙ samples i a.row
          ∙ ap (λ f. get_or (new d.ask f) i 0) (sym equal.old)
          ∙ ap (λ y. get_or (frame_samples d.ask.decoder d.ask.stream d.ask.offsets y (take (cells y) d.found.samples)) i 0) (sym equal.size)
          ∙ sym (sample_framed d ok' i (subst (λ y. i < cells y) (sym equal.size) a.frame))

      rules : (i : ℕ) → Above n z i → get_or (marks c.ask) i 0 ≡ get_or (marks d.ask) i 0
      rules i a =
          marked i a.row
          ∙ ap (λ y. get_or (frame_marks d.ask.decoder d.ask.stream d.ask.offsets y) i 0) (sym equal.size)

      lent : (m m' : List ℕ) → c.left.map ≡ some m → d.left.map ≡ some m' → (i : ℕ) → Above n z i → get_or m i 0 ≡ get_or m' i 0
      lent m m' e e' i a =
          sym (get_or-take (cells z) m i 0 a.frame)
          ∙ ap (λ x. get_or x i 0) (map_marked c ok m e)
          ∙ rules i a
          ∙ ap (λ x. get_or x i 0) (sym (map_marked d ok' m' e'))
          ∙ get_or-take (cells d.ask.size) m' i 0 (subst (λ y. i < cells y) (sym equal.size) a.frame)

-- ── V0 ──

-- Every V0 decoder's samples and marks are the direct one's.
v0_samples : (k : Decoder) → IsV0 k → (s o : List ℕ) (z : Size) (f : List ℕ) → length f ≡ cells z → frame_samples k s o z f ≡ V0.decoded s o z f
unfolding frame_samples
v0_samples direct is_direct s o z f e = refl
v0_samples two_phase is_two_phase s o z f e = two_phase_direct s o z f e
v0_samples v2 x s o z f e = elim x [ ]

v0_marks : (k : Decoder) → IsV0 k → (s o : List ℕ) (z : Size) → frame_marks k s o z ≡ v0_map s o z
unfolding frame_marks
v0_marks direct is_direct s o z = refl
v0_marks two_phase is_two_phase s o z = refl
v0_marks v2 x s o z = elim x [ ]

decoded_kept : (s o o' : List ℕ) (z : Size) (r : ℕ) → AgreeBefore r o o' → (f : List ℕ) (i : ℕ) → i < whole_pairs r * z.width
    → get_or (V0.decoded s o z f) i 0 ≡ get_or (V0.decoded s o' z f) i 0
unfolding V0.decoded
decoded_kept s o o' z r h f = late_offsets V0.sample_kind s z f o o' r h

map_kept : (s o o' : List ℕ) (z : Size) (r : ℕ) → AgreeBefore r o o' → (i : ℕ) → i < whole_pairs r * z.width
    → get_or (v0_map s o z) i 0 ≡ get_or (v0_map s o' z) i 0
unfolding v0_map
map_kept s o o' z r h = late_offsets _ s z _ o o' r h

pub calls_late_offsets : (r : ℕ) (c d : Returned) → LateOffsets r c d → SameAbove (whole_pairs r) c d
calls_late_offsets r c d p = same_above (whole_pairs r) c d p.equal ok (ran_passed d (inl p.done')) samples marked
  where
    ok : refusal c.ask (lengths c.found) ≡ 0
    ok = ran_passed c (inl p.done)

    z : Size
    z = c.ask.size

    samples : (i : ℕ) → i < whole_pairs r * z.width
        → get_or (frame_samples c.ask.decoder c.ask.stream c.ask.offsets z (before c)) i 0
        ≡ get_or (frame_samples d.ask.decoder d.ask.stream d.ask.offsets z (before c)) i 0
    samples i l =
        let long = before_length c ok in
        ap (λ x. get_or x i 0) (v0_samples c.ask.decoder p.v0 c.ask.stream c.ask.offsets z (before c) long)
        ∙ decoded_kept c.ask.stream c.ask.offsets d.ask.offsets z r p.offsets (before c) i l
        ∙ ap (λ s. get_or (V0.decoded s d.ask.offsets z (before c)) i 0) (sym p.stream)
        ∙ ap (λ x. get_or x i 0) (sym (v0_samples d.ask.decoder p.v0' d.ask.stream d.ask.offsets z (before c) long))

    marked : (i : ℕ) → i < whole_pairs r * z.width
        → get_or (frame_marks c.ask.decoder c.ask.stream c.ask.offsets z) i 0
        ≡ get_or (frame_marks d.ask.decoder d.ask.stream d.ask.offsets z) i 0
    marked i l =
        ap (λ x. get_or x i 0) (v0_marks c.ask.decoder p.v0 c.ask.stream c.ask.offsets z)
        ∙ map_kept c.ask.stream c.ask.offsets d.ask.offsets z r p.offsets i l
        ∙ ap (λ s. get_or (v0_map s d.ask.offsets z) i 0) (sym p.stream)
        ∙ ap (λ x. get_or x i 0) (sym (v0_marks d.ask.decoder p.v0' d.ask.stream d.ask.offsets z))

-- ── V2 ──

v2_samples : (k : Decoder) → k ≡ v2 → (s o : List ℕ) (z : Size) (f : List ℕ) → frame_samples k s o z f ≡ V2.decoded s z f
unfolding frame_samples
v2_samples k e s o z f = rw e

v2_marked : (k : Decoder) → k ≡ v2 → (s o : List ℕ) (z : Size) → frame_marks k s o z ≡ v2_map s z
unfolding frame_marks
v2_marked k e s o z = rw e

pub v2_answered : (c : Returned) → c.ask.decoder ≡ v2 → Ran c.answered → c.answered ≡ (V2.read_frame c.ask.stream c.ask.size).answer
unfolding stream_answer
v2_answered c e ran =
    c.yields.answered ∙ answer_passed c.ask (lengths c.found) (ran_passed c ran)
    ∙ ap (λ k. stream_answer k c.ask.stream c.ask.offsets c.ask.size) e

pub calls_late_stream : (p : ℕ) (c d : Returned) → LateStream p c d → SameBelow (first_past p c.ask.stream c.ask.size) c d
calls_late_stream p c d q =
    record { above = same_above n c d q.equal ok (ran_passed d q.ran') samples marked; refusal = refused }
  where
    z : Size
    z = c.ask.size

    s : List ℕ
    s = c.ask.stream

    t : List ℕ
    t = d.ask.stream

    n : ℕ
    n = first_past p s z

    ok : refusal c.ask (lengths c.found) ≡ 0
    ok = ran_passed c q.ran

    most : (z.width ≤ most_side) × (z.height ≤ most_side)
    most = size_most c.ask (lengths c.found) ok

    samples : (i : ℕ) → i < n * z.width
        → get_or (frame_samples c.ask.decoder s c.ask.offsets z (before c)) i 0 ≡ get_or (frame_samples d.ask.decoder t d.ask.offsets z (before c)) i 0
    samples i l =
        ap (λ x. get_or x i 0) (v2_samples c.ask.decoder q.is_v2 s c.ask.offsets z (before c))
        ∙ late_samples p s t q.streams q.header z most.0 most.1 (before c) i l
        ∙ ap (λ x. get_or x i 0) (sym (v2_samples d.ask.decoder q.is_v2' t d.ask.offsets z (before c)))

    marked : (i : ℕ) → i < n * z.width
        → get_or (frame_marks c.ask.decoder s c.ask.offsets z) i 0 ≡ get_or (frame_marks d.ask.decoder t d.ask.offsets z) i 0
    marked i l =
        ap (λ x. get_or x i 0) (v2_marked c.ask.decoder q.is_v2 s c.ask.offsets z)
        ∙ late_marks p s t q.streams q.header z most.0 most.1 i l
        ∙ ap (λ x. get_or x i 0) (sym (v2_marked d.ask.decoder q.is_v2' t d.ask.offsets z))

    answered : c.answered ≡ (V2.read_frame s z).answer
    answered = v2_answered c q.is_v2 q.ran

    answered' : d.answered ≡ (V2.read_frame t z).answer
    answered' = v2_answered d q.is_v2' q.ran' ∙ ap (λ y. (V2.read_frame t y).answer) q.equal.size

    refused : RefusedAbove n c.answered ⊎ RefusedAbove n d.answered → c.answered ≡ d.answered
    refused (inl r) =
        let a = subst (RefusedAbove n) answered r in
        answered ∙ sym (late_refusal p s t q.streams q.header z most.0 most.1 a.0 a.1) ∙ sym answered'
    refused (inr r) =
        let a = subst (RefusedAbove n) answered' r in
        let l = subst (λ m. (V2.read_frame t z).answer.row < m) (sym (first_same p s t q.streams q.header z most.0 most.1)) a.1 in
        answered ∙ late_refusal p t s (agree_back q.streams) q.header z most.0 most.1 a.0 l ∙ sym answered'
