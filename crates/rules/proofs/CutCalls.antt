-- What a cut upload shows is final, of calls that have returned: take a call on a stream, and one on a longer stream, else of the same
-- decoder, offsets and size, on any buffers, and both ended with done or 5 to 8. Where the first call's map has byte 0, the second's
-- has byte 0 and both left the same sample. A map need not be lent: the bytes are the rules'.
use Prim.Native.Nat.{ℕ, ◌<◌}
use mathlib.Core.Path.{◌≡◌, sym, ap, ◌∙◌, subst}
use mathlib.Core.List.{List, ◌++◌}
use lib.ListN.{length, get_or, take}
use Rattle.rules.specs.declared.answer.Size.{Size}
use Rattle.rules.specs.Frame.{cells}
use Rattle.rules.specs.Answer.{Decoder, direct, two_phase, v2, lengths, marks, frame_samples, frame_marks, refusal}
use Rattle.rules.proofs.Isolation.{Returned, Ran, ran_passed, before, before_length, sample_framed}
use Rattle.rules.proofs.Longer.{Longer, longer_append}
use Rattle.rules.proofs.TwoPhase.{two_phase_direct}
use Rattle.rules.proofs.V0Final as V0Final
use Rattle.rules.proofs.V2Final as V2Final

-- The frames of every decoder.
frame_final : (k : Decoder) (s u : List ℕ) → Longer s u → (offsets : List ℕ) (z : Size) (f g : List ℕ) → length f ≡ cells z → length g ≡ cells z
    → (i : ℕ) → get_or (frame_marks k s offsets z) i 0 ≡ 0
    → (get_or (frame_marks k u offsets z) i 0 ≡ 0) × (get_or (frame_samples k s offsets z f) i 0 ≡ get_or (frame_samples k u offsets z g) i 0)
unfolding frame_marks frame_samples
frame_final direct s u longer offsets z f g lf lg = V0Final.longer_final s u longer offsets z f g lf lg
frame_final two_phase s u longer offsets z f g lf lg =
    rw (two_phase_direct s offsets z f lf, two_phase_direct u offsets z g lg) (V0Final.longer_final s u longer offsets z f g lf lg)
frame_final v2 s u longer offsets z f g lf lg = V2Final.longer_final s u longer z f g lf lg

-- The second call asks what the first asked, of a longer stream.
pub record Grown (c d : Returned) : Type 0 where
  pub stream : Longer c.ask.stream d.ask.stream
  pub rest : d.ask ≡ record { decoder = c.ask.decoder; stream = d.ask.stream; offsets = c.ask.offsets; size = c.ask.size }

-- A call on a stream with something appended has grown.
pub grown_append : (c d : Returned) (t : List ℕ)
    → d.ask ≡ record { decoder = c.ask.decoder; stream = c.ask.stream ++ t; offsets = c.ask.offsets; size = c.ask.size } → Grown c d
grown_append c d t e =
    record {
      stream = subst (λ u. Longer c.ask.stream u) (sym (ap (λ a. a.stream) e)) (longer_append c.ask.stream t);
      rest = e ∙ ap (λ u. record { decoder = c.ask.decoder; stream = u; offsets = c.ask.offsets; size = c.ask.size }) (sym (ap (λ a. a.stream) e));
    }

pub calls_final : (c d : Returned) → Grown c d → Ran c.answered → Ran d.answered
    → (i : ℕ) → i < cells c.ask.size → get_or (marks c.ask) i 0 ≡ 0 → (get_or (marks d.ask) i 0 ≡ 0) × (get_or c.left.samples i 0 ≡ get_or d.left.samples i 0)
calls_final c d grown ran ran' i l m = (
  subst (λ a. get_or (marks a) i 0 ≡ 0) (sym grown.rest) q.0,
  sample_framed c ok i l ∙ q.1 ∙ ap (λ a. get_or (frame_samples a.decoder a.stream a.offsets a.size (take (cells a.size) d.found.samples)) i 0) (sym grown.rest)
      ∙ sym (sample_framed d ok' i (subst (λ a. i < cells a.size) (sym grown.rest) l)),
)
  where
    ok : refusal c.ask (lengths c.found) ≡ 0
    ok = ran_passed c ran

    ok' : refusal d.ask (lengths d.found) ≡ 0
    ok' = ran_passed d ran'

    long : length (take (cells c.ask.size) d.found.samples) ≡ cells c.ask.size
    long = subst (λ a. length (take (cells a.size) d.found.samples) ≡ cells a.size) grown.rest (before_length d ok')

    q : (get_or (frame_marks c.ask.decoder d.ask.stream c.ask.offsets c.ask.size) i 0 ≡ 0)
        × (get_or (frame_samples c.ask.decoder c.ask.stream c.ask.offsets c.ask.size (before c)) i 0
        ≡ get_or (frame_samples c.ask.decoder d.ask.stream c.ask.offsets c.ask.size (take (cells c.ask.size) d.found.samples)) i 0)
    q = frame_final c.ask.decoder c.ask.stream d.ask.stream grown.stream c.ask.offsets c.ask.size (before c)
        (take (cells c.ask.size) d.found.samples) (before_length c ok) long i m
