-- How every entry opens: the code's test of 1 to 4 is the rules', and once it is passed each buffer has the frame's part.
use Prim.Native.Nat.{ℕ, ◌*◌, ◌≤◌}
use mathlib.Core.Bool.{false, ◌||◌}
use mathlib.Core.Path.{◌≡◌, refl, sym, ap, ◌∙◌}
use mathlib.Core.Logic.{◌⊎◌, ◌≢◌}
use mathlib.Core.List.{List, []}
use mathlib.Core.Option
use mathlib.Core.Option.{Option, none, some, get_or}
use native.Mathlib.Omega.{arith}
use lib.Dec.{ltb}
use lib.ListN.{length, take}
use lib.Seq.{length-take-le}
use Rattle.rules.specs.Limits.{most_side}
use Rattle.rules.specs.declared.answer.Size.{Size}
use Rattle.rules.specs.Frame.{cells}
use Rattle.rules.specs.Answer.{direct, two_phase, v2, Ask, ask, Buffers, buffers, lengths, too_large, too_small, short_samples, short_offsets, short_map, short_scratch, scratch_bytes, first_of, refusal}
use Rattle.rules.proofs.Refusals.{size_most, samples_enough, offsets_enough, map_enough, scratch_enough}
use Rattle.std.specs.Prelude.{Some, None}
use Rattle.std.specs.Prelude as Code
use Rattle.entry_refusals.specs.Lending.{short}
use Rattle.entry_refusals.proofs.RefusalLaws.{cells_most}
use Rattle.rules_bands.specs.Bands.{sized}
use Rattle.v0_direct.specs.FrameLent.{FrameLent}

-- ── The test ──

-- The code's number k is the rules' refusal.
pub record Tested (a : Ask) (found : Buffers) (k : ℕ) : Type 0 where
  pub is : refusal a (lengths found) ≡ k

-- A map as the test takes it.
abbrev pub lending : Option (List ℕ) → Code.Option ℕ
lending none = None
lending (some map) = Some (length map)

map_short : (map : Option (List ℕ)) (z : Size) → short (lending map) (cells z) ≡ short_map (Option.map length map) z
unfolding short short_map
map_short none z = refl
map_short (some map) z = refl

module _ {s : List ℕ} {w h : ℕ} {samples : List ℕ} {k : ℕ} where
  pub direct_tested : {offsets : List ℕ} {map : Option (List ℕ)}
      → k ≡ first_of (too_large (sized w h)) false (ltb (length samples) (w * h) || short (Some (length offsets)) h) (short (lending map) (w * h) || short None (scratch_bytes (sized w h)))
      → Tested (ask direct s offsets w h) (buffers samples map none) k
  unfolding refusal too_small short_samples short_offsets short_scratch short
  direct_tested {map = map} e = record { is = sym (rw (map_short map (sized w h)) at e) }

  pub two_phase_tested : {offsets scratch : List ℕ}
      → k ≡ first_of (too_large (sized w h)) false (ltb (length samples) (w * h) || short (Some (length offsets)) h) (short None (w * h) || short (Some (length scratch)) (scratch_bytes (sized w h)))
      → Tested (ask two_phase s offsets w h) (buffers samples none (some scratch)) k
  unfolding refusal too_small short_samples short_offsets short_map short_scratch short
  two_phase_tested e = record { is = sym e }

  pub v2_tested : {map : Option (List ℕ)}
      → k ≡ first_of (too_large (sized w h)) (too_small v2 (sized w h)) (ltb (length samples) (w * h) || short None h) (short (lending map) (w * h) || short None (scratch_bytes (sized w h)))
      → Tested (ask v2 s [] w h) (buffers samples map none) k
  unfolding refusal short_samples short_offsets short_scratch short
  v2_tested {map} e = record { is = sym (rw (map_short map (sized w h)) at e) }

-- ── What is lent ──

-- What a call that passed the test may count on.
pub record Opened (a : Ask) (found : Buffers) : Type 0 where
  pub passed : refusal a (lengths found) ≡ 0
  pub wide : a.size.width ≤ most_side
  pub high : a.size.height ≤ most_side
  pub few : a.size.width * a.size.height ≤ 268_435_456
  pub samples_enough : cells a.size ≤ length found.samples
  pub samples_lent : length (take (cells a.size) found.samples) ≡ cells a.size
  pub offsets_enough : a.decoder ≢ v2 → a.size.height ≤ length a.offsets
  pub map_enough : (map : List ℕ) → found.map ≡ some map → cells a.size ≤ length map
  pub scratch_enough : a.decoder ≡ two_phase → scratch_bytes a.size ≤ length (get_or found.scratch [])

pub opened : {a : Ask} {found : Buffers} {k : ℕ} → Tested a found k → k ≡ 0 → Opened a found
opened {a} {found} t zero =
    let ok = t.is ∙ zero in
    let l = lengths found in
    let m = size_most a l ok in
    let n = samples_enough a l ok in
    record {
      passed = ok;
      wide = m.0;
      high = m.1;
      few = cells_most _ _ m.0 m.1;
      samples_enough = n;
      samples_lent = length-take-le _ _ n;
      offsets_enough = offsets_enough a l ok;
      map_enough = λ map e. map_enough a l ok (length map) (ap (Option.map length) e);
      scratch_enough = scratch_enough a l ok;
    }

-- An entry's own test, passed.
module _ (s : List ℕ) where
  pub direct_opened : (offsets : List ℕ) (w h : ℕ) (samples : List ℕ) (map : Option (List ℕ))
      → 0 ≡ first_of (too_large (sized w h)) false (ltb (length samples) (w * h) || short (Some (length offsets)) h) (short (lending map) (w * h) || short None (scratch_bytes (sized w h)))
      → Opened (ask direct s offsets w h) (buffers samples map none)
  direct_opened offsets w h samples map e = opened (direct_tested e) refl

  pub two_phase_opened : (offsets : List ℕ) (w h : ℕ) (samples scratch : List ℕ)
      → 0 ≡ first_of (too_large (sized w h)) false (ltb (length samples) (w * h) || short (Some (length offsets)) h) (short None (w * h) || short (Some (length scratch)) (scratch_bytes (sized w h)))
      → Opened (ask two_phase s offsets w h) (buffers samples none (some scratch))
  two_phase_opened offsets w h samples scratch e = opened (two_phase_tested e) refl

  pub v2_opened : (w h : ℕ) (samples : List ℕ) (map : Option (List ℕ))
      → 0 ≡ first_of (too_large (sized w h)) (too_small v2 (sized w h)) (ltb (length samples) (w * h) || short None h) (short (lending map) (w * h) || short None (scratch_bytes (sized w h)))
      → Opened (ask v2 s [] w h) (buffers samples map none)
  v2_opened w h samples map e = opened (v2_tested e) refl

-- So a V0 decoder is lent what it asks for, with a map or without.
pub direct_v0 : direct ≢ v2
direct_v0 e = let z : ◌≡◌ {A = ℕ} 0 1 = cc in omega arith

pub two_phase_v0 : two_phase ≢ v2
two_phase_v0 e = let z : ◌≡◌ {A = ℕ} 0 1 = cc in omega arith

pub v0_lends : {a : Ask} {found : Buffers} → Opened a found → a.decoder ≢ v2 → (map : List ℕ) → (length map ≡ cells a.size) ⊎ (length map ≡ 0)
    → FrameLent a.size a.offsets (take (cells a.size) found.samples) map
v0_lends o v0 map whole =
    record { width = o.wide; height = o.high; offsets_enough = o.offsets_enough v0; samples_lent = o.samples_lent; map_lent = whole }
