-- What an entry that moves samples owes: its answer and what it leaves are what the definitions say.
use mathlib.Core.Path.{◌≡◌, refl, sym, ap, ◌∙◌}
use mathlib.Core.Bool.{Bool, true, false}
use mathlib.Core.List.{List, ◌++◌}
use Prim.Native.Nat.{ℕ, ◌≤◌, ◌*◌}
use native.Mathlib.Omega.{arith}
use lib.ListN.{length, take, drop}
use lib.Seq.{length-take-le}
use borrow.Author.Tests.{ltb-false, ne_eqb}
use Rattle.rules.specs.declared.answer.Answer.{Answer}
use Rattle.rules.specs.declared.answer.Size.{Size}
use Rattle.rules.specs.Answer.{done, refused, first_of}
use Rattle.rules.proofs.Tests.{neither}
use Rattle.entry_refusals.proofs.RefusalLaws.{cells_most, size_most}
use Rattle.frame_planes.specs.PlanesLent.{Within, PlanesLent}
use Rattle.entry_frames.specs.Moved.{size, refusal, answer, after}

-- What a call that is not refused may count on.
pub record Room (w h : ℕ) (from to : List ℕ) : Type 0 where
  pub within : Within (size w h)
  pub most : w * h ≤ 268_435_456
  pub read_enough : w * h ≤ length from
  pub written_enough : w * h ≤ length to
  pub none : refusal (size w h) (length from) (length to) ≡ 0

none_holds : (t1 t3 : Bool) → first_of t1 false t3 false ≡ 0 → (t1 ≡ false) × (t3 ≡ false)
unfolding first_of
none_holds true t3 e = absurd (omega arith)
none_holds false true e = absurd (omega arith)
none_holds false false e = (refl, refl)

pub room : {w h : ℕ} {from to : List ℕ} {k : ℕ} → k ≡ refusal (size w h) (length from) (length to) → k ≡ 0 → Room w h from to
unfolding refusal
room {w} {h} e q =
    let f = none_holds _ _ (sym e ∙ q) in
    let m = size_most (size w h) f.0 in
    let s = neither _ _ f.1 in
    record {
      within = record { wide = m.0; high = m.1 };
      most = cells_most w h m.0 m.1;
      read_enough = ltb-false _ _ s.0;
      written_enough = ltb-false _ _ s.1;
      none = sym e ∙ q;
    }

-- A refusal leaves all as it was.
pub refused_moved : (moved : Size → List ℕ → List ℕ) (w h : ℕ) (from to : List ℕ) {k : ℕ} {r : Answer} → k ≡ refusal (size w h) (length from) (length to) → (k ≡ 0 → ⊥)
    → r ≡ refused k → (r ≡ answer w h from to) × (to ≡ after moved w h from to)
unfolding after
refused_moved moved w h from to {k} e n q = (q ∙ ap refused e, rw (← e) (rw (ne_eqb k 0 n)))

module _ {w h : ℕ} {from to : List ℕ} (p : Room w h from to) where
  pub lent : PlanesLent (size w h) (take (w * h) from) (take (w * h) to)
  lent = record { within = p.within; read = length-take-le (w * h) from p.read_enough; written = length-take-le (w * h) to p.written_enough }

  -- And else the first samples are what the planes' function makes of them.
  pub passed_moved : (moved : Size → List ℕ → List ℕ) {r : Answer} {new : List ℕ} → r ≡ done → new ≡ moved (size w h) (take (w * h) from)
      → (r ≡ answer w h from to) × (new ++ drop (w * h) to ≡ after moved w h from to)
  unfolding after
  passed_moved moved q e = (q ∙ ap refused (sym p.none), rw (p.none, e))
