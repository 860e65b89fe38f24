-- What the entries that blank owe: each refusal is the definition's, and else what was set and listed is.
use mathlib.Core.Path.{◌≡◌, sym, ap, ◌∙◌}
use mathlib.Core.Bool.{Bool, true, false, cond}
use mathlib.Core.List.{List, ◌++◌}
use Prim.Native.Nat.{ℕ, ◌+◌, ◌*◌, ◌≤◌}
use native.Mathlib.Omega.{arith}
use lib.Dec.{ltb, eqb}
use lib.ListN.{length, drop}
use lib.Seq.{sets, sets-eq, length-take-le}
use borrow.Author.Tests.{ne_eqb, ltb-false}
use Rattle.rules.specs.Frame.{cells}
use Rattle.entry_refusals.specs.Lending.{short}
use Rattle.std.specs.Prelude.{None, Some}
use Rattle.entry_refusals.proofs.RefusalLaws.{Room, room, long_enough}
use Rattle.frame_blank.specs.declared.Blanked.{Blanked}
use Rattle.frame_blank.specs.declared.Tally.{Tally}
use Rattle.frame_blank.specs.Blanking.{bad_map, blanked, numbers}
use Rattle.frame_blank.specs.Calls.{Call, frame_of, marks_of, found, short_runs, refusal, refused, blanked_done, blank_answer, unless_refused, samples_after, runs_after, Yields}
use Rattle.frame_blank.specs.MapLent.{tally, MapLent, FrameLent}
use Rattle.frame_blank.proofs.RunLaws.{numbers_length, rows_most}
use Rattle.entry_frames.proofs.EarlyLaws.{early, early_then}

-- What is known once tests 1, 3 and 4 are passed.
pub record Lent (c : Call) : Type 0 where
  pub room : Room c.size (length c.samples) None (Some (length c.map)) None
  pub left : refusal c ≡ cond (bad_map (marks_of c)) 14 (cond (short_runs c) 13 0)

-- What is known once test 14 is passed, too.
pub record Good (c : Call) : Type 0 where
  pub lent : Lent c
  pub good : bad_map (marks_of c) ≡ false

-- What is known once test 13 is passed, too.
pub record Fits (c : Call) : Type 0 where
  pub good : Good c
  pub list_room : 3 * length (found c) ≤ length c.runs
  pub none_holds : refusal c ≡ 0

refusal_is : (c : Call) {k : ℕ} → k ≡ early c.size (length c.samples) (Some (length c.map))
    → refusal c ≡ cond (eqb k 0) (cond (bad_map (marks_of c)) 14 (cond (short_runs c) 13 0)) k
unfolding refusal short
refusal_is c e = early_then c.size (length c.samples) (Some (length c.map)) e _

module _ {c : Call} where
  refused_yields : (k : ℕ) {r : Blanked} → refusal c ≡ k → (k ≡ 0 → ⊥) → r ≡ refused k → Yields c r c.samples c.runs
  unfolding blank_answer samples_after runs_after unless_refused
  refused_yields k e n q =
      let t : eqb (refusal c) 0 ≡ false = ap (λ m. eqb m 0) e ∙ ne_eqb k 0 n in
      record { answered = q ∙ sym (rw t (ap refused e)); samples_left = sym (rw t); runs_left = sym (rw t) }

  module _ {k : ℕ} (e : k ≡ early c.size (length c.samples) (Some (length c.map))) where
    -- 1, 3 and 4.
    pub early_yields : {r : Blanked} → (k ≡ 0 → ⊥) → r ≡ refused k → Yields c r c.samples c.runs
    early_yields n q = refused_yields k (refusal_is c e ∙ rw (ne_eqb k 0 n)) n q

    pub lent : k ≡ 0 → Lent c
    lent passed =
        record { room = room c.size false (length c.samples) None (Some (length c.map)) None k e passed; left = refusal_is c e ∙ rw passed }

  module _ (l : Lent c) where
    pub map_there : cells c.size ≤ length c.map
    map_there = long_enough _ _ l.room.map_enough

    pub map_lent : MapLent c.size (marks_of c)
    map_lent = record { wide = l.room.wide; high = l.room.high; read = length-take-le _ c.map map_there }

    -- There are no more runs than samples.
    pub runs_few : {t : Tally} → t ≡ tally (marks_of c) (found c) → t.runs ≤ 268_435_456
    runs_few told = omega (arith, ap (λ x. x.runs) told, rows_most c.size.width c.size.height 0 (marks_of c), map_lent.read, l.room.few)

    module _ {bad : Bool} (tested : bad ≡ bad_map (marks_of c)) where
      -- 14.
      pub bad_yields : {r : Blanked} → bad ≡ true → r ≡ refused 14 → Yields c r c.samples c.runs
      bad_yields t q = refused_yields 14 (l.left ∙ rw (← tested, t)) (λ p. let x : 14 ≡ 0 = p in omega arith) q

      pub good : bad ≡ false → Good c
      good f = record { lent = l; good = sym tested ∙ f }

  module _ (g : Good c) {t : Tally} (told : t ≡ tally (marks_of c) (found c)) {s : Bool} (test : s ≡ ltb (length c.runs) (3 * t.runs)) where
    last : refusal c ≡ cond s 13 0
    unfolding short_runs
    last = g.lent.left ∙ rw g.good (ap (λ x. cond x 13 0) (ap (λ x. ltb (length c.runs) (3 * x.runs)) (sym told) ∙ sym test))

    -- 13.
    pub short_yields : {r : Blanked} → s ≡ true → r ≡ refused 13 → Yields c r c.samples c.runs
    short_yields q a = refused_yields 13 (last ∙ rw q) (λ p. let x : 13 ≡ 0 = p in omega arith) a

    pub fits : s ≡ false → Fits c
    fits enough =
        record {
          good = g;
          list_room = omega (arith, ltb-false (length c.runs) (3 * t.runs) (sym test ∙ enough), ap (λ x. x.runs) told);
          none_holds = last ∙ rw enough;
        }

  -- Done.
  module _ (p : Fits c) where
    pub frame_lent : FrameLent c.size (frame_of c) (marks_of c) c.runs
    frame_lent = record { map_lent = map_lent p.good.lent; written = length-take-le _ c.samples p.good.lent.room.samples_enough; room = p.list_room }

    pub done_yields : {t : Tally} {r : Blanked} {f l : List ℕ} → t ≡ tally (marks_of c) (found c) → r ≡ blanked_done t.marked t.runs
        → f ≡ blanked c.fill c.size (frame_of c) (marks_of c) → l ≡ sets c.runs 0 (numbers (found c)) → Yields c r (f ++ drop (cells c.size) c.samples) l
    unfolding blank_answer samples_after runs_after unless_refused
    done_yields told a is lists =
        let long = numbers_length (found c) in
        let end : 0 + length (numbers (found c)) ≡ 3 * length (found c) = omega (arith, long) in
        record {
          answered = rw p.none_holds (a ∙ ap (λ x. blanked_done x.marked x.runs) told);
          samples_left = rw p.none_holds (ap (λ x. x ++ drop (cells c.size) c.samples) is);
          runs_left = rw p.none_holds (lists ∙ sets-eq (numbers (found c)) c.runs 0 (omega (arith, long, p.list_room)) ∙ ap (λ n. numbers (found c) ++ drop n c.runs) end);
        }
