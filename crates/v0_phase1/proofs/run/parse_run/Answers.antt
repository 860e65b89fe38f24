-- Where a run begins, the blocks by position are those that the record reads, and the record made again stands after them; else there are
-- none.
use mathlib.Core.Path.{refl, sym, ap, ◌∙◌}
use Prim.Native.Nat.{◌+◌, ◌-◌}
use native.Mathlib.Omega.{arith}
use Rattle.v0_parse_window.proofs.GroupLaws.{standing_ahead}
use Rattle.v0_phase1.specs.Ran.{none}
use Rattle.v0_phase1.proofs.RunLaws.{run_ran, run_begun_at, run_ended, run_none}
use Rattle.v0_phase1.proofs.run.parse_run.Goals as goal

pub returns-then-not-begins : goal.returns-then-not-begins
returns-then-not-begins c = record {
  ran = none;
  reaches = run_none _ _ _ _ (sym c.begins.ensures.answered ∙ c.if-not-begins.true);
}

pub overflow_sub-base : goal.overflow_sub-base
overflow_sub-base c = (c.begins.ensures.stands (c.if-not-begins.false)).fetched

pub overflow_sub-start : goal.overflow_sub-start
overflow_sub-start c = let few = (c.begins.ensures.stands (c.if-not-begins.false)).few in omega arith

pub short_blocks-end-requires : goal.short_blocks-end-requires
short_blocks-end-requires c =
    (standing_ahead (c.begins.ensures.stands (c.if-not-begins.false)), c.requires)

pub returns : goal.returns
returns c =
    let a = c.args in record {
      ran = run_ran refl (c.begins.ensures.stands (c.if-not-begins.false)).is c.short_blocks-end.ensures.ran c.state_at.ensures;
      reaches = c.short_blocks-end.ensures.reaches a.row.bits.filler ∙ ap (λ n. a.k + n) (run_ended _ _ _ (sym c.begins.ensures.answered ∙ c.if-not-begins.false) (record { k = a.k; q = 96 - a.row.bits.count; lengths = a.row.lengths }) (run_begun_at a.k (c.begins.ensures.stands (c.if-not-begins.false))));
    }
