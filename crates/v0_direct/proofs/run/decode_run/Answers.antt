-- Where a run begins the record is made again at its end; else there is none.
use mathlib.Core.Path.{refl, sym, ◌∙◌}
use native.Mathlib.Omega.{arith}
use Rattle.v0_parse_window.proofs.GroupLaws.{standing_ahead}
use Rattle.v0_direct.proofs.RowLaws.{none_ran}
use Rattle.v0_direct.proofs.RunLaws.{begins_is, begins_short, begun, run_done, run_ended, run_none}
use Rattle.v0_direct.proofs.run.decode_run.Goals as goal

pub returns-then-not-begins : goal.returns-then-not-begins
returns-then-not-begins c =
    record {
      ran = none_ran c.args.src.now c.requires.0 c.requires.1;
      reaches = run_none _ _ _ _ _ (sym c.begins.ensures.answered ∙ c.if-not-begins.true);
    }

pub overflow_sub-base : goal.overflow_sub-base
overflow_sub-base c = (c.begins.ensures.stands c.if-not-begins.false).fetched

pub overflow_sub-start : goal.overflow_sub-start
overflow_sub-start c = let few = (c.begins.ensures.stands c.if-not-begins.false).few in omega arith

pub short_blocks-end-requires : goal.short_blocks-end-requires
short_blocks-end-requires c =
    record {
      inner = ((begins_is _ _ _ _ _ c.requires.0 (sym c.begins.ensures.answered ∙ c.if-not-begins.false)).0, (standing_ahead (c.begins.ensures.stands c.if-not-begins.false), c.requires.1));
      short = begins_short _ _ _ _ _ (sym c.begins.ensures.answered ∙ c.if-not-begins.false);
    }

pub returns : goal.returns
returns c =
    let at = begun c.args.at.col (c.begins.ensures.stands c.if-not-begins.false) (begins_is _ _ _ _ _ c.requires.0 (sym c.begins.ensures.answered ∙ c.if-not-begins.false)).1 in
    record {
      ran = run_done at c.state_at.ensures c.short_blocks-end.ensures.ran;
      reaches = c.short_blocks-end.ensures.reaches ∙ run_ended _ _ _ _ _ (sym c.begins.ensures.answered ∙ c.if-not-begins.false) _ refl at;
    }
