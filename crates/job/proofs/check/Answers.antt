-- Each way out gives the text that the rules have for what the tests before it found.
use mathlib.Core.Path.{sym, ◌∙◌}
use native.Mathlib.Omega.{arith}
use Rattle.job.specs.Fields.{Sound}
use Rattle.job.proofs.JobLaws.{text_longer, text_short, text_unmarked, text_cut, text_large, text_sound, half_words}
use Rattle.job.proofs.check.Goals as goal

pub returns-then-input-gt-INPUT-clause-text : goal.returns-then-input-gt-INPUT-clause-text
returns-then-input-gt-INPUT-clause-text c = text_longer _ c.if-input-gt-INPUT.true

pub returns-then-input-lt9-clause-text : goal.returns-then-input-lt9-clause-text
returns-then-input-lt9-clause-text c = text_short _ c.if-input-gt-INPUT.false c.if-input-lt9.true

pub returns-then-not-marked-clause-text : goal.returns-then-not-marked-clause-text
returns-then-not-marked-clause-text c = text_unmarked _ c.if-input-gt-INPUT.false c.if-input-lt9.false (sym c.marked.ensures ∙ c.if-not-marked.true)

pub overflow_mul-cells : goal.overflow_mul-cells
overflow_mul-cells c = omega (arith, half_words _ _ c.half_word-width.ensures.small c.half_word-height.ensures.small)

pub returns-then-input-table_end-clause-text : goal.returns-then-input-table_end-clause-text
returns-then-input-table_end-clause-text c =
    text_cut _ c.if-input-gt-INPUT.false c.if-input-lt9.false (sym c.marked.ensures ∙ c.if-not-marked.false) _ c.half_word-height.ensures.answered c.if-input-table_end.true

pub returns-then-cells-gt-SAMPLES-clause-text : goal.returns-then-cells-gt-SAMPLES-clause-text
returns-then-cells-gt-SAMPLES-clause-text c =
    text_large _ c.if-input-gt-INPUT.false c.if-input-lt9.false (sym c.marked.ensures ∙ c.if-not-marked.false) _ _ c.half_word-width.ensures.answered c.half_word-height.ensures.answered c.if-input-table_end.false c.if-cells-gt-SAMPLES.true

pub returns : goal.returns
returns c =
    let sound : Sound c.args.input.now (record { width = c.half_word-width.result; height = c.half_word-height.result }) = record {
      short = c.if-input-gt-INPUT.false;
      width_is = c.half_word-width.ensures.answered;
      height_is = c.half_word-height.ensures.answered;
      table = c.if-input-table_end.false;
      few = c.if-cells-gt-SAMPLES.false;
    } in
    record { sound = sound; text = text_sound _ c.if-input-gt-INPUT.false c.if-input-lt9.false (sym c.marked.ensures ∙ c.if-not-marked.false) _ _ sound }
