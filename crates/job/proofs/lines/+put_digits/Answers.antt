-- By recursion on how many digits there may be: the digits before the last are those of a tenth.
use Rattle.std.proofs.Common.{arith, refl}
use Rattle.job.proofs.WrittenLaws.{left_step, left_last, left_room, part_room}
use Rattle.job.proofs.DecimalLaws.{no_digits, one_digit, more_digits}
use Rattle.job.proofs.lines.+put_digits.Goals as goal

pub returns-then-most-eq0 : goal.returns-then-most-eq0
returns-then-most-eq0 t c = no_digits _ _ _ _ (omega arith)

pub put-requires : goal.put-requires
put-requires t c = left_room (one_digit _ _ _ _ _ (omega arith) (omega arith) c.glyph.ensures) c.requires

pub returns-then-value-lt10 : goal.returns-then-value-lt10
returns-then-value-lt10 t c = left_last (one_digit _ _ _ _ _ (omega arith) (omega arith) c.glyph.ensures) c.put.ensures

pub put_digits-last-requires : goal.put_digits-last-requires
put_digits-last-requires t c =
    (omega (arith, c.decreases), part_room _ (more_digits _ _ _ _ _ (omega arith) (omega arith) refl) c.requires)

pub put-requires-2 : goal.put-requires-2
put-requires-2 t c =
    left_room (left_step (more_digits _ _ _ _ _ (omega arith) (omega arith) c.glyph-2.ensures) c.put_digits-last.ensures) c.requires

pub returns : goal.returns
returns t c =
    left_last (left_step (more_digits _ _ _ _ _ (omega arith) (omega arith) c.glyph-2.ensures) c.put_digits-last.ensures) c.put-2.ensures
