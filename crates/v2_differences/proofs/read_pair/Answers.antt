-- A cut is below 2^n, as `signed_of` asks; the two cuts are the two reads.
use Rattle.std.proofs.Common.{ap, ◌∙◌, mod-lt, arith, pow_pos, w32, rules}
use mir.ValLaws.{to_z-of_z}
use Rattle.rules.specs.Reader.{signed}
use Rattle.v2_differences.proofs.PairLaws.{pair_cut, pair_read}
use Rattle.v2_differences.proofs.read_pair.Goals as goal

pub signed_of-requires : goal.signed_of-requires
signed_of-requires c = (omega arith, rw c.field.ensures (mod-lt _ (pow_pos _)))

pub signed_of-requires-then-n-le16 : goal.signed_of-requires-then-n-le16
signed_of-requires-then-n-le16 c = (omega arith, rw c.field-then-n-le16.ensures (mod-lt _ (pow_pos _)))

pub returns-then-n-le16 : goal.returns-then-n-le16
returns-then-n-le16 c =
    let x = c.signed_of in
    let y = c.signed_of-then-n-le16 in
    let g = c.get_whole-both in
    rw (to_z-of_z w32 x.result (search rules), to_z-of_z w32 y.result (search rules))
    (pair_cut _ _ _ g.result _ _ (omega arith) g.ensures (rw c.from-v.ensures at (x.ensures ∙ ap (signed _) c.field.ensures)) (rw c.from-v.ensures at (y.ensures ∙ ap (signed _) c.field-then-n-le16.ensures)))

pub returns : goal.returns
returns c =
    let h = c.read_signed-second in
    let g = c.read_signed-first in
    rw (to_z-of_z w32 g.result.value (search rules), to_z-of_z w32 h.result.value (search rules)) (pair_read _ _ _ g.result h.result g.ensures h.ensures)
