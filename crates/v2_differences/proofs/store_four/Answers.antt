-- Four stores, each at the entry read before it.
use Rattle.std.proofs.Common.{get_or, pos, w32, rules}
use mir.ValLaws.{to_z-of_z}
use Rattle.v2_differences.proofs.store_four.Goals as goal

pub returns : goal.returns
returns c = let a = c.args in rw (c.entry.ensures.0, c.entry-2.ensures.0, c.entry-3.ensures.0, c.entry-4.ensures.0)
    (simp (to_z-of_z w32 (get_or a.four 0 (pos 0)) (search rules), to_z-of_z w32 (get_or a.four 1 (pos 0)) (search rules), to_z-of_z w32 (get_or a.four 2 (pos 0)) (search rules), to_z-of_z w32 (get_or a.four 3 (pos 0)) (search rules)))
