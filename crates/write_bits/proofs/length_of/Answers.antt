-- The greatest weight has as many bits as the smallest length.
use lib.Count.{leading_le}
use Rattle.write_bits.proofs.Laws.{length_law}
use Rattle.write_bits.proofs.length_of.Goals as goal

pub overflow_sub-result : goal.overflow_sub-result
overflow_sub-result c = leading_le 32 _

pub returns : goal.returns
returns c = let a = c.args in let q = c.requires in cc (length_law a.a a.b a.c a.d q.0 q.1 q.2 q.3)
