-- What is put so far, with the columns of the rows that are left, is all columns.
use lib.ListN.{drop}
use Rattle.frame_planes.specs.Planes.{evens, rows_of}
use Rattle.frame_planes.proofs.HalfLaws.{Put}
use Rattle.frame_planes.proofs.put_rows.Given as goal

abbrev pub invariant-loop-k : goal.invariant-loop-k
invariant-loop-k l =
    Put (evens (drop l.parity (rows_of l.size l.samples))) l.size.width l.rows l.initial.half l.half l.k
