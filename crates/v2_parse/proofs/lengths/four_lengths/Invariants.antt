-- What is left from length j on comes to all four, as long as none before it was too long.
use Rattle.std.proofs.Common.{◌≡◌, ◌-◌, false}
use Rattle.rules.specs.V2.{lengths_from, no_lengths}
use Rattle.v2_parse.proofs.lengths.four_lengths.Given as goal

abbrev pub invariant-loop-j : goal.invariant-loop-j
invariant-loop-j l =
    lengths_from l.src l.depth l.row l.flags.value 4 0 (no_lengths l.initial.remembered l.initial.read.bits)
    ≡ lengths_from l.src l.depth l.row l.flags.value (4 - l.j) l.j (record { lengths = record { four = l.read.value; long = false; bits = l.read.bits }; mode = l.remembered })
