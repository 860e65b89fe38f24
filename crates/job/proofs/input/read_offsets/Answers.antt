use mathlib.Core.Path.{◌≡◌, refl}
use lib.ListN.{length-set}
use native.Mathlib.Omega.{arith}
use borrow.Author.Rules.{rules}
use Rattle.job.proofs.OffsetsLaws.{no_offsets, offsets_more}
use Rattle.job.proofs.input.read_offsets.Goals as goal

pub loop-row-init : goal.loop-row-init
loop-row-init c = (omega arith, refl, no_offsets _)

pub loop-row-preserved : goal.loop-row-preserved
loop-row-preserved c = (omega arith, simp length-set c.loop-row.invariant.1, offsets_more _ _ _ c.fetch.result _ (search rules) (search rules) c.fetch.ensures c.unwrap_or.ensures c.loop-row.invariant.2)

pub returns : goal.returns
returns c = let e : c.loop-row.row ≡ c.args.height = omega arith in rw (← e) c.loop-row.invariant.2
