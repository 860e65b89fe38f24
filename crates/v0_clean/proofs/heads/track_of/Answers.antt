-- The record stands in the stream, so that its place says the same.
use native.Mathlib.Omega.{arith}
use Rattle.v0_clean.proofs.HeadsLaws.{track_made}
use Rattle.v0_clean.proofs.heads.track_of.Goals as goal

pub overflow_sub-base : goal.overflow_sub-base
overflow_sub-base c = c.requires.standing.fetched

pub overflow_sub-result : goal.overflow_sub-result
overflow_sub-result c = let few = c.requires.standing.few in omega arith

pub packed-requires : goal.packed-requires
packed-requires c = c.requires.few

pub overflow_sub-src : goal.overflow_sub-src
overflow_sub-src c = let x = c.requires.standing in omega (arith, x.there)

pub last_start-requires : goal.last_start-requires
last_start-requires c = let x = c.requires.standing in omega (arith, x.there)

pub returns : goal.returns
returns c = track_made c.requires c.packed.ensures c.last_start.ensures
