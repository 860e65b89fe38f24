-- Each step's ensures in the order of the rules; the directions that the steps read are those that phase one left.
use mathlib.Core.Path.{sym, ◌∙◌}
use borrow.Author.Tests.{eqb-true, eqb-false}
use Rattle.v0_bands.proofs.FrameLaws.{no_steps, some_steps, frame_done}
use Rattle.v0_bands.proofs.decode_frame.Goals as goal

pub store_rows-requires : goal.store_rows-requires
store_rows-requires c =
    let p = c.requires in
    (record { frame = record { width = p.width; height = p.height; lent = p.samples_lent }; directions_lent = p.scratch_lent }, p.offsets_enough)

pub returns-then-is_empty : goal.returns-then-is_empty
returns-then-is_empty c = let both =
    frame_done _ _ _ _ c.requires.cut_fits c.requires.list_good _ _ _ _ _ c.requires.samples_lent (c.store_rows.ensures.samples, c.store_rows.ensures.directions)
    (λ long len. no_steps _ _ _ _ _ (eqb-true _ _ (sym c.is_empty.ensures ∙ c.if-is_empty.true)) c.exchange.ensures) in
    record { samples = both.0; directions = both.1 }

pub returns : goal.returns
returns c = let both =
    frame_done _ _ _ _ c.requires.cut_fits c.requires.list_good _ _ _ _ _ c.requires.samples_lent (c.store_rows.ensures.samples, c.store_rows.ensures.directions)
    (λ long len. some_steps _ _ _ _ _ c.requires.cut_fits c.requires.list_good (eqb-false _ _ (sym c.is_empty.ensures ∙ c.if-is_empty.false)) long len c.add_steps.ensures) in
    record { samples = both.0; directions = both.1 }
