-- It tests the cut and then the list, as the definition does.
use mathlib.Core.Path.{sym, ◌∙◌}
use Rattle.rules_bands.proofs.CheckLaws.{cut_unfit, list_bad, list_fine}
use Rattle.rules_bands.proofs.Cut.refuse_steps.Goals as goal

pub returns-then-not-fits : goal.returns-then-not-fits
returns-then-not-fits c = cut_unfit _ _ (sym c.fits.ensures ∙ c.if-not-fits.true)

pub is_good-requires : goal.is_good-requires
is_good-requires c = (c.requires, sym c.fits.ensures ∙ c.if-not-fits.false)

pub returns-then-not-is_good : goal.returns-then-not-is_good
returns-then-not-is_good c = list_bad _ _ (sym c.fits.ensures ∙ c.if-not-fits.false) (sym c.is_good.ensures ∙ c.if-not-is_good.true)

pub returns : goal.returns
returns c = list_fine _ _ (sym c.fits.ensures ∙ c.if-not-fits.false) (sym c.is_good.ensures ∙ c.if-not-is_good.false)
