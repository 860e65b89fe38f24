-- All pairs of rows.
use Rattle.std.proofs.Common.{refl, inr, arith}
use Rattle.rules.specs.V0.{sample_kind}
use Rattle.v0_cells.proofs.ExchangeLaws.{pairs_all}
use Rattle.v0_cells.proofs.exchange.exchange.Goals as goal

pub exchange_samples-requires : goal.exchange_samples-requires
exchange_samples-requires c =
    let i = c.requires in
    record { width = i.width; height = i.height; pairs = omega arith; pairs_in = omega arith; samples_lent = i.lent; map_lent = inr refl }

pub returns : goal.returns
returns c = pairs_all sample_kind c.args.size _ _ _ refl c.exchange_samples.ensures
