-- The reader's own answer.
use Rattle.razvolk.proofs.reader.razvolk_reset_at.Goals as goal

pub returns : goal.returns
returns c = c.reset_at.ensures
