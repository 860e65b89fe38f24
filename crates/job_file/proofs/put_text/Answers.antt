-- Each branch is the call that the definition has for it.
use Rattle.job_file.specs.Read.{text_of}
use Rattle.job_file.proofs.put_text.Goals as goal

pub returns-then-more : goal.returns-then-more
unfolding text_of
returns-then-more c = rw c.if-more.true c.run_longer.ensures.text

pub returns : goal.returns
unfolding text_of
returns c = rw c.if-more.false c.run.ensures
