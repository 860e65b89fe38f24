-- What `put_text` makes is the text of some whole input: the bytes read, or these and more.
use lib.Seq.{length-take-le}
use Rattle.job_file.proofs.Whole.{some_input}
use Rattle.job_file.proofs.read_job.Goals as goal

pub returns-clause-done : goal.returns-clause-done
returns-clause-done g c =
    some_input _ _ _ _ _ (λ e. rw (length-take-le _ _ c.in_ok-n.ensures) (c.in_ok-more.ensures e)) c.put_text.ensures
