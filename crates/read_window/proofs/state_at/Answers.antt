-- Position, word and count are those of the definition; the word is there to be read.
use Rattle.read_window.proofs.state_at.Goals as goal

pub returns : goal.returns
returns c = cc c.word_there.ensures.0
