-- Two words and the top of a third, moved up by the bits that are read of the first, are 64 bits in a row.
use Rattle.read_window.proofs.WindowLaws.{window_of, window_fits}
use Rattle.read_window.proofs.window.Goals as goal

pub overflow_add-result : goal.overflow_add-result
overflow_add-result c =
    let a = c.args in
    record {
      fits = window_fits a.src.now a.base a.q _ _ _ c.word_there.ensures.0 c.word_there-2.ensures.0 c.word_there-third.ensures.0
          c.word_there.ensures.1 c.word_there-2.ensures.1 c.word_there-third.ensures.1;
    }

pub returns : goal.returns
returns c =
    let a = c.args in
    window_of a.src.now a.base a.q _ _ _ c.word_there.ensures.0 c.word_there-2.ensures.0 c.word_there-third.ensures.0
    c.word_there.ensures.1 c.word_there-2.ensures.1 c.word_there-third.ensures.1
