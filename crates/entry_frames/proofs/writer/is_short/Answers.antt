-- The code's two tests are the definition's.
use borrow.Author.Tests.{lt-ltb, le-ltb}
use Rattle.entry_frames.proofs.writer.is_short.Goals as goal

pub returns-then-stream-length : goal.returns-then-stream-length
returns-then-stream-length c = simp (lt-ltb _ _ c.if-stream-length.true)

pub returns-else-stream-length : goal.returns-else-stream-length
returns-else-stream-length c = simp (le-ltb _ _ c.if-stream-length.false)
