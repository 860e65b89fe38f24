-- The four words are the header's bytes.
use Rattle.write_frame.proofs.FrameLaws.{header_law}
use Rattle.write_frame.proofs.write.write_header.Goals as goal

pub returns : goal.returns
returns c =
    let a = c.args in header_law a.out.now _ _ _ _ c.store.ensures c.store-2.ensures c.store-3.ensures c.store-4.ensures
