-- The tests come in the sequence 16, 9, 10, and nothing is written before the last of them is passed.
use mathlib.Core.Path.{sym, ◌∙◌}
use native.Mathlib.Omega.{arith}
use Rattle.entry_convert.proofs.ConvertLaws.{marked_wrote, bright_wrote, writable, short_wrote, done_wrote}
use Rattle.entry_convert.proofs.convert.write_decoded.Goals as goal

pub returns-then-is_marked : goal.returns-then-is_marked
returns-then-is_marked c = let both = marked_wrote _ _ _ _ _ (sym c.is_marked.ensures ∙ c.if-is_marked.true) c.from.ensures in
    record { answered = both.0; stream = both.1 }

pub returns-then-is_too_bright : goal.returns-then-is_too_bright
returns-then-is_too_bright c = let both = bright_wrote _ _ _ _ _ (sym c.is_marked.ensures ∙ c.if-is_marked.false) (sym c.is_too_bright.ensures ∙ c.if-is_too_bright.true) c.from-then-is_too_bright.ensures in
    record { answered = both.0; stream = both.1 }

pub v2_length-length-requires : goal.v2_length-length-requires
v2_length-length-requires c = writable c.requires (sym c.is_too_bright.ensures ∙ c.if-is_too_bright.false)

pub returns-then-stream-length : goal.returns-then-stream-length
returns-then-stream-length c = let both =
    short_wrote _ _ _ _ _ (sym c.is_marked.ensures ∙ c.if-is_marked.false) (sym c.is_too_bright.ensures ∙ c.if-is_too_bright.false) c.v2_length-length.ensures (omega arith) c.from-then-stream-length.ensures in
    record { answered = both.0; stream = both.1 }

pub write_v2-requires : goal.write_v2-requires
write_v2-requires c =
    (writable c.requires (sym c.is_too_bright.ensures ∙ c.if-is_too_bright.false), omega (arith, c.v2_length-length.ensures))

pub returns : goal.returns
returns c = let both =
    done_wrote _ _ _ _ _ (sym c.is_marked.ensures ∙ c.if-is_marked.false) (sym c.is_too_bright.ensures ∙ c.if-is_too_bright.false) c.v2_length-length.ensures (omega arith) c.done.ensures c.write_v2.ensures in
    record { answered = both.0; stream = both.1 }
