-- Blanking's contract, and then the writer's of what it left.
use Rattle.entry_frames.proofs.ExportLaws.{refused_yields, written_yields}
use Rattle.entry_frames.proofs.export.export_v0.Goals as goal

pub returns-then-answer-ne0 : goal.returns-then-answer-ne0
returns-then-answer-ne0 c =
    let a = c.args in
    refused_yields a.samples.now a.map.now a.width a.height a.runs.now a.stream.now a.offsets.now _ _ _ c.blank_with-blanked.ensures c.if-answer-ne0.true

pub returns : goal.returns
returns c =
    let a = c.args in
    written_yields a.samples.now a.map.now a.width a.height a.runs.now a.stream.now a.offsets.now _ _ _ c.blank_with-blanked.ensures c.if-answer-ne0.false _ _ _ c.write_v0-written.ensures
