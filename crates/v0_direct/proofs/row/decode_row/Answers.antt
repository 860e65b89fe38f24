use native.Mathlib.Omega.{arith}
use Rattle.rules.specs.V0.{sample_kind}
use Rattle.rules.specs.Map.{v0_marks}
use Rattle.v0_direct.proofs.RowLaws.{rowing_begun, row_block, rowing_blocks, rowed, row_read}
use Rattle.v0_direct.proofs.row.decode_row.Goals as goal

pub loop-col-init : goal.loop-col-init
loop-col-init c = rowing_begun _ c.args.size _ _ _ _ _ c.fresh-state.ensures

pub decode_blocks-blocks-requires : goal.decode_blocks-blocks-requires
decode_blocks-blocks-requires c =
    let l = c.loop-col in
    row_block c.args.src.now c.args.size c.args.row c.args.offset c.args.out.now c.args.map.now l.out l.map l.state l.col (omega arith) c.requires l.invariant

pub loop-col-smaller : goal.loop-col-smaller
loop-col-smaller c = let on = c.decode_blocks-blocks.ensures.0 in omega arith

pub loop-col-preserved : goal.loop-col-preserved
loop-col-preserved c =
    let a = c.args in
    rowing_blocks a.src.now a.size a.row a.offset a.out.now a.map.now c.decode_blocks-blocks.ensures.1 c.loop-col.invariant

pub returns : goal.returns
returns c = let l = c.loop-col in record {
  missing = row_read c.args.src.now c.args.size c.args.row c.args.offset c.args.out.now c.args.map.now l.state l.col (omega arith) l.invariant.reader_left;
  samples = rowed c.args.src.now c.args.size c.args.row c.args.offset c.args.out.now c.args.map.now sample_kind l.state l.col c.args.out.now l.out (omega arith) l.invariant.samples_left;
  marks = rowed c.args.src.now c.args.size c.args.row c.args.offset c.args.out.now c.args.map.now v0_marks l.state l.col c.args.map.now l.map (omega arith) l.invariant.marks_left;
}
