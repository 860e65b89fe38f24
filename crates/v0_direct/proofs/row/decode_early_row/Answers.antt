use mathlib.Core.Path.{refl, ◌≡◌}
use Prim.Native.Nat.{◌+◌, ◌*◌}
use native.Mathlib.Omega.{arith}
use Rattle.rules.specs.V0.{sample_kind}
use Rattle.v0_cells.proofs.CellLaws.{product}
use Rattle.v0_direct.proofs.RowLaws.{none_ran, block_after, rowing_begun, row_block, rowing_on, rowed}
use Rattle.v0_direct.proofs.row.decode_early_row.Goals as goal

pub loop-block-init : goal.loop-block-init
loop-block-init c = rowing_begun _ c.args.size _ _ _ _ _ c.fresh-state.ensures

pub decode_edge-state-requires : goal.decode_edge-state-requires
decode_edge-state-requires c =
    let l = c.loop-block in
    let b = row_block c.args.src.now c.args.size c.args.row c.args.start c.args.out.now c.args.map.now l.out l.map l.state (l.block * 16) (omega arith) c.requires l.invariant in
    block_after b.0 (omega arith) (none_ran c.args.src.now {st = l.state} b.0 b.1) b.1 refl refl

pub overflow_mul-row : goal.overflow_mul-row
overflow_mul-row c =
    let i = c.requires in
    let fit = product c.args.row c.args.size.width (omega (arith, i.row_in, i.height)) (omega (arith, i.width)) in
    record { fits = omega (arith, fit) }

pub overflow_add-row : goal.overflow_add-row
overflow_add-row c =
    let i = c.requires in
    let fit = product c.args.row c.args.size.width (omega (arith, i.row_in, i.height)) (omega (arith, i.width)) in
    record { fits = omega (arith, fit, i.width) }

pub end_block-requires : goal.end_block-requires
end_block-requires c =
    let i = c.requires in
    let fit = product c.args.row c.args.size.width (omega (arith, i.row_in, i.height)) (omega (arith, i.width)) in
    omega (arith, fit, i.width)

pub loop-block-preserved : goal.loop-block-preserved
loop-block-preserved c =
    let a = c.args in
    let n = c.loop-block.block in
    let next : (n + 1) * 16 ≡ n * 16 + 16 = omega arith in
    rw next (rowing_on a.src.now a.size a.row a.start a.out.now a.map.now _ _ _ _ _ _ _ _ (omega arith) c.decode_edge-state.ensures c.end_block.ensures c.loop-block.invariant)

pub returns : goal.returns
returns c = let l = c.loop-block in
    rowed c.args.src.now c.args.size c.args.row c.args.start c.args.out.now c.args.map.now sample_kind l.state (l.block * 16) c.args.out.now l.out (omega arith) l.invariant.samples_left
