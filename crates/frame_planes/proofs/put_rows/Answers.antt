use Prim.Native.Nat.{◌+◌, ◌*◌}
use native.Mathlib.Omega.{arith}
use Rattle.frame_planes.proofs.HalfLaws.{put_none, put_more, put_all}
use Rattle.frame_planes.proofs.FrameLaws.{row_room, parity_row, parity_rows, parity_row_length, put_lent}
use Rattle.frame_planes.proofs.put_rows.Goals as goal

pub loop-k-init : goal.loop-k-init
loop-k-init c = put_none _ _ _ _

pub overflow_mul-at-in-loop-k : goal.overflow_mul-at-in-loop-k
overflow_mul-at-in-loop-k c = omega (arith, row_room c.args.size (2 * c.loop-k.k + c.args.parity) c.requires.within (omega (arith, c.requires.bit)), c.requires.read)

pub overflow_add-end : goal.overflow_add-end
overflow_add-end c = omega (arith, row_room c.args.size (2 * c.loop-k.k + c.args.parity) c.requires.within (omega (arith, c.requires.bit)), c.requires.read)

pub offset_bounds-samples-at : goal.offset_bounds-samples-at
offset_bounds-samples-at c = omega (arith, row_room c.args.size (2 * c.loop-k.k + c.args.parity) c.requires.within (omega (arith, c.requires.bit)), c.requires.read)

pub slice_bounds-put_row-count : goal.slice_bounds-put_row-count
slice_bounds-put_row-count c = omega (arith, row_room c.args.size (2 * c.loop-k.k + c.args.parity) c.requires.within (omega (arith, c.requires.bit)), c.requires.read)

pub slice_bounds-put_row-start : goal.slice_bounds-put_row-start
slice_bounds-put_row-start c = omega (arith, row_room c.args.size (2 * c.loop-k.k + c.args.parity) c.requires.within (omega (arith, c.requires.bit)), c.requires.read)

pub slice_bounds-put_row-end : goal.slice_bounds-put_row-end
slice_bounds-put_row-end c = omega (arith, row_room c.args.size (2 * c.loop-k.k + c.args.parity) c.requires.within (omega (arith, c.requires.bit)), c.requires.read)

pub put_row-requires : goal.put_row-requires
put_row-requires c =
    let l = c.loop-k in
    put_lent _ _ l.k _ _ l.half c.requires (omega arith) l.invariant.kept

pub loop-k-preserved : goal.loop-k-preserved
loop-k-preserved c =
    let a = c.args in
    let p = c.requires in
    let l = c.loop-k in
    put_more _ _ (parity_rows a.size a.parity a.samples.now p.bit) (omega (arith, l.invariant.kept, p.written)) (omega arith)
    (parity_row a.size a.parity l.k a.samples.now (omega (arith, p.bit)))
    (parity_row_length a.size a.parity l.k a.samples.now a.half.now l.half p (omega arith) l.invariant.kept)
    c.put_row.ensures l.invariant

pub returns : goal.returns
returns c =
    let a = c.args in
    let p = c.requires in
    put_all (parity_rows a.size a.parity a.samples.now p.bit) p.written (omega arith) c.loop-k.invariant
