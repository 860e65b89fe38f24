-- Each group ends where the next begins, and is stored after the one before.
use Rattle.std.proofs.Common.{subst, arith}
use Rattle.v0_parse_window.specs.ByWindow.{Ends}
use Rattle.v0_lanes.specs.Lengths.{byte0, byte1, byte2, byte3}
use Rattle.v0_lanes.proofs.BlockLaws.{endings, group_room, block_ends, block_stored, block_listed}
use Rattle.v0_lanes.proofs.blocks.store_block.Goals as goal

pub lanes_at-requires : goal.lanes_at-requires
lanes_at-requires c = let p = c.requires in let e = endings c.args.q c.args.l.bytes _ _ _ _ c.ends_of-e.ensures.first_value c.ends_of-e.ensures.second_value c.ends_of-e.ensures.third_value c.ends_of-e.ensures.fourth_value in
    record {
      n_bound = (c.args.l.packed.first, p.0);
      n_bound_2 = group_room p.1.0 _ (byte0 c.args.l.bytes) (omega (arith, e.first)) (omega (arith, e.first, c.args.l.packed));
    }

pub lanes_at-requires-2 : goal.lanes_at-requires-2
lanes_at-requires-2 c = let p = c.requires in let e = endings c.args.q c.args.l.bytes _ _ _ _ c.ends_of-e.ensures.first_value c.ends_of-e.ensures.second_value c.ends_of-e.ensures.third_value c.ends_of-e.ensures.fourth_value in
    record {
      n_bound = (c.args.l.packed.second, p.0);
      n_bound_2 = group_room p.1.0 _ (byte1 c.args.l.bytes) (omega (arith, e.second)) (omega (arith, e.second, c.args.l.packed));
    }

pub lanes_at-requires-3 : goal.lanes_at-requires-3
lanes_at-requires-3 c = let p = c.requires in let e = endings c.args.q c.args.l.bytes _ _ _ _ c.ends_of-e.ensures.first_value c.ends_of-e.ensures.second_value c.ends_of-e.ensures.third_value c.ends_of-e.ensures.fourth_value in
    record {
      n_bound = (c.args.l.packed.third, p.0);
      n_bound_2 = group_room p.1.0 _ (byte2 c.args.l.bytes) (omega (arith, e.third)) (omega (arith, e.third, c.args.l.packed));
    }

pub overflow_add-first-3 : goal.overflow_add-first-3
overflow_add-first-3 c = record { fits = omega (arith, c.requires.1.1) }

pub lanes_at-requires-4 : goal.lanes_at-requires-4
lanes_at-requires-4 c = let p = c.requires in let e = endings c.args.q c.args.l.bytes _ _ _ _ c.ends_of-e.ensures.first_value c.ends_of-e.ensures.second_value c.ends_of-e.ensures.third_value c.ends_of-e.ensures.fourth_value in
    record {
      n_bound = (c.args.l.packed.fourth, p.0);
      n_bound_2 = group_room p.1.0 _ (byte3 c.args.l.bytes) (omega (arith, e.fourth)) (omega (arith, e.fourth, c.args.l.packed));
    }

pub store_lanes-requires-4 : goal.store_lanes-requires-4
store_lanes-requires-4 c = omega (arith, c.requires.1.1, c.store_lanes-3.auto.out, c.store_lanes-2.auto.out, c.store_lanes.auto.out)

pub returns : goal.returns
returns c =
    let p = c.requires in
    let e = endings c.args.q c.args.l.bytes _ _ _ _ c.ends_of-e.ensures.first_value c.ends_of-e.ensures.second_value c.ends_of-e.ensures.third_value c.ends_of-e.ensures.fourth_value in
    let ends = block_ends c.args.l.packed p.1.0 e _ _ _ _ c.lanes_at.ensures c.lanes_at-2.ensures c.lanes_at-3.ensures c.lanes_at-4.ensures in
    let kept = block_stored c.args.l.packed p.1.0 e _ _ _ _ c.lanes_at.ensures c.lanes_at-2.ensures c.lanes_at-3.ensures c.lanes_at-4.ensures in
    let all = block_listed c.args.l.packed p.1.0 e _ _ _ _ c.lanes_at.ensures c.lanes_at-2.ensures c.lanes_at-3.ensures c.lanes_at-4.ensures in
    record {
      ends = λ up. subst (Ends _ _ _) e.fourth (ends up);
      out_after = λ up. kept up _ _ _ _ _ _ c.store_lanes.ensures c.store_lanes-2.ensures c.store_lanes-3.ensures c.store_lanes-4.ensures;
      l_value = all;
    }
