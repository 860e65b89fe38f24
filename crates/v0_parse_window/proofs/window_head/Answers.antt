-- Each length is what the record that stands there reads, and leaves it so many bits on.
use Rattle.std.proofs.Common.{◌≤◌, eqb, get_or, pos, ap, arith, w32, rules}
use mir.ValLaws.{to_z-of_z}
use Rattle.v0_parse_window.proofs.WindowHeadLaws.{left_of, head_made}
use Rattle.v0_parse_window.proofs.window_head.Goals as goal
use Rattle.v0_parse_window.proofs.window_head.Goals.{After-window_length-a, After-window_length-b, After-window_length-c, After-window_length-d}

pub window_length-a-requires : goal.window_length-a-requires
window_length-a-requires c =
    (omega arith, (omega arith, (omega arith, rw (to_z-of_z w32 (get_or c.args.lengths 0 (pos 0)) (search rules)) (c.requires.1.each 0))))

-- How much of the window is left after each length.
after_first : (c : After-window_length-a) → (51 ≤ c.window_length-a.result.left) × (c.window_length-a.result.left ≤ 55)
after_first c =
    let w = left_of _ _ _ _ _ c.window_length-a.ensures in
    (omega arith, omega arith)

after_second : (c : After-window_length-b) → (47 ≤ c.window_length-b.result.left) × (c.window_length-b.result.left ≤ 55)
after_second c =
    let w = left_of _ _ _ _ _ c.window_length-a.ensures in
    let x = left_of _ _ _ _ _ c.window_length-b.ensures in
    (omega arith, omega arith)

after_third : (c : After-window_length-c) → (43 ≤ c.window_length-c.result.left) × (c.window_length-c.result.left ≤ 55)
after_third c =
    let w = left_of _ _ _ _ _ c.window_length-a.ensures in
    let x = left_of _ _ _ _ _ c.window_length-b.ensures in
    let y = left_of _ _ _ _ _ c.window_length-c.ensures in
    (omega arith, omega arith)

after_fourth : (c : After-window_length-d) → (39 ≤ c.window_length-d.result.left) × (c.window_length-d.result.left ≤ 55)
after_fourth c =
    let w = left_of _ _ _ _ _ c.window_length-a.ensures in
    let x = left_of _ _ _ _ _ c.window_length-b.ensures in
    let y = left_of _ _ _ _ _ c.window_length-c.ensures in
    let z = left_of _ _ _ _ _ c.window_length-d.ensures in
    (omega arith, omega arith)

pub window_length-b-requires : goal.window_length-b-requires
window_length-b-requires c =
    let left = after_first (goal.at.window_length-b-requires c).After-window_length-a in
    (omega arith, (omega arith, (omega arith, rw (to_z-of_z w32 (get_or c.args.lengths 1 (pos 0)) (search rules)) (c.requires.1.each 1))))

pub window_length-c-requires : goal.window_length-c-requires
window_length-c-requires c =
    let left = after_second (goal.at.window_length-c-requires c).After-window_length-b in
    (omega arith, (omega arith, (omega arith, rw (to_z-of_z w32 (get_or c.args.lengths 2 (pos 0)) (search rules)) (c.requires.1.each 2))))

pub window_length-d-requires : goal.window_length-d-requires
window_length-d-requires c =
    let left = after_third (goal.at.window_length-d-requires c).After-window_length-c in
    (omega arith, (omega arith, (omega arith, rw (to_z-of_z w32 (get_or c.args.lengths 3 (pos 0)) (search rules)) (c.requires.1.each 3))))

pub overflow_sub-result : goal.overflow_sub-result
overflow_sub-result c = let left = after_fourth (goal.at.overflow_sub-result c).After-window_length-d in omega arith

pub overflow_add-result : goal.overflow_add-result
overflow_add-result c =
    let left = after_fourth (goal.at.overflow_add-result c).After-window_length-d in
    let soon = c.requires.0.soon in omega arith

pub returns : goal.returns
returns c =
    head_made c.args.src.now c.args.base c.args.q _ c.requires.0 c.window-v.ensures c.args.lengths _
    c.window_length-a.result c.window_length-b.result c.window_length-c.result c.window_length-d.result (search rules) c.requires.1 (ap (λ x. eqb x 1) c.field.ensures)
    c.window_length-a.ensures c.window_length-b.ensures c.window_length-c.ensures c.window_length-d.ensures
