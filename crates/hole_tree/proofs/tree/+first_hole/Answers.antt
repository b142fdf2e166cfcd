use Rattle.std.proofs.Common.{◌≡◌, ◌+◌, ◌-◌, ◌/◌, length, get_or, sym, ap, subst, refl, arith}
use Rattle.hole_tree.specs.declared.node.Node.{Node}
use Rattle.hole_tree.specs.Granules.{HasNoHole, IsFirstHole}
use Rattle.hole_tree.specs.Runs.{front_run, end_run, longest_run}
use Rattle.hole_tree.proofs.Laws.{front_le, end_le}
use Rattle.hole_tree.proofs.Finding.{no_hole_longest, first_left, first_across, first_right, no_hole_joined}
use Rattle.hole_tree.proofs.Trees.{root_node, node_count_some, count_below, left_row, right_row, left_part_tree, right_part_tree}
use Rattle.hole_tree.proofs.tree.+first_hole.Goals as goal

pub returns-then-nodes-n : goal.returns-then-nodes-n
returns-then-nodes-n t c =
    let root : (get_or c.args.nodes.now 0 (record { longest = 0; front = 0; end = 0 })).longest ≡ longest_run c.args.taken.now = ap (λ (n : Node). n.longest) (root_node c.args.height c.args.taken.now c.args.nodes.now (record { longest = 0; front = 0; end = 0 }) c.requires.tree) in
    no_hole_longest c.args.taken.now c.args.n (omega arith)

pub first_hole-requires : goal.first_hole-requires
first_hole-requires t c =
    let height = c.args.height in
    let half = c.half_of-half.result in
    let below = c.split_at-2.result.1.now in
    let both = count_below height half (omega arith) c.half_of-half.ensures.half c.args.nodes.now below c.requires.long c.split_at-2.ensures.back in
    let left_part = left_row c.args.taken.now c.split_at.result.0.now half c.min.result c.split_at.ensures.front c.min.ensures in
    let left = left_part_tree height half (omega arith) c.half_of-half.ensures.half c.args.taken.now c.args.nodes.now below (length below / 2) c.requires.tree c.requires.long c.split_at-2.ensures.back refl c.split_at-3.result.0.now c.split_at.result.0.now c.split_at-3.ensures.front left_part in
    (omega arith, (omega (arith, c.split_at-3.ensures.front_len), (omega arith, (omega (arith, c.split_at.ensures.front_len), (left, c.requires.some)))))

pub returns-in-Some : goal.returns-in-Some
returns-in-Some t c =
    subst (λ row. IsFirstHole row c.args.n c.in-Some.place) (sym c.split_at.ensures.by_index.0) (first_left c.split_at.result.0.now c.split_at.result.1.now c.args.n c.requires.some c.in-Some.place c.in-Some.ensures)

pub bounds-left-0 : goal.bounds-left-0
bounds-left-0 t c =
    let height = c.args.height in
    let half = c.half_of-half.result in
    let below = c.split_at-2.result.1.now in
    let both = count_below height half (omega arith) c.half_of-half.ensures.half c.args.nodes.now below c.requires.long c.split_at-2.ensures.back in
    omega (arith, node_count_some (height - 1), c.split_at-3.ensures.front_len)

pub bounds-right-0 : goal.bounds-right-0
bounds-right-0 t c =
    let height = c.args.height in
    let half = c.half_of-half.result in
    let below = c.split_at-2.result.1.now in
    let both = count_below height half (omega arith) c.half_of-half.ensures.half c.args.nodes.now below c.requires.long c.split_at-2.ensures.back in
    omega (arith, node_count_some (height - 1), c.split_at-3.ensures.back_len)

pub overflow_add-left_node : goal.overflow_add-left_node
overflow_add-left_node t c =
    let height = c.args.height in
    let half = c.half_of-half.result in
    let below = c.split_at-2.result.1.now in
    let both = count_below height half (omega arith) c.half_of-half.ensures.half c.args.nodes.now below c.requires.long c.split_at-2.ensures.back in
    let left_part = left_row c.args.taken.now c.split_at.result.0.now half c.min.result c.split_at.ensures.front c.min.ensures in
    let left = left_part_tree height half (omega arith) c.half_of-half.ensures.half c.args.taken.now c.args.nodes.now below (length below / 2) c.requires.tree c.requires.long c.split_at-2.ensures.back refl c.split_at-3.result.0.now c.split_at.result.0.now c.split_at-3.ensures.front left_part in
    let right_part = right_row c.args.taken.now c.split_at.result.1.now half c.min.result c.split_at.ensures.back c.min.ensures in
    let right = right_part_tree height half (omega arith) c.half_of-half.ensures.half c.args.taken.now c.args.nodes.now below (length below / 2) c.requires.tree c.requires.long c.split_at-2.ensures.back refl c.split_at-3.result.1.now c.split_at.result.1.now c.split_at-3.ensures.back right_part in
    let left_root = root_node (height - 1) c.split_at.result.0.now c.split_at-3.result.0.now (record { longest = 0; front = 0; end = 0 }) left in
    let left_end : (get_or c.split_at-3.result.0.now 0 (record { longest = 0; front = 0; end = 0 })).end ≡ end_run c.split_at.result.0.now = ap (λ (n : Node). n.end) left_root in
    let right_root = root_node (height - 1) c.split_at.result.1.now c.split_at-3.result.1.now (record { longest = 0; front = 0; end = 0 }) right in
    let right_front : (get_or c.split_at-3.result.1.now 0 (record { longest = 0; front = 0; end = 0 })).front ≡ front_run c.split_at.result.1.now = ap (λ (n : Node). n.front) right_root in
    omega (arith, end_le c.split_at.result.0.now, front_le c.split_at.result.1.now, c.split_at.ensures.front_len, c.split_at.ensures.back_len)

pub overflow_sub-result : goal.overflow_sub-result
overflow_sub-result t c =
    let height = c.args.height in
    let half = c.half_of-half.result in
    let below = c.split_at-2.result.1.now in
    let both = count_below height half (omega arith) c.half_of-half.ensures.half c.args.nodes.now below c.requires.long c.split_at-2.ensures.back in
    let left_part = left_row c.args.taken.now c.split_at.result.0.now half c.min.result c.split_at.ensures.front c.min.ensures in
    let left = left_part_tree height half (omega arith) c.half_of-half.ensures.half c.args.taken.now c.args.nodes.now below (length below / 2) c.requires.tree c.requires.long c.split_at-2.ensures.back refl c.split_at-3.result.0.now c.split_at.result.0.now c.split_at-3.ensures.front left_part in
    let left_root = root_node (height - 1) c.split_at.result.0.now c.split_at-3.result.0.now (record { longest = 0; front = 0; end = 0 }) left in
    let left_end : (get_or c.split_at-3.result.0.now 0 (record { longest = 0; front = 0; end = 0 })).end ≡ end_run c.split_at.result.0.now = ap (λ (n : Node). n.end) left_root in
    omega (arith, end_le c.split_at.result.0.now)

pub returns-then-left_node-right_node : goal.returns-then-left_node-right_node
returns-then-left_node-right_node t c =
    let height = c.args.height in
    let half = c.half_of-half.result in
    let below = c.split_at-2.result.1.now in
    let both = count_below height half (omega arith) c.half_of-half.ensures.half c.args.nodes.now below c.requires.long c.split_at-2.ensures.back in
    let left_part = left_row c.args.taken.now c.split_at.result.0.now half c.min.result c.split_at.ensures.front c.min.ensures in
    let left = left_part_tree height half (omega arith) c.half_of-half.ensures.half c.args.taken.now c.args.nodes.now below (length below / 2) c.requires.tree c.requires.long c.split_at-2.ensures.back refl c.split_at-3.result.0.now c.split_at.result.0.now c.split_at-3.ensures.front left_part in
    let right_part = right_row c.args.taken.now c.split_at.result.1.now half c.min.result c.split_at.ensures.back c.min.ensures in
    let right = right_part_tree height half (omega arith) c.half_of-half.ensures.half c.args.taken.now c.args.nodes.now below (length below / 2) c.requires.tree c.requires.long c.split_at-2.ensures.back refl c.split_at-3.result.1.now c.split_at.result.1.now c.split_at-3.ensures.back right_part in
    let left_root = root_node (height - 1) c.split_at.result.0.now c.split_at-3.result.0.now (record { longest = 0; front = 0; end = 0 }) left in
    let left_end : (get_or c.split_at-3.result.0.now 0 (record { longest = 0; front = 0; end = 0 })).end ≡ end_run c.split_at.result.0.now = ap (λ (n : Node). n.end) left_root in
    let right_root = root_node (height - 1) c.split_at.result.1.now c.split_at-3.result.1.now (record { longest = 0; front = 0; end = 0 }) right in
    let right_front : (get_or c.split_at-3.result.1.now 0 (record { longest = 0; front = 0; end = 0 })).front ≡ front_run c.split_at.result.1.now = ap (λ (n : Node). n.front) right_root in
    let place : length c.split_at.result.0.now - end_run c.split_at.result.0.now ≡ length c.split_at.result.0.now - (get_or c.split_at-3.result.0.now 0 (record { longest = 0; front = 0; end = 0 })).end = ap (λ n. length c.split_at.result.0.now - n) (sym left_end) in
    subst (λ row. IsFirstHole row c.args.n (length c.split_at.result.0.now - (get_or c.split_at-3.result.0.now 0 (record { longest = 0; front = 0; end = 0 })).end)) (sym c.split_at.ensures.by_index.0)
    (subst (IsFirstHole _ c.args.n) place (first_across c.split_at.result.0.now c.split_at.result.1.now c.args.n c.requires.some c.in_default.ensures (omega arith)))

pub first_hole-requires-2 : goal.first_hole-requires-2
first_hole-requires-2 t c =
    let height = c.args.height in
    let half = c.half_of-half.result in
    let below = c.split_at-2.result.1.now in
    let both = count_below height half (omega arith) c.half_of-half.ensures.half c.args.nodes.now below c.requires.long c.split_at-2.ensures.back in
    let right_part = right_row c.args.taken.now c.split_at.result.1.now half c.min.result c.split_at.ensures.back c.min.ensures in
    let right = right_part_tree height half (omega arith) c.half_of-half.ensures.half c.args.taken.now c.args.nodes.now below (length below / 2) c.requires.tree c.requires.long c.split_at-2.ensures.back refl c.split_at-3.result.1.now c.split_at.result.1.now c.split_at-3.ensures.back right_part in
    (omega arith, (omega (arith, c.split_at-3.ensures.back_len), (omega arith, (omega (arith, c.split_at.ensures.back_len), (right, c.requires.some)))))

pub returns-in-Some-first_hole : goal.returns-in-Some-first_hole
returns-in-Some-first_hole t c =
    let height = c.args.height in
    let half = c.half_of-half.result in
    let below = c.split_at-2.result.1.now in
    let both = count_below height half (omega arith) c.half_of-half.ensures.half c.args.nodes.now below c.requires.long c.split_at-2.ensures.back in
    let left_part = left_row c.args.taken.now c.split_at.result.0.now half c.min.result c.split_at.ensures.front c.min.ensures in
    let left = left_part_tree height half (omega arith) c.half_of-half.ensures.half c.args.taken.now c.args.nodes.now below (length below / 2) c.requires.tree c.requires.long c.split_at-2.ensures.back refl c.split_at-3.result.0.now c.split_at.result.0.now c.split_at-3.ensures.front left_part in
    let right_part = right_row c.args.taken.now c.split_at.result.1.now half c.min.result c.split_at.ensures.back c.min.ensures in
    let right = right_part_tree height half (omega arith) c.half_of-half.ensures.half c.args.taken.now c.args.nodes.now below (length below / 2) c.requires.tree c.requires.long c.split_at-2.ensures.back refl c.split_at-3.result.1.now c.split_at.result.1.now c.split_at-3.ensures.back right_part in
    let left_root = root_node (height - 1) c.split_at.result.0.now c.split_at-3.result.0.now (record { longest = 0; front = 0; end = 0 }) left in
    let left_end : (get_or c.split_at-3.result.0.now 0 (record { longest = 0; front = 0; end = 0 })).end ≡ end_run c.split_at.result.0.now = ap (λ (n : Node). n.end) left_root in
    let right_root = root_node (height - 1) c.split_at.result.1.now c.split_at-3.result.1.now (record { longest = 0; front = 0; end = 0 }) right in
    let right_front : (get_or c.split_at-3.result.1.now 0 (record { longest = 0; front = 0; end = 0 })).front ≡ front_run c.split_at.result.1.now = ap (λ (n : Node). n.front) right_root in
    subst (λ row. IsFirstHole row c.args.n (length c.split_at.result.0.now + c.in-Some-first_hole.place)) (sym c.split_at.ensures.by_index.0)
    (first_right c.split_at.result.0.now c.split_at.result.1.now c.args.n c.requires.some c.in_default.ensures (omega arith) c.in-Some-first_hole.place c.in-Some-first_hole.ensures)

pub returns-in-None : goal.returns-in-None
returns-in-None t c =
    let height = c.args.height in
    let half = c.half_of-half.result in
    let below = c.split_at-2.result.1.now in
    let both = count_below height half (omega arith) c.half_of-half.ensures.half c.args.nodes.now below c.requires.long c.split_at-2.ensures.back in
    let left_part = left_row c.args.taken.now c.split_at.result.0.now half c.min.result c.split_at.ensures.front c.min.ensures in
    let left = left_part_tree height half (omega arith) c.half_of-half.ensures.half c.args.taken.now c.args.nodes.now below (length below / 2) c.requires.tree c.requires.long c.split_at-2.ensures.back refl c.split_at-3.result.0.now c.split_at.result.0.now c.split_at-3.ensures.front left_part in
    let right_part = right_row c.args.taken.now c.split_at.result.1.now half c.min.result c.split_at.ensures.back c.min.ensures in
    let right = right_part_tree height half (omega arith) c.half_of-half.ensures.half c.args.taken.now c.args.nodes.now below (length below / 2) c.requires.tree c.requires.long c.split_at-2.ensures.back refl c.split_at-3.result.1.now c.split_at.result.1.now c.split_at-3.ensures.back right_part in
    let left_root = root_node (height - 1) c.split_at.result.0.now c.split_at-3.result.0.now (record { longest = 0; front = 0; end = 0 }) left in
    let left_end : (get_or c.split_at-3.result.0.now 0 (record { longest = 0; front = 0; end = 0 })).end ≡ end_run c.split_at.result.0.now = ap (λ (n : Node). n.end) left_root in
    let right_root = root_node (height - 1) c.split_at.result.1.now c.split_at-3.result.1.now (record { longest = 0; front = 0; end = 0 }) right in
    let right_front : (get_or c.split_at-3.result.1.now 0 (record { longest = 0; front = 0; end = 0 })).front ≡ front_run c.split_at.result.1.now = ap (λ (n : Node). n.front) right_root in
    subst (λ row. HasNoHole row c.args.n) (sym c.split_at.ensures.by_index.0)
    (no_hole_joined c.split_at.result.0.now c.split_at.result.1.now c.args.n c.requires.some c.in_default.ensures (omega arith) c.in-None.ensures)
