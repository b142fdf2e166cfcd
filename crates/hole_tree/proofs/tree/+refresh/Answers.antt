use Rattle.std.proofs.Common.{◌-◌, sym, ap, subst, refl, ◌∙◌, arith}
use Rattle.hole_tree.specs.Runs.{summary}
use Rattle.hole_tree.specs.Tree.{IsTree}
use Rattle.hole_tree.proofs.Trees.{root_node, node_count_some, count_below, left_row, right_row, tree_closed}
use Rattle.hole_tree.proofs.Refreshing.{left_was, right_was, left_is_tree, right_is_tree}
use Rattle.hole_tree.proofs.tree.+refresh.Goals as goal
use Rattle.hole_tree.proofs.tree.+refresh.Goals.{then-from-half, else-from-half, then-to-half, else-to-half}

pub refresh-requires : goal.refresh-requires
refresh-requires t c =
    let height = c.args.height in
    let half = c.half_of-half.result in
    let below = c.split_at_mut-root.result.1.now in
    let both = count_below height half (omega arith) c.half_of-half.ensures.half c.args.nodes.now below c.requires.long c.split_at_mut-root.ensures.back in
    let was = left_was height half (omega arith) c.half_of-half.ensures.half c.args.taken.now c.args.nodes.now below c.args.from c.args.to c.min.result c.requires.tree c.requires.long c.split_at_mut-root.ensures.back c.min.ensures
    c.split_at.result.0.now c.split_at_mut-left.result.0.now c.min-then-from-half.result c.split_at.ensures.front c.split_at_mut-left.ensures.front c.min-then-from-half.ensures in
    (omega arith, (omega (arith, c.split_at_mut-left.ensures.front_len), (omega arith, (omega (arith, c.split_at.ensures.front_len), was))))

pub refresh-requires-then-to-half : goal.refresh-requires-then-to-half
refresh-requires-then-to-half t c =
    let height = c.args.height in
    let half = c.half_of-half.result in
    let below = c.split_at_mut-root.result.1.now in
    let both = count_below height half (omega arith) c.half_of-half.ensures.half c.args.nodes.now below c.requires.long c.split_at_mut-root.ensures.back in
    let was = right_was height half (omega arith) c.half_of-half.ensures.half c.args.taken.now c.args.nodes.now below c.args.from c.args.to c.min.result c.requires.tree c.requires.long c.split_at_mut-root.ensures.back c.min.ensures
    c.split_at.result.1.now c.split_at_mut-left.result.1.now c.saturating_sub.result (c.args.to - half) c.split_at.ensures.back c.split_at_mut-left.ensures.back c.saturating_sub.ensures refl in
    (omega arith, (omega (arith, c.split_at_mut-left.ensures.back_len), (omega arith, (omega (arith, c.split_at.ensures.back_len), was))))

pub slice_copy_out-left_node : goal.slice_copy_out-left_node
slice_copy_out-left_node t c =
    let some = node_count_some (c.args.height - 1) in
    let both = count_below c.args.height c.half_of-half.result (omega arith) c.half_of-half.ensures.half c.args.nodes.now c.split_at_mut-root.result.1.now c.requires.long c.split_at_mut-root.ensures.back in
    omega (arith, c.split_at_mut-left.ensures.front_len, c.if-from-half.auto.left)

pub slice_copy_out-right_node : goal.slice_copy_out-right_node
slice_copy_out-right_node t c =
    let some = node_count_some (c.args.height - 1) in
    let both = count_below c.args.height c.half_of-half.result (omega arith) c.half_of-half.ensures.half c.args.nodes.now c.split_at_mut-root.result.1.now c.requires.long c.split_at_mut-root.ensures.back in
    omega (arith, c.split_at_mut-left.ensures.back_len, c.if-to-half.auto.right)

pub joined-requires-clause-left : goal.joined-requires-clause-left
joined-requires-clause-left t c =
    let height = c.args.height in
    let part = c.split_at.result.0.now in
    let below = c.split_at_mut-root.result.1.now in
    root_node (height - 1) part c.if-from-half.left _
    (elim c.if-from-half.branch [
      | then-from-half w ↦ subst (IsTree (height - 1) part) (sym w.left-is) w.refresh.ensures
      | else-from-half w ↦ subst (IsTree (height - 1) part) (sym w.left-is) (left_is_tree height c.half_of-half.result (omega arith) c.half_of-half.ensures.half c.args.taken.now c.args.nodes.now below c.args.from c.args.to c.min.result c.requires.tree c.requires.long c.split_at_mut-root.ensures.back c.min.ensures
          part c.split_at_mut-left.result.0.now c.split_at.ensures.front c.split_at_mut-left.ensures.front w.if-from-half.false)
    ])

pub joined-requires-clause-right : goal.joined-requires-clause-right
joined-requires-clause-right t c =
    let height = c.args.height in
    let part = c.split_at.result.1.now in
    let below = c.split_at_mut-root.result.1.now in
    root_node (height - 1) part c.if-to-half.right _
    (elim c.if-to-half.branch [
      | then-to-half w ↦ subst (IsTree (height - 1) part) (sym w.right-is) w.refresh-then-to-half.ensures
      | else-to-half w ↦ subst (IsTree (height - 1) part) (sym w.right-is) (right_is_tree height c.half_of-half.result (omega arith) c.half_of-half.ensures.half c.args.taken.now c.args.nodes.now below c.args.from c.args.to c.min.result c.requires.tree c.requires.long c.split_at_mut-root.ensures.back c.min.ensures
          part c.split_at_mut-left.result.1.now c.split_at.ensures.back c.split_at_mut-left.ensures.back w.if-to-half.false)
    ])

pub returns : goal.returns
returns t c =
    let height = c.args.height in
    let half = c.half_of-half.result in
    let row = c.args.taken.now in
    let below = c.split_at_mut-root.result.1.now in
    let both = count_below height half (omega arith) c.half_of-half.ensures.half c.args.nodes.now below c.requires.long c.split_at_mut-root.ensures.back in
    let left_part = left_row row c.split_at.result.0.now half c.min.result c.split_at.ensures.front c.min.ensures in
    let right_part = right_row row c.split_at.result.1.now half c.min.result c.split_at.ensures.back c.min.ensures in
    let left : IsTree (height - 1) c.split_at.result.0.now c.if-from-half.left = elim c.if-from-half.branch [
      | then-from-half w ↦ subst (IsTree (height - 1) c.split_at.result.0.now) (sym w.left-is) w.refresh.ensures
      | else-from-half w ↦ subst (IsTree (height - 1) c.split_at.result.0.now) (sym w.left-is) (left_is_tree height half (omega arith) c.half_of-half.ensures.half row c.args.nodes.now below c.args.from c.args.to c.min.result c.requires.tree c.requires.long c.split_at_mut-root.ensures.back c.min.ensures
          c.split_at.result.0.now c.split_at_mut-left.result.0.now c.split_at.ensures.front c.split_at_mut-left.ensures.front w.if-from-half.false)
    ] in
    let right : IsTree (height - 1) c.split_at.result.1.now c.if-to-half.right = elim c.if-to-half.branch [
      | then-to-half w ↦ subst (IsTree (height - 1) c.split_at.result.1.now) (sym w.right-is) w.refresh-then-to-half.ensures
      | else-to-half w ↦ subst (IsTree (height - 1) c.split_at.result.1.now) (sym w.right-is) (right_is_tree height half (omega arith) c.half_of-half.ensures.half row c.args.nodes.now below c.args.from c.args.to c.min.result c.requires.tree c.requires.long c.split_at_mut-root.ensures.back c.min.ensures
          c.split_at.result.1.now c.split_at_mut-left.result.1.now c.split_at.ensures.back c.split_at_mut-left.ensures.back w.if-to-half.false)
    ] in
    tree_closed height half (omega arith) c.half_of-half.ensures.half row c.split_at_mut-root.result.0.now c.if-from-half.left c.if-to-half.right c.joined.result
    c.split_at_mut-root.ensures.front_len
    (c.joined.ensures ∙ ap summary (sym c.split_at.ensures.by_index.0))
    (omega (arith, c.split_at_mut-left.ensures.front_len, c.if-from-half.auto.left))
    (subst (λ xs. IsTree (height - 1) xs c.if-from-half.left) left_part left)
    (subst (λ xs. IsTree (height - 1) xs c.if-to-half.right) right_part right)
