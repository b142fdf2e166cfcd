use Rattle.std.proofs.Common.{arith}
use Rattle.hole_tree.proofs.Trees.{count_below, tree_opened}
use Rattle.hole_tree.proofs.tree.+open.Goals as goal

pub returns : goal.returns
returns t c =
    let left = c.split_at_mut-left.ensures.front_len in
    let both = count_below c.args.height c.half_of.result (omega arith) c.half_of.ensures.half c.args.nodes.now c.split_at_mut-root.result.1.now c.requires.long c.split_at_mut-root.ensures.back in
    tree_opened c.args.height c.half_of.result (omega arith) c.half_of.ensures.half c.args.granules c.min-first.result c.split_at_mut-root.result.0.now c.open.new.nodes c.open-2.new.nodes c.all_free.result
    c.min-first.ensures c.split_at_mut-root.ensures.front_len c.all_free.ensures (omega (arith, c.open.auto.nodes)) c.open.ensures c.open-2.ensures
