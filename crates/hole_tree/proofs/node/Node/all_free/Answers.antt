use Rattle.hole_tree.proofs.Nodes.{node_open}
use Rattle.hole_tree.proofs.node.Node.all_free.Goals as goal

pub returns : goal.returns
returns c = node_open c.args.len
