use Rattle.std.proofs.Common.{◌≡◌, ap, arith}
use Rattle.hole_tree.specs.declared.node.Node.{Node}
use Rattle.hole_tree.specs.Runs.{end_run, front_run}
use Rattle.hole_tree.proofs.Laws.{end_le, front_le}
use Rattle.hole_tree.proofs.Nodes.{node_joined}
use Rattle.hole_tree.proofs.node.joined.Goals as goal
use Rattle.hole_tree.proofs.node.joined.Goals.{then-left-left_len, else-left-left_len, then-right-right_len, else-right-right_len}

pub overflow_add-front : goal.overflow_add-front
overflow_add-front c =
    let front : c.args.right.front ≡ front_run c.args.right_part.now = ap (λ (n : Node). n.front) c.requires.right in
    omega (arith, front_le c.args.right_part.now)

pub overflow_add-end : goal.overflow_add-end
overflow_add-end c =
    let end : c.args.left.end ≡ end_run c.args.left_part.now = ap (λ (n : Node). n.end) c.requires.left in
    omega (arith, end_le c.args.left_part.now)

pub overflow_add-across : goal.overflow_add-across
overflow_add-across c =
    let front : c.args.right.front ≡ front_run c.args.right_part.now = ap (λ (n : Node). n.front) c.requires.right in
    let end : c.args.left.end ≡ end_run c.args.left_part.now = ap (λ (n : Node). n.end) c.requires.left in
    omega (arith, front_le c.args.right_part.now, end_le c.args.left_part.now)

pub returns : goal.returns
returns c =
    node_joined c.args.left c.args.right c.args.left_part.now c.args.right_part.now c.max-2.result c.if-left-left_len.front c.if-right-right_len.end c.requires.left c.requires.right (omega arith)
    (λ all. elim c.if-left-left_len.branch [ then-left-left_len w ↦ omega arith | else-left-left_len w ↦ omega arith ])
    (λ some. elim c.if-left-left_len.branch [ then-left-left_len w ↦ omega arith | else-left-left_len w ↦ omega arith ])
    (λ all. elim c.if-right-right_len.branch [ then-right-right_len w ↦ omega arith | else-right-right_len w ↦ omega arith ])
    (λ some. elim c.if-right-right_len.branch [ then-right-right_len w ↦ omega arith | else-right-right_len w ↦ omega arith ])
