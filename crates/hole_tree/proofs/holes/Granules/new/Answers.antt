use Rattle.std.proofs.Common.{◌≡◌, false, length, replicate, sym, ap, subst, ◌∙◌, arith}
use Rattle.std.specs.Vec.{with_items}
use Rattle.std.proofs.lemmas.List.{with_items_is}
use Rattle.hole_tree.specs.Tree.{IsTree}
use Rattle.hole_tree.proofs.Trees.{node_count_is}
use Rattle.hole_tree.proofs.Refreshing.{is_still_tree}
use Rattle.hole_tree.proofs.holes.Granules.new.Goals as goal

pub open-requires-clause-long : goal.open-requires-clause-long
open-requires-clause-long c =
    omega (arith, node_count_is c.height_for-height.result, c.as_mut_slice.ensures.len, c.in_ok-nodes.ensures.len, c.pow.ensures)

pub invariant_of-result : goal.invariant_of-result
invariant_of-result c =
    let height = c.height_for-height.result in
    let row : c.in_ok-vec.field-0.items ≡ replicate c.args.granules false = c.in_ok-vec.ensures.items_if_clones_equal (λ y clone. clone) in
    let nodes : (with_items c.in_ok-nodes.nodes c.open.new.nodes).items ≡ c.open.new.nodes = with_items_is c.in_ok-nodes.nodes c.open.new.nodes (omega (arith, c.open.auto.nodes, c.as_mut_slice.ensures.len)) in
    record {
      most = c.height_for-height.ensures.most;
      fits = omega (arith, c.in_ok-vec.ensures.len, c.in_ok-vec.field-0.ok.0);
      long = ap length nodes ∙ omega (arith, node_count_is height, c.in_ok-nodes.ensures.len, c.pow.ensures, c.open.auto.nodes, c.as_mut_slice.ensures.len);
      inside = omega arith;
      tree = is_still_tree height c.in_ok-vec.field-0.items _ 0 0 (subst (IsTree height c.in_ok-vec.field-0.items) (sym nodes) (subst (λ l. IsTree height l c.open.new.nodes) (sym row) c.open.ensures));
    }
