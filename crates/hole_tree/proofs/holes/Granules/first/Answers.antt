use Rattle.std.proofs.Common.{MatchOption, sym, subst, ◌∙◌, arith}
use Rattle.hole_tree.specs.Granules.{HasNoHole, IsFirstHole}
use Rattle.hole_tree.specs.Tree.{IsTree}
use Rattle.hole_tree.proofs.Refreshing.{nothing_changed}
use Rattle.hole_tree.proofs.holes.Granules.first.Goals as goal

pub returns-then-self : goal.returns-then-self
returns-then-self c =
    subst (λ row. MatchOption c.first_in_part.result (HasNoHole row c.args.n) (IsFirstHole row c.args.n)) (c.as_slice.ensures.value ∙ c.self.view_is) c.first_in_part.ensures

pub first_hole-requires-clause-tree : goal.first_hole-requires-clause-tree
first_hole-requires-clause-tree c =
    let h = c.self.inside in
    let tree : IsTree h.height h.row.items h.nodes.items = nothing_changed h.height h.row.items h.nodes.items h.from h.to c.self.invariant.tree (omega arith) in
    subst (IsTree h.height c.as_slice-3.result.now) (sym c.as_slice-2.ensures.value) (subst (λ row. IsTree h.height row h.nodes.items) (sym c.as_slice-3.ensures.value) tree)

pub returns : goal.returns
returns c =
    subst (λ row. MatchOption c.first_hole.result (HasNoHole row c.args.n) (IsFirstHole row c.args.n)) (c.as_slice-3.ensures.value ∙ c.self.view_is) c.first_hole.ensures
