-- An enumerator of the tree, with its value or without one.
use Rattle.std.proofs.Common.{sym, subst, ℤ}
use Rattle.std.specs.Int.{w128}
use Rattle.std.proofs.lemmas.Int.{to_z-of_z}
use Rattle.c_decls.specs.Refusals.{Meets}
use Rattle.elaboration.specs.Context.{With}
use Rattle.elab_types.proofs.Enumerators.{step_is}
use Rattle.elab_types.proofs.enums.enumerator_of.Goals as goal

pub returns : goal.returns
returns c =
    let whole = step_is c.args.part.now c.args.next c.args.state.now in
    let h = rw (c.inside-value.ensures, c.as_slice.ensures, to_z-of_z w128 c.args.next c.ranges.next) at c.enumerator_by.ensures in
    subst (λ (w : With ℤ). Meets (λ (n : ℤ). (c.enumerator_by.new.state, n)) c.enumerator_by.result w) (sym whole) h
