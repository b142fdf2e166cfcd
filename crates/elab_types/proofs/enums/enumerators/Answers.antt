-- Enumerators in turn.
use Rattle.std.proofs.Common.{ℤ}
use Rattle.std.specs.Prelude.{pos}
use Rattle.std.proofs.lemmas.Result.{err_from_is_err_and}
use Rattle.c_tree.specs.declared.tree.Enumerator.{Enumerator}
use Rattle.c_tree.specs.View.{enumerator_tree}
use Rattle.c_tree.specs.StatementView.{trees}
use Rattle.elaboration.specs.Context.{Context, With}
use Rattle.elaboration.specs.Declarators.{enumerators}
use Rattle.elab_types.specs.Steps.{enumerator_step}
use Rattle.elab_types.proofs.Enumerators.{enumerators_go, enumerators_end}
use Rattle.elab_types.proofs.Turns.{left_refused, left_none}
use Rattle.elab_types.proofs.enums.enumerators.Goals as goal

abbrev step : Enumerator → ℤ → Context → With ℤ
step e next c = enumerator_step (enumerator_tree e) next c

pub returns : goal.returns
returns c =
    left_none enumerator_tree step enumerators (λ next d. d) enumerators_end enumerators_go
    c.args.list.now c.loop-part.part-index _ c.loop-part.state
    (enumerators (trees enumerator_tree c.args.list.now) (pos 0) c.args.state.now) c.loop-part-test.false c.loop-part.invariant

pub returns-in_err-next : goal.returns-in_err-next
returns-in_err-next c =
    let p = err_from_is_err_and c.from_residual.result c.from_residual.ensures.1 in
    let from : ℤ → Context × ℤ = λ n. (c.enumerator_of.new.state, n) in
    let to : Unit {0} → Context = λ u. c.enumerator_of.new.state in
    rw (p.1, p.2)
    (left_refused enumerator_tree step enumerators (λ next d. d) enumerators_end enumerators_go from to
    c.args.list.now c.loop-part.part-index c.part-item.result _ c.loop-part.state c.in_err-next.field-0.0
    (enumerators (trees enumerator_tree c.args.list.now) (pos 0) c.args.state.now)
    c.part-item.is c.loop-part-test.true c.loop-part.invariant c.in_err-next.ensures)
