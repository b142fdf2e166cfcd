use Rattle.std.proofs.Common.{◌∙◌, Ok, Result, ap, sym, subst, rules, not}
use Rattle.std.proofs.lemmas.Int.{to_z-of_z}
use mir.Syntax.{w128}
use mir.Val.{SFits}
use Rattle.hs_base.specs.declared.values.Value.{Value}
use Rattle.hs_base.specs.Access.{Refusal}
use Rattle.object_meaning.specs.objects.Arithmetic.{pointers_compared, truth}
use Rattle.object_meaning.specs.objects.Values.{number}
use Rattle.flat_objects.specs.Memory.{IsMemory}
use Rattle.flat_objects.proofs.Equal.{equal_is}
use Rattle.flat_objects.proofs.memory.FlatObjects.compare.Goals as goal

pub returns-in-Eq-clause-compares : goal.returns-in-Eq-clause-compares
returns-in-Eq-clause-compares g c = λ places objects a b at q.
    let shape = subst (IsMemory c.self.inside.locals_from c.self.inside.heap_from) c.self.view_is c.self.invariant in
    let fits : SFits w128 c.truth.result = search rules in
    let equal = equal_is c.self.inside.locals_from c.self.inside.heap_from c.args.self.now shape places objects at.keeps a b c.args.p c.args.q at.stands q in
    ap (λ o. pointers_compared o a b) c.in-Eq.is
    ∙ ap (λ v. let r : Result Value Refusal = Ok v in r) (ap truth equal ∙ sym c.truth.ensures.value ∙ ap number (sym (to_z-of_z w128 c.truth.result fits)))

pub returns-in-Ne-clause-compares : goal.returns-in-Ne-clause-compares
returns-in-Ne-clause-compares g c = λ places objects a b at q.
    let shape = subst (IsMemory c.self.inside.locals_from c.self.inside.heap_from) c.self.view_is c.self.invariant in
    let fits : SFits w128 c.truth-in-Ne.result = search rules in
    let equal = equal_is c.self.inside.locals_from c.self.inside.heap_from c.args.self.now shape places objects at.keeps a b c.args.p c.args.q at.stands q in
    ap (λ o. pointers_compared o a b) c.in-Ne.is
    ∙ ap (λ v. let r : Result Value Refusal = Ok v in r) (ap (λ e. truth (not e)) equal ∙ sym c.truth-in-Ne.ensures.value ∙ ap number (sym (to_z-of_z w128 c.truth-in-Ne.result fits)))
