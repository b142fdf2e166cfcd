use Rattle.std.proofs.Common.{◌≡◌, ℕ, Ok, ap, rules, subst, sym, ◌∙◌}
use Rattle.std.proofs.lemmas.Int.{to_z-of_z}
use mir.Syntax.{w128}
use mir.Val.{SFits}
use Rattle.hs_base.specs.declared.values.Pointer.{Pointer}
use Rattle.hs_base.specs.declared.values.Pointer.TheVariants as pointer
use Rattle.object_meaning.specs.objects.Values.{number_at, pointer_at, size_in}
use Rattle.object_meaning.specs.code.Entering.{layout_in}
use Rattle.std.specs.Prelude.{IfErr}
use Rattle.object_meaning.specs.code.Freeing.{grow}
use Rattle.flat_machine.specs.Image.{StopsIn}
use Rattle.flat_machine.specs.Standing.{fits_now}
use Rattle.flat_machine.specs.Leading.{Alone}
use Rattle.flat_machine.proofs.WordLists.{integer_at_is}
use Rattle.flat_machine.proofs.Grown.{grow_null}
use Rattle.flat_machine.proofs.state.State.act_growing.Goals as goal

pub returns-then-from-eq0-clause-alone : goal.returns-then-from-eq0-clause-alone
returns-then-from-eq0-clause-alone g c = λ code places s has h counts form.
    let m = c.args.self.now in
    let fits : SFits w128 c.integer.result = search rules in
    let size : c.size_in-size.result ≡ size_in (number_at s.handed 1) = rw (to_z-of_z w128 c.integer.result fits) at c.size_in-size.ensures.value ∙ ap size_in (c.integer.ensures ∙ integer_at_is places s.state.objects s.handed m.handed 1 h.handed) in
    let null = grow_null places s m h c.address-from.result c.address-from.ensures c.if-from-eq0.true in
    let made = c.make.ensures (layout_in code c.args.instr.b) places s h form in
    subst (λ (p : Pointer). Alone places s m (grow code (fits_now places s m) c.args.line c.args.instr.a p (size_in (number_at s.handed 1)) (layout_in code c.args.instr.b) s.numbers s.state) c.make.new.self (Ok tt)) (sym null)
    (subst (λ (n : ℕ). Alone places s m (grow code (fits_now places s m) c.args.line c.args.instr.a pointer.Null n (layout_in code c.args.instr.b) s.numbers s.state) c.make.new.self (Ok tt)) size made)

pub returns-else-from-eq0-clause-alone : goal.returns-else-from-eq0-clause-alone
returns-else-from-eq0-clause-alone g c = λ code places s has h counts form.
    let m = c.args.self.now in
    let fits : SFits w128 c.integer.result = search rules in
    let size : c.size_in-size.result ≡ size_in (number_at s.handed 1) = rw (to_z-of_z w128 c.integer.result fits) at c.size_in-size.ensures.value ∙ ap size_in (c.integer.ensures ∙ integer_at_is places s.state.objects s.handed m.handed 1 h.handed) in
    let grown = c.grow_object.ensures.alone code (layout_in code c.args.instr.b) places s has h counts form in
    subst (λ (n : ℕ). Alone places s m (grow code (fits_now places s m) c.args.line c.args.instr.a (pointer_at s.handed 0) n (layout_in code c.args.instr.b) s.numbers s.state) c.grow_object.new.self c.grow_object.result) size grown

pub returns-else-from-eq0-clause-image : goal.returns-else-from-eq0-clause-image
returns-else-from-eq0-clause-image g c = λ code places s has h counts form.
    let m = c.args.self.now in
    let fits : SFits w128 c.integer.result = search rules in
    let size : c.size_in-size.result ≡ size_in (number_at s.handed 1) = rw (to_z-of_z w128 c.integer.result fits) at c.size_in-size.ensures.value ∙ ap size_in (c.integer.ensures ∙ integer_at_is places s.state.objects s.handed m.handed 1 h.handed) in
    let image = c.grow_object.ensures.image code (layout_in code c.args.instr.b) places s has h counts form in
    subst (λ (n : ℕ). IfErr c.grow_object.result (StopsIn code (grow code (fits_now places s m) c.args.line c.args.instr.a (pointer_at s.handed 0) n (layout_in code c.args.instr.b) s.numbers s.state) c.grow_object.new.self)) size image
