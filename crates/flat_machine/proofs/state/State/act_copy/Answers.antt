use Rattle.std.proofs.Common.{ap, rules, subst, sym, ◌∙◌}
use Rattle.std.proofs.lemmas.Int.{to_z-of_z}
use mir.Syntax.{w128}
use mir.Val.{SFits}
use Rattle.object_meaning.specs.objects.Values.{pointer_at}
use Rattle.flat_objects.specs.Memory.{Memory}
use Rattle.flat_objects.specs.Standing.{IsAddressOf}
use Rattle.flat_objects.specs.Keeping.{KeepsAt}
use Rattle.flat_objects.specs.declared.words.Word.TheVariants.{Address}
use Rattle.flat_machine.specs.Kept.{given}
use Rattle.flat_machine.proofs.Ranged.{at_here, copy_lib_alone, copy_lib_traps}
use Rattle.flat_machine.proofs.state.State.act_copy.Goals as goal

pub returns-in-Ok-clause-leads : goal.returns-in-Ok-clause-leads
returns-in-Ok-clause-leads g c = λ places s h.
    let m = c.args.self.now in
    let fits : SFits w128 c.integer.result = search rules in
    let count = rw (to_z-of_z w128 c.integer.result fits) at c.size_in.ensures.value in
    let to = at_here places s m h 0 c.address-to.result c.address-to.ensures in
    let from = at_here places s m h 1 c.address-from.result c.address-from.ensures in
    copy_lib_alone places s m h c.args.line c.args.r c.copy.new.self.memory c.give_address.new.self c.integer.result c.size_in.result c.address-to.result c.address-to.ensures c.integer.ensures count (c.in-Ok.ensures.changes places s.state.objects (pointer_at s.handed 0) (pointer_at s.handed 1) to from.stands) (c.copy.ensures.tracks places s.state.objects (pointer_at s.handed 0) (pointer_at s.handed 1) to from.stands) c.copy.ensures.frame (c.give_address.ensures ∙ ap (λ k. given k c.args.r (Address c.address-to.result)) c.copy.ensures.others)

pub returns-in-Err-clause-leads : goal.returns-in-Err-clause-leads
returns-in-Err-clause-leads g c = λ places s h.
    let m = c.args.self.now in
    let fits : SFits w128 c.integer.result = search rules in
    let count = rw (to_z-of_z w128 c.integer.result fits) at c.size_in.ensures.value in
    let to = at_here places s m h 0 c.address-to.result c.address-to.ensures in
    let from = at_here places s m h 1 c.address-from.result c.address-from.ensures in
    copy_lib_traps places s m h c.args.line c.args.r c.copy.new.self.memory c.copy.new.self c.integer.result c.size_in.result c.in-Err.kind c.integer.ensures count (c.in-Err.ensures.changes places s.state.objects (pointer_at s.handed 0) (pointer_at s.handed 1) to from.stands)

pub returns-in-Err-clause-unchanged : goal.returns-in-Err-clause-unchanged
returns-in-Err-clause-unchanged g c =
    let q = c.requires.storable in
    let to = subst (KeepsAt c.args.self.now.memory q.0 q.1 q.3) (sym c.address-to.ensures) q.5.at in
    let from = subst (IsAddressOf q.0 q.1 q.4) (sym c.address-from.ensures) q.5.stands in
    c.copy.ensures.others ∙ ap (λ (memory : Memory). record c.args.self.now { memory = memory }) (c.in-Err.ensures.changes q.0 q.1 q.3 q.4 to from).1
