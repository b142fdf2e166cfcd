use Rattle.std.proofs.Common.{ap, rules, ◌∙◌}
use Rattle.std.proofs.lemmas.Int.{to_z-of_z}
use mir.Syntax.{w128}
use mir.Val.{SFits}
use Rattle.object_meaning.specs.objects.Values.{pointer_at}
use Rattle.flat_objects.specs.declared.words.Word.TheVariants.{Address}
use Rattle.flat_machine.specs.Kept.{given}
use Rattle.flat_machine.proofs.Ranged.{at_here, set_lib_alone, set_lib_traps}
use Rattle.flat_machine.proofs.state.State.act_set.Goals as goal

pub returns-in-Ok-clause-leads : goal.returns-in-Ok-clause-leads
returns-in-Ok-clause-leads g c = λ places s h.
    let m = c.args.self.now in
    let fits_byte : SFits w128 c.integer.result = search rules in
    let byte = rw (to_z-of_z w128 c.integer.result fits_byte) at c.byte_in-byte.ensures in
    let fits : SFits w128 c.integer-2.result = search rules in
    let count = rw (to_z-of_z w128 c.integer-2.result fits) at c.size_in.ensures.value in
    let start = at_here places s m h 0 c.address-start.result c.address-start.ensures in
    set_lib_alone places s m h c.args.line c.args.r c.set_bytes.new.self.memory c.give_address.new.self c.integer-2.result c.size_in.result c.integer.result c.byte_in-byte.result c.integer.ensures byte c.address-start.result c.address-start.ensures c.integer-2.ensures count (c.in-Ok.ensures.changes places s.state.objects (pointer_at s.handed 0) start) (c.set_bytes.ensures.tracks places s.state.objects (pointer_at s.handed 0) start) c.set_bytes.ensures.frame (c.give_address.ensures ∙ ap (λ k. given k c.args.r (Address c.address-start.result)) c.set_bytes.ensures.others)

pub returns-in-Err-clause-leads : goal.returns-in-Err-clause-leads
returns-in-Err-clause-leads g c = λ places s h.
    let m = c.args.self.now in
    let fits_byte : SFits w128 c.integer.result = search rules in
    let byte = rw (to_z-of_z w128 c.integer.result fits_byte) at c.byte_in-byte.ensures in
    let fits : SFits w128 c.integer-2.result = search rules in
    let count = rw (to_z-of_z w128 c.integer-2.result fits) at c.size_in.ensures.value in
    let start = at_here places s m h 0 c.address-start.result c.address-start.ensures in
    set_lib_traps places s m h c.args.line c.args.r c.set_bytes.new.self.memory c.set_bytes.new.self c.integer-2.result c.size_in.result c.integer.result c.byte_in-byte.result c.integer.ensures byte c.in-Err.kind c.integer-2.ensures count (c.in-Err.ensures.changes places s.state.objects (pointer_at s.handed 0) start)
