use Rattle.std.proofs.Common.{ap, rules, ◌∙◌}
use Rattle.std.proofs.lemmas.Int.{to_z-of_z}
use mir.Syntax.{w128}
use mir.Val.{SFits}
use Rattle.object_meaning.specs.objects.Values.{pointer_at}
use Rattle.flat_machine.specs.Kept.{gone_on}
use Rattle.flat_machine.proofs.Ranged.{at_here, clear_alone, clear_traps}
use Rattle.flat_machine.proofs.state.State.clear_range.Goals as goal

pub returns-in-Ok-clause-alone : goal.returns-in-Ok-clause-alone
returns-in-Ok-clause-alone g c = λ code sizes instr places s h.
    let m = c.args.self.now in
    let fits : SFits w128 c.integer.result = search rules in
    let count = rw (to_z-of_z w128 c.integer.result fits) at c.bytes_in-n.ensures in
    let start = at_here places s m h 0 c.address-start.result c.address-start.ensures in
    clear_alone places s m h code sizes c.args.line instr c.set_bytes.new.self.memory c.go_on.new.self c.integer.result c.bytes_in-n.result c.integer.ensures count (c.in-Ok.ensures.changes places s.state.objects (pointer_at s.handed 0) start) (c.set_bytes.ensures.tracks places s.state.objects (pointer_at s.handed 0) start) c.set_bytes.ensures.frame (c.go_on.ensures ∙ ap gone_on c.set_bytes.ensures.others)

pub returns-in-Err-clause-alone : goal.returns-in-Err-clause-alone
returns-in-Err-clause-alone g c = λ code sizes instr places s h.
    let m = c.args.self.now in
    let fits : SFits w128 c.integer.result = search rules in
    let count = rw (to_z-of_z w128 c.integer.result fits) at c.bytes_in-n.ensures in
    let start = at_here places s m h 0 c.address-start.result c.address-start.ensures in
    clear_traps places s m h code sizes c.args.line instr c.set_bytes.new.self.memory c.set_bytes.new.self c.integer.result c.bytes_in-n.result c.in-Err.kind c.integer.ensures count (c.in-Err.ensures.changes places s.state.objects (pointer_at s.handed 0) start)
