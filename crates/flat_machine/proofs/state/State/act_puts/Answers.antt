use Rattle.std.proofs.Common.{sym, subst}
use Rattle.object_meaning.specs.objects.Values.{pointer_at}
use Rattle.flat_objects.specs.Standing.{IsAddressOf}
use Rattle.flat_objects.specs.Keeping.{IsKept}
use Rattle.flat_machine.proofs.WordLists.{address_at_is}
use Rattle.flat_machine.proofs.Prints.{puts_seen, puts_moves, puts_ends, counts_put}
use Rattle.flat_machine.proofs.state.State.act_puts.Goals as goal

pub put_line-requires-clause-kept : goal.put_line-requires-clause-kept
put_line-requires-clause-kept g c = subst (λ addr. IsKept c.args.self.now.memory addr) (sym c.address.ensures) c.requires.kept

pub returns-in-Ok-clause-told : goal.returns-in-Ok-clause-told
returns-in-Ok-clause-told g c = λ places s taken h t.
    let stands = subst (λ addr. IsAddressOf places s.state.objects (pointer_at s.handed 0) addr) (sym c.address.ensures) (address_at_is places s.state.objects s.handed c.args.self.now.handed 0 h.handed) in
    puts_seen c.args.line c.args.r places s c.args.self.now c.give_number.new.self h _ _ taken (c.in-Ok.ensures.puts places s.state.objects (pointer_at s.handed 0) (record { keeps = h.keeps; stands = stands })) t c.give_number.ensures

pub returns-in-Ok-clause-moves : goal.returns-in-Ok-clause-moves
returns-in-Ok-clause-moves g c = λ places s h.
    let stands = subst (λ addr. IsAddressOf places s.state.objects (pointer_at s.handed 0) addr) (sym c.address.ensures) (address_at_is places s.state.objects s.handed c.args.self.now.handed 0 h.handed) in
    puts_moves c.args.line c.args.r places s c.args.self.now c.give_number.new.self h _ _ (c.in-Ok.ensures.puts places s.state.objects (pointer_at s.handed 0) (record { keeps = h.keeps; stands = stands })) c.give_number.ensures

pub returns-in-Err-clause-told : goal.returns-in-Err-clause-told
returns-in-Err-clause-told g c = λ places s taken h t.
    let stands = subst (λ addr. IsAddressOf places s.state.objects (pointer_at s.handed 0) addr) (sym c.address.ensures) (address_at_is places s.state.objects s.handed c.args.self.now.handed 0 h.handed) in
    rw c.end.ensures (puts_ends c.args.line c.args.r places s c.args.self.now c.args.self.now h _ _ taken c.in-Err.error (c.in-Err.ensures.puts places s.state.objects (pointer_at s.handed 0) (record { keeps = h.keeps; stands = stands })) t)

pub returns-in-Err-clause-faults : goal.returns-in-Err-clause-faults
returns-in-Err-clause-faults g c = λ i.
    rw c.end.ensures (counts_put c.args.line c.in-Err.error i _ _ c.in-Err.ensures.cause)

pub returns-in-Err-clause-moves : goal.returns-in-Err-clause-moves
returns-in-Err-clause-moves g c = λ places s h. tt
