use Rattle.std.proofs.Common.{rules}
use Rattle.std.proofs.lemmas.Int.{to_z-of_z}
use mir.Syntax.{w128}
use mir.Val.{SFits}
use Rattle.flat_machine.proofs.Prints.{printed_seen, printed_moves, printed_ends, counts_put}
use Rattle.flat_machine.proofs.state.State.act_printf.Goals as goal

pub returns-in-Ok-clause-told : goal.returns-in-Ok-clause-told
returns-in-Ok-clause-told g c = λ places s format taken h is t.
    let fits : SFits w128 c.in-Ok.n = search rules in
    let value = rw (to_z-of_z w128 c.in-Ok.n fits) at c.wrap.ensures.value in
    let fits_int : SFits w128 c.wrap.result = search rules in
    let gives = rw (to_z-of_z w128 c.wrap.result fits_int) at c.give_number.ensures in
    printed_seen c.args.line c.args.r places s c.args.self.now c.give_number.new.self h c.args.pieces.now format is _ _ taken c.in-Ok.n c.wrap.result (c.in-Ok.ensures.puts places s.state.objects s.handed (record { keeps = h.keeps; stand = h.handed })) t value gives

pub returns-in-Ok-clause-moves : goal.returns-in-Ok-clause-moves
returns-in-Ok-clause-moves g c = λ places s format h is.
    let fits : SFits w128 c.in-Ok.n = search rules in
    let value = rw (to_z-of_z w128 c.in-Ok.n fits) at c.wrap.ensures.value in
    let fits_int : SFits w128 c.wrap.result = search rules in
    let gives = rw (to_z-of_z w128 c.wrap.result fits_int) at c.give_number.ensures in
    printed_moves c.args.line c.args.r places s c.args.self.now c.give_number.new.self h c.args.pieces.now format is _ _ c.in-Ok.n c.wrap.result (c.in-Ok.ensures.puts places s.state.objects s.handed (record { keeps = h.keeps; stand = h.handed })) value gives

pub returns-in-Err-clause-told : goal.returns-in-Err-clause-told
returns-in-Err-clause-told g c = λ places s format taken h is t.
    rw c.end.ensures (printed_ends c.args.line c.args.r places s c.args.self.now c.args.self.now h c.args.pieces.now format is _ _ taken c.in-Err.error (c.in-Err.ensures.puts places s.state.objects s.handed (record { keeps = h.keeps; stand = h.handed })) t)

pub returns-in-Err-clause-faults : goal.returns-in-Err-clause-faults
returns-in-Err-clause-faults g c = λ i.
    rw c.end.ensures (counts_put c.args.line c.in-Err.error i _ _ c.in-Err.ensures.cause)

pub returns-in-Err-clause-moves : goal.returns-in-Err-clause-moves
returns-in-Err-clause-moves g c = λ places s format h is. tt
