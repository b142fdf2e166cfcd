use Rattle.std.proofs.Common.{rules, refl, [], ◌∷◌, ◌++◌, ℕ, List, Option, Some, Result, Err, ap, sym, ◌∙◌}
use Rattle.std.proofs.lemmas.List.{append-nil}
use Rattle.std.proofs.lemmas.Int.{to_z-of_z}
use mir.Syntax.{w128}
use mir.Val.{SFits}
use Rattle.std.specs.Prelude.{option_map}
use Rattle.flat_machine.specs.declared.fault.Fault.{Fault}
use Rattle.flat_machine.specs.Noting.{mark}
use Rattle.flat_machine.proofs.Inputs.{no_bytes}
use Rattle.flat_machine.proofs.OneByte.{counts_fault, get_seen, get_seen_end, get_failed, get_moves, get_moves_end, input_fault}
use Rattle.flat_machine.proofs.state.State.get.Goals as goal

pub returns-in-Ok-Some-clause-told : goal.returns-in-Ok-Some-clause-told
returns-in-Ok-Some-clause-told g c = λ places s taken h l t.
    let fits_n : SFits w128 c.from.result = search rules in
    let gives = rw (to_z-of_z w128 c.from.result fits_n) at c.give_number.ensures in
    let bytes = rw c.in-Ok-Some.field-0-is at c.in-Ok-Some.ensures.bytes in
    let notes = rw c.in-Ok-Some.field-0-is at c.in-Ok-Some.ensures.notes in
    let b = bytes s.state.input l in
    get_seen c.args.r places s c.args.self.now c.give_number.new.self h c.in-Ok-Some.byte b.0 s.state.input c.from.result taken _ _ (search rules) b.1 b.2 (ap Some notes ∙ ap (λ (o : Option (List ℕ)). option_map (λ (ns : List ℕ). ns ++ mark ∷ []) o) t) c.from.ensures gives

pub returns-in-Ok-Some-clause-moves : goal.returns-in-Ok-Some-clause-moves
returns-in-Ok-Some-clause-moves g c = λ places s h.
    let fits_n : SFits w128 c.from.result = search rules in
    let gives = rw (to_z-of_z w128 c.from.result fits_n) at c.give_number.ensures in
    get_moves c.args.r places s c.args.self.now c.give_number.new.self h c.in-Ok-Some.byte c.from.result (search rules) c.from.ensures gives

pub returns-in-Ok-None-clause-told : goal.returns-in-Ok-None-clause-told
returns-in-Ok-None-clause-told g c = λ places s taken h l t.
    let bytes = rw c.in-Ok-None.field-0-is at c.in-Ok-None.ensures.bytes in
    let notes = rw c.in-Ok-None.field-0-is at c.in-Ok-None.ensures.notes in
    let b = bytes s.state.input l in
    get_seen_end c.args.r places s c.args.self.now c.give_number-in-Ok-None.new.self h s.state.input _ taken _ _ refl b.0 b.1 (ap Some (notes ∙ append-nil (c.args.console.now.done.notes ++ c.args.console.now.page.notes)) ∙ t) refl c.give_number-in-Ok-None.ensures

pub returns-in-Ok-None-clause-moves : goal.returns-in-Ok-None-clause-moves
returns-in-Ok-None-clause-moves g c = λ places s h.
    get_moves_end c.args.r places s c.args.self.now c.give_number-in-Ok-None.new.self h _ refl c.give_number-in-Ok-None.ensures

pub returns-in-Err-clause-told : goal.returns-in-Err-clause-told
returns-in-Err-clause-told g c = λ places s taken h l t.
    rw c.end.ensures (get_failed c.args.r places s c.args.self.now c.args.self.now h s.state.input taken _ _ (rw c.in-Err.ensures.failed l) (ap Some c.in-Err.ensures.failed ∙ t) c.in-Err.fault)

pub returns-in-Err-clause-faults : goal.returns-in-Err-clause-faults
returns-in-Err-clause-faults g c = rw c.end.ensures (counts_fault c.in-Err.fault _ _ _ _ c.in-Err.ensures.cause)

failed : Fault → Result (Option ℕ) Fault
failed f = Err f

pub returns-in-Err-clause-settled : goal.returns-in-Err-clause-settled
unfolding failed
returns-in-Err-clause-settled g c = λ is. c.in-Err.ensures.settled (ap failed (input_fault c.in-Err.fault (sym c.end.ensures ∙ is)))

pub returns-in-Err-clause-moves : goal.returns-in-Err-clause-moves
returns-in-Err-clause-moves g c = λ places s h. ([], no_bytes, tt)
