use Rattle.std.proofs.Common.{◌∙◌, ℕ, Ok, IfOk, refl, rules, sym, ap, subst}
use Rattle.std.proofs.lemmas.Int.{to_z-of_z}
use mir.Syntax.{w128}
use mir.Val.{SFits}
use Rattle.object_meaning.specs.objects.Values.{pointer_at}
use Rattle.meaning_state.specs.Printing.{piece_text}
use Rattle.flat_objects.specs.Standing.{IsAddressOf}
use Rattle.flat_machine.specs.Putting.{PutsText, IsLengthOf}
use Rattle.flat_machine.proofs.WordLists.{integer_at_is, address_at_is}
use Rattle.flat_machine.proofs.Texts.{string_text, number_text, failed_text}
use Rattle.flat_machine.proofs.state.State.put_piece.Goals as goal

-- Strings

pub returns-in-Some-clause-puts : goal.returns-in-Some-clause-puts
returns-in-Some-clause-puts g c = λ places objects values k.
    let text = string_text c.args.piece.now c.in-Some.field c.in-Some.ensures.string objects values c.args.place in
    let stands = subst (λ addr. IsAddressOf places objects (pointer_at values c.args.place) addr) (sym c.address.ensures) (address_at_is places objects values c.args.self.now.handed c.args.place k.stand) in
    subst (λ meant. PutsText (g.O.Sink.taken c.args.out.now) (g.O.Sink.taken c.put_text.new.out) meant c.put_text.result) (sym text) (c.put_text.ensures.puts places objects (pointer_at values c.args.place) (record { keeps = k.keeps; stands = stands }))

pub returns-in-Some-clause-len : goal.returns-in-Some-clause-len
returns-in-Some-clause-len g c = λ places objects values k.
    let text = string_text c.args.piece.now c.in-Some.field c.in-Some.ensures.string objects values c.args.place in
    let stands = subst (λ addr. IsAddressOf places objects (pointer_at values c.args.place) addr) (sym c.address.ensures) (address_at_is places objects values c.args.self.now.handed c.args.place k.stand) in
    subst (λ meant. IfOk c.put_text.result (IsLengthOf meant)) (sym text) (c.put_text.ensures.len places objects (pointer_at values c.args.place) (record { keeps = k.keeps; stands = stands }))

-- Plain text and numbers

pub returns-in_err-put_number_piece-in-None-clause-puts : goal.returns-in_err-put_number_piece-in-None-clause-puts
returns-in_err-put_number_piece-in-None-clause-puts g c = λ places objects values k.
    let fits : SFits w128 c.integer.result = search rules in
    let bytes = rw (to_z-of_z w128 c.integer.result fits) at c.in_err-put_number_piece-in-None.ensures.bytes in
    let number = c.integer.ensures ∙ integer_at_is places objects values c.args.self.now.handed c.args.place k.stand in
    let text = number_text c.args.piece.now (c.in-None.ensures.other refl) objects values c.args.place ∙ ap (λ n. Ok (piece_text c.args.piece.now n)) (sym number) in
    failed_text ℕ ℕ _ _ (piece_text c.args.piece.now c.integer.result) _ text c.in_err-put_number_piece-in-None.field-0.0 bytes c.from_residual.result c.from_residual.ensures.1

pub returns-in_ok-put_number_piece-in-None-clause-puts : goal.returns-in_ok-put_number_piece-in-None-clause-puts
returns-in_ok-put_number_piece-in-None-clause-puts g c = λ places objects values k.
    let fits : SFits w128 c.integer.result = search rules in
    let bytes = rw (to_z-of_z w128 c.integer.result fits) at c.in_ok-put_number_piece-in-None.ensures.bytes in
    let number = c.integer.ensures ∙ integer_at_is places objects values c.args.self.now.handed c.args.place k.stand in
    let text = number_text c.args.piece.now (c.in-None.ensures.other refl) objects values c.args.place ∙ ap (λ n. Ok (piece_text c.args.piece.now n)) (sym number) in
    (piece_text c.args.piece.now c.integer.result, text, bytes)

pub returns-in_ok-put_number_piece-in-None-clause-len : goal.returns-in_ok-put_number_piece-in-None-clause-len
returns-in_ok-put_number_piece-in-None-clause-len g c = λ places objects values k.
    let fits : SFits w128 c.integer.result = search rules in
    let size = rw (to_z-of_z w128 c.integer.result fits) at c.in_ok-put_number_piece-in-None.ensures.len in
    let number = c.integer.ensures ∙ integer_at_is places objects values c.args.self.now.handed c.args.place k.stand in
    let text = number_text c.args.piece.now (c.in-None.ensures.other refl) objects values c.args.place ∙ ap (λ n. Ok (piece_text c.args.piece.now n)) (sym number) in
    subst (λ meant. IsLengthOf meant c.in_ok-put_number_piece-in-None.field-0) (sym text) size
