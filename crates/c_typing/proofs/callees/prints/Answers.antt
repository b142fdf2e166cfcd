use Rattle.std.proofs.Common.{◌≡◌, ◌<◌, ◌∙◌, ap, sym, subst, map, length, drop, arith}
use Rattle.std.specs.Prelude.{not, ◌&&◌, Some, Ok}
use Rattle.c_decls.specs.declared.refusal.TypeKind.TheVariants.{Format}
use Rattle.c_decls.specs.Refusals.{Answers, unless}
use Rattle.c_decls.specs.Typed.{plain_typed, int}
use Rattle.c_decls.specs.Callees.{prints, is_format, suit}
use Rattle.c_print.specs.Pieces.{pieces_of}
use Rattle.c_typing.proofs.Calls.{printed}
use Rattle.c_typing.proofs.callees.prints.Goals as goal

pub returns-then-suits_format : goal.returns-then-suits_format
returns-then-suits_format c =
    let arguments = c.args.arguments.now in
    let some : 0 < length arguments = grind arith in
    let tested = ap (λ bytes. is_format bytes && suit (pieces_of bytes) (map plain_typed (drop 1 arguments))) (sym c.as_slice.ensures)
    ∙ sym c.suits_format.ensures ∙ c.if-suits_format.true in
    ap (λ literal. prints c.args.line literal (map plain_typed arguments)) c.in-Some.is
    ∙ printed c.args.line c.in-Some.bytes arguments some
    ∙ ap (λ test. unless (not test) Format c.args.line (Ok int)) tested
    ∙ ap Ok (sym c.int.ensures)

pub returns-else-suits_format : goal.returns-else-suits_format
returns-else-suits_format c =
    let arguments = c.args.arguments.now in
    let some : 0 < length arguments = grind arith in
    let tested = ap (λ bytes. is_format bytes && suit (pieces_of bytes) (map plain_typed (drop 1 arguments))) (sym c.as_slice.ensures)
    ∙ sym c.suits_format.ensures ∙ c.if-suits_format.false in
    let answered = ap (λ literal. prints c.args.line literal (map plain_typed arguments)) c.in-Some.is
    ∙ printed c.args.line c.in-Some.bytes arguments some
    ∙ ap (λ test. unless (not test) Format c.args.line (Ok int)) tested in
    subst (λ r. Answers plain_typed r (prints c.args.line c.args.literal.now (map plain_typed arguments))) (sym c.refused-else-suits_format.ensures) answered
