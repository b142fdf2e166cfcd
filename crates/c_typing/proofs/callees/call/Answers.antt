use Rattle.std.proofs.Common.{◌≡◌, ◌∙◌, ap, sym, subst, map, length, List, arith, ◌++◌}
use Rattle.std.specs.Prelude.{Option, Some, None, Ok}
use Rattle.c_types.specs.Types.{plain, plain_list}
use Rattle.c_decls.specs.Refusals.{Answers}
use Rattle.c_decls.specs.Typed.{plain_typed, value}
use Rattle.c_decls.specs.TypeRules.{barred}
use Rattle.c_decls.specs.Callees.{call}
use Rattle.c_typing.specs.Callee.{plain_callee, first_bar}
use Rattle.c_typing.proofs.Calls.{miscounted, counted}
use Rattle.c_typing.proofs.callees.call.Goals as goal

pub returns-then-arguments-len : goal.returns-then-arguments-len
returns-then-arguments-len c =
    let arguments = map plain_typed c.args.arguments.now in
    let called = ap (λ f. call c.args.line c.args.literal.now (plain_callee f) arguments) c.in-Takes.is
    ∙ miscounted c.args.line c.args.literal.now (plain c.in-Takes.signature.result) c.in-Takes.signature.params.items c.args.arguments.now
    (λ e. c.if-arguments-len.true (let same : length c.args.arguments.now ≡ c.len.result = omega (arith, e, c.len.ensures, c.in-Takes.signature.params.ok.0) in same)) in
    subst (λ r. Answers plain_typed r (call c.args.line c.args.literal.now (plain_callee c.args.callee) arguments)) (sym c.refused.ensures) called

pub returns-in-Some : goal.returns-in-Some
returns-in-Some c =
    let arguments = map plain_typed c.args.arguments.now in
    let same : length c.args.arguments.now ≡ length c.in-Takes.signature.params.items =
    omega (arith, c.if-arguments-len.false, c.len.ensures, c.in-Takes.signature.params.ok.0) in
    let answer = plain c.in-Takes.signature.result in
    let bar = ap (λ types. first_bar (plain_list types) arguments) (sym c.deref.ensures.value) ∙ sym c.first_bar.ensures ∙ c.in-Some.is in
    let called = ap (λ f. call c.args.line c.args.literal.now (plain_callee f) arguments) c.in-Takes.is
    ∙ counted c.args.line c.args.literal.now answer c.in-Takes.signature.params.items c.args.arguments.now same
    ∙ ap (λ b. barred b c.args.line (Ok (value answer))) bar in
    subst (λ r. Answers plain_typed r (call c.args.line c.args.literal.now (plain_callee c.args.callee) arguments)) (sym c.refused-in-Some.ensures) called

pub returns-in-Takes : goal.returns-in-Takes
returns-in-Takes c =
    let arguments = map plain_typed c.args.arguments.now in
    let same : length c.args.arguments.now ≡ length c.in-Takes.signature.params.items =
    omega (arith, c.if-arguments-len.false, c.len.ensures, c.in-Takes.signature.params.ok.0) in
    let answer = plain c.in-Takes.signature.result in
    let bar = ap (λ types. first_bar (plain_list types) arguments) (sym c.deref.ensures.value) ∙ sym c.first_bar.ensures ∙ c.in-None.is in
    ap (λ f. call c.args.line c.args.literal.now (plain_callee f) arguments) c.in-Takes.is
    ∙ counted c.args.line c.args.literal.now answer c.in-Takes.signature.params.items c.args.arguments.now same
    ∙ ap (λ b. barred b c.args.line (Ok (value answer))) bar
    ∙ ap Ok (sym c.value.ensures)
