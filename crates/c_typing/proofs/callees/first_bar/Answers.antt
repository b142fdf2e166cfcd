use Rattle.std.proofs.Common.{◌≡◌, ◌≤◌, sym, ap, ◌∙◌, drop, map, length, arith}
use Rattle.std.proofs.lemmas.List.{drop_all}
use Rattle.c_types.specs.Types.{plain_list}
use Rattle.c_decls.specs.Typed.{plain_typed}
use Rattle.c_typing.specs.Callee.{first_bar}
use Rattle.c_typing.proofs.Calls.{none_barred}
use Rattle.c_typing.proofs.callees.first_bar.Goals as goal

pub returns-then-i-arguments : goal.returns-then-i-arguments
returns-then-i-arguments c =
    let types = plain_list (drop c.loop-i.i c.args.params.now) in
    let over : length c.args.arguments.now ≤ c.loop-i.i = omega arith in
    sym (ap (λ es. first_bar types (map plain_typed es)) (drop_all c.loop-i.i c.args.arguments.now over) ∙ none_barred types)
    ∙ c.loop-i.invariant
