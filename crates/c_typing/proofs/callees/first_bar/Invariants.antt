use Rattle.std.proofs.Common.{◌≡◌, drop, map}
use Rattle.c_types.specs.Types.{plain_list}
use Rattle.c_decls.specs.Typed.{plain_typed}
use Rattle.c_typing.specs.Callee.{first_bar}
use Rattle.c_typing.proofs.callees.first_bar.Given as goal

-- what is left decides
abbrev pub invariant-loop-i : goal.invariant-loop-i
invariant-loop-i l =
    first_bar (plain_list (drop l.i l.params)) (map plain_typed (drop l.i l.arguments))
    ≡ first_bar (plain_list l.params) (map plain_typed l.arguments)
