use Rattle.std.proofs.Common.{◌≡◌, take}
use Rattle.c_types.specs.Types.{plain_list}
use Rattle.c_typing.specs.Callee.{plain_basics}
use Rattle.c_typing.proofs.callees.basic_types.Given as goal

-- the types so far
abbrev pub invariant-loop-param : goal.invariant-loop-param
invariant-loop-param l = plain_list l.types.items ≡ plain_basics (take l.param-index l.params)
