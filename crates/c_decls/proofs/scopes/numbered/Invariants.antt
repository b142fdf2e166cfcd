use Rattle.std.proofs.Common.{◌≡◌, take}
use Rattle.c_decls.specs.BuiltIns.{numbered_from}
use Rattle.c_decls.proofs.scopes.numbered.Given as goal

-- the names so far
abbrev pub invariant-loop-index : goal.invariant-loop-index
invariant-loop-index l = l.scope ≡ take l.index (numbered_from 0 l.names)
