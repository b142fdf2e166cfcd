use Rattle.std.proofs.Common.{◌≡◌, take, reverse}
use Rattle.c_decls.specs.ScopeList.{found, found_from}
use Rattle.c_decls.proofs.scopes.Scopes.find.Given as goal

-- the scopes that are left to try decide
abbrev pub invariant-loop-depth : goal.invariant-loop-depth
invariant-loop-depth l = found_from l.self.file l.name (reverse (take l.depth l.self-inside.inner.items)) ≡ found l.self l.name
