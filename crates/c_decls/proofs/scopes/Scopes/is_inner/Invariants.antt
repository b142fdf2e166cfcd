use Rattle.std.proofs.Common.{◌≡◌, [], take, reverse}
use Rattle.std.specs.Prelude.{is_some}
use Rattle.c_decls.specs.ScopeList.{found_from}
use Rattle.c_decls.proofs.scopes.Scopes.is_inner.Given as goal

-- the scopes that are left to try decide
abbrev pub invariant-loop-depth : goal.invariant-loop-depth
invariant-loop-depth l = is_some (found_from [] l.name (reverse (take l.depth l.self-inside.inner.items))) ≡ is_some (found_from [] l.name l.self.inner)
