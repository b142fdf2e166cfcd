-- Names, and other things, that may be left out.
use Rattle.std.specs.Prelude.{◌≡◌, ℕ, List, Option, Some, None, option_copied}
use Rattle.std.specs.Borrow.{Bor}
use Rattle.c_decls.specs.ScopeList.{ScopeList, named_in, innermost}

-- what is lent, where something is
abbrev pub given : {T : Type 0} → Option (Bor T) → Option T
given x = option_copied x

-- the innermost scope does not have the name
abbrev pub IsFree : Option (List ℕ) → ScopeList → Type 0
IsFree None scopes = Unit {0}
IsFree (Some name) scopes = named_in name (innermost scopes) ≡ None
