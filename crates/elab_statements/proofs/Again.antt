-- Names that come again inside functions.
use Rattle.std.proofs.Common.{◌≡◌, ℕ, Bool, true, false, List, [], ◌∷◌, Option, Some, None, refl}
use Rattle.std.specs.Prelude.{is_some}
use Rattle.c_decls.specs.Named.{PlainNamed}
use Rattle.c_decls.specs.ScopeList.{Table, ScopeList, named_in, innermost, first_or, found_from}
use Rattle.elaboration.specs.Locals.{is_twice, is_twice_in, is_file}

again : (file : Table) (inner : List Table) (name : List ℕ) (named : PlainNamed) → is_some (found_from [] name inner) ≡ true → is_some (named_in name (first_or file inner)) ≡ true →
    is_twice_in (is_file inner) named (named_in name (first_or file inner)) ≡ true
again file [] name named h k = cc
again file (scope ∷ outer) name named h k = twice (named_in name scope) k
  where
    twice : (found : Option PlainNamed) → is_some found ≡ true → is_twice_in false named found ≡ true
    twice None k = cc
    twice (Some before) k = refl

-- a name that an inner scope has, and the innermost one
pub inner_again : (scopes : ScopeList) (name : List ℕ) (named : PlainNamed) → is_some (found_from [] name scopes.inner) ≡ true → is_some (named_in name (innermost scopes)) ≡ true →
    is_twice scopes name named ≡ true
inner_again scopes name named h k = again scopes.file scopes.inner name named h k

once_in : (file : Bool) (named : PlainNamed) (found : Option PlainNamed) → is_some found ≡ false → is_twice_in file named found ≡ false
once_in file named None h = refl
once_in file named (Some before) h = cc

-- a name that the innermost scope does not have
pub not_again : (scopes : ScopeList) (name : List ℕ) (named : PlainNamed) → is_some (named_in name (innermost scopes)) ≡ false →
    is_twice scopes name named ≡ false
not_again scopes name named h = once_in (is_file scopes.inner) named (named_in name (innermost scopes)) h

not_there : (found : Option PlainNamed) → is_some found ≡ false → found ≡ None
not_there None h = refl
not_there (Some named) h = cc

pub none_there : (scopes : ScopeList) (name : List ℕ) → is_some (named_in name (innermost scopes)) ≡ false → named_in name (innermost scopes) ≡ None
none_there scopes name h = not_there (named_in name (innermost scopes)) h
