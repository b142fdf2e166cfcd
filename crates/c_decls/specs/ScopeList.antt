-- Scopes as lists (C99 6.2.1): for each scope its names, with what they stand for, in order of declaration.
use Rattle.std.specs.Prelude.{◌≡◌, ℕ, List, [], ◌∷◌, ◌++◌, bytes_eq, cond, Option, Some, None, is_some, if◌then◌else◌}
use Rattle.std.specs.Option.{option_or}
use Rattle.c_decls.specs.Named.{PlainNamed, Object, Function, Typedef}

-- the names of one scope, in order of declaration
abbrev pub Table : Type 0
Table = List (List ℕ × PlainNamed)

-- the file scope, and the scopes inside it that are open, the innermost first
pub record ScopeList : Type 0 where
  pub file : Table
  pub inner : List Table

-- a file scope without names
abbrev pub no_scopes : ScopeList
no_scopes = record { file = []; inner = [] }

-- what a scope declares a name as
abbrev pub named_in : List ℕ → Table → Option PlainNamed
named_in name [] = None
named_in name (entry ∷ rest) = cond (bytes_eq name entry.0) (Some entry.1) (named_in name rest)

-- what the first of some scopes that has the name declares it as; behind them stands the file scope
abbrev pub found_from : Table → List ℕ → List Table → Option PlainNamed
found_from file name [] = named_in name file
found_from file name (scope ∷ outer) = option_or (named_in name scope) (found_from file name outer)

-- the innermost declaration of a name
abbrev pub found : ScopeList → List ℕ → Option PlainNamed
found scopes name = found_from scopes.file name scopes.inner

abbrev pub first_or : Table → List Table → Table
first_or file [] = file
first_or file (scope ∷ outer) = scope

-- the innermost scope
abbrev pub innermost : ScopeList → Table
innermost scopes = first_or scopes.file scopes.inner

-- what stands in for a second declaration: the same sort with the same type
abbrev pub IsSameAgain : PlainNamed → PlainNamed → Type 0
IsSameAgain (Object a i) (Object b j) = a ≡ b
IsSameAgain (Function a i) (Function b j) = a ≡ b
IsSameAgain (Typedef a) (Typedef b) = a ≡ b
IsSameAgain _ _ = ⊥

-- a scope has the name; only the file scope takes it again, as the same sort with the same type (C99 6.7, 6.9.2)
abbrev pub IsTwiceIn : List Table → PlainNamed → Option PlainNamed → Type 0
IsTwiceIn inner named None = ⊥
IsTwiceIn inner named (Some before) = ¬ ((inner ≡ []) × IsSameAgain before named)

-- a declaration is refused, since the innermost scope has the name already
abbrev pub IsTwice : ScopeList → List ℕ → PlainNamed → Type 0
IsTwice scopes name named = IsTwiceIn scopes.inner named (named_in name (innermost scopes))

abbrev pub with_name_in : Table → List Table → List ℕ → PlainNamed → ScopeList
with_name_in file [] name named = record { file = file ++ (name, named) ∷ []; inner = [] }
with_name_in file (scope ∷ outer) name named = record { file = file; inner = (scope ++ (name, named) ∷ []) ∷ outer }

-- the innermost scope has one name more, at its end
abbrev pub with_name : ScopeList → List ℕ → PlainNamed → ScopeList
with_name scopes name named = with_name_in scopes.file scopes.inner name named

-- the scopes after a declaration that is not refused: a name that is declared again changes nothing
abbrev pub after_declaration : ScopeList → List ℕ → PlainNamed → ScopeList
after_declaration scopes name named =
    cond (is_some (named_in name (innermost scopes))) scopes (with_name scopes name named)

-- the scopes after the start of a block
abbrev pub entered : ScopeList → ScopeList
entered scopes = record { file = scopes.file; inner = [] ∷ scopes.inner }

abbrev pub tail : List Table → List Table
tail [] = []
tail (scope ∷ outer) = outer

-- the scopes after the end of a block: the innermost is gone
abbrev pub left : ScopeList → ScopeList
left scopes = record { file = scopes.file; inner = tail scopes.inner }

-- the name under which a tag is declared: a byte 32, which no other name has, in front
abbrev pub tag_name : List ℕ → List ℕ
tag_name name = 32 ∷ name
