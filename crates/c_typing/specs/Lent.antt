-- Scopes that are lent, with what is declared since.
use Rattle.std.specs.Prelude.{List, [], ◌∷◌, ◌++◌, Option, Some, None}
use Rattle.c_decls.specs.ScopeList.{ScopeList, Table}

-- the innermost scope has more names, at its end
abbrev pub longer : Table → List Table → Table → ScopeList
longer file [] more = record { file = file ++ more; inner = [] }
longer file (scope ∷ outer) more = record { file = file; inner = (scope ++ more) ∷ outer }

-- with more scopes inside
abbrev pub with_inner : List Table → ScopeList → ScopeList
with_inner inner scopes = record { file = scopes.file; inner = inner ++ scopes.inner }

-- lent scopes: what is declared since stands in a file scope of its own, at the end of their innermost one, and the scopes
-- that are opened since stand inside
abbrev pub joined : ScopeList → ScopeList → ScopeList
joined lent since = with_inner since.inner (longer lent.file lent.inner since.file)

-- the same where nothing is lent
abbrev pub around : Option ScopeList → ScopeList → ScopeList
around None since = since
around (Some lent) since = joined lent since
