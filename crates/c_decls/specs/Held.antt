-- What a scope keeps, seen as its list of names.
use Rattle.std.specs.Prelude.{map}
use Rattle.c_decls.specs.declared.scope.Scope.TheInside.{Inside}
use Rattle.c_decls.specs.Named.{plain_named}
use Rattle.c_decls.specs.ScopeList.{Table}

abbrev pub table_of : Inside → Table
table_of s = map (λ e. (e.0.items, plain_named e.1)) s.names.entries
