use Rattle.std.proofs.Common.{◌≡◌, drop, []}
use Rattle.c_tree.specs.StatementView.{trees, decl_view}
use Rattle.c_units.specs.Externals.{own_names}
use Rattle.c_units.proofs.statics.own_names.Given as goal

-- the names of the declarations that are left come behind those that are noted
abbrev pub invariant-loop-decl : goal.invariant-loop-decl
invariant-loop-decl l = own_names (trees decl_view (drop l.decl-index l.decls)) l.names ≡ own_names (trees decl_view l.decls) []
