use Rattle.std.proofs.Common.{◌≡◌, drop}
use Rattle.c_tree.specs.StatementView.{trees, decl_view}
use Rattle.elaboration.specs.Externals.{externals}
use Rattle.elab_base.specs.Idle.{idled}
use Rattle.elab_statements.proofs.texts.externals.Given as goal

-- what is left decides
abbrev pub invariant-loop-decl : goal.invariant-loop-decl
invariant-loop-decl l =
    idled (externals (trees decl_view (drop l.decl-index l.decls)) l.state)
    ≡ idled (externals (trees decl_view l.decls) l.initial.state)
