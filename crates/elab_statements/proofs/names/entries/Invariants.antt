use Rattle.std.proofs.Common.{◌≡◌, drop}
use Rattle.c_tree.specs.StatementView.{trees, entry_view}
use Rattle.elaboration.specs.Declarations.{entries}
use Rattle.elab_statements.specs.PlainStorage.{plain_storage}
use Rattle.elab_statements.proofs.names.entries.Given as goal

-- what is left decides
abbrev pub invariant-loop-name : goal.invariant-loop-name
invariant-loop-name l =
    entries l.file l.line (plain_storage l.storage) l.base (trees entry_view (drop l.name-index l.names)) l.state
    ≡ entries l.file l.line (plain_storage l.storage) l.base (trees entry_view l.names) l.initial.state
