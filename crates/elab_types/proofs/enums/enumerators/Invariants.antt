-- What is left of the enumerators decides.
use Rattle.std.proofs.Common.{◌≡◌, drop}
use Rattle.std.specs.Prelude.{pos}
use Rattle.c_tree.specs.View.{enumerator_tree}
use Rattle.c_tree.specs.StatementView.{trees}
use Rattle.elaboration.specs.Declarators.{enumerators}
use Rattle.elab_types.proofs.enums.enumerators.Given as goal

-- what is left decides
abbrev pub invariant-loop-part : goal.invariant-loop-part
invariant-loop-part l =
    enumerators (trees enumerator_tree (drop l.part-index l.list)) l.next l.state
    ≡ enumerators (trees enumerator_tree l.list) (pos 0) l.initial.state
