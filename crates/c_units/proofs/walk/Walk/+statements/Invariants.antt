use Rattle.c_units.proofs.Words.Std.{◌*◌, ◌+◌}
use Rattle.c_units.proofs.Words.Trees.{size-Stmt, size-StmtKind, stmt_view}
use Rattle.c_units.proofs.ItemTurns.{AreLeft, Leads}
use Rattle.c_units.proofs.walk.Walk.+statements.Given as goal

abbrev pub decreases-stmt_of : goal.decreases-stmt_of
decreases-stmt_of l = 8 * size-StmtKind l.kind.now

abbrev pub decreases-stmt : goal.decreases-stmt
decreases-stmt l = 8 * size-Stmt l.stmt.now + 1

abbrev pub decreases-branch : goal.decreases-branch
decreases-branch l = 8 * size-Stmt l.stmt.now + 2

abbrev pub decreases-guarded : goal.decreases-guarded
decreases-guarded l = 8 * size-Stmt l.body.now + 3

abbrev pub decreases-maybe_branch : goal.decreases-maybe_branch
decreases-maybe_branch l = 8 * goal.size-maybe_branch l + 3

abbrev pub decreases-items : goal.decreases-items
decreases-items l = 8 * goal.size-items l + 2

abbrev pub invariant-items-loop-one : goal.invariant-items-loop-one
invariant-items-loop-one l = AreLeft l.initial.list l.list l.one-index × Leads stmt_view l.initial.list l.list l.one-index l.self l.initial.self
