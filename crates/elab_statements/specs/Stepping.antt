-- The rules of statements on what the code has: its trees, and what stands around, are seen as the definition has them.
use Rattle.std.specs.Prelude.{ℕ, ℤ, List, ◌++◌, Option}
use Rattle.std.specs.Borrow.{Bor}
use Rattle.c_types.specs.Types.{plain}
use Rattle.c_types.specs.declared.types.CType.{CType}
use Rattle.c_types.specs.declared.types.IntType.{IntType}
use Rattle.core_tree.specs.declared.statements.Atom.{Atom}
use Rattle.c_tree.specs.declared.tree.Expr.{Expr}
use Rattle.c_tree.specs.declared.statement.Stmt.{Stmt}
use Rattle.c_tree.specs.declared.statement.ForStart.{ForStart}
use Rattle.c_tree.specs.Forms as f
use Rattle.c_tree.specs.Tree.{Tree, At, Node, none, ◌▹◌}
use Rattle.c_tree.specs.StatementView.{trees, expr_view, start_view, stmt_view}
use Rattle.c_decls.specs.Refusals.{Checked}
use Rattle.elaboration.specs.Context.{Piece, Context, scoped, here, with_pieces}
use Rattle.elaboration.specs.Statements as rules
use Rattle.elab_base.specs.declared.code.Mark.{Mark}
use Rattle.elab_base.specs.declared.found.Found.{Found}
use Rattle.elab_base.specs.declared.running.Cases.{Cases}
use Rattle.elab_base.specs.Marks.{cut}
use Rattle.elab_base.specs.MaybeNames.{given}
use Rattle.elab_base.specs.Outcomes.{at}
use Rattle.elab_statements.specs.declared.around.Around.{Around}
use Rattle.elab_statements.specs.Held.{held}
use Rattle.elab_statements.specs.PlainAround.{plain_around}
use Rattle.elab_statements.specs.Switches as switches
use Rattle.elab_statements.specs.Switches.{dispatch_of}

-- a statement, by its tree; statements in turn; one of them in a scope of its own, and all of them in one
abbrev pub statement : Tree → Around → Context → Checked Context
statement tree around c = rules.statement tree (plain_around around) c

abbrev pub items : List Stmt → Around → Context → Checked Context
items list around c = rules.items (trees stmt_view list) (plain_around around) c

abbrev pub substatement : Stmt → Around → Context → Checked Context
substatement body around c = scoped c (λ d. rules.statement (stmt_view body) (plain_around around) d)

abbrev pub scoped_items : List Stmt → Around → Context → Checked Context
scoped_items list around c = switches.scoped_list (trees stmt_view list) (plain_around around) c

-- statements whose parts are in hand
abbrev pub delay : ℕ → List Stmt → Around → Context → Checked Context
delay line list around c =
    statement (Node f.Delay (At line ▹ Node f.Items (trees stmt_view list) ▹ none)) around c

abbrev pub branch : ℕ → Expr → Stmt → Around → Context → Checked Context
branch line test body around c =
    statement (Node f.If (At line ▹ expr_view test ▹ stmt_view body ▹ none)) around c

abbrev pub while_loop : ℕ → Expr → Stmt → Around → Context → Checked Context
while_loop line test body around c =
    statement (Node f.While (At line ▹ expr_view test ▹ stmt_view body ▹ none)) around c

abbrev pub do_loop : ℕ → Stmt → Expr → Around → Context → Checked Context
do_loop line body test around c =
    statement (Node f.Do (At line ▹ stmt_view body ▹ expr_view test ▹ none)) around c

abbrev pub for_loop : ℕ → ForStart → Option (Bor Expr) → Option (Bor Expr) → Stmt → Around → Context → Checked Context
for_loop line start test step body around c =
    statement (Node f.For (At line ▹ start_view start ▹ Node f.MaybeExpr (held (given test)) ▹ Node f.MaybeExpr (held (given step)) ▹
    stmt_view body ▹ none)) around c

abbrev pub switch : ℕ → Expr → Stmt → Around → Context → Checked Context
switch line value body around c =
    statement (Node f.Switch (At line ▹ expr_view value ▹ stmt_view body ▹ none)) around c

abbrev pub case : ℕ → Expr → Stmt → Around → Context → Checked Context
case line value body around c =
    statement (Node f.Case (At line ▹ expr_view value ▹ stmt_view body ▹ none)) around c

abbrev pub default_case : ℕ → Stmt → Around → Context → Checked Context
default_case line body around c = statement (Node f.Default (At line ▹ stmt_view body ▹ none)) around c

-- a switch whose body is a block, and one whose body is another statement
abbrev pub switch_block : ℕ → Expr → List Stmt → Around → Context → Checked Context
switch_block line value list around c =
    switches.switch_block line (expr_view value) (trees stmt_view list) (plain_around around) c

abbrev pub switch_other : ℕ → Expr → Stmt → Around → Context → Checked Context
switch_other line value body around c =
    switches.switch_other line (expr_view value) (stmt_view body) (plain_around around) c

-- a case, once its statement is gone through
abbrev pub cased : ℕ → Around → ℕ → ℤ → ℕ → Context → Checked Context
cased line around place value label c =
    rules.cased line (plain_around around) around.switched place value label c

abbrev pub case_of : ℕ → Around → IntType → ℕ → ℤ → ℕ → Context → Checked Context
case_of line around type place value label c = rules.case_of line (plain_around around) type place value label c

-- a switch, once its body is gone through apart
abbrev pub dispatched : ℕ → ℕ → Atom → Cases → List Piece → Context → Context
dispatched line end value inner body c =
    here end (with_pieces ((c.code.pieces ++ dispatch_of line value end inner.cases inner.otherwise) ++ body) c)

-- a `return` of an expression, by the type that the function answers
abbrev pub return_of : ℕ → ℕ → Expr → CType → Context → Checked Context
return_of line delays e type c = rules.return_of line delays (expr_view e) (plain type) c

-- the value of a `return`, once it is elaborated; the mark stands in front of its code
abbrev pub return_value : ℕ → ℕ → Expr → CType → Mark → Found → Context → Checked Context
return_value line delays e type before found c =
    rules.return_value line delays (expr_view e) (plain type) (cut before c.code) (at c found)
