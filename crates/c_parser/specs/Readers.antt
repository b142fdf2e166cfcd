-- What the code reads, by the sort of its tree.
use Rattle.std.specs.Prelude.{◌≡◌, List, Option, option_map, Result, IfOk}
use Rattle.hs_base.specs.declared.items.NoMemory.{NoMemory}
use Rattle.c_tree.specs.declared.tree.Expr.{Expr}
use Rattle.c_tree.specs.declared.statement.Decl.{Decl}
use Rattle.c_tree.specs.declared.statement.Init.{Init}
use Rattle.c_tree.specs.declared.statement.Stmt.{Stmt}
use Rattle.c_tree.specs.Forms as f
use Rattle.c_tree.specs.Tree.{Tree, Trees, none, ◌▹◌}
use Rattle.c_tree.specs.StatementView.{maybe, maybe_expr, maybe_length, maybe_value, init_view, stmt_view, body_view, decl_view}
use Rattle.grammar_reading.specs.Reading.{snoc}
use Rattle.grammar_reading.specs.State.{State}
use Rattle.parser_parts.specs.Gives.{Reads}
use Rattle.parser_parts.specs.Trees.{spec_words_of}
use Rattle.parser_parts.specs.declared.deep.DeepMaybeExpr.{DeepMaybeExpr}
use Rattle.parser_parts.specs.declared.deep.DeepWords.{DeepWords}
use Rattle.parser_parts.specs.declared.error.ReadError.{ReadError}
use Rattle.parser_parts.specs.declared.tally.Tally.{Tally as Counted}
use Rattle.c_parser.specs.declared.external.Body.{Body}
use Rattle.c_parser.specs.declared.statement.ForRest.{ForRest}

-- the code reads what may be left out: the length of an array, the value of an enumerator, an initializer, a statement
-- behind `else`
abbrev pub ReadsMaybeLength : Result DeepMaybeExpr ReadError → State → Option (Tree × State) → Type 0
ReadsMaybeLength = Reads (λ (x : DeepMaybeExpr). maybe_length x.tree)

abbrev pub ReadsMaybeValue : Result DeepMaybeExpr ReadError → State → Option (Tree × State) → Type 0
ReadsMaybeValue = Reads (λ (x : DeepMaybeExpr). maybe_value x.tree)

abbrev pub ReadsMaybeInit : Result (Option Init) ReadError → State → Option (Tree × State) → Type 0
ReadsMaybeInit = Reads (maybe f.MaybeInit init_view)

abbrev pub ReadsElse : Result (Option Stmt) ReadError → State → Option (Option Tree × State) → Type 0
ReadsElse = Reads (option_map stmt_view)

-- it reads an external declaration, and the body of a function
abbrev pub ReadsDecl : Result Decl ReadError → State → Option (Tree × State) → Type 0
ReadsDecl = Reads decl_view

abbrev pub ReadsBody : Result Body ReadError → State → Option (Tree × State) → Type 0
ReadsBody = Reads (λ (body : Body). body_view body.items body.end)

-- it reads the last parts of a `for`: its test, its step and its body, without the test, and the body alone
abbrev pub ReadsForRest : Result ForRest ReadError → State → Option (Trees × State) → Type 0
ReadsForRest = Reads (λ (x : ForRest). maybe_expr x.test ▹ maybe_expr x.step ▹ stmt_view x.body ▹ none)

abbrev pub ReadsForStep : Result (Option Expr × Stmt) ReadError → State → Option (Trees × State) → Type 0
ReadsForStep = Reads (λ (x : Option Expr × Stmt). maybe_expr x.0 ▹ stmt_view x.1 ▹ none)

abbrev pub ReadsEnclosed : Result Stmt ReadError → State → Option (Trees × State) → Type 0
ReadsEnclosed = Reads (λ (body : Stmt). stmt_view body ▹ none)

-- a tree is put behind those of a list
abbrev pub Pushes : {A : Type 0} → (List A → Trees) → Result Unit NoMemory → List A → List A → Tree → Type 0
Pushes trees_of result old new tree = IfOk result (λ _. trees_of new ≡ snoc (trees_of old) tree)

-- a word is put behind those of specs
abbrev pub AddsWord : Result (Counted × DeepWords) NoMemory → DeepWords → Tree → Type 0
AddsWord result words tree = IfOk result (λ (x : Counted × DeepWords). spec_words_of x.1 ≡ snoc (spec_words_of words) tree)
