-- What a maker makes and a writer writes, unless memory runs out.
use Rattle.std.specs.Prelude.{◌≡◌, ◌++◌, ℕ, List, Result, IfOk}
use Rattle.hs_base.specs.declared.items.NoMemory.{NoMemory}
use Rattle.c_tree.specs.declared.word.Keyword.{Keyword}
use Rattle.c_tree.specs.declared.tree.Expr.{Expr}
use Rattle.c_tree.specs.declared.tree.Spec.{Spec}
use Rattle.c_tree.specs.declared.tree.Enumerator.{Enumerator}
use Rattle.c_tree.specs.declared.statement.Stmt.{Stmt}
use Rattle.c_tree.specs.Forms.{Form}
use Rattle.c_tree.specs.Forms as f
use Rattle.c_tree.specs.Places.{SpecWord}
use Rattle.c_tree.specs.Grammar.{keyword_home}
use Rattle.c_tree.specs.Tree.{Tree, Trees, At, Node, ◌▹◌}
use Rattle.c_tree.specs.Canonical.{tree_text}
use Rattle.c_tree.specs.View.{key_leaf, spec_tree, enumerator_tree}
use Rattle.c_tree.specs.StatementView.{expr_view, stmt_view}

-- a word of specs is that of a keyword, which may stand among specs
abbrev pub IsSpecWord : Keyword → Spec → Type 0
IsSpecWord keyword spec = (spec_tree spec ≡ key_leaf keyword) × (keyword_home keyword ≡ SpecWord)

-- a node of a form is made, with its line and the parts behind it
abbrev pub MakesNode : {A : Type 0} → (A → Tree) → Result A NoMemory → ℕ → Form → Trees → Type 0
MakesNode view result line form parts = IfOk result (λ made. view made ≡ Node form (At line ▹ parts))

-- an expression is made
abbrev pub MakesExpr : Result Expr NoMemory → ℕ → Form → Trees → Type 0
MakesExpr = MakesNode expr_view

-- a statement is made
abbrev pub MakesStmt : Result Stmt NoMemory → ℕ → Form → Trees → Type 0
MakesStmt = MakesNode stmt_view

-- an enumerator is made
abbrev pub MakesEnumerator : Result Enumerator NoMemory → ℕ → Trees → Type 0
MakesEnumerator result line parts = MakesNode enumerator_tree result line f.Enumerator parts

-- the text of a tree is written behind what stood there
abbrev pub Writes : Result Unit NoMemory → List ℕ → List ℕ → Tree → Type 0
Writes result old new tree = IfOk result (λ _. new ≡ old ++ tree_text tree)
