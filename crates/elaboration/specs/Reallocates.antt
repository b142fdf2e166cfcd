-- Which expressions reallocate: those with a call of `realloc` outside the operands of `sizeof`; in string literals there is
-- none. They open a scope of their own for objects that are freed.
use Rattle.std.specs.Prelude.{Bool, true, false, ◌||◌, Option, Some, cond}
use Rattle.core_tree.specs.declared.statements.StmKind.TheVariants.{Enter, Leave}
use Rattle.c_tree.specs.Words as w
use Rattle.c_tree.specs.Forms as f
use Rattle.c_tree.specs.Tree.{Tree, Trees, Leaf, At, Node, none, ◌▹◌}
use Rattle.c_decls.specs.declared.built_in.BuiltIn.{BuiltIn}
use Rattle.c_decls.specs.declared.built_in.BuiltIn.TheVariants as b
use Rattle.c_decls.specs.ScopeList.{ScopeList, found}
use Rattle.elaboration.specs.Context.{Context, emit, anew}
use Rattle.elaboration.specs.Conversions.{code_line}
use Rattle.elaboration.specs.Calls.{built_in_at}

abbrev pub is_realloc : Option BuiltIn → Bool
is_realloc (Some b.Realloc) = true
is_realloc other = false

-- a name that is called
abbrev pub calls_realloc : ScopeList → Tree → Bool
calls_realloc scopes (Node f.Name (At line ▹ Leaf (w.Name name) ▹ none)) = is_realloc (built_in_at (found scopes name))
calls_realloc scopes tree = false

unfoldable mutual
  pub reallocates : ScopeList → Tree → Bool
  reallocates scopes (Leaf word) = false
  reallocates scopes (At line) = false
  reallocates scopes (Node f.SizeofExpr parts) = false
  reallocates scopes (Node f.Str parts) = false
  reallocates scopes (Node f.Call (At line ▹ e ▹ arguments)) =
      calls_realloc scopes e || reallocates scopes e || any_reallocates scopes arguments
  reallocates scopes (Node other parts) = any_reallocates scopes parts

  pub any_reallocates : ScopeList → Trees → Bool
  any_reallocates scopes none = false
  any_reallocates scopes (tree ▹ rest) = reallocates scopes tree || any_reallocates scopes rest

-- the start and the end of a full expression
abbrev pub opened : Tree → Context → Context
opened e c = cond (reallocates c.scopes e) (emit (code_line e) Enter (anew c)) (anew c)

abbrev pub closed : Tree → Context → Context
closed e c = cond (reallocates c.scopes e) (emit (code_line e) Leave c) c
