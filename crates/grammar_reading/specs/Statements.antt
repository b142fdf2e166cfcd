-- Reading statements and external declarations (C99 6.8 and 6.9).
use Rattle.std.specs.Prelude.{ℕ, zero, suc, Bool, true, false, ◌&&◌, not, is_some, if◌then◌else◌, [], ◌∷◌, Some, None}
use Rattle.c_tree.specs.declared.word.Keyword.{Keyword}
use Rattle.c_tree.specs.declared.word.Keyword.TheVariants as k
use Rattle.c_tree.specs.declared.word.Sign.TheVariants as s
use Rattle.c_tree.specs.Forms.{Form}
use Rattle.c_tree.specs.Forms as f
use Rattle.c_tree.specs.Grammar.{Part, key, shape}
use Rattle.c_tree.specs.Places.{Place, Expression}
use Rattle.c_tree.specs.Places as p
use Rattle.c_tree.specs.Scopes.{params_of}
use Rattle.c_tree.specs.Tree.{Tree, Trees, At, Node, none, ◌▹◌}
use Rattle.grammar_reading.specs.declared.kind.Kind.{Kind}
use Rattle.grammar_reading.specs.declared.kind.Kind.TheVariants as kinds
use Rattle.grammar_reading.specs.State.{State, kind_at, line_at, left_at, at_mark, at_key, starts_type, back_to, in_body, past}
use Rattle.grammar_reading.specs.Reading.{◌>>=◌, Reader, fixed, joined, parts_of, optional_part, guarded, scoped, unflagged, goes_on, commas_by, commas_from, list_from}
use Rattle.grammar_reading.specs.Declarators.{part_at, specs_at, some_names_at, declared_at, entry_from, entry_at}
use Rattle.c_tree.specs.Words.{Mark}

-- the form of a statement that begins with a keyword; of any other an expression is evaluated
unfoldable pub statement_key : Keyword → Form
statement_key k.DelayFrees = f.Delay
statement_key k.If = f.If
statement_key k.While = f.While
statement_key k.Do = f.Do
statement_key k.For = f.For
statement_key k.Switch = f.Switch
statement_key k.Case = f.Case
statement_key k.Default = f.Default
statement_key k.Break = f.Break
statement_key k.Continue = f.Continue
statement_key k.Return = f.Return
statement_key _ = f.Expr

-- whether there is an expression, where one may be left out
abbrev pub has_expr : State → Bool
has_expr state = not (at_mark s.Semicolon state) && not (at_mark s.RightParen state)

-- inner reads a tree of a place with less room than there is here, and none where there is none
module _ (inner : Place → Reader) (room : ℕ) where
  -- an `else` belongs to the nearest `if`
  abbrev pub else_by : Trees → Bool → Reader
  else_by parts true state =
      parts_of inner (key k.Else ∷ Part p.Branch ∷ []) state >>= (λ x. Some (Node f.IfElse (joined parts x.0), x.1))
  else_by parts false state = Some (Node f.If parts, state)

  abbrev pub if_at : Reader
  if_at state = parts_of inner (shape f.If zero) state >>= (λ x. else_by x.0 (at_key k.Else x.1) x.1)

  -- a statement of a form; those with parts of their own are scopes
  abbrev pub formed : Form → Reader
  formed f.If state = scoped if_at state
  formed f.Delay state = scoped (fixed inner f.Delay) state
  formed f.While state = scoped (fixed inner f.While) state
  formed f.Do state = scoped (fixed inner f.Do) state
  formed f.For state = scoped (fixed inner f.For) state
  formed f.Switch state = scoped (fixed inner f.Switch) state
  formed other state = fixed inner other state

  abbrev pub statement_by : Kind → Reader
  statement_by (kinds.Mark s.Semicolon) state = fixed inner f.Empty state
  statement_by (kinds.Mark s.LeftBrace) state = scoped (fixed inner f.Block) state
  statement_by (kinds.Key keyword) state = formed (statement_key keyword) state
  statement_by _ state = fixed inner f.Expr state

  abbrev pub statement_at : Reader
  statement_at state = statement_by (kind_at state) state

  -- a declaration in a block
  abbrev pub local_at : Reader
  local_at state = unflagged (fixed inner f.Local) state

  -- what stands in a block
  abbrev pub item_at : Reader
  item_at state = if starts_type state then guarded room local_at state else guarded room statement_at state

  abbrev pub items_at : Reader
  items_at state = list_from item_at (at_mark s.RightBrace) f.Items (suc (left_at state)) none state

  -- a statement that is a scope of its own
  abbrev pub branch_at : Reader
  branch_at state = scoped (guarded room statement_at) state

  abbrev pub expr_part : Place → Reader
  expr_part place = part_at inner room place

  abbrev pub maybe_expr_at : Reader
  maybe_expr_at state = optional_part expr_part f.MaybeExpr (has_expr state) state

  abbrev pub for_names_part : Place → Reader
  for_names_part p.Specs state = specs_at inner room state
  for_names_part p.SomeNames state = some_names_at inner room state
  for_names_part p.MaybeExpr state = maybe_expr_at state
  for_names_part _ state = None

  abbrev pub for_start_at : Reader
  for_start_at state =
      if starts_type state
      then unflagged (fixed for_names_part f.ForNames) state
      else fixed for_names_part f.ForStart state

  -- External declarations

  -- a body stands behind the declarator of a function, which is no typedef name
  abbrev pub begins_body : Tree → State → Bool
  begins_body declared state =
      at_mark s.LeftBrace state && is_some (params_of declared) && not state.scope.typedef

  abbrev pub body_at : Reader
  body_at state = fixed inner f.Body (in_body state) >>= (λ x. Some (x.0, back_to state x.1))

  abbrev pub function_from : ℕ → Tree → Tree → Reader
  function_from line specs declared state =
      body_at state >>= (λ x. Some (Node f.Function (At line ▹ specs ▹ declared ▹ x.0 ▹ none), x.1))

  -- the rest of a declaration, behind its names
  abbrev pub declaration_from : ℕ → Tree → Tree → Reader
  declaration_from line specs names state =
      past (Mark s.Semicolon) state >>= (λ next. Some (Node f.Declaration (At line ▹ specs ▹ names ▹ none), next))

  -- the rest of some names, behind the first declarator
  abbrev pub names_from : Tree → Reader
  names_from declared state =
      entry_from inner room declared state
      >>= (λ x. commas_by (entry_at inner room) goes_on f.Names
      (commas_from (entry_at inner room) goes_on f.Names (left_at x.1)) (x.0 ▹ none) (goes_on x.1) x.1)

  abbrev pub declared_from : ℕ → Tree → Tree → Reader
  declared_from line specs declared state =
      if begins_body declared state
      then function_from line specs declared state
      else names_from declared state >>= (λ x. declaration_from line specs x.0 x.1)

  abbrev pub external_from : ℕ → Tree → Reader
  external_from line specs state =
      if at_mark s.Semicolon state
      then declaration_from line specs (Node f.Names none) state
      else declared_at inner room state >>= (λ x. declared_from line specs x.0 x.1)

  abbrev pub external_at : Reader
  external_at state =
      unflagged (λ start. specs_at inner room start >>= (λ x. external_from (line_at start) x.0 x.1)) state
