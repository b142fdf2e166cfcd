-- The readers of the grammar, by what the functions of the code have: their room, and the trees that they read before.
use Rattle.std.specs.Prelude.{ℕ, zero, suc, Bool, false, if◌then◌else◌, List, [], ◌∷◌, drop, take, Option, Some, None}
use Rattle.c_tree.specs.declared.tree.Expr.{Expr}
use Rattle.c_tree.specs.declared.tree.Specs.{Specs}
use Rattle.c_tree.specs.declared.tree.Declarator.{Declarator}
use Rattle.c_tree.specs.declared.statement.Init.{Init}
use Rattle.c_tree.specs.declared.statement.Stmt.{Stmt}
use Rattle.c_tree.specs.declared.word.Keyword.{Keyword}
use Rattle.c_tree.specs.declared.word.Keyword.TheVariants as k
use Rattle.c_tree.specs.declared.word.Sign.TheVariants as s
use Rattle.c_tree.specs.Allowed.{Tally, no_words}
use Rattle.c_tree.specs.Depth.{most}
use Rattle.c_tree.specs.Forms as f
use Rattle.c_tree.specs.Grammar.{Part, mark, shape}
use Rattle.c_tree.specs.Places.{Place, Branch}
use Rattle.c_tree.specs.Tree.{Tree, Trees, At, Node, none, ◌▹◌}
use Rattle.c_tree.specs.StatementView.{trees, expr_view, specs_view, declared_view, entry_view, names_view, stmt_view}
use Rattle.grammar_reading.specs.declared.kind.Kind.TheVariants as kinds
use Rattle.grammar_reading.specs.declared.kind.SpecStart.{SpecStart}
use Rattle.grammar_reading.specs.declared.kind.SpecStart.TheVariants as starts
use Rattle.grammar_reading.specs.State.{State, at_key, line_at, left_at}
use Rattle.grammar_reading.specs.Reading.{Reader, PartsReader, fixed, unflagged, parts_of, ending, goes_on, commas_from}
use Rattle.grammar_reading.specs.Expressions as e
use Rattle.grammar_reading.specs.Declarators as d
use Rattle.grammar_reading.specs.Statements as g
use Rattle.grammar_reading.specs.Rooms.{less}
use Rattle.parser_parts.specs.Tallies.{tally_of}
use Rattle.parser_parts.specs.Trees.{spec_words_of}
use Rattle.parser_parts.specs.declared.deep.DeepExpr.{DeepExpr}
use Rattle.parser_parts.specs.declared.deep.DeepWords.{DeepWords}
use Rattle.parser_parts.specs.declared.tally.Tally.{Tally as Counted}
use Rattle.c_parser.specs.declared.kind.NameSort.{NameSort}
use Rattle.c_parser.specs.Pieces.{one_word_at, else_part}
use Rattle.c_parser.specs.Sorts.{sort_place}

-- Expressions

-- the rest of an expression behind its left part, which begins at a line: commas, operators of a level, and what grows
-- behind a primary expression
abbrev pub comma_behind : ℕ → ℕ → DeepExpr → Reader
comma_behind room line left = e.comma_from (less room) room room line (expr_view left.tree)

abbrev pub binary_behind : ℕ → ℕ → ℕ → DeepExpr → Reader
binary_behind room level line left = e.binary_from (less room) room room level line (expr_view left.tree)

abbrev pub postfix_behind : ℕ → ℕ → DeepExpr → Reader
postfix_behind room line left = e.postfix_from (less room) room room line (expr_view left.tree)

-- the arguments of a call, at least one
abbrev pub some_arguments : ℕ → Reader
some_arguments room state =
    commas_from (e.argument_at (less room) room) goes_on f.Arguments (left_at state) none state

-- Specs

-- all words of specs; plain ones have no `static`, `extern` and `typedef`
abbrev pub all_specs : ℕ → Bool → Reader
all_specs room plain state =
    d.specs_from (less room) room (suc (left_at state)) plain no_words (At (line_at state) ▹ none) state

-- one word of specs behind others
abbrev pub word_behind : ℕ → Counted → DeepWords → SpecStart → State → Option ((Tally × Trees) × State)
word_behind room tally words start = one_word_at (less room) room (tally_of tally) (spec_words_of words) start

-- a keyword behind others, and a typedef name
abbrev pub keyword_behind : ℕ → Counted → DeepWords → State → Option ((Tally × Trees) × State)
keyword_behind room tally words = word_behind room tally words starts.Word

abbrev pub name_behind : ℕ → Counted → DeepWords → State → Option ((Tally × Trees) × State)
name_behind room tally words = word_behind room tally words starts.TypedefName

-- specs of these words, where they may stand
abbrev pub specs_of : Bool → Counted → ℕ → DeepWords → Option Tree
specs_of plain tally line words =
    if d.may_stand plain (tally_of tally) then Some (Node f.Specs (At line ▹ spec_words_of words)) else None

-- an enum with its enumerators
abbrev pub enum_body_at : ℕ → Reader
enum_body_at room state = ending f.EnumBody (parts_of (less room) (take 5 (shape (f.EnumBody false) zero)) state)

-- Declarators

-- a declarator or a part of one, of a sort
abbrev pub of_sort : ℕ → ((Place → Reader) → ℕ → Place → Reader) → NameSort → Reader
of_sort room reader sort = reader (less room) room (sort_place sort)

-- a declarator in parentheses, and a name
abbrev pub parens_at : ℕ → NameSort → Reader
parens_at room sort = fixed (d.same_sort (less room) room (sort_place sort)) f.Parens

abbrev pub name_base : NameSort → Reader
name_base sort = d.base_by (less zero) zero (sort_place sort) kinds.Name

-- no name, where it may be left out
abbrev pub no_name : NameSort → Option Tree
no_name sort = if d.must_name (sort_place sort) then None else Some (Node f.Nothing none)

-- all suffixes
abbrev pub all_suffixes : ℕ → Bool → Reader
all_suffixes room is_name state = d.suffixes_from (less room) room (suc (left_at state)) is_name none state

-- the parameters of a function, at least one
abbrev pub some_params : ℕ → Reader
some_params room state = commas_from (d.param_at (less room) room) goes_on f.Params (left_at state) none state

-- Names of declarations

-- an initializer that is an expression
abbrev pub init_expr_at : ℕ → Reader
init_expr_at room = fixed (d.part_at (less room) room) f.InitExpr

-- the rest of an entry behind its declarator
abbrev pub entry_behind : ℕ → Declarator → Reader
entry_behind room declarator = d.entry_from (less room) room (declared_view declarator)

-- at most so many names more, behind some
abbrev pub names_more : ℕ → ℕ → List (Declarator × Option Init) → Reader
names_more room turns some =
    commas_from (d.entry_at (less room) room) goes_on f.Names turns (trees entry_view some)

-- names, behind the first declarator
abbrev pub names_behind : ℕ → Declarator → Reader
names_behind room declarator = g.names_from (less room) room (declared_view declarator)

-- Statements

-- a statement by the keyword that it may begin with
abbrev pub by_keyword : ℕ → Keyword → Reader
by_keyword room keyword = g.formed (less room) room (g.statement_key keyword)

-- the rest of an `if` behind its body
abbrev pub if_behind : ℕ → ℕ → Expr → Stmt → Reader
if_behind room line test body state =
    g.else_by (less room) room (At line ▹ expr_view test ▹ stmt_view body ▹ none) (at_key k.Else state) state

-- the statement behind `else`, where there is one
abbrev pub else_at : ℕ → State → Option (Option Tree × State)
else_at room state = else_part (less room) room (at_key k.Else state) state

-- the words and parts of a `for` behind the first so many
abbrev pub for_behind : ℕ → ℕ → PartsReader
for_behind room first = parts_of (less room) (drop first (shape f.For zero))

-- a closing parenthesis and a statement
abbrev pub enclosed_body : ℕ → PartsReader
enclosed_body room = parts_of (less room) (mark s.RightParen ∷ Part Branch ∷ [])

-- the start of a `for`, by whether it declares names
abbrev pub for_names_at : ℕ → Reader
for_names_at room = unflagged (fixed (g.for_names_part (less room) room) f.ForNames)

abbrev pub for_start_at : ℕ → Reader
for_start_at room = fixed (g.for_names_part (less room) room) f.ForStart

-- External declarations

-- the rest of an external declaration behind its specs, and behind its first declarator
abbrev pub external_behind : ℕ → ℕ → Specs → Reader
external_behind room line specs = g.external_from (less room) room line (specs_view specs)

abbrev pub declared_behind : ℕ → ℕ → Specs → Declarator → Reader
declared_behind room line specs declarator =
    g.declared_from (less room) room line (specs_view specs) (declared_view declarator)

-- the rest of the definition of a function, and of a declaration behind its names
abbrev pub function_behind : ℕ → ℕ → Specs → Declarator → Reader
function_behind room line specs declarator =
    g.function_from (less room) room line (specs_view specs) (declared_view declarator)

abbrev pub declaration_behind : ℕ → Specs → List (Declarator × Option Init) → Reader
declaration_behind line specs names = g.declaration_from (less most) most line (specs_view specs) (names_view names)

-- the external declaration at the head of what is left of a text
abbrev pub next_external : Reader
next_external = g.external_at (less most) most
