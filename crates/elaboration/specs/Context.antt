-- What is known while a text is elaborated.
use Rattle.std.specs.Prelude.{ℕ, ◌+◌, ◌*◌, ℤ, List, [], ◌∷◌, ◌++◌, max, Option, None, Ok}
use Rattle.c_types.specs.Types.{PlainType, Void}
use Rattle.c_types.specs.TagTable.{TagTable, no_tags}
use Rattle.c_types.specs.declared.layouts.Layout.{Layout}
use Rattle.core_tree.specs.declared.program.Reg.{Reg as Register}
use Rattle.core_tree.specs.declared.program.Mem.{Mem}
use Rattle.core_tree.specs.declared.program.Start.{Start}
use Rattle.core_tree.specs.declared.statements.Atom.{Atom}
use Rattle.core_tree.specs.declared.statements.Atom.TheVariants.{Reg}
use Rattle.core_tree.specs.declared.statements.Stm.{Stm}
use Rattle.core_tree.specs.declared.statements.StmKind.{StmKind}
use Rattle.c_decls.specs.ScopeList as scopes
use Rattle.c_decls.specs.ScopeList.{ScopeList, Table}
use Rattle.c_decls.specs.BuiltIns.{first_scopes}
use Rattle.c_decls.specs.Refusals.{Checked, then}
use Rattle.c_decls.specs.TypeNames as names

-- numbers while a text is walked: the registers of a function are its parameters and locals, its integer temporaries and
-- its pointer temporaries, by threes in turn; statics are file-scope variables and literals, by twos in turn
abbrev pub local_register : ℕ → ℕ
local_register n = 3 * n

abbrev pub integer_temporary : ℕ → ℕ
integer_temporary n = 3 * n + 1

abbrev pub pointer_temporary : ℕ → ℕ
pointer_temporary n = 3 * n + 2

abbrev pub file_variable : ℕ → ℕ
file_variable n = 2 * n

abbrev pub literal_object : ℕ → ℕ
literal_object n = 2 * n + 1

-- a piece of code: a statement, or the place to which a label leads
pub data Piece : Type 0 where
  Does : (stm : Stm) → Piece
  Here : (label : ℕ) → Piece

-- the code of the running function so far: its pieces; how many labels it has; how many temporaries of each sort the
-- running full expression has, and how many the greatest
pub record Code : Type 0 where
  pub pieces : List Piece
  pub labels : ℕ
  pub integers : ℕ
  pub pointers : ℕ
  pub most_integers : ℕ
  pub most_pointers : ℕ

abbrev pub no_code : Code
no_code = record { pieces = []; labels = 0; integers = 0; pointers = 0; most_integers = 0; most_pointers = 0 }

-- the running function: its line; the type that it answers; which of its parameters and locals, numbered in order of
-- declaration with the parameters of prototypes among them, are taken the address of, and how many are declared so far; its
-- registers without temporaries; its memory locals; the formats of its calls of `printf`; and the cases of the running
-- switch, each with its label, and its default
pub record Running : Type 0 where
  pub line : ℕ
  pub answer : PlainType
  pub addressed : List ℕ
  pub declared : ℕ
  pub locals : List Register
  pub mems : List Mem
  pub formats : List (List ℕ)
  pub cases : List (ℤ × ℕ)
  pub otherwise : Option ℕ

abbrev pub running_at : ℕ → List ℕ → Running
running_at line addressed = record {
  line = line;
  answer = Void;
  addressed = addressed;
  declared = 0;
  locals = [];
  mems = [];
  formats = [];
  cases = [];
  otherwise = None;
}

-- a file-scope variable; its initializer, where it has one so far
pub record Variable : Type 0 where
  pub name : List ℕ
  pub layout : Layout
  pub start : Option Start

-- a declared function; the number of its definition, where it has one so far
pub record Declared : Type 0 where
  pub name : List ℕ
  pub defined : Option ℕ

-- a function that was walked, with how many parameters it has
pub record Walked : Type 0 where
  pub name : List ℕ
  pub params : ℕ
  pub running : Running
  pub code : Code

-- what is known at a place of a text: scopes and tags; file-scope variables, the bytes of literals, and the bytes that the
-- blocks of both take; functions in order of declaration, the calls of them with their lines, and those defined; how many
-- statements and operands these have; the scope of the parameter list that ended last; the running function and its code
pub record Context : Type 0 where
  pub scopes : ScopeList
  pub tags : TagTable
  pub variables : List Variable
  pub literals : List (List ℕ)
  pub static_bytes : ℕ
  pub functions : List Declared
  pub calls : List (ℕ × ℕ)
  pub walked : List Walked
  pub length : ℕ
  pub params : Table
  pub running : Running
  pub code : Code

-- before the first external declaration
abbrev pub first_context : Context
first_context = record {
  scopes = first_scopes;
  tags = no_tags;
  variables = [];
  literals = [];
  static_bytes = 0;
  functions = [];
  calls = [];
  walked = [];
  length = 0;
  params = [];
  running = running_at 0 [];
  code = no_code;
}

-- an answer with the context behind it
abbrev pub With : Type 0 → Type 0
With A = Checked (Context × A)

-- the scopes and tags, as the rules of types see them, and those behind
abbrev pub asked : Context → names.Context
asked c = record { scopes = c.scopes; tags = c.tags }

abbrev pub told : names.Context → Context → Context
told n c = record c { scopes = n.scopes; tags = n.tags }

abbrev pub entered : Context → Context
entered c = record c { scopes = scopes.entered c.scopes }

abbrev pub left : Context → Context
left c = record c { scopes = scopes.left c.scopes }

-- something in a scope of its own (C99 6.2.1)
abbrev pub scoped : Context → (Context → Checked Context) → Checked Context
scoped c inside = then (inside (entered c)) (λ d. Ok (left d))

-- with one piece of code more
abbrev pub with_piece : Piece → Context → Context
with_piece piece c = record c { code = record c.code { pieces = c.code.pieces ++ piece ∷ [] } }

-- with one statement more, at a line
abbrev pub emit : ℕ → StmKind → Context → Context
emit line kind c = with_piece (Does (record { line = line; kind = kind })) c

-- the next label that is new, and so many labels more
abbrev pub new_label : Context → ℕ
new_label c = c.code.labels

abbrev pub with_labels : ℕ → Context → Context
with_labels n c = record c { code = record c.code { labels = c.code.labels + n } }

-- a label leads here
abbrev pub here : ℕ → Context → Context
here label c = with_piece (Here label) c

-- with one temporary of a sort more
abbrev pub with_integer : Code → Code
with_integer code = record code { integers = code.integers + 1; most_integers = max code.most_integers (code.integers + 1) }

abbrev pub with_pointer : Code → Code
with_pointer code = record code { pointers = code.pointers + 1; most_pointers = max code.most_pointers (code.pointers + 1) }

-- a statement that writes a new integer temporary, and one that writes a new pointer temporary
abbrev pub integer_by : ℕ → (ℕ → StmKind) → Context → Context × Atom
integer_by line kind c =
    let r = integer_temporary c.code.integers in (emit line (kind r) (record c { code = with_integer c.code }), Reg r)

abbrev pub pointer_by : ℕ → (ℕ → StmKind) → Context → Context × Atom
pointer_by line kind c =
    let r = pointer_temporary c.code.pointers in (emit line (kind r) (record c { code = with_pointer c.code }), Reg r)

-- a full expression begins: its temporaries are numbered anew
abbrev pub anew : Context → Context
anew c = record c { code = record c.code { integers = 0; pointers = 0 } }

-- with other pieces of code
abbrev pub with_pieces : List Piece → Context → Context
with_pieces pieces c = record c { code = record c.code { pieces = pieces } }
