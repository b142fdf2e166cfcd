-- External declarations and texts (C99 6.9).
use Rattle.std.specs.Prelude.{ℕ, ◌+◌, pos, Bool, true, false, not, ◌&&◌, cond, nat_lt, length, is_some, List, [], ◌∷◌, ◌++◌, Option, Some, None, slice_get, slice_set, Ok, codes}
use Rattle.std.specs.List.{sum_by}
use Rattle.c_types.specs.declared.types.IntType.TheVariants as i
use Rattle.c_types.specs.Types.{PlainType, Void, Int, Pointer, Function, none}
use Rattle.core_tree.specs.declared.statements.Atom.{Atom}
use Rattle.core_tree.specs.declared.statements.Atom.TheVariants as atom
use Rattle.core_tree.specs.declared.statements.StmKind.TheVariants.{Return}
use Rattle.core_tree.specs.Statements.{operands}
use Rattle.c_tree.specs.Forms as f
use Rattle.c_tree.specs.Tree as t
use Rattle.c_tree.specs.Tree.{Tree, Trees, At, Node, ◌▹◌}
use Rattle.c_tree.specs.Scopes.{name_of}
use Rattle.c_decls.specs.declared.refusal.TypeKind.TheVariants.{Undeclared, DeclaredTwice, Operands, NoMain, LeftOut, ProgramTooLong}
use Rattle.c_decls.specs.Named as n
use Rattle.c_decls.specs.Named.{PlainNamed}
use Rattle.c_decls.specs.ScopeList.{named_in}
use Rattle.c_decls.specs.Refusals.{Checked, refused, then, unless}
use Rattle.c_decls.specs.Typed.{same, is_function}
use Rattle.c_decls.specs.TypeNames.{with_layers}
use Rattle.c_decls.specs.PlaceRules.{length_of}
use Rattle.c_decls.specs.Expressions.{line_of}
use Rattle.elaboration.specs.Context.{Piece, Does, Here, running_at, no_code, Declared, Context, emit}
use Rattle.elaboration.specs.Addressed.{addressed_in}
use Rattle.elaboration.specs.Declarators.{specs, layers}
use Rattle.elaboration.specs.Declarations.{function_number, declared_function, declaration}
use Rattle.elaboration.specs.Statements.{around_body, items}

-- an external declaration begins: no function runs
abbrev pub begun : ℕ → List ℕ → Context → Context
begun line addressed c = record c { running = running_at line addressed; code = no_code }

-- what a function answers, and how many parameters it has
abbrev pub answer_of : PlainType → PlainType
answer_of (Function answer params) = answer
answer_of type = Void

abbrev pub params_of : PlainType → ℕ
params_of (Function answer params) = length_of params
params_of type = 0

-- a body
abbrev pub is_defined : Option Declared → Bool
is_defined None = false
is_defined (Some declared) = is_some declared.defined

abbrev pub define : ℕ → ℕ → Option Declared → List Declared → List Declared
define index number None functions = functions
define index number (Some declared) functions = slice_set functions index (record declared { defined = Some number })

-- a function of that number gets its body, which shares a scope with its parameters
abbrev pub body_begun : ℕ → PlainType → Context → Context
body_begun index type c = record c {
  functions = define index (length c.walked) (slice_get c.functions index) c.functions;
  scopes = record { file = c.scopes.file; inner = c.params ∷ [] };
  params = [];
  running = record c.running { answer = answer_of type };
}

-- the end of a body is reached: zero or null is returned, or nothing
abbrev pub last_answer : PlainType → Option Atom
last_answer Void = None
last_answer (Pointer target) = Some atom.Null
last_answer type = Some (atom.Int (pos 0))

-- statements and their operands
abbrev pub piece_length : Piece → ℕ
piece_length (Does stm) = 1 + length (operands stm.kind)
piece_length (Here label) = 0

abbrev pub body_ended : ℕ → List ℕ → PlainType → ℕ → Context → Checked Context
body_ended line name type end c =
    let d = emit end (Return (last_answer c.running.answer)) c in
    let total = d.length + sum_by piece_length d.code.pieces in
    unless (nat_lt 268435456 total) ProgramTooLong line
    (Ok (record d {
      scopes = record { file = d.scopes.file; inner = [] };
      length = total;
      walked = d.walked ++ (record { name = name; params = params_of type; running = d.running; code = d.code }) ∷ [];
    }))

abbrev pub body : ℕ → List ℕ → PlainType → Tree → Context → Checked Context
body line name type (Node f.Body (Node f.Items parts ▹ At end ▹ t.none)) c =
    then (items parts around_body c) (λ d. body_ended line name type end d)
body line name type tree c = refused Operands line

-- a function with its body: its name is declared before its body; a second body is refused before it is gone through
-- (C99 6.9.1)
abbrev pub defined : ℕ → List ℕ → PlainType → Tree → Context → Checked Context
defined line name type tree c =
    let index = function_number name c in
    unless (not (is_function type)) LeftOut line
    (then (declared_function line name type c) (λ d. unless (is_defined (slice_get d.functions index)) DeclaredTwice line (body line name type tree (body_begun index type d))))

abbrev pub named_definition : ℕ → Option (List ℕ) → PlainType → Tree → Context → Checked Context
named_definition line None type tree c = refused Operands line
named_definition line (Some name) type tree c = defined line name type tree c

abbrev pub definition : ℕ → Tree → Tree → Tree → Context → Checked Context
definition line words declarator tree c =
    then (specs words c) (λ base. then (layers declarator base.0) (λ l. then (with_layers l.0.tags l.1 base.1) (λ type. named_definition line (name_of declarator) type tree l.0)))

-- an external declaration
unfoldable pub external : Tree → Context → Checked Context
external (Node f.Function (At line ▹ words ▹ Node f.Declared (declarator ▹ t.none) ▹ tree ▹ t.none)) c =
    definition line words declarator tree (begun line (addressed_in declarator tree) c)
external (Node f.Declaration (At line ▹ words ▹ names ▹ t.none)) c = declaration true line words names (begun line [] c)
external tree c = refused Operands (line_of tree)

unfoldable pub externals : Trees → Context → Checked Context
externals t.none c = Ok c
externals (tree ▹ rest) c = then (external tree c) (λ d. externals rest d)

-- the end of a text

-- the first call of a function that is defined nowhere is refused
abbrev pub calls_defined : List Declared → List (ℕ × ℕ) → Context → Checked Context
calls_defined functions [] c = Ok c
calls_defined functions (call ∷ calls) c =
    cond (is_defined (slice_get functions call.0)) (calls_defined functions calls c) (refused Undeclared call.1)

-- `main` is defined, of type int without parameters (C99 5.1.2.2.1)
abbrev pub is_main : List Declared → Option PlainNamed → Bool
is_main functions (Some (n.Function type index)) =
    same type (Function (Int i.Int) none) && is_defined (slice_get functions index)
is_main functions other = false

abbrev pub ended : Context → Checked Context
ended c =
    then (calls_defined c.functions c.calls c) (λ d. unless (not (is_main d.functions (named_in (codes "main") d.scopes.file))) NoMain 1 (Ok d))
