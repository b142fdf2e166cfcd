-- Calls: the statement of a function that is called, and the layouts of the elements that it makes (C99 6.5.2.2, 7.20.3).
use Rattle.std.specs.Prelude.{ℕ, map, length, List, [], ◌∷◌, ◌++◌, slice_get, slice_index_or, drop, Option, Some, None, unwrap_or}
use Rattle.c_types.specs.declared.layouts.Layout.{Layout}
use Rattle.c_types.specs.Types.{PlainType, PlainTypes, Void, Int, Pointer, none, first}
use Rattle.c_types.specs.Layouts.{number_layout}
use Rattle.c_types.specs.TagTable.{TagTable, layout_in}
use Rattle.core_tree.specs.declared.statements.Atom.{Atom}
use Rattle.core_tree.specs.declared.statements.Atom.TheVariants as atom
use Rattle.core_tree.specs.declared.statements.LibName.{LibName}
use Rattle.core_tree.specs.declared.statements.LibName.TheVariants as lib
use Rattle.core_tree.specs.declared.statements.StmKind.{StmKind}
use Rattle.core_tree.specs.declared.statements.StmKind.TheVariants.{Call, Malloc, Calloc, Realloc, Free, Lib, Printf, Enter, Leave}
use Rattle.c_decls.specs.declared.built_in.BuiltIn.{BuiltIn}
use Rattle.c_decls.specs.declared.built_in.BuiltIn.TheVariants as b
use Rattle.c_decls.specs.BuiltIns.{built_ins}
use Rattle.c_decls.specs.Named as n
use Rattle.c_decls.specs.Named.{PlainNamed}
use Rattle.c_decls.specs.Typed.{PlainTyped}
use Rattle.elaboration.specs.Context.{Code, Context, emit, integer_by, pointer_by}
use Rattle.elaboration.specs.Conversions.{Found, Spot, Value, Empty, atom_in, convert}

-- the layout of the elements of an object whose address is wanted as a type: that of what this points to; void and what
-- is incomplete have the layout of a byte
abbrev pub byte_layout : Layout
byte_layout = number_layout 1

unfoldable pub element_layout : TagTable → PlainType → Layout
element_layout tags (Pointer target) = unwrap_or (layout_in tags target) byte_layout
element_layout tags type = byte_layout

-- an argument with its type
abbrev pub Argument : Type 0
Argument = PlainTyped × Atom

abbrev pub types_of : List Argument → List PlainTyped
types_of arguments = map (λ x. x.0) arguments

abbrev pub atoms_of : List Argument → List Atom
atoms_of arguments = map (λ x. x.1) arguments

abbrev pub atom_at : List Argument → ℕ → Atom
atom_at arguments n = slice_index_or (atoms_of arguments) n atom.Null

-- the type of the first parameter, and those behind it
abbrev pub first_type : PlainTypes → PlainType
first_type none = Void
first_type (first type rest) = type

abbrev pub rest_types : PlainTypes → PlainTypes
rest_types none = none
rest_types (first type rest) = rest

-- an argument converted to its parameter, where there is one
abbrev pub argument_from : ℕ → PlainTypes → Code → Context → Found → Context × Argument
argument_from line none before c e = (c, (e.typed, atom_in e))
argument_from line (first type rest) before c e =
    let d = convert line before type e.typed (atom_in e) c in (d.0, (e.typed, d.1))

-- what a call's name means: a function with its number, or a built-in name
abbrev pub built_in_at : Option PlainNamed → Option BuiltIn
built_in_at (Some (n.BuiltIn index)) = slice_get built_ins index
built_in_at other = None

-- the built-in functions that have a statement in common
unfoldable pub lib_name : BuiltIn → LibName
lib_name b.Exit = lib.Exit
lib_name b.Memcpy = lib.Memcpy
lib_name b.Memmove = lib.Memmove
lib_name b.Memset = lib.Memset
lib_name b.Strlen = lib.Strlen
lib_name b.Strcmp = lib.Strcmp
lib_name b.Getchar = lib.Getchar
lib_name b.Putchar = lib.Putchar
lib_name b.Puts = lib.Puts
lib_name other = lib.Abort

-- a statement whose result a new temporary takes, by the type of the result
abbrev pub result_by : ℕ → PlainType → (Option ℕ → StmKind) → Context → Context × Spot
result_by line (Int ty) kind c = let d = integer_by line (λ r. kind (Some r)) c in (d.0, Value d.1)
result_by line (Pointer target) kind c = let d = pointer_by line (λ r. kind (Some r)) c in (d.0, Value d.1)
result_by line type kind c = (emit line (kind None) c, Empty)

abbrev pub pointer_result : Context × Atom → Context × Spot
pointer_result d = (d.0, Value d.1)

-- a format of the running function, and its number
abbrev pub with_format : List ℕ → Context → Context
with_format bytes c = record c { running = record c.running { formats = c.running.formats ++ bytes ∷ [] } }

abbrev pub printing : ℕ → List ℕ → List Atom → Context → Context × Spot
printing line bytes arguments c =
    pointer_result (integer_by line (λ r. Printf r (length c.running.formats) arguments) (with_format bytes c))

-- a call of a built-in function; what is made is wanted as a type
unfoldable pub call_built_in : ℕ → BuiltIn → PlainType → PlainType → Option (List ℕ) → List Argument → Context → Context × Spot
call_built_in line b.Malloc answer wanted format arguments c =
    pointer_result (pointer_by line (λ r. Malloc r (atom_at arguments 0) (element_layout c.tags wanted)) c)
call_built_in line b.Calloc answer wanted format arguments c =
    pointer_result (pointer_by line (λ r. Calloc r (atom_at arguments 0) (atom_at arguments 1) (element_layout c.tags wanted)) c)
call_built_in line b.Realloc answer wanted format arguments c =
    pointer_result (pointer_by line (λ r. Realloc r (atom_at arguments 0) (atom_at arguments 1) (element_layout c.tags wanted)) c)
call_built_in line b.Free answer wanted format arguments c =
    (emit line Leave (emit line (Free (atom_at arguments 0)) (emit line Enter c)), Empty)
call_built_in line b.Printf answer wanted format arguments c =
    printing line (unwrap_or format []) (drop 1 (atoms_of arguments)) c
call_built_in line name answer wanted format arguments c =
    result_by line answer (λ r. Lib (lib_name name) r (atoms_of arguments)) c

abbrev pub call_of_built_in : ℕ → Option BuiltIn → PlainType → PlainType → Option (List ℕ) → List Argument → Context → Context × Spot
call_of_built_in line None answer wanted format arguments c = (c, Empty)
call_of_built_in line (Some name) answer wanted format arguments c = call_built_in line name answer wanted format arguments c

-- a call of what a name means; a call of a declared function is kept with its line
abbrev pub call_named : ℕ → Option PlainNamed → PlainType → PlainType → Option (List ℕ) → List Argument → Context → Context × Spot
call_named line (Some (n.Function type index)) answer wanted format arguments c =
    result_by line answer (λ r. Call index r (atoms_of arguments)) (record c { calls = c.calls ++ (index, line) ∷ [] })
call_named line other answer wanted format arguments c =
    call_of_built_in line (built_in_at other) answer wanted format arguments c
