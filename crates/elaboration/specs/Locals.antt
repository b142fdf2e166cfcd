-- Names that are declared, and the registers and memory of parameters and locals (C99 6.2.4, 6.7).
use Rattle.std.specs.Prelude.{ℕ, ◌+◌, Bool, true, false, not, ◌&&◌, ◌||◌, nat_eq, nat_lt, cond, length, List, [], ◌∷◌, ◌++◌, Option, Some, None, unwrap_or, Ok}
use Rattle.std.specs.List.{list_any}
use Rattle.c_types.specs.Types.{PlainType, Pointer}
use Rattle.c_types.specs.Layouts.{no_layout}
use Rattle.c_types.specs.TagTable.{layout_in}
use Rattle.core_tree.specs.declared.statements.Atom.TheVariants as atom
use Rattle.c_decls.specs.declared.refusal.TypeKind.TheVariants.{DeclaredTwice}
use Rattle.c_decls.specs.Refusals.{Checked, unless}
use Rattle.c_decls.specs.Named as n
use Rattle.c_decls.specs.Named.{PlainNamed}
use Rattle.c_decls.specs.ScopeList.{Table, ScopeList, named_in, innermost, with_name, after_declaration}
use Rattle.c_decls.specs.Typed.{same, is_scalar}
use Rattle.elaboration.specs.Context.{Context, local_register}
use Rattle.elaboration.specs.Conversions.{Spot, Local, Memory, write}

-- declarations

-- the same sort with the same type
abbrev pub is_same_again : PlainNamed → PlainNamed → Bool
is_same_again (n.Object type i) (n.Object other j) = same type other
is_same_again (n.Function type i) (n.Function other j) = same type other
is_same_again (n.Typedef type) (n.Typedef other) = same type other
is_same_again one other = false

abbrev pub is_file : List Table → Bool
is_file [] = true
is_file (scope ∷ outer) = false

abbrev pub is_twice_in : Bool → PlainNamed → Option PlainNamed → Bool
is_twice_in file named None = false
is_twice_in file named (Some before) = not (file && is_same_again before named)

-- whether a declaration is refused, since the innermost scope has the name already; at file scope it may come again as the
-- same sort with the same type (C99 6.7, 6.9.2)
abbrev pub is_twice : ScopeList → List ℕ → PlainNamed → Bool
is_twice scopes name named = is_twice_in (is_file scopes.inner) named (named_in name (innermost scopes))

-- a name that is declared
abbrev pub declared_as : ℕ → List ℕ → PlainNamed → Context → Checked Context
declared_as line name named c =
    unless (is_twice c.scopes name named) DeclaredTwice line
    (Ok (record c { scopes = after_declaration c.scopes name named }))

-- parameters and locals

abbrev pub is_pointer : PlainType → Bool
is_pointer (Pointer target) = true
is_pointer type = false

-- whether the parameter or local that is declared next is an object in memory: its address is taken, or it is no scalar
abbrev pub next_is_memory : PlainType → Context → Bool
next_is_memory type c =
    not (is_scalar type) || list_any (λ number. nat_eq number c.running.declared) c.running.addressed

-- with one register more, and with one memory local more
abbrev pub with_register : Option (List ℕ) → PlainType → Context → Context
with_register name type c =
    record c { running = record c.running { locals = c.running.locals ++ (record { name = name; pointer = is_pointer type }) ∷ [] } }

abbrev pub with_memory : List ℕ → PlainType → Context → Context
with_memory name type c =
    record c { running = record c.running { mems = c.running.mems ++ (record { name = name; layout = unwrap_or (layout_in c.tags type) no_layout }) ∷ [] } }

abbrev pub counted : Context → Context
counted c = record c { running = record c.running { declared = c.running.declared + 1 } }

abbrev pub with_named : Option (List ℕ) → PlainNamed → Context → Context
with_named None named c = c
with_named (Some name) named c = record c { scopes = with_name c.scopes name named }

-- a parameter that is an object in memory: its register is stored there first
abbrev pub memory_param : Option (List ℕ) → PlainType → Context → Context
memory_param name type c =
    let mem = length c.running.mems in
    let register = local_register (length c.running.locals) in
    let d = with_named name (n.Object type mem) (with_memory (unwrap_or name []) type (with_register name type c)) in
    write c.running.line type (Memory (atom.Mem mem)) (atom.Reg register) d

abbrev pub register_param : Option (List ℕ) → PlainType → Context → Context
register_param name type c =
    with_named name (n.Register type (length c.running.locals)) (with_register name type c)

-- a parameter of the running function: each has a register
abbrev pub function_param : Option (List ℕ) → PlainType → Context → Context
function_param name type c = cond (next_is_memory type c) (memory_param name type c) (register_param name type c)

-- a parameter of a prototype is no object of the running function: its name stands for its type alone (C99 6.7.5.3)
abbrev pub prototype_param : Option (List ℕ) → PlainType → Context → Context
prototype_param name type c = with_named name (n.Object type 0) c

-- whether a parameter list stands inside another scope, and so is that of a prototype (C99 6.2.1)
abbrev pub is_prototype : ScopeList → Bool
is_prototype scopes = nat_lt 1 (length scopes.inner)

-- with one parameter more
abbrev pub with_param : Option (List ℕ) → PlainType → Context → Context
with_param name type c =
    counted (cond (is_prototype c.scopes) (prototype_param name type c) (function_param name type c))

-- with one local more, and where it is
abbrev pub local_in : Bool → List ℕ → PlainType → Context → Context × Spot
local_in true name type c =
    let mem = length c.running.mems in
    (with_named (Some name) (n.Object type mem) (with_memory name type c), Memory (atom.Mem mem))
local_in false name type c =
    let register = length c.running.locals in
    (with_named (Some name) (n.Register type register) (with_register (Some name) type c), Local (local_register register))

abbrev pub counted_local : Context × Spot → Context × Spot
counted_local d = (counted d.0, d.1)

abbrev pub with_local : List ℕ → PlainType → Context → Context × Spot
with_local name type c = counted_local (local_in (next_is_memory type c) name type c)
