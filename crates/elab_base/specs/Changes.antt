-- Changes of what is known while a text is elaborated that the definition makes in passing.
use Rattle.std.specs.Prelude.{ℕ, ℤ, List, [], ◌∷◌, ◌++◌, length, take, drop, Option, Some, slice_get, unwrap_or}
use Rattle.c_types.specs.Types.{PlainType}
use Rattle.c_types.specs.Layouts.{no_layout}
use Rattle.c_types.specs.TagTable.{TagTable, no_tags, layout_in}
use Rattle.c_types.specs.declared.layouts.Layout.{Layout}
use Rattle.core_tree.specs.declared.program.Start.{Start}
use Rattle.core_tree.specs.declared.statements.Atom.{Atom}
use Rattle.c_decls.specs.ScopeList.{no_scopes, named_in}
use Rattle.c_decls.specs.Typed.{operand}
use Rattle.elaboration.specs.Context.{Piece, Code, Running, Context, told}
use Rattle.elaboration.specs.Conversions.{convert_to}
use Rattle.elaboration.specs.Declarations.{started_variable, variable_number_of}
use Rattle.elaboration.specs.Externals.{define}
use Rattle.elab_base.specs.declared.code.Mark.{Mark}
use Rattle.elab_base.specs.Marks.{cut}

-- code with more pieces behind its own
abbrev pub grown : List Piece → Code → Code
grown more code = record code { pieces = code.pieces ++ more }

-- a call of a declared function is kept with its line
abbrev pub with_call : ℕ → ℕ → Context → Context
with_call function line c = record c { calls = c.calls ++ (function, line) ∷ [] }

-- the function of a number, where there is one, has the body that is walked next
abbrev pub with_body : ℕ → Context → Context
with_body index c = record c { functions = define index (length c.walked) (slice_get c.functions index) c.functions }

-- the variable of a number, where there is one, has this initializer
abbrev pub with_start : ℕ → Start → Context → Context
with_start index start c =
    record c { variables = started_variable index start (slice_get c.variables index) c.variables }

-- a case with its label, at a place among others
abbrev pub with_case_at : ℕ → ℤ → ℕ → List (ℤ × ℕ) → List (ℤ × ℕ)
with_case_at place value label cases = take place cases ++ ((value, label) ∷ drop place cases)

-- the running switch has these cases and this default
abbrev pub with_cases : List (ℤ × ℕ) → Option ℕ → Context → Context
with_cases cases otherwise c = record c { running = record c.running { cases = cases; otherwise = otherwise } }

abbrev pub with_default : ℕ → Context → Context
with_default label c = record c { running = record c.running { otherwise = Some label } }

-- scopes and tags are taken out
abbrev pub without_names : Context → Context
without_names c = told (record { scopes = no_scopes; tags = no_tags }) c

-- a value coerced to a type; the mark stands in front of its code
abbrev pub coerced : ℕ → Mark → PlainType → PlainType → Atom → Context → Context × Atom
coerced line before type source a c = convert_to line (cut before c.code) (operand type) (operand source) a c

-- the layout of an object in memory; where its type has no size, that of nothing
abbrev pub layout_or_none : TagTable → PlainType → Layout
layout_or_none tags type = unwrap_or (layout_in tags type) no_layout

-- the number of a variable: that of its first declaration
abbrev pub variable_number : List ℕ → Context → ℕ
variable_number name c = variable_number_of c (named_in name c.scopes.file)

-- the running function with one case more, at a place among those of its running switch
abbrev pub with_case_in : ℕ → ℤ → ℕ → Running → Running
with_case_in place value label running = record running { cases = with_case_at place value label running.cases }
