-- The first call of a function that has no body.
use Rattle.std.specs.Prelude.{ℕ, cond, List, [], ◌∷◌, Option, Some, None, slice_get, Ok}
use Rattle.c_decls.specs.declared.refusal.TypeKind.TheVariants.{Undeclared}
use Rattle.c_decls.specs.Refusals.{Checked, refused}
use Rattle.elaboration.specs.Context.{Context, Declared}
use Rattle.elaboration.specs.Externals.{is_defined, calls_defined}

-- its line, if there is one
abbrev pub first_undefined : List Declared → List (ℕ × ℕ) → Option ℕ
first_undefined functions [] = None
first_undefined functions (call ∷ calls) =
    cond (is_defined (slice_get functions call.0)) (first_undefined functions calls) (Some call.1)

abbrev pub undeclared_at : Option ℕ → Context → Checked Context
undeclared_at None c = Ok c
undeclared_at (Some line) c = refused Undeclared line

-- each function that is called has a body
abbrev pub calls_are_defined : Context → Checked Context
calls_are_defined c = calls_defined c.functions c.calls c
