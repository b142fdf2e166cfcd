-- Functions and statics of the core, in any text that has so many variables and these functions.
use Rattle.std.specs.Prelude.{◌≡◌, ℕ, Bool, List, length, map, replicate, None, Result, IfOk}
use Rattle.core_tree.specs.declared.program.Func.{Func}
use Rattle.core_tree.specs.declared.program.Reg.{Reg}
use Rattle.elaboration.specs.Context.{Context, Declared, Walked}
use Rattle.elaboration.specs.Resolving.{function_of}

-- so many registers without a name
abbrev pub nameless : ℕ → Bool → List Reg
nameless count pointer = replicate count (record { name = None; pointer = pointer })

-- says so of each context that has so many variables
abbrev pub WithVariables : ℕ → (Context → Type 0) → Type 0
WithVariables count says = (c : Context) → length c.variables ≡ count → says c

-- a function of the core, and functions in order
abbrev pub IsFunction : {E : Type 0} → ℕ → List Declared → Walked → Result Func E → Type 0
IsFunction variables functions walked result =
    (c : Context) → length c.variables ≡ variables → c.functions ≡ functions → IfOk result (λ r. r ≡ function_of c walked)

abbrev pub AreFunctions : {E : Type 0} → ℕ → List Declared → List Walked → Result (List Func) E → Type 0
AreFunctions variables functions all result =
    (c : Context) → length c.variables ≡ variables → c.functions ≡ functions → IfOk result (λ r. r ≡ map (function_of c) all)
