-- How macros are defined and found (C99 6.10.3).
use Rattle.std.specs.Prelude.{ℕ, ◌+◌, Bool, true, false, ◌&&◌, bytes_eq, if◌then◌else◌, List, [], ◌∷◌, Option, Some, None, Result, Ok, Err}
use Rattle.c_lexer.specs.declared.token.Token.{Token}
use Rattle.c_pre.specs.Table.{Table}
use Rattle.c_pre.specs.declared.macros.Defined.{Defined}
use Rattle.c_pre.specs.declared.macros.Macro.{Macro}
use Rattle.c_pre.specs.declared.answer.PreKind.{PreKind}
use Rattle.c_pre.specs.declared.answer.PreKind.TheVariants.{Redefined}

-- two lists have the same bytes at each place
abbrev pub same_by : {A : Type 0} → (A → List ℕ) → List A → List A → Bool
same_by bytes [] [] = true
same_by bytes [] (y ∷ ys) = false
same_by bytes (x ∷ xs) [] = false
same_by bytes (x ∷ xs) (y ∷ ys) = bytes_eq (bytes x) (bytes y) && same_by bytes xs ys

-- two lists of words are the same
abbrev pub same_words : List (List ℕ) → List (List ℕ) → Bool
same_words vs ws = same_by (λ w. w) vs ws

-- two lists of tokens have the same spellings
abbrev pub same_spellings : List Token → List Token → Bool
same_spellings ts us = same_by (λ t. t.bytes) ts us

-- two macros have the same parameters, or neither is function-like
abbrev pub same_parameters : Option (List (List ℕ)) → Option (List (List ℕ)) → Bool
same_parameters None None = true
same_parameters None (Some ws) = false
same_parameters (Some vs) None = false
same_parameters (Some vs) (Some ws) = same_words vs ws

-- two truth values are the same
abbrev pub same_truth : Bool → Bool → Bool
same_truth true b = b
same_truth false true = false
same_truth false false = true

-- two macros have the same parameters, both or neither of them with `...`, and the same tokens
abbrev pub same_macro : Macro → Macro → Bool
same_macro one other =
    same_parameters one.parameters other.parameters && same_truth one.variadic other.variadic
    && same_spellings one.replacement other.replacement

-- before anything is defined
abbrev pub no_macros : Table
no_macros = record { count = 0; names = [] }

-- the macro of a name
abbrev pub found_in : List ℕ → List (List ℕ × Option Defined) → Option Defined
found_in name [] = None
found_in name (entry ∷ rest) = if bytes_eq name entry.0 then entry.1 else found_in name rest

abbrev pub found : List ℕ → Table → Option Defined
found name table = found_in name table.names

-- where a name gets its macro, or none
abbrev pub with_entry : List ℕ → Option Defined → List (List ℕ × Option Defined) → List (List ℕ × Option Defined)
with_entry name macro [] = (name, macro) ∷ []
with_entry name macro (entry ∷ rest) =
    if bytes_eq name entry.0 then (entry.0, macro) ∷ rest else entry ∷ with_entry name macro rest

-- behind the definition of a macro whose name has none: each has a number of its own
abbrev pub with_macro : Macro → Table → Table
with_macro m table = record {
  count = table.count + 1;
  names = with_entry m.name (Some (record { number = table.count; it = m })) table.names;
}

-- behind a definition, by the macro of that name before: a name is defined again only in the same way
abbrev pub defined_by : Option Defined → Macro → Table → Result Table PreKind
defined_by None m table = Ok (with_macro m table)
defined_by (Some before) m table = if same_macro before.it m then Ok table else Err Redefined

-- behind a definition
abbrev pub defined : Macro → Table → Result Table PreKind
defined m table = defined_by (found m.name table) m table

-- behind an `#undef`: the name has no macro
abbrev pub undefined : List ℕ → Table → Table
undefined name table = record table { names = with_entry name None table.names }
