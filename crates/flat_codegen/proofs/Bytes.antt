-- What statics hold first are bytes.
use Rattle.std.proofs.Common.{◌≡◌, ℕ, List, [], ◌∷◌, ◌++◌, refl, sym, ◌∙◌, ap, subst}
use Rattle.std.specs.Prelude.{All, fold}
use Rattle.std.specs.List.{enumerate_from}
use Rattle.std.proofs.lemmas.List.Elements.{All-nil, All-cons, All-append}
use Rattle.core_tree.specs.declared.program.Func.{Func}
use Rattle.core_tree.specs.declared.statements.Stm.{Stm}
use Rattle.meaning_laws.specs.code.Objects.{IsByte}
use Rattle.meaning_laws.specs.code.Laws.{HoldsBytes}
use Rattle.flat_code.specs.declared.program.Code.{Code}
use Rattle.flat_code.specs.declared.program.StaticInit.{StaticInit}
use Rattle.flat_codegen.specs.Emitting.{with_entry, with_function, with_point}

-- what one static holds first
abbrev pub IsOfBytes : StaticInit → Type 0
IsOfBytes init = All IsByte init.bytes

-- one static more
pub bytes_more : (inits : List StaticInit) (init : StaticInit) → All IsOfBytes inits → IsOfBytes init → All IsOfBytes (inits ++ init ∷ [])
bytes_more inits init all one =
    All-append IsOfBytes inits (init ∷ []) all (All-cons IsOfBytes init [] one (All-nil IsOfBytes))

-- functions leave the statics as they are
statements_stay : (place : ℕ → ℕ) (func : Func) (code : Code) (body : List (ℕ × Stm)) → (fold (with_point place func) code body).statics ≡ code.statics
statements_stay place func code [] = refl
statements_stay place func code (at ∷ body) = statements_stay place func (with_point place func code at) body

functions_stay : (code : Code) (funcs : List Func) → (fold with_function code funcs).statics ≡ code.statics
functions_stay code [] = refl
functions_stay code (func ∷ funcs) =
    functions_stay (with_function code func) funcs ∙ statements_stay _ func (with_entry code func) (enumerate_from 0 func.body)

-- so the code of all functions holds bytes where the code before them did
pub bytes_hold : (code last : Code) (funcs : List Func) → last ≡ fold with_function code funcs → HoldsBytes code → HoldsBytes last
bytes_hold code last funcs is holds =
    subst (All IsOfBytes) (sym (ap (λ (c : Code). c.statics) is ∙ functions_stay code funcs)) holds
