-- The structs of code, from tuples of their fields.
use Rattle.std.proofs.Common.{◌≡◌, ◌≢◌, ℕ, ℤ, List, ◌∷◌, Bool, Option, Some, None, Result, Err, refl, sym, ap, ◌∙◌, subst}
use Rattle.std.specs.Option.{MatchOption, ok_or}
use Rattle.c_types.specs.declared.layouts.Layout.{Layout}
use Rattle.flat_code.specs.declared.instructions.Instr.{Instr}
use Rattle.flat_code.specs.declared.instructions.Op.{Op}
use Rattle.flat_code.specs.declared.program.Code.{Code}
use Rattle.flat_code.specs.declared.program.Entry.{Entry}
use Rattle.flat_code.specs.declared.program.Site.{Site}
use Rattle.flat_code.specs.declared.program.StaticInit.{StaticInit}
use Rattle.code_file.specs.declared.file.CodeError.{CodeError}
use Rattle.code_file.specs.declared.file.CodeError.TheVariants as error
use Rattle.code_file.specs.Ops.{op_number}
use Rattle.code_file.specs.Spelling.{Any, Begins, Both, IsByte, IsNumber, IsShortList, IsSigned, Reads, byte, list_of, number, pair, signed, truth}
use Rattle.code_file.specs.CodeFile.{EndsOtherwise, code_bytes, entry_bytes, instr_bytes, layout_bytes, pointer_bytes, site_bytes, static_bytes}
use Rattle.code_file.specs.Parts.{FitsCode, FitsEntry, FitsInstr, FitsLayout, FitsPointer, FitsSite, FitsStatic}
use Rattle.code_file.proofs.OpNumbers.{op_once, op_small}
use Rattle.code_file.proofs.Reading.{BeginsNone, struct_none, struct_some}

abbrev instr_tuple : Type 0
instr_tuple = Op × (ℕ × (ℕ × (ℕ × ℤ)))

abbrev pub instr_fits : instr_tuple → Type 0
instr_fits = Both Any (Both IsNumber (Both IsNumber (Both IsNumber IsSigned)))

abbrev pub instr_spelling : instr_tuple → List ℕ
instr_spelling = pair (λ o. byte (op_number o)) (pair number (pair number (pair number signed)))

pub instr_none : (bytes rest : List ℕ) (e : CodeError) → Reads instr_fits instr_spelling bytes rest (Err e) → Reads FitsInstr instr_bytes bytes rest (Err e)
instr_none = struct_none FitsInstr instr_bytes instr_fits instr_spelling (λ (x : Instr). (x.op, (x.a, (x.b, (x.c, x.imm))))) (λ x fits. fits) (λ x. refl)

pub instr_some : (bytes rest : List ℕ) (p : instr_tuple) → Begins instr_fits instr_spelling bytes rest p → Begins FitsInstr instr_bytes bytes rest (record { op = p.0; a = p.1.0; b = p.1.1.0; c = p.1.1.1.0; imm = p.1.1.1.1 })
instr_some = struct_some FitsInstr instr_bytes instr_fits instr_spelling (λ (x : Instr). (x.op, (x.a, (x.b, (x.c, x.imm))))) (λ (p : instr_tuple). record { op = p.0; a = p.1.0; b = p.1.1.0; c = p.1.1.1.0; imm = p.1.1.1.1 }) (λ x. refl) (λ x fits. fits) (λ p fits. fits) (λ x. refl) (λ p. refl)

abbrev entry_tuple : Type 0
entry_tuple = ℕ × (ℕ × (List Bool × List ℕ))

abbrev pub entry_fits : entry_tuple → Type 0
entry_fits = Both IsNumber (Both IsNumber (Both (IsShortList Any) (IsShortList IsNumber)))

abbrev pub entry_spelling : entry_tuple → List ℕ
entry_spelling = pair number (pair number (pair (list_of truth) (list_of number)))

pub entry_none : (bytes rest : List ℕ) (e : CodeError) → Reads entry_fits entry_spelling bytes rest (Err e) → Reads FitsEntry entry_bytes bytes rest (Err e)
entry_none = struct_none FitsEntry entry_bytes entry_fits entry_spelling (λ (x : Entry). (x.first, (x.params, (x.kinds, x.mems)))) (λ x fits. fits) (λ x. refl)

pub entry_some : (bytes rest : List ℕ) (p : entry_tuple) → Begins entry_fits entry_spelling bytes rest p → Begins FitsEntry entry_bytes bytes rest (record { first = p.0; params = p.1.0; kinds = p.1.1.0; mems = p.1.1.1 })
entry_some = struct_some FitsEntry entry_bytes entry_fits entry_spelling (λ (x : Entry). (x.first, (x.params, (x.kinds, x.mems)))) (λ (p : entry_tuple). record { first = p.0; params = p.1.0; kinds = p.1.1.0; mems = p.1.1.1 }) (λ x. refl) (λ x fits. fits) (λ p fits. fits) (λ x. refl) (λ p. refl)

abbrev layout_tuple : Type 0
layout_tuple = ℕ × (ℕ × List ℕ)

abbrev pub layout_fits : layout_tuple → Type 0
layout_fits = Both IsNumber (Both IsNumber (IsShortList IsNumber))

abbrev pub layout_spelling : layout_tuple → List ℕ
layout_spelling = pair number (pair number (list_of number))

pub layout_none : (bytes rest : List ℕ) (e : CodeError) → Reads layout_fits layout_spelling bytes rest (Err e) → Reads FitsLayout layout_bytes bytes rest (Err e)
layout_none = struct_none FitsLayout layout_bytes layout_fits layout_spelling (λ (x : Layout). (x.size, (x.align, x.slots))) (λ x fits. fits) (λ x. refl)

pub layout_some : (bytes rest : List ℕ) (p : layout_tuple) → Begins layout_fits layout_spelling bytes rest p → Begins FitsLayout layout_bytes bytes rest (record { size = p.0; align = p.1.0; slots = p.1.1 })
layout_some = struct_some FitsLayout layout_bytes layout_fits layout_spelling (λ (x : Layout). (x.size, (x.align, x.slots))) (λ (p : layout_tuple). record { size = p.0; align = p.1.0; slots = p.1.1 }) (λ x. refl) (λ x fits. fits) (λ p fits. fits) (λ x. refl) (λ p. refl)

abbrev site_tuple : Type 0
site_tuple = ℕ × List ℕ

abbrev pub site_fits : site_tuple → Type 0
site_fits = Both IsNumber (IsShortList IsNumber)

abbrev pub site_spelling : site_tuple → List ℕ
site_spelling = pair number (list_of number)

pub site_none : (bytes rest : List ℕ) (e : CodeError) → Reads site_fits site_spelling bytes rest (Err e) → Reads FitsSite site_bytes bytes rest (Err e)
site_none = struct_none FitsSite site_bytes site_fits site_spelling (λ (x : Site). (x.instr, x.pins)) (λ x fits. fits) (λ x. refl)

pub site_some : (bytes rest : List ℕ) (p : site_tuple) → Begins site_fits site_spelling bytes rest p → Begins FitsSite site_bytes bytes rest (record { instr = p.0; pins = p.1 })
site_some = struct_some FitsSite site_bytes site_fits site_spelling (λ (x : Site). (x.instr, x.pins)) (λ (p : site_tuple). record { instr = p.0; pins = p.1 }) (λ x. refl) (λ x fits. fits) (λ p fits. fits) (λ x. refl) (λ p. refl)

abbrev code_tuple : Type 0
code_tuple = List Instr × (List Entry × (List StaticInit × (List Layout × (List Site × (List ℕ × List (List ℕ))))))

abbrev pub code_fits : code_tuple → Type 0
code_fits = Both (IsShortList FitsInstr) (Both (IsShortList FitsEntry) (Both (IsShortList FitsStatic) (Both (IsShortList FitsLayout) (Both (IsShortList FitsSite) (Both (IsShortList IsNumber) (IsShortList (IsShortList IsByte)))))))

abbrev pub code_spelling : code_tuple → List ℕ
code_spelling = pair (list_of instr_bytes) (pair (list_of entry_bytes) (pair (list_of static_bytes) (pair (list_of layout_bytes) (pair (list_of site_bytes) (pair (list_of number) (list_of (list_of byte)))))))

pub code_none : (bytes rest : List ℕ) (e : CodeError) → Reads code_fits code_spelling bytes rest (Err e) → Reads FitsCode code_bytes bytes rest (Err e)
code_none = struct_none FitsCode code_bytes code_fits code_spelling (λ (x : Code). (x.instrs, (x.funcs, (x.statics, (x.layouts, (x.sites, (x.lines, x.formats))))))) (λ x fits. fits) (λ x. refl)

pub code_some : (bytes rest : List ℕ) (p : code_tuple) → Begins code_fits code_spelling bytes rest p → Begins FitsCode code_bytes bytes rest (record { instrs = p.0; funcs = p.1.0; statics = p.1.1.0; layouts = p.1.1.1.0; sites = p.1.1.1.1.0; lines = p.1.1.1.1.1.0; formats = p.1.1.1.1.1.1 })
code_some = struct_some FitsCode code_bytes code_fits code_spelling (λ (x : Code). (x.instrs, (x.funcs, (x.statics, (x.layouts, (x.sites, (x.lines, x.formats))))))) (λ (p : code_tuple). record { instrs = p.0; funcs = p.1.0; statics = p.1.1.0; layouts = p.1.1.1.0; sites = p.1.1.1.1.0; lines = p.1.1.1.1.1.0; formats = p.1.1.1.1.1.1 }) (λ x. refl) (λ x fits. fits) (λ p fits. fits) (λ x. refl) (λ p. refl)

abbrev pointer_tuple : Type 0
pointer_tuple = ℕ × (ℕ × ℕ)

abbrev pub pointer_fits : pointer_tuple → Type 0
pointer_fits = Both IsNumber (Both IsNumber IsNumber)

abbrev pub pointer_spelling : pointer_tuple → List ℕ
pointer_spelling = pair number (pair number number)

pub pointer_none : (bytes rest : List ℕ) (e : CodeError) → Reads pointer_fits pointer_spelling bytes rest (Err e) → Reads FitsPointer pointer_bytes bytes rest (Err e)
pointer_none = struct_none FitsPointer pointer_bytes pointer_fits pointer_spelling (λ (x : ℕ × ℕ × ℕ). (x.0, (x.1, x.2))) (λ x fits. fits) (λ x. refl)

pub pointer_some : (bytes rest : List ℕ) (p : pointer_tuple) → Begins pointer_fits pointer_spelling bytes rest p → Begins FitsPointer pointer_bytes bytes rest (p.0, p.1.0, p.1.1)
pointer_some = struct_some FitsPointer pointer_bytes pointer_fits pointer_spelling (λ (x : ℕ × ℕ × ℕ). (x.0, (x.1, x.2))) (λ (p : pointer_tuple). (p.0, p.1.0, p.1.1)) (λ x. refl) (λ x fits. fits) (λ p fits. fits) (λ x. refl) (λ p. refl)

abbrev start_tuple : Type 0
start_tuple = ℕ × (List ℕ × List (ℕ × ℕ × ℕ))

abbrev pub start_fits : start_tuple → Type 0
start_fits = Both IsNumber (Both (IsShortList IsByte) (IsShortList FitsPointer))

abbrev pub start_spelling : start_tuple → List ℕ
start_spelling = pair number (pair (list_of byte) (list_of pointer_bytes))

pub start_none : (bytes rest : List ℕ) (e : CodeError) → Reads start_fits start_spelling bytes rest (Err e) → Reads FitsStatic static_bytes bytes rest (Err e)
start_none = struct_none FitsStatic static_bytes start_fits start_spelling (λ (x : StaticInit). (x.layout, (x.bytes, x.pointers))) (λ x fits. fits.0) (λ x. refl)

pub start_some : (bytes rest : List ℕ) (p : start_tuple) → EndsOtherwise p.1.0 → Begins start_fits start_spelling bytes rest p →
    Begins FitsStatic static_bytes bytes rest (record { layout = p.0; bytes = p.1.0; pointers = p.1.1 })
start_some bytes rest p ends begins = record {
  fits = (begins.fits, ends);
  spelled = begins.spelled;
  only = λ x others fits is.
      let one = begins.only (x.layout, (x.bytes, x.pointers)) others fits.0 is in
      (ap (λ (q : start_tuple). let s : StaticInit = record { layout = q.0; bytes = q.1.0; pointers = q.1.1 } in s) one.0, one.1);
}

pub start_zero : (bytes rest : List ℕ) (p : start_tuple) → (EndsOtherwise p.1.0 → ⊥) → Begins start_fits start_spelling bytes rest p → BeginsNone FitsStatic static_bytes bytes
start_zero bytes rest p zero begins x others fits is =
    let one = begins.only (x.layout, (x.bytes, x.pointers)) others fits.0 is in
    zero (subst EndsOtherwise (ap (λ (q : start_tuple). q.1.0) one.0) fits.1)

-- an operation, from its number
pub op_reads : (bytes rest : List ℕ) (b : ℕ) (found : Option Op) (r : Result Op CodeError) → Begins IsByte byte bytes rest b →
    MatchOption found ((o : Op) → op_number o ≢ b) (λ o. op_number o ≡ b) → r ≡ ok_or found error.Form → Reads Any (λ o. byte (op_number o)) bytes rest r
op_reads bytes rest b (Some o) r begins is gives =
    subst (λ a. Reads Any (λ o. byte (op_number o)) bytes rest a) (sym gives) (record {
      fits = tt;
      spelled = begins.spelled ∙ ap (λ n. n ∷ rest) (sym is);
      only = λ y others fits that.
          let one = begins.only (op_number y) others (op_small y) that in
          (op_once y o (one.0 ∙ sym is), one.1);
    })
op_reads bytes rest b None r begins none gives =
    subst (λ a. Reads Any (λ o. byte (op_number o)) bytes rest a) (sym gives)
    (λ y others fits that. none y (begins.only (op_number y) others (op_small y) that).0)
