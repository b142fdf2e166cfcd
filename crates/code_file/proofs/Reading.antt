-- What a reader answers, from what the readers of the parts answer.
use Rattle.std.proofs.Common.{◌≡◌, ◌<◌, ℕ, List, ◌++◌, length, length-append, Result, Err, sym, ap, ◌∙◌, subst, arith}
use Rattle.code_file.specs.declared.file.CodeError.{CodeError}
use Rattle.code_file.specs.declared.file.CodeError.TheVariants as error
use Rattle.code_file.specs.Spelling.{Begins, Reads}
use Rattle.code_file.proofs.Numbers.{same_fronts}

-- no value begins the bytes
abbrev pub BeginsNone : {X : Type 0} → (X → Type 0) → (X → List ℕ) → List ℕ → Type 0
BeginsNone {X} Fits spell bytes = (x : X) (others : List ℕ) → Fits x → bytes ≡ spell x ++ others → ⊥

-- a failure is handed on where one part being there follows from the whole being there
pub hands_on : {X A : Type 0} (Fits : X → Type 0) (spell : X → List ℕ) (bytes rest : List ℕ) (Part : A → Type 0) (part : A → List ℕ) (front behind : List ℕ) (e : CodeError) →
    (BeginsNone Part part front → BeginsNone Fits spell bytes) → Reads Part part front behind (Err e) → Reads Fits spell bytes rest (Err e)
hands_on Fits spell bytes rest Part part front behind error.Form turn none = turn none
hands_on Fits spell bytes rest Part part front behind error.NoMemory turn none = tt

-- the exit of a `?`
pub exits : {X : Type 0} (Fits : X → Type 0) (spell : X → List ℕ) (bytes rest : List ℕ) (r : Result X CodeError) (e : CodeError) →
    (y : CodeError) × (r ≡ Err y) × (y ≡ e) → Reads Fits spell bytes rest (Err e) → Reads Fits spell bytes rest r
exits Fits spell bytes rest r e shown says =
    subst (λ a. Reads Fits spell bytes rest a) (ap Err (sym shown.2) ∙ sym shown.1) says

-- values of one width
pub of_width : {X : Type 0} (Fits : X → Type 0) (spell : X → List ℕ) (width : ℕ) (bytes front rest : List ℕ) (x : X) →
    ((y : X) → length (spell y) ≡ width) → ((y : X) → Fits y → spell y ≡ spell x → y ≡ x) →
    Fits x → spell x ≡ front → bytes ≡ front ++ rest → Begins Fits spell bytes rest x
of_width Fits spell width bytes front rest x wide once fits spelled is = record {
  fits = fits;
  spelled = is ∙ ap (λ (s : List ℕ). s ++ rest) (sym spelled);
  only = λ y others also that.
      let both = same_fronts (spell y) (spell x) others rest (wide y ∙ sym (wide x)) (sym that ∙ is ∙ ap (λ (s : List ℕ). s ++ rest) (sym spelled)) in
      (once y also both.0, both.1);
}

pub too_short : {X : Type 0} (Fits : X → Type 0) (spell : X → List ℕ) (width : ℕ) (bytes : List ℕ) →
    ((y : X) → length (spell y) ≡ width) → length bytes < width → BeginsNone Fits spell bytes
too_short Fits spell width bytes wide short x others fits is =
    let long = length-append (spell x) others in
    let whole = ap length is in
    let one = wide x in
    omega arith

pub says_none : {X : Type 0} (Fits : X → Type 0) (spell : X → List ℕ) (bytes rest : List ℕ) (e : CodeError) → e ≡ error.Form →
    BeginsNone Fits spell bytes → Reads Fits spell bytes rest (Err e)
says_none Fits spell bytes rest e is none = subst (λ a. Reads Fits spell bytes rest (Err a)) (sym is) none

-- a struct that is read as a tuple of its parts
pub struct_none : {X P : Type 0} (Fits : X → Type 0) (spell : X → List ℕ) (Part : P → Type 0) (part : P → List ℕ) (to : X → P) →
    ((x : X) → Fits x → Part (to x)) → ((x : X) → spell x ≡ part (to x)) → (bytes rest : List ℕ) (e : CodeError) →
    Reads Part part bytes rest (Err e) → Reads Fits spell bytes rest (Err e)
struct_none Fits spell Part part to fits_to spell_to bytes rest e says =
    hands_on Fits spell bytes rest Part part bytes rest e
    (λ none x others fits is. none (to x) others (fits_to x fits) (is ∙ ap (λ (s : List ℕ). s ++ others) (spell_to x))) says

pub struct_some : {X P : Type 0} (Fits : X → Type 0) (spell : X → List ℕ) (Part : P → Type 0) (part : P → List ℕ) (to : X → P) (from : P → X) →
    ((x : X) → from (to x) ≡ x) → ((x : X) → Fits x → Part (to x)) → ((p : P) → Part p → Fits (from p)) →
    ((x : X) → spell x ≡ part (to x)) → ((p : P) → part p ≡ spell (from p)) → (bytes rest : List ℕ) (p : P) →
    Begins Part part bytes rest p → Begins Fits spell bytes rest (from p)
struct_some Fits spell Part part to from back fits_to fits_from spell_to spell_from bytes rest p begins = record {
  fits = fits_from p begins.fits;
  spelled = begins.spelled ∙ ap (λ (s : List ℕ). s ++ rest) (spell_from p);
  only = λ x others fits is.
      let one = begins.only (to x) others (fits_to x fits) (is ∙ ap (λ (s : List ℕ). s ++ others) (spell_to x)) in
      (sym (back x) ∙ ap from one.0, one.1);
}
