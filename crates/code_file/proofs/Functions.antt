-- The names of a function, from their parts.
use Rattle.std.proofs.Common.{◌≡◌, ◌≢◌, ◌++◌, ℕ, List, [], length, refl, sym, ap, ◌∙◌, append_assoc}
use Rattle.core_tree.specs.declared.program.Func.{Func}
use Rattle.core_tree.specs.declared.program.Mem.{Mem}
use Rattle.core_tree.specs.declared.program.Reg.{Reg}
use Rattle.core_tree.specs.declared.statements.Stm.{Stm}
use Rattle.flat_code.specs.declared.program.Entry.{Entry}
use Rattle.code_file.specs.Spelling.{Begins, Both, IsByte, IsNumber, IsShortList, byte, list_of, number, pair}
use Rattle.code_file.specs.CodeFile.{function_names, memory_name, register_name}
use Rattle.code_file.specs.Parts.{FitsFunction, FitsMemoryName, FitsRegister, IsShortBeside}
use Rattle.code_file.proofs.Reading.{BeginsNone}

-- One part behind another

pub then_some : {A B : Type 0} (P : A → Type 0) (Q : B → Type 0) (one : A → List ℕ) (two : B → List ℕ) (bytes middle rest : List ℕ) (a : A) (b : B) →
    Begins P one bytes middle a → Begins Q two middle rest b → Begins (Both P Q) (pair one two) bytes rest (a, b)
then_some P Q one two bytes middle rest a b first second = record {
  fits = (first.fits, second.fits);
  spelled = first.spelled ∙ ap (λ (s : List ℕ). one a ++ s) second.spelled ∙ sym (append_assoc (one a) (two b) rest);
  only = λ p others fits is.
      let x = first.only p.0 (two p.1 ++ others) fits.0 (is ∙ append_assoc (one p.0) (two p.1) others) in
      let y = second.only p.1 others fits.1 (sym x.1) in
      (ap (λ a. (a, p.1)) x.0 ∙ ap (λ b. (a, b)) y.0, y.1);
}

pub none_first : {A B : Type 0} (P : A → Type 0) (Q : B → Type 0) (one : A → List ℕ) (two : B → List ℕ) (bytes : List ℕ) →
    BeginsNone P one bytes → BeginsNone (Both P Q) (pair one two) bytes
none_first P Q one two bytes none p others fits is = none p.0 (two p.1 ++ others) fits.0 (is ∙ append_assoc (one p.0) (two p.1) others)

pub none_second : {A B : Type 0} (P : A → Type 0) (Q : B → Type 0) (one : A → List ℕ) (two : B → List ℕ) (bytes middle : List ℕ) (a : A) →
    Begins P one bytes middle a → BeginsNone Q two middle → BeginsNone (Both P Q) (pair one two) bytes
none_second P Q one two bytes middle a first none p others fits is =
    let x = first.only p.0 (two p.1 ++ others) fits.0 (is ∙ append_assoc (one p.0) (two p.1) others) in
    none p.1 others fits.1 (sym x.1)

-- A function

abbrev pub Head : List ℕ × ℕ → Type 0
Head = Both (IsShortList IsByte) IsNumber

abbrev pub head : List ℕ × ℕ → List ℕ
head = pair (list_of byte) number

abbrev pub Registers : Entry → List Reg → Type 0
Registers entry = IsShortBeside FitsRegister entry.kinds

abbrev pub registers : List Reg → List ℕ
registers = list_of register_name

abbrev pub Mems : List Mem → Type 0
Mems = IsShortList FitsMemoryName

abbrev pub mems : List Mem → List ℕ
mems = list_of memory_name

abbrev FunctionTuple : Type 0
FunctionTuple = (List ℕ × ℕ) × (List Reg × List Mem)

abbrev Parts : Entry → FunctionTuple → Type 0
Parts entry = Both Head (Both (Registers entry) Mems)

abbrev parts : FunctionTuple → List ℕ
parts = pair head (pair registers mems)

abbrev function_of : FunctionTuple → ℕ → List Stm → List (List ℕ) → Func
function_of p params body formats =
    record { name = p.0.0; line = p.0.1; params = params; regs = p.1.0; mems = p.1.1; body = body; formats = formats }

abbrev tuple_of : Func → FunctionTuple
tuple_of f = ((f.name, f.line), (f.regs, f.mems))

parts_fit : (entry : Entry) (f : Func) → FitsFunction entry f → Parts entry (tuple_of f)
parts_fit entry f fits = ((fits.name, fits.line), (fits.registers, fits.mems))

pub no_function : (entry : Entry) (bytes : List ℕ) → BeginsNone (Parts entry) parts bytes → BeginsNone (FitsFunction entry) function_names bytes
no_function entry bytes none f others fits is = none (tuple_of f) others (parts_fit entry f fits) is

pub no_head : (entry : Entry) (bytes : List ℕ) → BeginsNone Head head bytes → BeginsNone (FitsFunction entry) function_names bytes
no_head entry bytes none = no_function entry bytes (none_first Head (Both (Registers entry) Mems) head (pair registers mems) bytes none)

pub no_registers : (entry : Entry) (bytes middle : List ℕ) (a : List ℕ × ℕ) → Begins Head head bytes middle a → BeginsNone (Registers entry) registers middle → BeginsNone (FitsFunction entry) function_names bytes
no_registers entry bytes middle a first none =
    no_function entry bytes (none_second Head (Both (Registers entry) Mems) head (pair registers mems) bytes middle a first
    (none_first (Registers entry) Mems registers mems middle none))

pub no_mems : (entry : Entry) (bytes middle behind : List ℕ) (a : List ℕ × ℕ) (b : List Reg) → Begins Head head bytes middle a → Begins (Registers entry) registers middle behind b →
    BeginsNone Mems mems behind → BeginsNone (FitsFunction entry) function_names bytes
no_mems entry bytes middle behind a b first second none =
    no_function entry bytes (none_second Head (Both (Registers entry) Mems) head (pair registers mems) bytes middle a first
    (none_second (Registers entry) Mems registers mems middle behind b second none))

pub all_parts : (entry : Entry) (bytes middle behind rest : List ℕ) (a : List ℕ × ℕ) (b : List Reg) (c : List Mem) → Begins Head head bytes middle a → Begins (Registers entry) registers middle behind b →
    Begins Mems mems behind rest c → Begins (Parts entry) parts bytes rest (a, (b, c))
all_parts entry bytes middle behind rest a b c first second third =
    then_some Head (Both (Registers entry) Mems) head (pair registers mems) bytes middle rest a (b, c) first
    (then_some (Registers entry) Mems registers mems middle behind rest b c second third)

pub other_mems : (entry : Entry) (bytes rest : List ℕ) (p : FunctionTuple) → length p.1.1 ≢ length entry.mems → Begins (Parts entry) parts bytes rest p → BeginsNone (FitsFunction entry) function_names bytes
other_mems entry bytes rest p differ begins f others fits is =
    let one = begins.only (tuple_of f) others (parts_fit entry f fits) is in
    differ (sym (ap (λ (q : FunctionTuple). length q.1.1) one.0) ∙ fits.count)

pub a_function : (entry : Entry) (bytes rest : List ℕ) (p : FunctionTuple) (body : List Stm) (formats : List (List ℕ)) → body ≡ [] → formats ≡ [] → length p.1.1 ≡ length entry.mems →
    Begins (Parts entry) parts bytes rest p → Begins (FitsFunction entry) function_names bytes rest (function_of p entry.params body formats)
a_function entry bytes rest p body formats no_body no_formats count begins = record {
  fits = record {
    name = begins.fits.0.0;
    line = begins.fits.0.1;
    params = refl;
    registers = begins.fits.1.0;
    mems = begins.fits.1.1;
    count = count;
    body = no_body;
    formats = no_formats;
  };
  spelled = begins.spelled;
  only = λ f others fits is.
      let one = begins.only (tuple_of f) others (parts_fit entry f fits) is in (
        ap (λ n. function_of (tuple_of f) n f.body f.formats) fits.params
            ∙ ap (λ (b : List Stm). function_of (tuple_of f) entry.params b f.formats) (fits.body ∙ sym no_body)
            ∙ ap (λ (l : List (List ℕ)). function_of (tuple_of f) entry.params body l) (fits.formats ∙ sym no_formats)
            ∙ ap (λ (q : FunctionTuple). function_of q entry.params body formats) one.0,
        one.1,
      );
}
