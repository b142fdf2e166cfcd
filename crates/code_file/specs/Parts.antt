-- What is read of each part of a code file: its lists are short, and its numbers are those of their types.
use Rattle.std.specs.Prelude.{◌≡◌, ℕ, Bool, List, [], ◌++◌, length, IfSome}
use Rattle.std.specs.List.{AllZip}
use Rattle.c_types.specs.declared.layouts.Layout.{Layout}
use Rattle.core_tree.specs.declared.program.Core.{Core}
use Rattle.core_tree.specs.declared.program.Func.{Func}
use Rattle.core_tree.specs.declared.program.Mem.{Mem}
use Rattle.core_tree.specs.declared.program.Reg.{Reg}
use Rattle.core_tree.specs.declared.program.Static.{Static}
use Rattle.flat_code.specs.declared.instructions.Instr.{Instr}
use Rattle.flat_code.specs.declared.program.Code.{Code}
use Rattle.flat_code.specs.declared.program.Entry.{Entry}
use Rattle.flat_code.specs.declared.program.Site.{Site}
use Rattle.flat_code.specs.declared.program.StaticInit.{StaticInit}
use Rattle.code_file.specs.declared.file.CodeFile.{CodeFile}
use Rattle.code_file.specs.Spelling.{Any, IsByte, IsNumber, IsShort, IsShortList, IsSigned, list_of}
use Rattle.code_file.specs.CodeFile.{EndsOtherwise, IsBareMemory, IsBareStatic, function_names, static_name}

abbrev pub FitsInstr : Instr → Type 0
FitsInstr i = Any i.op × (IsNumber i.a × (IsNumber i.b × (IsNumber i.c × IsSigned i.imm)))

abbrev pub FitsEntry : Entry → Type 0
FitsEntry e = IsNumber e.first × (IsNumber e.params × (IsShortList Any e.kinds × IsShortList IsNumber e.mems))

abbrev pub FitsPointer : ℕ × ℕ × ℕ → Type 0
FitsPointer p = IsNumber p.0 × (IsNumber p.1 × IsNumber p.2)

abbrev pub FitsStatic : StaticInit → Type 0
FitsStatic s = (IsNumber s.layout × (IsShortList IsByte s.bytes × IsShortList FitsPointer s.pointers)) × EndsOtherwise s.bytes

abbrev pub FitsLayout : Layout → Type 0
FitsLayout l = IsNumber l.size × (IsNumber l.align × IsShortList IsNumber l.slots)

abbrev pub FitsSite : Site → Type 0
FitsSite s = IsNumber s.instr × IsShortList IsNumber s.pins

abbrev pub FitsCode : Code → Type 0
FitsCode code =
    IsShortList FitsInstr code.instrs × (IsShortList FitsEntry code.funcs × (IsShortList FitsStatic code.statics × (IsShortList FitsLayout code.layouts × (IsShortList FitsSite code.sites × (IsShortList IsNumber code.lines × IsShortList (IsShortList IsByte) code.formats)))))

abbrev pub FitsStaticName : Static → Type 0
FitsStaticName s = IfSome s.name (IsShortList IsByte) × IsBareStatic s

abbrev pub FitsMemoryName : Mem → Type 0
FitsMemoryName m = IsShortList IsByte m.name × IsBareMemory m

-- of a register that holds pointers or not
abbrev pub FitsRegister : Bool → Reg → Type 0
FitsRegister pointer reg = IfSome reg.name (IsShortList IsByte) × (reg.pointer ≡ pointer)

-- a short list, P of each item and what stands at its place
abbrev pub IsShortBeside : {K X : Type 0} → (K → X → Type 0) → List K → List X → Type 0
IsShortBeside P known xs = IsShort xs × AllZip P known xs

-- of a function of an entry
pub record FitsFunction (entry : Entry) (func : Func) : Type 0 where
  pub name : IsShortList IsByte func.name
  pub line : IsNumber func.line
  pub params : func.params ≡ entry.params
  pub registers : IsShortBeside FitsRegister entry.kinds func.regs
  pub mems : IsShortList FitsMemoryName func.mems
  pub count : length func.mems ≡ length entry.mems
  pub body : func.body ≡ []
  pub formats : func.formats ≡ []

abbrev pub names_bytes : Core → List ℕ
names_bytes names = list_of static_name names.statics ++ list_of function_names names.funcs

-- the names of a code
pub record FitsNames (code : Code) (names : Core) : Type 0 where
  pub statics : IsShortList FitsStaticName names.statics
  pub count : length names.statics ≡ length code.statics
  pub funcs : IsShortBeside FitsFunction code.funcs names.funcs

pub record FitsFile (file : CodeFile) : Type 0 where
  pub code : FitsCode file.code
  pub names : FitsNames file.code file.names
