-- The bytes of a code file.
use Rattle.std.specs.Prelude.{◌≡◌, ◌≢◌, ℕ, Bool, List, [], ◌∷◌, ◌++◌, length, codes, All, IfSome}
use Rattle.std.specs.List.{AllZip}
use Rattle.c_types.specs.declared.layouts.Layout.{Layout}
use Rattle.c_types.specs.Layouts.{no_layout}
use Rattle.core_tree.specs.declared.program.Core.{Core}
use Rattle.core_tree.specs.declared.program.Func.{Func}
use Rattle.core_tree.specs.declared.program.Mem.{Mem}
use Rattle.core_tree.specs.declared.program.Reg.{Reg}
use Rattle.core_tree.specs.declared.program.Start.{Start}
use Rattle.core_tree.specs.declared.program.Static.{Static}
use Rattle.flat_code.specs.declared.instructions.Instr.{Instr}
use Rattle.flat_code.specs.declared.program.Code.{Code}
use Rattle.flat_code.specs.declared.program.Entry.{Entry}
use Rattle.flat_code.specs.declared.program.Site.{Site}
use Rattle.flat_code.specs.declared.program.StaticInit.{StaticInit}
use Rattle.code_file.specs.declared.file.CodeFile.{CodeFile}
use Rattle.code_file.specs.Ops.{op_number}
use Rattle.code_file.specs.Spelling.{IsByte, IsNumber, IsShort, IsShortList, IsSigned, byte, list_of, number, optional, signed, truth}

-- Code

abbrev pub instr_bytes : Instr → List ℕ
instr_bytes i = byte (op_number i.op) ++ (number i.a ++ (number i.b ++ (number i.c ++ signed i.imm)))

abbrev pub entry_bytes : Entry → List ℕ
entry_bytes e = number e.first ++ (number e.params ++ (list_of truth e.kinds ++ list_of number e.mems))

abbrev pub pointer_bytes : ℕ × ℕ × ℕ → List ℕ
pointer_bytes p = number p.0 ++ (number p.1 ++ number p.2)

abbrev pub static_bytes : StaticInit → List ℕ
static_bytes s = number s.layout ++ (list_of byte s.bytes ++ list_of pointer_bytes s.pointers)

abbrev pub layout_bytes : Layout → List ℕ
layout_bytes l = number l.size ++ (number l.align ++ list_of number l.slots)

abbrev pub site_bytes : Site → List ℕ
site_bytes s = number s.instr ++ list_of number s.pins

abbrev pub code_bytes : Code → List ℕ
code_bytes code =
    list_of instr_bytes code.instrs ++ (list_of entry_bytes code.funcs ++ (list_of static_bytes code.statics ++ (list_of layout_bytes code.layouts ++ (list_of site_bytes code.sites ++ (list_of number code.lines ++ list_of (list_of byte) code.formats)))))

-- Names

abbrev pub static_name : Static → List ℕ
static_name s = optional (list_of byte) s.name

abbrev pub register_name : Reg → List ℕ
register_name r = optional (list_of byte) r.name

abbrev pub memory_name : Mem → List ℕ
memory_name m = list_of byte m.name

abbrev pub function_names : Func → List ℕ
function_names f = (list_of byte f.name ++ number f.line) ++ (list_of register_name f.regs ++ list_of memory_name f.mems)

-- A file

-- HSCODE01, the code and the names
abbrev pub spelling : CodeFile → List ℕ
spelling file =
    codes "HSCODE01" ++ (code_bytes file.code ++ (list_of static_name file.names.statics ++ list_of function_names file.names.funcs))

-- What agrees

-- a function has the parameters, registers and memory locals of an entry
pub record AgreesWith (entry : Entry) (func : Func) : Type 0 where
  pub params : func.params ≡ entry.params
  pub registers : AllZip (λ (pointer : Bool) (reg : Reg). reg.pointer ≡ pointer) entry.kinds func.regs
  pub mems : length func.mems ≡ length entry.mems

-- the names are those of the code
pub record Agree (file : CodeFile) : Type 0 where
  pub statics : length file.names.statics ≡ length file.code.statics
  pub functions : AllZip AgreesWith file.code.funcs file.names.funcs

-- What names leave empty

abbrev pub no_start : Start
no_start = record { bytes = []; pointers = [] }

abbrev pub IsBareStatic : Static → Type 0
IsBareStatic s = (s.layout ≡ no_layout) × (s.start ≡ no_start)

abbrev pub IsBareMemory : Mem → Type 0
IsBareMemory m = m.layout ≡ no_layout

pub record IsBareFunction (f : Func) : Type 0 where
  pub mems : All IsBareMemory f.mems
  pub body : f.body ≡ []
  pub formats : f.formats ≡ []

-- What can be written

-- no byte of zero stands at the end
abbrev pub EndsOtherwise : List ℕ → Type 0
EndsOtherwise bytes = (front : List ℕ) → bytes ≢ front ++ 0 ∷ []

abbrev pub IsShortEntry : Entry → Type 0
IsShortEntry e = IsShort e.kinds × IsShort e.mems

abbrev pub IsShortStatic : StaticInit → Type 0
IsShortStatic s = IsShort s.bytes × IsShort s.pointers

pub record IsShortCode (code : Code) : Type 0 where
  pub instrs : IsShort code.instrs
  pub funcs : IsShortList IsShortEntry code.funcs
  pub statics : IsShortList IsShortStatic code.statics
  pub layouts : IsShortList (λ (l : Layout). IsShort l.slots) code.layouts
  pub sites : IsShortList (λ (s : Site). IsShort s.pins) code.sites
  pub lines : IsShort code.lines
  pub formats : IsShortList IsShort code.formats

pub record IsShortFunction (f : Func) : Type 0 where
  pub name : IsShort f.name
  pub registers : IsShortList (λ (r : Reg). IfSome r.name IsShort) f.regs
  pub mems : IsShortList (λ (m : Mem). IsShort m.name) f.mems

pub record IsShortNames (names : Core) : Type 0 where
  pub statics : IsShortList (λ (s : Static). IfSome s.name IsShort) names.statics
  pub funcs : IsShortList IsShortFunction names.funcs

-- a file that has bytes: its parts agree, its lists are short, its names are bare, and no start ends in a zero
pub record IsWritable (file : CodeFile) : Type 0 where
  pub agree : Agree file
  pub code : IsShortCode file.code
  pub names : IsShortNames file.names
  pub bare_statics : All IsBareStatic file.names.statics
  pub bare_functions : All IsBareFunction file.names.funcs
  pub ends : All (λ (s : StaticInit). EndsOtherwise s.bytes) file.code.statics

-- Ranges

abbrev pub IsRangedInstr : Instr → Type 0
IsRangedInstr i = IsNumber i.a × IsNumber i.b × IsNumber i.c × IsSigned i.imm

abbrev pub IsRangedEntry : Entry → Type 0
IsRangedEntry e = IsNumber e.first × IsNumber e.params × All IsNumber e.mems

abbrev pub IsRangedPointer : ℕ × ℕ × ℕ → Type 0
IsRangedPointer p = IsNumber p.0 × IsNumber p.1 × IsNumber p.2

abbrev pub IsRangedStatic : StaticInit → Type 0
IsRangedStatic s = IsNumber s.layout × All IsByte s.bytes × All IsRangedPointer s.pointers

abbrev pub IsRangedLayout : Layout → Type 0
IsRangedLayout l = IsNumber l.size × IsNumber l.align × All IsNumber l.slots

abbrev pub IsRangedSite : Site → Type 0
IsRangedSite s = IsNumber s.instr × All IsNumber s.pins

pub record IsRangedCode (code : Code) : Type 0 where
  pub instrs : All IsRangedInstr code.instrs
  pub funcs : All IsRangedEntry code.funcs
  pub statics : All IsRangedStatic code.statics
  pub layouts : All IsRangedLayout code.layouts
  pub sites : All IsRangedSite code.sites
  pub lines : All IsNumber code.lines
  pub formats : All (All IsByte) code.formats

pub record IsRangedFunction (f : Func) : Type 0 where
  pub name : All IsByte f.name
  pub line : IsNumber f.line
  pub registers : All (λ (r : Reg). IfSome r.name (All IsByte)) f.regs
  pub mems : All (λ (m : Mem). All IsByte m.name) f.mems

-- the numbers of a file are those of their types
pub record IsRanged (file : CodeFile) : Type 0 where
  pub code : IsRangedCode file.code
  pub statics : All (λ (s : Static). IfSome s.name (All IsByte)) file.names.statics
  pub funcs : All IsRangedFunction file.names.funcs

-- What bytes give

-- a file that can be written has these bytes
pub record HasBytes (bytes : List ℕ) (file : CodeFile) : Type 0 where
  pub writable : IsWritable file
  pub ranged : IsRanged file
  pub spelled : spelling file ≡ bytes

-- and no other file has them
pub record IsFileOf (bytes : List ℕ) (file : CodeFile) : Type 0 where
  pub has : HasBytes bytes file
  pub only : (other : CodeFile) → HasBytes bytes other → other ≡ file
