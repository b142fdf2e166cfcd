-- Which code is that of a core.
use Rattle.std.specs.Prelude.{◌≡◌, ◌≢◌, ◌<◌, ◌+◌, ℕ, pos, List, [], ◌∷◌, ◌++◌, Option, Some, None, map, length, replicate, slice_get, IsPermutation, IsSortedByKey, All, Any, Contains, ◌⊎◌}
use Rattle.std.specs.Ordering.{nat_cmp}
use Rattle.core_tree.specs.declared.program.Core.{Core}
use Rattle.core_tree.specs.declared.program.Func.{Func}
use Rattle.core_tree.specs.declared.program.Mem.{Mem}
use Rattle.core_tree.specs.declared.program.Reg.{Reg}
use Rattle.core_tree.specs.declared.program.Static.{Static}
use Rattle.core_tree.specs.declared.statements.Atom.{Atom}
use Rattle.core_tree.specs.declared.statements.Stm.{Stm}
use Rattle.core_tree.specs.declared.statements.StmKind.{StmKind}
use Rattle.core_tree.specs.declared.statements.StmKind.TheVariants.{Printf}
use Rattle.core_tree.specs.Sound.{main_of, element_layouts}
use Rattle.c_types.specs.declared.layouts.Layout.{Layout}
use Rattle.flat_code.specs.declared.instructions.Instr.{Instr}
use Rattle.flat_code.specs.declared.instructions.Op.TheVariants as op
use Rattle.flat_code.specs.declared.program.Code.{Code}
use Rattle.flat_code.specs.declared.program.Entry.{Entry}
use Rattle.flat_code.specs.declared.program.StaticInit.{StaticInit}
use Rattle.object_meaning.specs.objects.Meaning.{line_of}
use Rattle.object_meaning.specs.counted.Pinning.{Pins}
use Rattle.object_meaning.specs.compiled.Handing.{instr, hand_of, handed_atoms, code_length}
use Rattle.object_meaning.specs.compiled.Places.{first_of, place_of}
use Rattle.object_meaning.specs.compiled.Doing.{Does}
use Rattle.object_meaning.specs.compiled.Sites.{sites_of}

-- a statement stands at a place, and its line beside each of its instructions
pub record IsStatement (core : Core) (code : Code) (f : ℕ) (func : Func) (place : ℕ) (stm : Stm) : Type 0 where
  pub hands : (k : ℕ) (a : Atom) → slice_get (handed_atoms stm.kind) k ≡ Some a → slice_get code.instrs (place + k) ≡ Some (hand_of a)
  pub does : (i : Instr) × (slice_get code.instrs (place + length (handed_atoms stm.kind)) ≡ Some i) × Does core code f func stm.kind i
  pub lines : (k : ℕ) → k < code_length stm.kind → slice_get code.lines (place + k) ≡ Some stm.line

-- a function's entry: its first instruction, its parameters, its registers and its memory locals
pub record IsEntry (core : Core) (code : Code) (f : ℕ) (func : Func) (entry : Entry) : Type 0 where
  pub first : entry.first ≡ first_of core f
  pub params : entry.params ≡ func.params
  pub kinds : entry.kinds ≡ map (λ (r : Reg). r.pointer) func.regs
  pub mems : map (slice_get code.layouts) entry.mems ≡ map (λ (m : Mem). Some m.layout) func.mems

-- some bytes without the zeros at their end
pub record IsTrimmed (bytes trimmed : List ℕ) : Type 0 where
  pub zeros : ℕ
  pub same : bytes ≡ trimmed ++ replicate zeros 0
  pub last : (front : List ℕ) → trimmed ≢ front ++ 0 ∷ []

-- a static: its layout, its bytes without zeros at their end, and its pointers by their slots
pub record IsStatic (code : Code) (static : Static) (init : StaticInit) : Type 0 where
  pub layout : slice_get code.layouts init.layout ≡ Some static.layout
  pub bytes : IsTrimmed static.start.bytes init.bytes
  pub same_pointers : IsPermutation static.start.pointers init.pointers
  pub by_slots : IsSortedByKey (λ (p : ℕ × ℕ × ℕ). p.0) nat_cmp init.pointers

-- a layout that a static, a memory local or a new object of the core has
abbrev pub IsLayoutIn : Core → Layout → Type 0
IsLayoutIn core layout =
    Any (λ (static : Static). static.layout ≡ layout) core.statics ⊎ Any (λ (func : Func). Any (λ (mem : Mem). mem.layout ≡ layout) func.mems ⊎ Any (λ (stm : Stm). Contains (element_layouts stm.kind) layout) func.body) core.funcs

-- the format that a statement writes
abbrev pub format_of : Func → StmKind → Option (List ℕ)
format_of func (Printf r format args) = slice_get func.formats format
format_of func kind = None

-- a format that a statement of the core writes
abbrev pub IsFormatIn : Core → List ℕ → Type 0
IsFormatIn core format =
    Any (λ (func : Func). Any (λ (stm : Stm). format_of func stm.kind ≡ Some format) func.body) core.funcs

pub record IsCompiled (core : Core) (pins : Pins) (code : Code) : Type 0 where
  -- the run begins by a call of main, at the line of its definition
  pub start : slice_get code.instrs 0 ≡ Some (instr op.Start 0 0 0 (pos (main_of core)))
  pub start_line : slice_get code.lines 0 ≡ Some (line_of (slice_get core.funcs (main_of core)))
  -- there is a function for each function, a static for each static, and no instruction but theirs
  pub few_funcs : length code.funcs ≡ length core.funcs
  pub few_statics : length code.statics ≡ length core.statics
  pub few_instrs : length code.instrs ≡ first_of core (length core.funcs)
  pub few_lines : length code.lines ≡ length code.instrs
  pub functions : (f : ℕ) (func : Func) → slice_get core.funcs f ≡ Some func → (entry : Entry) × (slice_get code.funcs f ≡ Some entry) × IsEntry core code f func entry
  pub statements : (f point : ℕ) (func : Func) (stm : Stm) → slice_get core.funcs f ≡ Some func → slice_get func.body point ≡ Some stm → IsStatement core code f func (place_of core f func.body point) stm
  pub statics : (k : ℕ) (static : Static) → slice_get core.statics k ≡ Some static → (init : StaticInit) × (slice_get code.statics k ≡ Some init) × IsStatic code static init
  -- every layout is one of the core's, and every format is one that a statement of it writes
  pub layouts : All (IsLayoutIn core) code.layouts
  pub formats : All (IsFormatIn core) code.formats
  -- the pins of each statement stand in its site
  pub sites : code.sites ≡ sites_of core pins
