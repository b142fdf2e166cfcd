-- Well formed code in parts, each of which is decided by itself.
use Rattle.std.specs.Prelude.{◌≡◌, ◌+◌, unwrap_or, ◌<◌, ◌≤◌, ℕ, pos, Bool, List, Option, Some, None, length, slice_get, slice_index_or, All, AllPairs, IsSomeAnd, MatchOption}
use Rattle.std.specs.List.{sum_by}
use Rattle.hs_base.specs.Place.{block_size}
use Rattle.c_print.specs.Format.{IsFormat}
use Rattle.c_print.specs.Pieces.{pieces_of}
use Rattle.core_tree.specs.Sorts.{Integer}
use Rattle.flat_code.specs.declared.instructions.Instr.{Instr}
use Rattle.flat_code.specs.declared.instructions.Op.TheVariants as op
use Rattle.flat_code.specs.declared.program.Code.{Code}
use Rattle.flat_code.specs.declared.program.Entry.{Entry}
use Rattle.flat_code.specs.declared.program.Site.{Site}
use Rattle.flat_code.specs.declared.program.StaticInit.{StaticInit}
use Rattle.flat_code.specs.Table.{edges, hands}
use Rattle.flat_code.specs.WellFormed.{AreShort, IsShort, EachEntry, EachInstr, IsFirst, IsLayout, LeadsOn, NamesWhatIsThere, StartsAfresh, end_of, static_size}
use Rattle.code_rules.specs.Functions.{IsFramed, IsOfFunction}
use Rattle.code_rules.specs.Operands.{HasOperands, HasRegister, sort_told}

-- the bytes in a slot are zero
abbrev pub IsZeroSlot : List ℕ → ℕ → Type 0
IsZeroSlot bytes slot = (k : ℕ) → k < 4 → unwrap_or (slice_get bytes (slot + k)) 0 ≡ 0

-- a static has a layout, and keeps the rules of what it holds first
abbrev pub IsStatic : Code → StaticInit → Type 0
IsStatic code static = IsSomeAnd (slice_get code.layouts static.layout) (IsFirst code static)

-- the bytes of the blocks of all statics
abbrev pub bytes_of_statics : Code → ℕ
bytes_of_statics code = sum_by (λ (s : StaticInit). block_size (static_size code s)) code.statics

-- each format is one
abbrev pub AreFormats : Code → Type 0
AreFormats code = All (λ format. IsFormat format (pieces_of format)) code.formats

-- the tables of statics, layouts and formats are short
abbrev pub HasShortTables : Code → Type 0
HasShortTables code = IsShort code.statics × IsShort code.layouts × IsShort code.formats × All IsShort code.formats

-- the tables but for those of functions and instructions
pub record KeepsTables (code : Code) : Type 0 where
  pub short : AreShort code
  pub lines : length code.lines ≡ length code.instrs
  pub lines_from_one : All (λ line. 1 ≤ line) code.lines
  pub layouts : All IsLayout code.layouts
  pub statics : All (IsStatic code) code.statics
  pub static_bytes : bytes_of_statics code ≤ 67108864
  pub formats : AreFormats code
  pub sites_ascend : AllPairs (λ (one other : Site). one.instr < other.instr) code.sites
  pub sites_inside : All (λ (site : Site). IsOfFunction code site.instr) code.sites
  pub framed : EachEntry code (IsFramed code)

-- the instructions but for answers and sites
pub record KeepsFlow (code : Code) : Type 0 where
  pub inside : EachInstr code (λ f entry point i. All (λ next. (entry.first ≤ next) × (next < end_of code f)) (edges i i.op point))
  pub ahead : EachInstr code (λ f entry point i. LeadsOn point i i.op)
  pub names : EachInstr code (λ f entry point i. NamesWhatIsThere code i i.op)
  pub operands : EachInstr code (λ f entry point i. HasOperands code entry point i)
  pub registers : EachInstr code (λ f entry point i. HasRegister entry i i.op)
  pub afresh : EachInstr code (λ f entry point i. StartsAfresh code entry point i (hands i.op))

-- what is told of main's answers
abbrev pub GivesInteger : Option (Option Bool) → Type 0
GivesInteger told = MatchOption told (Unit {0}) (λ answer. sort_told answer ≡ Some Integer)

-- a function may be main
abbrev pub IsMain : Code → List (Option (Option Bool)) → ℕ → Type 0
IsMain code told main = IsSomeAnd (slice_get code.funcs main) (λ (entry : Entry). (entry.params ≡ 0) × GivesInteger (slice_index_or told main None))

-- the first instruction calls main
abbrev pub CallsMain : Code → List (Option (Option Bool)) → Instr → Type 0
CallsMain code told i = (i.op ≡ op.Start) × ((main : ℕ) × (i.imm ≡ pos main) × IsMain code told main)
