-- The bytes of the error stream: complaints with their source line, leaks, and how a run ended.
use Rattle.std.specs.Prelude.{ℕ, zero, suc, ◌==◌, ◌||◌, cond, List, [], ◌∷◌, ◌++◌, Option, Some, None, option_map, option_and_then, slice_get, take, codes, decimal}
use Rattle.std.specs.Str.{bytes_eq}
use Rattle.hs_base.specs.declared.ends.Leak.{Leak}
use Rattle.hs_base.specs.declared.ends.TrapKind.{TrapKind}
use Rattle.hs_base.specs.declared.ends.TrapKind.TheVariants.{Null, Bounds, Align, Layout, Range, Objects, Divide, Shift, Abort}
use Rattle.hs_base.specs.declared.ends.Reason.{Reason}
use Rattle.hs_base.specs.declared.ends.Reason.TheVariants.{Held, Again, NotStart}
use Rattle.hs_base.specs.declared.ends.Holder.{Holder}
use Rattle.hs_base.specs.declared.ends.Holder.TheVariants.{Global, Memory, Block, Register}
use Rattle.hs_base.specs.declared.ends.BadFree.{BadFree as WrongFree}
use Rattle.hs_base.specs.declared.ends.End.{End}
use Rattle.hs_base.specs.declared.ends.End.TheVariants.{Exit, Trap, BadFree, Escape, Spent, OutOfStack, InputFault, OutputFault}
use Rattle.core_tree.specs.declared.program.Core.{Core}
use Rattle.core_tree.specs.declared.program.Func.{Func}
use Rattle.core_tree.specs.declared.program.Mem.{Mem}
use Rattle.core_tree.specs.declared.program.Reg.{Reg}
use Rattle.core_tree.specs.declared.program.Static as program

-- a text's line of that number, from 1, with the byte 10 that ends it; a line behind the last byte has none
unfoldable pub whole_line : List ℕ → ℕ → List ℕ
whole_line [] line = []
whole_line (b ∷ rest) zero = []
whole_line (b ∷ rest) (suc zero) = b ∷ cond (b == 10) [] (whole_line rest 1)
whole_line (b ∷ rest) (suc (suc n)) = cond (b == 10) (whole_line rest (suc n)) (whole_line rest (suc (suc n)))

-- a line without its byte 10, and without a byte 13 before that
unfoldable pub without_end : List ℕ → List ℕ
without_end [] = []
without_end (b ∷ rest) =
    cond (bytes_eq (b ∷ rest) (codes "\n") || bytes_eq (b ∷ rest) (codes "\r\n")) [] (b ∷ without_end rest)

-- what is shown of a line: its first 200 bytes without its end, and nothing of a line that has no byte
abbrev pub shown_part : List ℕ → Option (List ℕ)
shown_part [] = None
shown_part (b ∷ rest) = Some (take 200 (without_end (b ∷ rest)))

-- the line of the error stream that shows a line of the text
abbrev pub shown_line : Option (List ℕ) → List ℕ
shown_line None = []
shown_line (Some part) = codes "  " ++ (part ++ codes "\n")

-- what is written of a text's line of that number, from 1
abbrev pub source_line : List ℕ → ℕ → List ℕ
source_line text line = shown_line (shown_part (whole_line text line))

-- `NAME: WORDS`
abbrev pub complaint : List ℕ → List ℕ → List ℕ
complaint name words = name ++ (codes ": " ++ (words ++ codes "\n"))

-- `NAME:LINE: WORDS`
abbrev pub heading : List ℕ → ℕ → List ℕ → List ℕ
heading name line words = name ++ (codes ":" ++ (decimal line ++ (codes ": " ++ (words ++ codes "\n"))))

-- the same, and the source line below it
abbrev pub complaint_at : List ℕ → ℕ → List ℕ → List ℕ → List ℕ
complaint_at name line words text = heading name line words ++ source_line text line

-- `leak: line LINE: K blocks, B bytes`
abbrev pub leak_text : Leak → List ℕ
leak_text leak =
    codes "leak: line " ++ (decimal leak.line ++ (codes ": " ++ (decimal leak.blocks ++ (codes " blocks, " ++ (decimal leak.bytes ++ codes " bytes\n")))))

-- the word of a trap
abbrev pub trap_word : TrapKind → List ℕ
trap_word Null = codes "null"
trap_word Bounds = codes "bounds"
trap_word Align = codes "align"
trap_word Layout = codes "layout"
trap_word Range = codes "range"
trap_word Objects = codes "objects"
trap_word Divide = codes "divide"
trap_word Shift = codes "shift"
trap_word Abort = codes "abort"

-- the words of a bad free
abbrev pub reason_words : Reason → List ℕ
reason_words Held = codes "held"
reason_words Again = codes "again"
reason_words NotStart = codes "not a start"

-- a name, and `-` where there is none
abbrev pub name_or_dash : Option (List ℕ) → List ℕ
name_or_dash None = codes "-"
name_or_dash (Some name) = name

-- a function's name, by its number
abbrev pub func_name : Core → ℕ → List ℕ
func_name core f = name_or_dash (option_map (λ (func : Func). func.name) (slice_get core.funcs f))

-- the name of a function's register, which a local or a named parameter has
abbrev pub register_name : Core → ℕ → ℕ → Option (List ℕ)
register_name core f r =
    option_and_then (λ (reg : Reg). reg.name) (option_and_then (λ (func : Func). slice_get func.regs r) (slice_get core.funcs f))

-- the name of a static; a string literal's has none
abbrev pub static_name : Core → ℕ → List ℕ
static_name core index =
    name_or_dash (option_and_then (λ (static : program.Static). static.name) (slice_get core.statics index))

-- the name of a function's memory local
abbrev pub local_name : Core → ℕ → ℕ → List ℕ
local_name core f index =
    name_or_dash (option_map (λ (mem : Mem). mem.name) (option_and_then (λ (func : Func). slice_get func.mems index) (slice_get core.funcs f)))

-- a register that holds a freed object; one without a name is a value of its function
abbrev pub register_text : Option (List ℕ) → List ℕ → List ℕ
register_text None func = codes "held by a value of " ++ (func ++ codes "\n")
register_text (Some name) func = codes "held by local " ++ (name ++ (codes " of " ++ (func ++ codes "\n")))

-- where the first pointer stands that holds a freed object
abbrev pub holder_text : Core → Holder → List ℕ
holder_text core (Global index offset) =
    codes "held by global " ++ (static_name core index ++ (codes " at " ++ (decimal offset ++ codes "\n")))
holder_text core (Memory f index offset) =
    codes "held by local " ++ (local_name core f index ++ (codes " of " ++ (func_name core f ++ (codes " at " ++ (decimal offset ++ codes "\n")))))
holder_text core (Block line offset) =
    codes "held by block of line " ++ (decimal line ++ (codes " at " ++ (decimal offset ++ codes "\n")))
holder_text core (Register f r) = register_text (register_name core f r) (func_name core f)

-- the line that names the first holder, below a bad free that is held
abbrev pub holder_line : Core → Reason → Option Holder → List ℕ
holder_line core Held (Some holder) = holder_text core holder
holder_line core Held None = []
holder_line core Again holder = []
holder_line core NotStart holder = []

-- a bad free, with its source line and its first holder
abbrev pub bad_free_text : Core → List ℕ → List ℕ → WrongFree → Option Holder → List ℕ
bad_free_text core name text free holder =
    complaint_at name free.line (codes "bad free: " ++ reason_words free.reason) text ++ holder_line core free.reason holder

-- what is written of how a run ended, from the text's name and bytes
abbrev pub end_report : Core → List ℕ → List ℕ → End → List ℕ
end_report core name text (Exit code) = []
end_report core name text (Trap kind line) = complaint_at name line (codes "trap: " ++ trap_word kind) text
end_report core name text (BadFree free holder) = bad_free_text core name text free holder
end_report core name text (Escape f index line) = complaint_at name line (codes "escape: " ++ local_name core f index) text
end_report core name text Spent = complaint name (codes "out of steps")
end_report core name text (OutOfStack line) = complaint_at name line (codes "out of stack") text
end_report core name text InputFault = complaint (codes "heapsafe") (codes "input fault")
end_report core name text OutputFault = complaint (codes "heapsafe") (codes "output fault")
