-- What each step adds to the code that stands so far.
use Rattle.std.specs.Prelude.{◌+◌, ◌*◌, ◌++◌, ◌∷◌, [], ℕ, ℤ, pos, cond, List, Option, Some, None, length, map, fold, unwrap_or, take}
use Rattle.std.specs.List.{enumerate_from, range_with_len, sum_by}
use Rattle.std.specs.Option.{option_to_list}
use Rattle.c_types.specs.declared.layouts.Layout.{Layout}
use Rattle.core_tree.specs.declared.program.Func.{Func}
use Rattle.core_tree.specs.declared.program.Mem.{Mem}
use Rattle.core_tree.specs.declared.program.Reg.{Reg}
use Rattle.core_tree.specs.declared.statements.Stm.{Stm}
use Rattle.core_tree.specs.declared.statements.StmKind.{StmKind}
use Rattle.core_tree.specs.declared.statements.StmKind.TheVariants as stm
use Rattle.core_tree.specs.Statements.{written, operands}
use Rattle.core_tree.specs.Sound.{element_layouts, EachStatement, HasNumbers, code_size}
use Rattle.flat_code.specs.declared.instructions.Instr.{Instr}
use Rattle.flat_code.specs.declared.instructions.Op.{Op}
use Rattle.flat_code.specs.declared.instructions.Op.TheVariants as op
use Rattle.flat_code.specs.declared.program.Code.{Code}
use Rattle.flat_code.specs.declared.program.Entry.{Entry}
use Rattle.flat_code.specs.declared.program.Site.{Site}
use Rattle.flat_code.specs.declared.program.StaticInit.{StaticInit}
use Rattle.object_meaning.specs.counted.Pinning.{pins_in}
use Rattle.count_insertion.specs.Inserted.{func_pins}
use Rattle.object_meaning.specs.compiled.Handing.{hand_of, handed_atoms}
use Rattle.object_meaning.specs.compiled.Places.{body_length}
use Rattle.object_meaning.specs.compiled.Compiled.{format_of}
use Rattle.object_meaning.specs.compiled.Sites.{may_free, site_at}
use Rattle.core_tree.specs.declared.program.Core.{Core}

-- no more instructions than these are emitted for a core: 14 for each statement and each operand, one for each function, and one
-- that starts
abbrev pub most_instrs : Core → ℕ
most_instrs core = 14 * sum_by code_size core.funcs + length core.funcs + 1

-- the code with its statics and their layouts alone
abbrev pub before_functions : List StaticInit → List Layout → Code
before_functions statics layouts =
    record { instrs = []; funcs = []; statics = statics; layouts = layouts; sites = []; lines = []; formats = [] }

-- the code with some instructions at its end, which all have one line
abbrev pub with_instrs : Code → ℕ → List Instr → Code
with_instrs code line instrs =
    record code { instrs = code.instrs ++ instrs; lines = code.lines ++ map (λ _. line) instrs }

abbrev pub with_layouts : Code → List Layout → Code
with_layouts code layouts = record code { layouts = code.layouts ++ layouts }

abbrev pub with_formats : Code → List (List ℕ) → Code
with_formats code formats = record code { formats = code.formats ++ formats }

abbrev pub with_sites : Code → List Site → Code
with_sites code sites = record code { sites = code.sites ++ sites }

-- the numbers that stand in a function's statements fit in instructions
abbrev pub HasNumbersIn : Func → Type 0
HasNumbersIn func = EachStatement func.body (λ point stm. HasNumbers stm.kind)

-- the instructions that hand the operands of a statement over, and all that it hands over
abbrev pub handing : StmKind → List Instr
handing kind = map hand_of (operands kind)

abbrev pub handing_all : StmKind → List Instr
handing_all kind = map hand_of (handed_atoms kind)

-- what an instruction does for a statement
abbrev pub op_of : StmKind → Op
op_of (stm.Set r a) = op.Set
op_of (stm.Conv k r a) = op.Conv k
op_of (stm.Un o k r a) = op.Un o k
op_of (stm.Bin o k r a b) = op.Bin o k
op_of (stm.Cmp o r a b) = op.Cmp o
op_of (stm.Add r p a size) = op.Add
op_of (stm.Sub r p a size) = op.Sub
op_of (stm.Off r p c) = op.Add
op_of (stm.Diff r p q size) = op.Diff
op_of (stm.Pcmp o r p q) = op.Pcmp o
op_of (stm.Test r p) = op.Test
op_of (stm.Load k r p) = op.Load k
op_of (stm.Loadp r p) = op.Loadp
op_of (stm.Store k p a) = op.Store k
op_of (stm.Storep p q) = op.Storep
op_of (stm.Copy p q n) = op.Copy
op_of (stm.Clear p n) = op.Clear
op_of (stm.Jump l) = op.Jump
op_of (stm.Zero a l) = op.Zero
op_of (stm.Case a v l) = op.Case
op_of (stm.Loop l) = op.Loop
op_of (stm.Call g r args) = op.Call
op_of (stm.Malloc r n t) = op.Malloc
op_of (stm.Calloc r m n t) = op.Calloc
op_of (stm.Realloc r p n t) = op.Realloc
op_of (stm.Free p) = op.Free
op_of (stm.Lib name r args) = op.Lib name
op_of (stm.Printf r k args) = op.Printf
op_of stm.Enter = op.Enter
op_of stm.Leave = op.Leave
op_of (stm.Return None) = op.Return
op_of (stm.Return (Some a)) = op.Give

-- what it names beside registers, where these are the places of the points, and these the numbers of its layout and format
abbrev pub named_by : (ℕ → ℕ) → ℕ → ℕ → StmKind → ℕ
named_by place layout format (stm.Jump l) = place l
named_by place layout format (stm.Zero a l) = place l
named_by place layout format (stm.Case a v l) = place l
named_by place layout format (stm.Loop l) = place l
named_by place layout format (stm.Call g r args) = g
named_by place layout format (stm.Malloc r n t) = layout
named_by place layout format (stm.Calloc r m n t) = layout
named_by place layout format (stm.Realloc r p n t) = layout
named_by place layout format (stm.Printf r k args) = format
named_by place layout format kind = 0

-- 1 for a register that takes a result which may be left
abbrev pub mark : Option ℕ → ℕ
mark None = 0
mark (Some r) = 1

abbrev pub mark_of : StmKind → ℕ
mark_of (stm.Call g r args) = mark r
mark_of (stm.Lib name r args) = mark r
mark_of kind = 0

-- the size by which it moves and subtracts pointers
abbrev pub size_of : StmKind → ℤ
size_of (stm.Add r p a size) = size
size_of (stm.Sub r p a size) = size
size_of (stm.Off r p c) = pos 1
size_of (stm.Diff r p q size) = size
size_of kind = pos 0

-- what does what a statement does
abbrev pub doing : (ℕ → ℕ) → ℕ → ℕ → StmKind → Instr
doing place layout format kind =
    record { op = op_of kind; a = unwrap_or (written kind) 0; b = named_by place layout format kind; c = mark_of kind; imm = size_of kind }

-- the instructions of a statement
abbrev pub block : (ℕ → ℕ) → ℕ → ℕ → StmKind → List Instr
block place layout format kind = handing_all kind ++ doing place layout format kind ∷ []

-- the site of a statement whose operands are handed over, so that what it does comes next
abbrev pub next_site : Code → StmKind → List ℕ → List Site
next_site code kind pins = cond (may_free kind) (record { instr = length code.instrs; pins = pins } ∷ []) []

-- the code with that site
abbrev pub with_site : Code → StmKind → List ℕ → Code
with_site code kind pins = with_sites code (next_site code kind pins)

-- the code with a statement at its end, its layout and its format, and its site with these pins
abbrev pub with_statement : (ℕ → ℕ) → Func → Code → Stm → List ℕ → Code
with_statement place func code stm pins =
    with_sites (with_instrs (with_formats (with_layouts code (element_layouts stm.kind)) (option_to_list (format_of func stm.kind))) stm.line (block place (length code.layouts) (length code.formats) stm.kind)) (site_at (length code.instrs) stm.kind pins)

-- the same for the statement at a point of a function, with the pins that are listed
abbrev pub with_point : (ℕ → ℕ) → Func → Code → ℕ × Stm → Code
with_point place func code at = with_statement place func code at.1 (pins_in (func_pins func) at.0)

-- the code with the statements of a function at its end, one after another
abbrev pub emitted : (ℕ → ℕ) → Func → Code → Code
emitted place func code = fold (with_point place func) code (enumerate_from 0 func.body)

-- the place of a point in a body that begins at an instruction
abbrev pub place_from : ℕ → List Stm → ℕ → ℕ
place_from first body point = first + body_length (take point body)

-- the layouts of memory locals, and the numbers that they get
abbrev pub layouts_of : List Mem → List Layout
layouts_of mems = map (λ (m : Mem). m.layout) mems

abbrev pub mem_numbers : Code → List Mem → List ℕ
mem_numbers code mems = range_with_len (length code.layouts) (length mems)

-- the entry of a function that comes next
abbrev pub entry_of : Code → Func → Entry
entry_of code func =
    record { first = length code.instrs; params = func.params; kinds = map (λ (r : Reg). r.pointer) func.regs; mems = mem_numbers code func.mems }

-- the code with the entry of a function and the layouts of its memory locals
abbrev pub with_entry : Code → Func → Code
with_entry code func =
    record code { layouts = code.layouts ++ layouts_of func.mems; funcs = code.funcs ++ entry_of code func ∷ [] }

-- the code with a function
abbrev pub with_function : Code → Func → Code
with_function code func =
    emitted (place_from (length code.instrs) func.body) func (with_entry code func)
