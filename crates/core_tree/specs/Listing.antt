-- The text that lists a core: its statics and its functions, with their registers, memory locals and statements.
use Rattle.std.specs.Prelude.{ℕ, ◌+◌, cond, List, [], ◌∷◌, ◌++◌, map, length, Option, Some, None, slice_get, codes, decimal}
use Rattle.std.specs.Fmt.{signed_decimal}
use Rattle.std.specs.List.{flat_map, join_with_byte}
use Rattle.std.specs.Option.{option_map_or}
use Rattle.hs_base.specs.declared.ends.IntKind.{IntKind}
use Rattle.hs_base.specs.declared.ends.IntKind.TheVariants.{I8, U8, I16, U16, I32, U32, I64, U64}
use Rattle.c_types.specs.declared.layouts.Layout.{Layout}
use Rattle.core_tree.specs.declared.program.Core.{Core}
use Rattle.core_tree.specs.declared.program.Func.{Func}
use Rattle.core_tree.specs.declared.program.Mem.{Mem as MemoryLocal}
use Rattle.core_tree.specs.declared.program.Reg.{Reg as Register}
use Rattle.core_tree.specs.declared.program.Static.{Static as StaticObject}
use Rattle.core_tree.specs.declared.statements.Atom.{Atom}
use Rattle.core_tree.specs.declared.statements.Atom.TheVariants.{Reg, Int, Null, Static, Mem}
use Rattle.core_tree.specs.declared.statements.UnOp.{UnOp}
use Rattle.core_tree.specs.declared.statements.UnOp.TheVariants as un
use Rattle.core_tree.specs.declared.statements.BinOp.{BinOp}
use Rattle.core_tree.specs.declared.statements.BinOp.TheVariants as bin
use Rattle.core_tree.specs.declared.statements.CmpOp.{CmpOp}
use Rattle.core_tree.specs.declared.statements.CmpOp.TheVariants as cmp
use Rattle.core_tree.specs.declared.statements.LibName.{LibName}
use Rattle.core_tree.specs.declared.statements.LibName.TheVariants as lib
use Rattle.core_tree.specs.declared.statements.Stm.{Stm}
use Rattle.core_tree.specs.declared.statements.StmKind.{StmKind}
use Rattle.core_tree.specs.declared.statements.StmKind.TheVariants.{Set, Conv, Un, Bin, Cmp, Add, Sub, Off, Diff, Pcmp, Test, Load, Loadp, Store, Storep, Copy, Clear, Jump, Zero, Case, Loop, Call, Malloc, Calloc, Realloc, Free, Lib, Printf, Enter, Leave, Return}

-- words, each behind a space
abbrev pub spaced : List (List ℕ) → List ℕ
spaced words = flat_map (λ word. codes " " ++ word) words

-- a line: its first word, and the others behind spaces
abbrev pub line_of : List ℕ → List (List ℕ) → List ℕ
line_of first words = first ++ (spaced words ++ codes "\n")

-- what is written of each item and its number, from a number on
abbrev pub numbered : {X : Type 0} → (ℕ → X → List ℕ) → ℕ → List X → List ℕ
numbered write k [] = []
numbered write k (x ∷ xs) = write k x ++ numbered write (k + 1) xs

-- a name, and `-` where there is none
abbrev pub name_word : Option (List ℕ) → List ℕ
name_word None = codes "-"
name_word (Some name) = name

abbrev pub register_word : ℕ → List ℕ
register_word r = codes "r" ++ decimal r

-- the register of a result, and `-` where none takes it
abbrev pub result_word : Option ℕ → List ℕ
result_word None = codes "-"
result_word (Some r) = register_word r

abbrev pub atom_word : Atom → List ℕ
atom_word (Reg r) = register_word r
atom_word (Int n) = signed_decimal n
atom_word Null = codes "null"
atom_word (Static g) = codes "g" ++ decimal g
atom_word (Mem m) = codes "m" ++ decimal m

-- what a return has, and `-` where it has nothing
abbrev pub answer_word : Option Atom → List ℕ
answer_word None = codes "-"
answer_word (Some a) = atom_word a

abbrev pub format_word : ℕ → List ℕ
format_word k = codes "f" ++ decimal k

-- an element's size, and its slots between brackets
abbrev pub layout_word : Layout → List ℕ
layout_word t = decimal t.size ++ (codes "[" ++ (join_with_byte 44 (map decimal t.slots) ++ codes "]"))

abbrev pub kind_word : IntKind → List ℕ
kind_word I8 = codes "i8"
kind_word U8 = codes "u8"
kind_word I16 = codes "i16"
kind_word U16 = codes "u16"
kind_word I32 = codes "i32"
kind_word U32 = codes "u32"
kind_word I64 = codes "i64"
kind_word U64 = codes "u64"

abbrev pub un_sign : UnOp → List ℕ
un_sign un.Neg = codes "-"
un_sign un.Not = codes "~"

abbrev pub bin_sign : BinOp → List ℕ
bin_sign bin.Add = codes "+"
bin_sign bin.Sub = codes "-"
bin_sign bin.Mul = codes "*"
bin_sign bin.Div = codes "/"
bin_sign bin.Rem = codes "%"
bin_sign bin.And = codes "&"
bin_sign bin.Or = codes "|"
bin_sign bin.Xor = codes "^"
bin_sign bin.Shl = codes "<<"
bin_sign bin.Shr = codes ">>"

abbrev pub cmp_sign : CmpOp → List ℕ
cmp_sign cmp.Eq = codes "=="
cmp_sign cmp.Ne = codes "!="
cmp_sign cmp.Lt = codes "<"
cmp_sign cmp.Gt = codes ">"
cmp_sign cmp.Le = codes "<="
cmp_sign cmp.Ge = codes ">="

abbrev pub lib_word : LibName → List ℕ
lib_word lib.Exit = codes "exit"
lib_word lib.Abort = codes "abort"
lib_word lib.Memcpy = codes "memcpy"
lib_word lib.Memmove = codes "memmove"
lib_word lib.Memset = codes "memset"
lib_word lib.Strlen = codes "strlen"
lib_word lib.Strcmp = codes "strcmp"
lib_word lib.Getchar = codes "getchar"
lib_word lib.Putchar = codes "putchar"
lib_word lib.Puts = codes "puts"

-- a function's name, by its number
abbrev pub func_word : Core → ℕ → List ℕ
func_word core f = option_map_or (λ (func : Func). func.name) (slice_get core.funcs f) (codes "-")

-- the words of a statement
abbrev pub statement_words : Core → StmKind → List (List ℕ)
statement_words core (Set r a) = codes "set" ∷ register_word r ∷ atom_word a ∷ []
statement_words core (Conv k r a) = codes "conv" ∷ kind_word k ∷ register_word r ∷ atom_word a ∷ []
statement_words core (Un op k r a) = codes "un" ∷ un_sign op ∷ kind_word k ∷ register_word r ∷ atom_word a ∷ []
statement_words core (Bin op k r a b) = codes "bin" ∷ bin_sign op ∷ kind_word k ∷ register_word r ∷ atom_word a ∷ atom_word b ∷ []
statement_words core (Cmp op r a b) = codes "cmp" ∷ cmp_sign op ∷ register_word r ∷ atom_word a ∷ atom_word b ∷ []
statement_words core (Add r p a s) = codes "add" ∷ register_word r ∷ atom_word p ∷ atom_word a ∷ signed_decimal s ∷ []
statement_words core (Sub r p a s) = codes "sub" ∷ register_word r ∷ atom_word p ∷ atom_word a ∷ signed_decimal s ∷ []
statement_words core (Off r p c) = codes "off" ∷ register_word r ∷ atom_word p ∷ signed_decimal c ∷ []
statement_words core (Diff r p q s) = codes "diff" ∷ register_word r ∷ atom_word p ∷ atom_word q ∷ signed_decimal s ∷ []
statement_words core (Pcmp op r p q) = codes "pcmp" ∷ cmp_sign op ∷ register_word r ∷ atom_word p ∷ atom_word q ∷ []
statement_words core (Test r p) = codes "test" ∷ register_word r ∷ atom_word p ∷ []
statement_words core (Load k r p) = codes "load" ∷ kind_word k ∷ register_word r ∷ atom_word p ∷ []
statement_words core (Loadp r p) = codes "loadp" ∷ register_word r ∷ atom_word p ∷ []
statement_words core (Store k p a) = codes "store" ∷ kind_word k ∷ atom_word p ∷ atom_word a ∷ []
statement_words core (Storep p q) = codes "storep" ∷ atom_word p ∷ atom_word q ∷ []
statement_words core (Copy p q n) = codes "copy" ∷ atom_word p ∷ atom_word q ∷ signed_decimal n ∷ []
statement_words core (Clear p n) = codes "clear" ∷ atom_word p ∷ signed_decimal n ∷ []
statement_words core (Jump l) = codes "jump" ∷ decimal l ∷ []
statement_words core (Zero a l) = codes "zero" ∷ atom_word a ∷ decimal l ∷ []
statement_words core (Case a v l) = codes "case" ∷ atom_word a ∷ signed_decimal v ∷ decimal l ∷ []
statement_words core (Loop l) = codes "loop" ∷ decimal l ∷ []
statement_words core (Call f r args) = codes "call" ∷ func_word core f ∷ result_word r ∷ map atom_word args
statement_words core (Malloc r n t) = codes "malloc" ∷ register_word r ∷ atom_word n ∷ layout_word t ∷ []
statement_words core (Calloc r m n t) = codes "calloc" ∷ register_word r ∷ atom_word m ∷ atom_word n ∷ layout_word t ∷ []
statement_words core (Realloc r p n t) = codes "realloc" ∷ register_word r ∷ atom_word p ∷ atom_word n ∷ layout_word t ∷ []
statement_words core (Free p) = codes "free" ∷ atom_word p ∷ []
statement_words core (Lib name r args) = codes "lib" ∷ lib_word name ∷ result_word r ∷ map atom_word args
statement_words core (Printf r format args) = codes "printf" ∷ register_word r ∷ format_word format ∷ map atom_word args
statement_words core Enter = codes "enter" ∷ []
statement_words core Leave = codes "leave" ∷ []
statement_words core (Return a) = codes "return" ∷ answer_word a ∷ []

-- a statement behind its point and its line
abbrev pub statement_line : Core → ℕ → Stm → List ℕ
statement_line core point stm = line_of (decimal point) (decimal stm.line ∷ statement_words core stm.kind)

abbrev pub sort_word : Register → List ℕ
sort_word reg = cond reg.pointer (codes "ptr") (codes "int")

abbrev pub register_line : ℕ → Register → List ℕ
register_line k reg = line_of (codes "reg") (decimal k ∷ sort_word reg ∷ name_word reg.name ∷ [])

abbrev pub memory_line : ℕ → MemoryLocal → List ℕ
memory_line k mem = line_of (codes "mem") (decimal k ∷ mem.name ∷ codes "size" ∷ decimal mem.layout.size ∷ [])

abbrev pub static_line : ℕ → StaticObject → List ℕ
static_line k static =
    line_of (codes "static")
    (decimal k ∷ name_word static.name ∷ codes "size" ∷ decimal static.layout.size ∷ codes "slots" ∷ map decimal static.layout.slots)

abbrev pub func_line : Func → List ℕ
func_line func =
    line_of (codes "func") (func.name ∷ codes "regs" ∷ decimal (length func.regs) ∷ codes "mems" ∷ decimal (length func.mems) ∷ [])

-- a function, its registers, its memory locals and its body
abbrev pub func_lines : Core → Func → List ℕ
func_lines core func =
    func_line func ++ (numbered register_line 0 func.regs ++ (numbered memory_line 0 func.mems ++ numbered (statement_line core) 0 func.body))

-- the text of a core
abbrev pub listing : Core → List ℕ
listing core = numbered static_line 0 core.statics ++ flat_map (func_lines core) core.funcs
