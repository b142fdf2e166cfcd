-- The operations by number: an operation's place in the table of operations. One that has parts stands there once for each of
-- their values, by the first part and then by the second.
use Rattle.std.specs.Prelude.{ℕ, ◌+◌, ◌*◌, List, [], ◌∷◌, ◌++◌, map}
use Rattle.std.specs.List.{flat_map}
use Rattle.hs_base.specs.declared.ends.IntKind.{IntKind}
use Rattle.hs_base.specs.declared.ends.IntKind.TheVariants as kind
use Rattle.core_tree.specs.declared.statements.UnOp.{UnOp}
use Rattle.core_tree.specs.declared.statements.UnOp.TheVariants as un
use Rattle.core_tree.specs.declared.statements.BinOp.{BinOp}
use Rattle.core_tree.specs.declared.statements.BinOp.TheVariants as bin
use Rattle.core_tree.specs.declared.statements.CmpOp.{CmpOp}
use Rattle.core_tree.specs.declared.statements.CmpOp.TheVariants as cmp
use Rattle.core_tree.specs.declared.statements.LibName.{LibName}
use Rattle.core_tree.specs.declared.statements.LibName.TheVariants as lib
use Rattle.flat_code.specs.declared.instructions.Op.{Op}
use Rattle.flat_code.specs.declared.instructions.Op.TheVariants as op

abbrev pub kind_number : IntKind → ℕ
kind_number kind.I8 = 0
kind_number kind.U8 = 1
kind_number kind.I16 = 2
kind_number kind.U16 = 3
kind_number kind.I32 = 4
kind_number kind.U32 = 5
kind_number kind.I64 = 6
kind_number kind.U64 = 7

abbrev pub un_number : UnOp → ℕ
un_number un.Neg = 0
un_number un.Not = 1

abbrev pub bin_number : BinOp → ℕ
bin_number bin.Add = 0
bin_number bin.Sub = 1
bin_number bin.Mul = 2
bin_number bin.Div = 3
bin_number bin.Rem = 4
bin_number bin.And = 5
bin_number bin.Or = 6
bin_number bin.Xor = 7
bin_number bin.Shl = 8
bin_number bin.Shr = 9

abbrev pub cmp_number : CmpOp → ℕ
cmp_number cmp.Eq = 0
cmp_number cmp.Ne = 1
cmp_number cmp.Lt = 2
cmp_number cmp.Gt = 3
cmp_number cmp.Le = 4
cmp_number cmp.Ge = 5

abbrev pub lib_number : LibName → ℕ
lib_number lib.Exit = 0
lib_number lib.Abort = 1
lib_number lib.Memcpy = 2
lib_number lib.Memmove = 3
lib_number lib.Memset = 4
lib_number lib.Strlen = 5
lib_number lib.Strcmp = 6
lib_number lib.Getchar = 7
lib_number lib.Putchar = 8
lib_number lib.Puts = 9

abbrev pub op_number : Op → ℕ
op_number op.Start = 0
op_number op.HandReg = 1
op_number op.HandInt = 2
op_number op.HandUnsigned = 3
op_number op.HandNull = 4
op_number op.HandStatic = 5
op_number op.HandLocal = 6
op_number op.Set = 7
op_number (op.Conv k) = 8 + kind_number k
op_number (op.Un o k) = 16 + (8 * un_number o + kind_number k)
op_number (op.Bin o k) = 32 + (8 * bin_number o + kind_number k)
op_number (op.Cmp o) = 112 + cmp_number o
op_number op.Add = 118
op_number op.Sub = 119
op_number op.Diff = 120
op_number (op.Pcmp o) = 121 + cmp_number o
op_number op.Test = 127
op_number (op.Load k) = 128 + kind_number k
op_number op.Loadp = 136
op_number (op.Store k) = 137 + kind_number k
op_number op.Storep = 145
op_number op.Copy = 146
op_number op.Clear = 147
op_number op.Jump = 148
op_number op.Zero = 149
op_number op.Case = 150
op_number op.Loop = 151
op_number op.Call = 152
op_number op.Malloc = 153
op_number op.Calloc = 154
op_number op.Realloc = 155
op_number op.Free = 156
op_number (op.Lib name) = 157 + lib_number name
op_number op.Printf = 167
op_number op.Enter = 168
op_number op.Leave = 169
op_number op.Return = 170
op_number op.Give = 171

-- The table

abbrev pub kinds : List IntKind
kinds = kind.I8 ∷ kind.U8 ∷ kind.I16 ∷ kind.U16 ∷ kind.I32 ∷ kind.U32 ∷ kind.I64 ∷ kind.U64 ∷ []

abbrev pub un_ops : List UnOp
un_ops = un.Neg ∷ un.Not ∷ []

abbrev pub bin_ops : List BinOp
bin_ops = bin.Add ∷ bin.Sub ∷ bin.Mul ∷ bin.Div ∷ bin.Rem ∷ bin.And ∷ bin.Or ∷ bin.Xor ∷ bin.Shl ∷ bin.Shr ∷ []

abbrev pub cmp_ops : List CmpOp
cmp_ops = cmp.Eq ∷ cmp.Ne ∷ cmp.Lt ∷ cmp.Gt ∷ cmp.Le ∷ cmp.Ge ∷ []

abbrev pub lib_names : List LibName
lib_names = lib.Exit ∷ lib.Abort ∷ lib.Memcpy ∷ lib.Memmove ∷ lib.Memset ∷ lib.Strlen ∷ lib.Strcmp ∷ lib.Getchar ∷ lib.Putchar ∷ lib.Puts ∷ []

-- the table of operations
unfoldable pub ops : List Op
ops =
    (op.Start ∷ op.HandReg ∷ op.HandInt ∷ op.HandUnsigned ∷ op.HandNull ∷ op.HandStatic ∷ op.HandLocal ∷ op.Set ∷ [])
    ++ (map (λ k. op.Conv k) kinds
    ++ (flat_map (λ o. map (λ k. op.Un o k) kinds) un_ops
    ++ (flat_map (λ o. map (λ k. op.Bin o k) kinds) bin_ops
    ++ (map (λ o. op.Cmp o) cmp_ops
    ++ ((op.Add ∷ op.Sub ∷ op.Diff ∷ [])
    ++ (map (λ o. op.Pcmp o) cmp_ops
    ++ ((op.Test ∷ [])
    ++ (map (λ k. op.Load k) kinds
    ++ ((op.Loadp ∷ [])
    ++ (map (λ k. op.Store k) kinds
    ++ ((op.Storep ∷ op.Copy ∷ op.Clear ∷ op.Jump ∷ op.Zero ∷ op.Case ∷ op.Loop ∷ op.Call ∷ op.Malloc ∷ op.Calloc ∷ op.Realloc ∷ op.Free ∷ [])
    ++ (map (λ name. op.Lib name) lib_names
    ++ (op.Printf ∷ op.Enter ∷ op.Leave ∷ op.Return ∷ op.Give ∷ [])))))))))))))
