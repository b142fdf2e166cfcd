-- An operation is at its number in the table, so no two have one number.
use Rattle.std.proofs.Common.{◌≡◌, ◌<◌, ◌^◌, get_or, refl, sym, ap, ◌∙◌, lit<, arith}
use Rattle.hs_base.specs.declared.ends.IntKind.{IntKind}
use Rattle.hs_base.specs.declared.ends.IntKind.TheVariants as kind
use Rattle.core_tree.specs.declared.statements.UnOp.{UnOp}
use Rattle.core_tree.specs.declared.statements.UnOp.TheVariants as un
use Rattle.core_tree.specs.declared.statements.BinOp.{BinOp}
use Rattle.core_tree.specs.declared.statements.BinOp.TheVariants as bin
use Rattle.core_tree.specs.declared.statements.CmpOp.{CmpOp}
use Rattle.core_tree.specs.declared.statements.CmpOp.TheVariants as cmp
use Rattle.core_tree.specs.declared.statements.LibName.{LibName}
use Rattle.core_tree.specs.declared.statements.LibName.TheVariants as lib
use Rattle.flat_code.specs.declared.instructions.Op.{Op}
use Rattle.flat_code.specs.declared.instructions.Op.TheVariants as op
use Rattle.code_file.specs.Ops.{bin_number, cmp_number, kind_number, lib_number, op_number, ops, un_number}

-- what the table has at the number of an operation
abbrev at_number : Op → Op
at_number o = get_or ops (op_number o) op.Start

pub op_is_there : (o : Op) → at_number o ≡ o
unfolding ops
op_is_there op.Start = refl
op_is_there op.HandReg = refl
op_is_there op.HandInt = refl
op_is_there op.HandUnsigned = refl
op_is_there op.HandNull = refl
op_is_there op.HandStatic = refl
op_is_there op.HandLocal = refl
op_is_there op.Set = refl
op_is_there (op.Conv k) = elim k as (λ k. at_number (op.Conv k) ≡ op.Conv k) [ kind.I8 ↦ refl | kind.U8 ↦ refl | kind.I16 ↦ refl | kind.U16 ↦ refl | kind.I32 ↦ refl | kind.U32 ↦ refl | kind.I64 ↦ refl | kind.U64 ↦ refl ]
op_is_there (op.Un un.Neg k) = elim k as (λ k. at_number (op.Un un.Neg k) ≡ op.Un un.Neg k) [ kind.I8 ↦ refl | kind.U8 ↦ refl | kind.I16 ↦ refl | kind.U16 ↦ refl | kind.I32 ↦ refl | kind.U32 ↦ refl | kind.I64 ↦ refl | kind.U64 ↦ refl ]
op_is_there (op.Un un.Not k) = elim k as (λ k. at_number (op.Un un.Not k) ≡ op.Un un.Not k) [ kind.I8 ↦ refl | kind.U8 ↦ refl | kind.I16 ↦ refl | kind.U16 ↦ refl | kind.I32 ↦ refl | kind.U32 ↦ refl | kind.I64 ↦ refl | kind.U64 ↦ refl ]
op_is_there (op.Bin bin.Add k) = elim k as (λ k. at_number (op.Bin bin.Add k) ≡ op.Bin bin.Add k) [ kind.I8 ↦ refl | kind.U8 ↦ refl | kind.I16 ↦ refl | kind.U16 ↦ refl | kind.I32 ↦ refl | kind.U32 ↦ refl | kind.I64 ↦ refl | kind.U64 ↦ refl ]
op_is_there (op.Bin bin.Sub k) = elim k as (λ k. at_number (op.Bin bin.Sub k) ≡ op.Bin bin.Sub k) [ kind.I8 ↦ refl | kind.U8 ↦ refl | kind.I16 ↦ refl | kind.U16 ↦ refl | kind.I32 ↦ refl | kind.U32 ↦ refl | kind.I64 ↦ refl | kind.U64 ↦ refl ]
op_is_there (op.Bin bin.Mul k) = elim k as (λ k. at_number (op.Bin bin.Mul k) ≡ op.Bin bin.Mul k) [ kind.I8 ↦ refl | kind.U8 ↦ refl | kind.I16 ↦ refl | kind.U16 ↦ refl | kind.I32 ↦ refl | kind.U32 ↦ refl | kind.I64 ↦ refl | kind.U64 ↦ refl ]
op_is_there (op.Bin bin.Div k) = elim k as (λ k. at_number (op.Bin bin.Div k) ≡ op.Bin bin.Div k) [ kind.I8 ↦ refl | kind.U8 ↦ refl | kind.I16 ↦ refl | kind.U16 ↦ refl | kind.I32 ↦ refl | kind.U32 ↦ refl | kind.I64 ↦ refl | kind.U64 ↦ refl ]
op_is_there (op.Bin bin.Rem k) = elim k as (λ k. at_number (op.Bin bin.Rem k) ≡ op.Bin bin.Rem k) [ kind.I8 ↦ refl | kind.U8 ↦ refl | kind.I16 ↦ refl | kind.U16 ↦ refl | kind.I32 ↦ refl | kind.U32 ↦ refl | kind.I64 ↦ refl | kind.U64 ↦ refl ]
op_is_there (op.Bin bin.And k) = elim k as (λ k. at_number (op.Bin bin.And k) ≡ op.Bin bin.And k) [ kind.I8 ↦ refl | kind.U8 ↦ refl | kind.I16 ↦ refl | kind.U16 ↦ refl | kind.I32 ↦ refl | kind.U32 ↦ refl | kind.I64 ↦ refl | kind.U64 ↦ refl ]
op_is_there (op.Bin bin.Or k) = elim k as (λ k. at_number (op.Bin bin.Or k) ≡ op.Bin bin.Or k) [ kind.I8 ↦ refl | kind.U8 ↦ refl | kind.I16 ↦ refl | kind.U16 ↦ refl | kind.I32 ↦ refl | kind.U32 ↦ refl | kind.I64 ↦ refl | kind.U64 ↦ refl ]
op_is_there (op.Bin bin.Xor k) = elim k as (λ k. at_number (op.Bin bin.Xor k) ≡ op.Bin bin.Xor k) [ kind.I8 ↦ refl | kind.U8 ↦ refl | kind.I16 ↦ refl | kind.U16 ↦ refl | kind.I32 ↦ refl | kind.U32 ↦ refl | kind.I64 ↦ refl | kind.U64 ↦ refl ]
op_is_there (op.Bin bin.Shl k) = elim k as (λ k. at_number (op.Bin bin.Shl k) ≡ op.Bin bin.Shl k) [ kind.I8 ↦ refl | kind.U8 ↦ refl | kind.I16 ↦ refl | kind.U16 ↦ refl | kind.I32 ↦ refl | kind.U32 ↦ refl | kind.I64 ↦ refl | kind.U64 ↦ refl ]
op_is_there (op.Bin bin.Shr k) = elim k as (λ k. at_number (op.Bin bin.Shr k) ≡ op.Bin bin.Shr k) [ kind.I8 ↦ refl | kind.U8 ↦ refl | kind.I16 ↦ refl | kind.U16 ↦ refl | kind.I32 ↦ refl | kind.U32 ↦ refl | kind.I64 ↦ refl | kind.U64 ↦ refl ]
op_is_there (op.Cmp o) = elim o as (λ o. at_number (op.Cmp o) ≡ op.Cmp o) [ cmp.Eq ↦ refl | cmp.Ne ↦ refl | cmp.Lt ↦ refl | cmp.Gt ↦ refl | cmp.Le ↦ refl | cmp.Ge ↦ refl ]
op_is_there op.Add = refl
op_is_there op.Sub = refl
op_is_there op.Diff = refl
op_is_there (op.Pcmp o) = elim o as (λ o. at_number (op.Pcmp o) ≡ op.Pcmp o) [ cmp.Eq ↦ refl | cmp.Ne ↦ refl | cmp.Lt ↦ refl | cmp.Gt ↦ refl | cmp.Le ↦ refl | cmp.Ge ↦ refl ]
op_is_there op.Test = refl
op_is_there (op.Load k) = elim k as (λ k. at_number (op.Load k) ≡ op.Load k) [ kind.I8 ↦ refl | kind.U8 ↦ refl | kind.I16 ↦ refl | kind.U16 ↦ refl | kind.I32 ↦ refl | kind.U32 ↦ refl | kind.I64 ↦ refl | kind.U64 ↦ refl ]
op_is_there op.Loadp = refl
op_is_there (op.Store k) = elim k as (λ k. at_number (op.Store k) ≡ op.Store k) [ kind.I8 ↦ refl | kind.U8 ↦ refl | kind.I16 ↦ refl | kind.U16 ↦ refl | kind.I32 ↦ refl | kind.U32 ↦ refl | kind.I64 ↦ refl | kind.U64 ↦ refl ]
op_is_there op.Storep = refl
op_is_there op.Copy = refl
op_is_there op.Clear = refl
op_is_there op.Jump = refl
op_is_there op.Zero = refl
op_is_there op.Case = refl
op_is_there op.Loop = refl
op_is_there op.Call = refl
op_is_there op.Malloc = refl
op_is_there op.Calloc = refl
op_is_there op.Realloc = refl
op_is_there op.Free = refl
op_is_there (op.Lib name) = elim name as (λ name. at_number (op.Lib name) ≡ op.Lib name) [ lib.Exit ↦ refl | lib.Abort ↦ refl | lib.Memcpy ↦ refl | lib.Memmove ↦ refl | lib.Memset ↦ refl | lib.Strlen ↦ refl | lib.Strcmp ↦ refl | lib.Getchar ↦ refl | lib.Putchar ↦ refl | lib.Puts ↦ refl ]
op_is_there op.Printf = refl
op_is_there op.Enter = refl
op_is_there op.Leave = refl
op_is_there op.Return = refl
op_is_there op.Give = refl

pub op_once : (a b : Op) → op_number a ≡ op_number b → a ≡ b
op_once a b same = sym (op_is_there a) ∙ ap (λ n. get_or ops n op.Start) same ∙ op_is_there b

kind_small : (k : IntKind) → kind_number k < 8
kind_small = elim [ kind.I8 ↦ lit< tt | kind.U8 ↦ lit< tt | kind.I16 ↦ lit< tt | kind.U16 ↦ lit< tt | kind.I32 ↦ lit< tt | kind.U32 ↦ lit< tt | kind.I64 ↦ lit< tt | kind.U64 ↦ lit< tt ]

cmp_small : (o : CmpOp) → cmp_number o < 6
cmp_small = elim [ cmp.Eq ↦ lit< tt | cmp.Ne ↦ lit< tt | cmp.Lt ↦ lit< tt | cmp.Gt ↦ lit< tt | cmp.Le ↦ lit< tt | cmp.Ge ↦ lit< tt ]

lib_small : (name : LibName) → lib_number name < 10
lib_small = elim [ lib.Exit ↦ lit< tt | lib.Abort ↦ lit< tt | lib.Memcpy ↦ lit< tt | lib.Memmove ↦ lit< tt | lib.Memset ↦ lit< tt | lib.Strlen ↦ lit< tt | lib.Strcmp ↦ lit< tt | lib.Getchar ↦ lit< tt | lib.Putchar ↦ lit< tt | lib.Puts ↦ lit< tt ]

bin_small : (o : BinOp) → bin_number o < 10
bin_small = elim [ bin.Add ↦ lit< tt | bin.Sub ↦ lit< tt | bin.Mul ↦ lit< tt | bin.Div ↦ lit< tt | bin.Rem ↦ lit< tt | bin.And ↦ lit< tt | bin.Or ↦ lit< tt | bin.Xor ↦ lit< tt | bin.Shl ↦ lit< tt | bin.Shr ↦ lit< tt ]

un_small : (o : UnOp) → un_number o < 2
un_small = elim [ un.Neg ↦ lit< tt | un.Not ↦ lit< tt ]

pub op_small : (o : Op) → op_number o < 2 ^ 8
op_small op.Start = lit< tt
op_small op.HandReg = lit< tt
op_small op.HandInt = lit< tt
op_small op.HandUnsigned = lit< tt
op_small op.HandNull = lit< tt
op_small op.HandStatic = lit< tt
op_small op.HandLocal = lit< tt
op_small op.Set = lit< tt
op_small op.Add = lit< tt
op_small op.Sub = lit< tt
op_small op.Diff = lit< tt
op_small op.Test = lit< tt
op_small op.Loadp = lit< tt
op_small op.Storep = lit< tt
op_small op.Copy = lit< tt
op_small op.Clear = lit< tt
op_small op.Jump = lit< tt
op_small op.Zero = lit< tt
op_small op.Case = lit< tt
op_small op.Loop = lit< tt
op_small op.Call = lit< tt
op_small op.Malloc = lit< tt
op_small op.Calloc = lit< tt
op_small op.Realloc = lit< tt
op_small op.Free = lit< tt
op_small op.Printf = lit< tt
op_small op.Enter = lit< tt
op_small op.Leave = lit< tt
op_small op.Return = lit< tt
op_small op.Give = lit< tt
op_small (op.Conv k) = omega (arith, kind_small k)
op_small (op.Un o k) = omega (arith, un_small o, kind_small k)
op_small (op.Bin o k) = omega (arith, bin_small o, kind_small k)
op_small (op.Cmp o) = omega (arith, cmp_small o)
op_small (op.Pcmp o) = omega (arith, cmp_small o)
op_small (op.Load k) = omega (arith, kind_small k)
op_small (op.Store k) = omega (arith, kind_small k)
op_small (op.Lib name) = omega (arith, lib_small name)
