-- What a name stands for, as plain data.
use Rattle.std.specs.Prelude.{ℕ, ℤ}
use Rattle.c_types.specs.declared.types.IntType.{IntType}
use Rattle.c_types.specs.Types.{PlainType, plain}
use Rattle.c_decls.specs.declared.named.Named.{Named}
use Rattle.c_decls.specs.declared.named.Named.TheVariants as n

pub data PlainNamed : Type 0 where
  Object : (type : PlainType) (index : ℕ) → PlainNamed
  Register : (type : PlainType) (index : ℕ) → PlainNamed
  Function : (type : PlainType) (index : ℕ) → PlainNamed
  Typedef : (type : PlainType) → PlainNamed
  Constant : (type : IntType) (value : ℤ) → PlainNamed
  BuiltIn : (index : ℕ) → PlainNamed
  Tag : (type : PlainType) → PlainNamed

-- what a name stands for, without where its type lies in memory
abbrev pub plain_named : Named → PlainNamed
plain_named (n.Object type index) = Object (plain type) index
plain_named (n.Register type index) = Register (plain type) index
plain_named (n.Function type index) = Function (plain type) index
plain_named (n.Typedef type) = Typedef type
plain_named (n.Constant type value) = Constant type value
plain_named (n.BuiltIn index) = BuiltIn index
plain_named (n.Tag type) = Tag (plain type)
