-- What is called and its arguments, as the definition has them.
use Rattle.std.specs.Prelude.{ℕ, Option, Some, None}
use Rattle.c_types.specs.Types.{PlainType, Int, Pointer}
use Rattle.core_tree.specs.declared.statements.Atom.TheVariants as atom
use Rattle.c_decls.specs.declared.built_in.BuiltIn.{BuiltIn}
use Rattle.c_decls.specs.Named as n
use Rattle.c_decls.specs.Named.{PlainNamed}
use Rattle.c_decls.specs.Typed.{plain_typed}
use Rattle.elaboration.specs.Context.{Context, integer_temporary, pointer_temporary, with_integer, with_pointer}
use Rattle.elaboration.specs.Conversions as plain
use Rattle.elaboration.specs.Calls as calls
use Rattle.elaboration.specs.Calls.{built_in_at}
use Rattle.elab_rules.specs.declared.calls.Argument.{Argument}
use Rattle.elab_rules.specs.declared.calls.Called.{Called}
use Rattle.elab_rules.specs.declared.calls.Called.TheVariants as c

abbrev pub plain_argument : Argument → calls.Argument
plain_argument a = (plain_typed a.typed, a.atom)

abbrev pub called_built_in : Option BuiltIn → Called
called_built_in None = c.Nothing
called_built_in (Some name) = c.BuiltIn name

-- what a call's name means
abbrev pub called_of : Option PlainNamed → Called
called_of (Some (n.Function type index)) = c.Function index
called_of other = called_built_in (built_in_at other)

-- a new temporary for a result of a type, and where the result is
abbrev pub register_for : PlainType → Context → Context × Option ℕ
register_for (Int ty) c = (record c { code = with_integer c.code }, Some (integer_temporary c.code.integers))
register_for (Pointer target) c = (record c { code = with_pointer c.code }, Some (pointer_temporary c.code.pointers))
register_for type c = (c, None)

abbrev pub spot_of : Option ℕ → plain.Spot
spot_of (Some register) = plain.Value (atom.Reg register)
spot_of None = plain.Empty
