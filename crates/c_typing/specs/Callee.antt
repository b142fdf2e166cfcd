-- What is called, as the code keeps it.
use Rattle.std.specs.Prelude.{ℕ, List, [], ◌∷◌, Option, Some, None}
use Rattle.std.specs.Option.{option_or}
use Rattle.c_types.specs.declared.types.IntType.TheVariants as i
use Rattle.c_types.specs.Types.{PlainType, PlainTypes, Void, Int, Pointer, none, first, plain, plain_list}
use Rattle.c_decls.specs.declared.built_in.BuiltIn.{BuiltIn}
use Rattle.c_decls.specs.declared.refusal.TypeKind.{TypeKind}
use Rattle.c_decls.specs.Typed.{PlainTyped}
use Rattle.c_decls.specs.PlaceRules.{unconverted}
use Rattle.c_decls.specs.Callees.{Callee, Takes, Prints, NoFunction, built_in_callee}
use Rattle.c_typing.specs.declared.callees.Callee.{Callee as CodeCallee}
use Rattle.c_typing.specs.declared.callees.Callee.TheVariants as c
use Rattle.c_typing.specs.declared.callees.Basic.{Basic}
use Rattle.c_typing.specs.declared.callees.Basic.TheVariants as b

-- without where its types lie in memory
abbrev pub plain_callee : CodeCallee → Callee
plain_callee (c.Takes signature) = Takes (plain signature.result) (plain_list signature.params.items)
plain_callee c.Prints = Prints
plain_callee c.NoFunction = NoFunction

-- the types in the list of the built-in functions
abbrev pub plain_basic : Basic → PlainType
plain_basic b.Void = Void
plain_basic b.VoidPointer = Pointer Void
plain_basic b.Text = Pointer (Int i.Char)
plain_basic b.Size = Int i.UInt
plain_basic b.Number = Int i.Int

abbrev pub plain_basics : List Basic → PlainTypes
plain_basics [] = none
plain_basics (type ∷ rest) = first (plain_basic type) (plain_basics rest)

abbrev pub takes : Basic → List Basic → Callee
takes answer params = Takes (plain_basic answer) (plain_basics params)

-- what takes arguments by its parameters
abbrev pub taker : Callee → Option Callee
taker (Takes answer params) = Some (Takes answer params)
taker _ = None

abbrev pub function_of : BuiltIn → Option Callee
function_of name = taker (built_in_callee name)

-- why the first argument that does not convert to its parameter does not
abbrev pub first_bar : PlainTypes → List PlainTyped → Option TypeKind
first_bar none arguments = None
first_bar (first type rest) [] = None
first_bar (first type rest) (e ∷ arguments) = option_or (unconverted type e) (first_bar rest arguments)
