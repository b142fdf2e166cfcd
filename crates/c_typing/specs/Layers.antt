-- The layers of a declarator as the code keeps them: the last one stands next to the specs.
use Rattle.std.specs.Prelude.{ℕ, Bool, true, false, List, [], ◌∷◌, map, reverse, Option, Some, None, Result}
use Rattle.c_types.specs.Types.{PlainType, plain_list}
use Rattle.c_types.specs.TagTable.{TagTable}
use Rattle.c_decls.specs.declared.refusal.TypeKind.TheVariants.{LeftOut}
use Rattle.c_decls.specs.declared.refusal.TypeError.{TypeError}
use Rattle.c_decls.specs.Refusals.{Checked, Meets, refused, then}
use Rattle.c_decls.specs.TypeNames.{Layer, PointerTo, ArrayOf, FunctionOf, layered}
use Rattle.c_typing.specs.declared.layers.Layer.{Layer as CodeLayer}
use Rattle.c_typing.specs.declared.layers.Layer.TheVariants as l

abbrev pub plain_layer : CodeLayer → Layer
plain_layer (l.PointerTo line) = PointerTo line
plain_layer (l.ArrayOf line length) = ArrayOf line length
plain_layer (l.FunctionOf line params) = FunctionOf line (plain_list params.items)

-- from the specs towards the name
abbrev pub plain_layers : List CodeLayer → List Layer
plain_layers layers = reverse (map plain_layer layers)

-- the line of a function layer that is not the last one
abbrev pub buried_line : Layer → Bool → Option ℕ
buried_line (FunctionOf line params) false = Some line
buried_line layer is_last = None

-- an answer, unless a layer is refused that is not the last one
abbrev pub unburied : Option ℕ → Checked PlainType → Checked PlainType
unburied None answer = answer
unburied (Some line) answer = then answer (λ type. refused LeftOut line)

-- a type with one layer more, which is the last one or not
abbrev pub layered_last : TagTable → Layer → Bool → PlainType → Checked PlainType
layered_last tags layer is_last type = unburied (buried_line layer is_last) (layered tags layer type)

-- an array next to the name of a parameter has a length
abbrev pub with_length : Layer → Bool → Layer
with_length (ArrayOf line None) true = ArrayOf line (Some 1)
with_length layer is_last = layer

-- code that makes a type with layers, against the type that is to be made, or its refusal
abbrev pub Makes : Result PlainType TypeError → Checked PlainType → Type 0
Makes result wanted = Meets (λ type. type) result wanted
