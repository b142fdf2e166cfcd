-- What a step of the walk comes to, against what its definition says: the context behind it and the answer are those that
-- are wanted, unless memory runs out.
use Rattle.std.specs.Prelude.{List, Result, Vec, map}
use Rattle.c_types.specs.Types.{PlainTypes, plain_list}
use Rattle.c_types.specs.declared.types.CType.{CType}
use Rattle.c_decls.specs.declared.refusal.TypeError.{TypeError}
use Rattle.c_decls.specs.Refusals.{Meets}
use Rattle.c_decls.specs.TypeNames.{Layer}
use Rattle.c_typing.specs.declared.layers.Layer.{Layer as CodeLayer}
use Rattle.c_typing.specs.Layers.{plain_layer, plain_layers}
use Rattle.elaboration.specs.Context.{Context, With}

-- a layer of a declarator
abbrev pub FindsLayer : Context → Result CodeLayer TypeError → With Layer → Type 0
FindsLayer c result wanted = Meets (λ layer. (c, plain_layer layer)) result wanted

-- layers of a declarator
abbrev pub FindsLayers : {Z : Type 0} → Context → Result (Vec CodeLayer Z) TypeError → With (List Layer) → Type 0
FindsLayers c result wanted = Meets (λ layers. (c, plain_layers layers.items)) result wanted

-- the types of parameters
abbrev pub FindsTypes : {Z : Type 0} → Context → Result (Vec CType Z) TypeError → With PlainTypes → Type 0
FindsTypes c result wanted = Meets (λ types. (c, plain_list types.items)) result wanted

-- layers from the name on, as they are gathered
abbrev pub FindsMore : {Z : Type 0} → Context → Result (Vec CodeLayer Z) TypeError → With (List Layer) → Type 0
FindsMore c result wanted = Meets (λ layers. (c, map plain_layer layers.items)) result wanted
