-- How layers stand behind one another. Equations, proved from `Layers`.
use Rattle.std.proofs.Common.{◌≡◌, List, [], ◌∷◌, ◌++◌, map, reverse, ap, ◌∙◌}
use Rattle.std.proofs.lemmas.List.{map-append, reverse-append}
use Rattle.c_typing.specs.declared.layers.Layer.{Layer as CodeLayer}
use Rattle.c_typing.specs.Layers.{plain_layer, plain_layers}

-- a layer behind others is the first one from the specs
pub layer_pushed : (layers : List CodeLayer) (layer : CodeLayer) →
    plain_layers (layers ++ layer ∷ []) ≡ plain_layer layer ∷ plain_layers layers
layer_pushed layers layer =
    ap reverse (map-append plain_layer layers (layer ∷ [])) ∙ reverse-append (map plain_layer layers) (plain_layer layer ∷ [])
