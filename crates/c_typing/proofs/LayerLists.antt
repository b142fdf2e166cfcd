-- Layers as the code keeps them.
use Rattle.std.proofs.Common.{◌≡◌, ℕ, Bool, true, false, List, [], ◌∷◌, ◌++◌, map, length, arith, Option, Some, None, Result, Ok, Err, Box, Global, refl, sym, ap, subst, ◌∙◌}
use Rattle.std.proofs.lemmas.List.{length-map, length-reverse}
use Rattle.c_types.specs.declared.types.Signature.{Signature}
use Rattle.c_types.specs.declared.types.CType.TheVariants as c
use Rattle.c_types.specs.Types.{PlainType, Function, plain, plain_list}
use Rattle.c_types.specs.TypesEquations.{plain-function}
use Rattle.c_types.specs.TagTable.{TagTable}
use Rattle.std.specs.Prelude.{◌==◌}
use Rattle.c_decls.specs.declared.refusal.TypeError.{TypeError}
use Rattle.c_decls.specs.declared.refusal.TypeError.TheVariants as e
use Rattle.c_decls.specs.Refusals.{Checked, Meets, then}
use Rattle.c_decls.specs.TypeNames.{Layer, PointerTo, ArrayOf, FunctionOf, layered, layered_before, with_layers, with_param_layers}
use Rattle.c_typing.specs.declared.layers.Layer.{Layer as CodeLayer}
use Rattle.c_typing.specs.Layers.{plain_layer, plain_layers, layered_last, with_length}
use Rattle.c_typing.specs.LayersEquations.{layer_pushed}

-- whether nothing is left
abbrev pub is_none_left : List Layer → Bool
is_none_left [] = true
is_none_left (layer ∷ rest) = false

pub last_layer : (tags : TagTable) (layer : Layer) (layers : List Layer) (type : PlainType) →
    layered_before tags layer layers type ≡ layered_last tags layer (is_none_left layers) type
last_layer tags (PointerTo line) [] type = refl
last_layer tags (PointerTo line) (next ∷ layers) type = refl
last_layer tags (ArrayOf line length) [] type = refl
last_layer tags (ArrayOf line length) (next ∷ layers) type = refl
last_layer tags (FunctionOf line params) [] type = refl
last_layer tags (FunctionOf line params) (next ∷ layers) type = refl

-- one layer of a parameter
pub param_layer : (tags : TagTable) (layer : Layer) (layers : List Layer) (type : PlainType) →
    with_param_layers tags (layer ∷ layers) type ≡
    then (layered_last tags (with_length layer (is_none_left layers)) (is_none_left layers) type)
    (λ inner. with_param_layers tags layers inner)
param_layer tags (PointerTo line) [] type = refl
param_layer tags (PointerTo line) (next ∷ layers) type = refl
param_layer tags (ArrayOf line None) [] type = whole (layered tags (ArrayOf line (Some 1)) type)
  where
    whole : (answer : Checked PlainType) → answer ≡ then answer (λ inner. Ok inner)
    whole (Ok inner) = refl
    whole (Err refusal) = refl
param_layer tags (ArrayOf line None) (next ∷ layers) type = refl
param_layer tags (ArrayOf line (Some length)) [] type = refl
param_layer tags (ArrayOf line (Some length)) (next ∷ layers) type = refl
param_layer tags (FunctionOf line params) [] type = refl
param_layer tags (FunctionOf line params) (next ∷ layers) type = refl

none_left : (layers : List Layer) → is_none_left layers ≡ (length layers == 0)
none_left [] = refl
none_left (layer ∷ rest) = grind arith

-- a layer of a parameter that is refused
pub param_refused : (tags : TagTable) (before after : List CodeLayer) (layer : CodeLayer) (type : PlainType) (is_last : Bool)
    (error : TypeError) → before ≡ after ++ layer ∷ [] → is_last ≡ (length after == 0) →
    Meets (λ (type : PlainType). type) (Err error) (layered_last tags (with_length (plain_layer layer) is_last) is_last type) →
    Meets (λ (type : PlainType). type) (Err error) (with_param_layers tags (plain_layers before) type)
param_refused tags before after layer type is_last (e.Bad kind line) popped last h =
    let same : is_none_left (plain_layers after) ≡ is_last =
    none_left (plain_layers after)
    ∙ ap (λ n. n == 0) (length-reverse (map plain_layer after) ∙ length-map after plain_layer) ∙ sym last in
    ap (λ ls. with_param_layers tags ls type) (ap plain_layers popped ∙ layer_pushed after layer)
    ∙ param_layer tags (plain_layer layer) (plain_layers after) type
    ∙ ap (λ t. then (layered_last tags (with_length (plain_layer layer) t) t type) (λ inner. with_param_layers tags (plain_layers after) inner)) same
    ∙ ap (λ a. then a (λ inner. with_param_layers tags (plain_layers after) inner)) h
param_refused tags before after layer type is_last e.NoMemory popped last h = tt
