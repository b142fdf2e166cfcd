-- Lengths that initializers give to arrays.
use Rattle.std.specs.Prelude.{ℕ, ◌==◌, cond, Vec, Option, Some, None}
use Rattle.c_types.specs.Types.{PlainType, Void, plain}
use Rattle.c_types.specs.declared.types.CType.{CType}
use Rattle.c_types.specs.TagTable.{TagTable}
use Rattle.c_tree.specs.declared.tree.Expr.{Expr}
use Rattle.c_tree.specs.declared.statement.Init.{Init}
use Rattle.c_tree.specs.Tree.{Trees, none, ◌▹◌}
use Rattle.c_tree.specs.StatementView.{expr_view, init_view}
use Rattle.c_decls.specs.TypeNames.{Layer, ArrayOf}
use Rattle.c_decls.specs.Refusals.{Checked}
use Rattle.c_typing.specs.declared.layers.Layer.{Layer as CodeLayer}
use Rattle.c_typing.specs.Layers.{plain_layers}
use Rattle.elaboration.specs.Initializers.{text, text_length, given_length, with_init_layers}

-- the tree of an initializer, where there is one
abbrev pub held : Option Init → Trees
held None = none
held (Some init) = init_view init ▹ none

-- the length that an initializer gives to an array behind so many layers, itself among them: an element that has a layer is
-- no character
abbrev pub given_behind : ℕ → PlainType → Trees → Option ℕ
given_behind layers base inits = given_length (cond (layers == 1) base Void) inits

-- a layer whose array has this length where it has none of its own
abbrev pub with_given : Option ℕ → Layer → Layer
with_given given (ArrayOf line None) = ArrayOf line given
with_given given layer = layer

-- the length that an expression, or an initializer, gives to an array of elements of a type
abbrev pub length_by_text : CType → Expr → ℕ
length_by_text element e = text_length (plain element) (text (expr_view e))

abbrev pub length_by_init : CType → Init → Option ℕ
length_by_init element init = given_length (plain element) (init_view init ▹ none)

-- the type that layers make of a base, where an initializer gives the length of an array
abbrev pub layers_with_init : {Z : Type 0} → TagTable → Vec CodeLayer Z → Option Init → PlainType → Checked PlainType
layers_with_init tags layers init base = with_init_layers tags (plain_layers layers.items) (held init) base
